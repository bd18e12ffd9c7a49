-- A header and a body are read as an `impl` in one way.
use Rattle.std.specs.Borrow.{Bor}
use Rattle.std.proofs.Common.{◌≡◌, refl, sym, ◌∙◌, ap, subst, true, List, [], ◌∷◌, ◌++◌, Option, Some, None, inl, inr}
use Rattle.std.proofs.lemmas.Bool.{both_ways}
use Rattle.std.proofs.lemmas.List.{append_cancel_left}
use Rattle.grammars.specs.Deterministic.{IsStart}
use Rattle.grammars.specs.First.{heads}
use Rattle.grammars.specs.Grammar.{Event, One, Reads as Derivation, sign, signs_of}
use Rattle.pm_stream.specs.declared.stream.Group.{Group as Grouped}
use Rattle.pm_stream.specs.declared.stream.TokenTree.{TokenTree}
use Rattle.pm_stream.specs.declared.stream.TokenTree.TheVariants.{Group}
use Rattle.item_tables.specs.declared.class.Keyword.TheVariants as keywords
use Rattle.item_tables.specs.declared.class.SignClass.{SignClass}
use Rattle.item_tables.specs.declared.class.SignClass.TheVariants as classes
use Rattle.declarations.specs.Impl.{HasBraces, HasFront, HasGenerics, HasHeader, HasTarget, HasTrait as HasTraitAt}
use Rattle.declarations.specs.Impl.{HasTypes, IsImpl, may_const}
use Rattle.declarations.specs.Reader.{classes_in}
use Rattle.declarations.specs.Reading.{Reads}
use Rattle.declarations.specs.Signs.{BeginsWith, Sign, classes_of, signs}
use Rattle.declarations.specs.rules.ImplItems.{impl_qualifiers}
use Rattle.declarations.specs.rules.Names.{Label, one}
use Rattle.declarations.specs.rules.Parts.{attributes, generics, visibility, where_clause}
use Rattle.declarations.specs.rules.Pieces.{ByRule}
use Rattle.declarations.specs.rules.Rules.{follows, rules}
use Rattle.declarations.specs.rules.Types.{type}
use Rattle.declarations.specs.declared.implementation.Impl.{Impl}
use Rattle.declarations.proofs.ReaderLemmas.{heads_sign, stays}
use Rattle.declarations.proofs.ReadingLemmas.{classes-append}
use Rattle.declarations.proofs.RuleFormLemmas.{found_reads, only_reading}
use Rattle.declarations.proofs.RuleLemmas.{starts}
use Rattle.item_headers.specs.Laws.{HasOnly, HasTrait}
use Rattle.item_headers.proofs.HeaderPartLemmas.{for_tree}
use Rattle.item_headers.proofs.ImplReadingLemmas.{Given}
use Rattle.item_headers.proofs.ImplReadingLemmas as read

-- ---- where a reading begins

starts_attributes : IsStart rules follows (attributes ∷ [])
starts_attributes = starts attributes refl refl

starts_visibility : IsStart rules follows (visibility ∷ [])
starts_visibility = starts visibility refl refl

starts_qualifiers : IsStart rules follows (impl_qualifiers ∷ [])
starts_qualifiers = starts impl_qualifiers refl refl

starts_generics : IsStart rules follows (generics ∷ [])
starts_generics = starts generics refl refl

starts_const : IsStart rules follows (may_const ∷ [])
starts_const = starts may_const refl refl

starts_type : IsStart rules follows (type ∷ [])
starts_type = starts type refl refl

starts_where : IsStart rules follows (where_clause ∷ [])
starts_where = starts where_clause refl refl

-- ---- parts that are read twice

abbrev for_class : SignClass
for_class = classes.Keyword keywords.For

abbrev impl_class : SignClass
impl_class = classes.Keyword keywords.Impl

-- the trees of the first sign
abbrev first_trees : List Sign → List TokenTree
first_trees [] = []
first_trees (first ∷ rest) = first.trees

-- what comes after the first sign
begins_same : (trees x y : List TokenTree) (c d : SignClass) → BeginsWith trees c x → BeginsWith trees d y → y ≡ x
begins_same trees x y c d a b =
    let front : b.front ≡ a.front = ap first_trees (sym b.read ∙ a.read) in
    append_cancel_left a.front y x (ap (λ ts. ts ++ y) (sym front) ∙ (sym b.whole ∙ a.whole))

generics_same : (trees g r g2 r2 : List TokenTree) → HasGenerics trees g r → HasGenerics trees g2 r2
    → (g2 ≡ g) × (r2 ≡ r)
generics_same trees g r g2 r2 (inl a) (inl b) = only_reading generics starts_generics trees g r a.1 g2 r2 b.1
generics_same trees g r g2 r2 (inl a) (inr b) = absurd (both_ways _ b.0 a.0)
generics_same trees g r g2 r2 (inr a) (inl b) = absurd (both_ways _ a.0 b.0)
generics_same trees g r g2 r2 (inr a) (inr b) = (b.1 ∙ sym a.1, sym b.2 ∙ a.2)

-- trees from which a `!` is read begin with it
sign_heads : (trees part rest : List TokenTree) → Reads (ByRule (one classes.Exclamation)) trees part rest
    → heads (one classes.Exclamation) (classes_in trees) ≡ true
unfolding classes_in
sign_heads trees part rest reads =
    go (classes_of reads.piece) reads.stands.events reads.stands.reading.reads reads.stands.reading.whole
    (ap classes_of reads.read ∙ classes-append reads.piece (signs rest))
  where
    go : (cs : List SignClass) (events : List (Event SignClass Label))
        → Derivation rules (one classes.Exclamation ∷ []) events → signs_of events ≡ cs
        → classes_of (signs trees) ≡ cs ++ classes_of (signs rest)
        → heads (one classes.Exclamation) (classes_of (signs trees)) ≡ true
    go cs events (front, back, whole, sign c h, none) same e =
        let is : classes_of (signs trees) ≡ c ∷ classes_of (signs rest) =
        e ∙ ap (λ x. x ++ classes_of (signs rest))
        (sym same ∙ (ap signs_of whole ∙ ap (λ x. signs_of (One c ∷ x)) none)) in
        ap (heads (one classes.Exclamation)) is ∙ h

-- ---- the whole

module _ (given : Given) where
  abbrev trees : List TokenTree
  trees = read.trees given

  abbrev from_header : List TokenTree
  from_header = read.from_header given

  abbrev from_path : List TokenTree
  from_path = read.from_path given

  abbrev from_for : List TokenTree
  from_for = read.from_for given

  abbrev from_type : List TokenTree
  from_type = read.from_type given

  abbrev from_clause : List TokenTree
  from_clause = read.from_clause given

  abbrev angles : List TokenTree
  angles = read.angles given

  abbrev self_type : List TokenTree
  self_type = read.self_type given

  abbrev clause : List TokenTree
  clause = read.clause given

  -- ---- these are parts of an `impl`

  types_with : (found : Option (Bor (List TokenTree))) (t : List TokenTree) → HasTrait found given.path → t ≡ self_type
      → HasTypes found from_path t from_clause
  types_with (Some found) t is same =
      subst (λ n. HasTraitAt from_path n t from_clause) (sym is)
      (subst (λ x. HasTraitAt from_path given.path x from_clause) (sym same)
      (read.trait_read given))
  types_with None t is same = absurd is

  header_with : (item : Impl) → HasOnly angles given.path self_type clause given.body item
      → HasHeader from_header item.generics.now item.constness.now item.negation.now item.trait_path item.self_type.now
      from_clause
  header_with item only = record {
    from_const = from_path;
    from_target = from_path;
    generics = subst (λ g. HasGenerics from_header g from_path) (sym only.generics)
        (read.generic_part given).1;
    constant = subst (λ c. Reads (ByRule may_const) from_path c from_path) (sym only.constness)
        (found_reads may_const starts_const from_path [] from_path
        (read.const_read given) refl);
    target = inl (record {
      no_not = only.negation;
      types = types_with item.trait_path item.self_type.now only.trait_path only.self_type;
      positive = λ rest at.
          both_ways _ (read.path_positive given)
          (heads_sign (one classes.Exclamation) from_path rest classes.Exclamation at);
    });
  }

  front_with : (item : Impl) → HasOnly angles given.path self_type clause given.body item
      → HasFront trees item.attributes.now item.visibility.now item.qualifiers.now from_header
  front_with item only =
      subst (λ a. HasFront trees a item.visibility.now item.qualifiers.now from_header) (sym only.attributes)
      (subst (λ v. HasFront trees [] v item.qualifiers.now from_header) (sym only.visibility)
      (subst (λ q. HasFront trees [] [] q from_header) (sym only.qualifiers)
      (read.front_read given)))

  end_with : (item : Impl) → HasOnly angles given.path self_type clause given.body item
      → HasBraces from_clause item.where_clause.now item.body.now []
  end_with item only =
      subst (λ c. HasBraces from_clause c item.body.now []) (sym only.where_clause)
      (subst (λ (b : Grouped). HasBraces from_clause clause b []) (sym only.body)
      (read.end_read given))

  pub impl_with : (item : Impl) → HasOnly angles given.path self_type clause given.body item → IsImpl trees item
  impl_with item only = record {
    all = read.all_read given;
    parts = record {
      from_header = from_header;
      from_clause = from_clause;
      front = front_with item only;
      header = header_with item only;
      end = end_with item only;
    };
  }

  -- ---- there are no others

  -- the parts before `impl` are empty
  record OnlyFront (a v q h : List TokenTree) : Type 0 where
    attributes_none : a ≡ []
    visibility_none : v ≡ []
    qualifiers_none : q ≡ []
    after : h ≡ from_header

  only_front : (a v q h : List TokenTree) → HasFront trees a v q h → OnlyFront a v q h
  only_front a v q h f =
      let one = only_reading attributes starts_attributes trees [] trees
      (found_reads attributes starts_attributes trees [] trees
      (read.no_attributes given) refl)
      a f.from_visibility f.attributes in
      let two = only_reading visibility starts_visibility trees [] trees
      (found_reads visibility starts_visibility trees [] trees
      (read.no_visibility given) refl)
      v f.from_qualifiers (subst (λ ts. Reads (ByRule visibility) ts v f.from_qualifiers) one.1 f.visibility) in
      let three = only_reading impl_qualifiers starts_qualifiers trees [] trees
      (found_reads impl_qualifiers starts_qualifiers trees [] trees
      (read.no_qualifiers given) refl)
      q f.from_impl (subst (λ ts. Reads (ByRule impl_qualifiers) ts q f.from_impl) two.1 f.qualifiers) in
      record {
        attributes_none = one.0;
        visibility_none = two.0;
        qualifiers_none = three.0;
        after = begins_same trees from_header h impl_class impl_class
            (read.at_impl given)
            (subst (λ ts. BeginsWith ts impl_class h) three.1 f.keyword);
      }

  path_reads : Reads (ByRule type) from_path given.path from_for
  path_reads =
      found_reads type starts_type from_path given.path from_for
      (read.path_read given) refl

  -- the trees after the generic parameters do not begin with `!`
  not_negative : (part rest : List TokenTree) → Reads (ByRule (one classes.Exclamation)) from_path part rest → ⊥
  not_negative part rest reads =
      both_ways _ (read.path_positive given)
      (sign_heads from_path part rest reads)

  -- a given.body does not begin with `for`
  not_for : (c : List TokenTree) (g : Grouped) → HasBraces from_for c g [] → ⊥
  not_for c g h =
      let at = read.at_for given in
      let none = only_reading where_clause starts_where from_for [] from_for
      (found_reads where_clause starts_where from_for [] from_for
      (stays where_clause from_for (heads_sign where_clause from_for from_type _ at) refl) refl)
      c h.from_body h.clause_read in
      let wrong : for_tree ∷ from_type ≡ Group g ∷ [] = sym none.1 ∙ h.whole in
      absurd cc

  -- the trait, the type and what comes after them
  record OnlyTypes (found : Option (Bor (List TokenTree))) (t r : List TokenTree) : Type 0 where
    named : HasTrait found given.path
    typed : t ≡ self_type
    after : r ≡ from_clause

  only_types : (found : Option (Bor (List TokenTree))) (t r : List TokenTree) → HasTypes found from_path t r
      → (c : List TokenTree) (g : Grouped) → HasBraces r c g []
      → OnlyTypes found t r
  only_types None t r h c g end =
      let same = only_reading type starts_type from_path given.path from_for path_reads t r h in
      absurd (not_for c g (subst (λ ts. HasBraces ts c g []) same.1 end))
  only_types (Some found) t r h c g end =
      let one = only_reading type starts_type from_path given.path from_for path_reads found.now h.from_for
      h.trait_read in
      let next = begins_same from_for from_type h.from_type for_class for_class (read.at_for given)
      (subst (λ ts. BeginsWith ts for_class h.from_type) one.1 h.for_read) in
      let two = only_reading type starts_type from_type self_type from_clause
      (found_reads type starts_type from_type self_type from_clause
      (read.type_read given) refl)
      t r (subst (λ ts. Reads (ByRule type) ts t r) next h.type_read) in
      record { named = one.0; typed = two.0; after = two.1 }

  -- the parts between `impl` and the where clause
  record OnlyHeader (g c n : List TokenTree) (found : Option (Bor (List TokenTree))) (t r : List TokenTree) : Type 0
    where
      generic : g ≡ angles
      no_const : c ≡ []
      no_not : n ≡ []
      types : OnlyTypes found t r

  only_target : (n : List TokenTree) (found : Option (Bor (List TokenTree))) (t r : List TokenTree)
      → HasTarget from_path n found t r → (c : List TokenTree) (g : Grouped) → HasBraces r c g []
      → (n ≡ []) × OnlyTypes found t r
  only_target n found t r (inl h) c g end = (h.no_not, only_types found t r h.types c g end)
  only_target n found t r (inr (inl h)) c g end = absurd (not_negative n h.from_types h.not_read)
  only_target n found t r (inr (inr h)) c g end = absurd (not_negative t r h.type_read)

  only_header : (g c n : List TokenTree) (found : Option (Bor (List TokenTree))) (t r : List TokenTree)
      → HasHeader from_header g c n found t r → (w : List TokenTree) (b : Grouped) → HasBraces r w b []
      → OnlyHeader g c n found t r
  only_header g c n found t r h w b end =
      let one = generics_same from_header angles from_path g h.from_const
      (read.generic_part given).1 h.generics in
      let two = only_reading may_const starts_const from_path [] from_path
      (found_reads may_const starts_const from_path [] from_path
      (read.const_read given) refl)
      c h.from_target (subst (λ ts. Reads (ByRule may_const) ts c h.from_target) one.1 h.constant) in
      let three = only_target n found t r (subst (λ ts. HasTarget ts n found t r) two.1 h.target) w b end in
      record { generic = one.0; no_const = two.0; no_not = three.0; types = three.1 }

  only_end : (w : List TokenTree) (b : Grouped) → HasBraces from_clause w b [] → (w ≡ clause) × (b ≡ given.body)
  only_end w b h =
      let one = only_reading where_clause starts_where from_clause clause (Group given.body ∷ [])
      (found_reads where_clause starts_where from_clause clause (Group given.body ∷ [])
      (read.where_read given) refl)
      w h.from_body h.clause_read in
      let same : Group given.body ∷ [] ≡ Group b ∷ [] = sym one.1 ∙ h.whole in
      (one.0, cc)

  pub impl_only : (item : Impl) → IsImpl trees item → HasOnly angles given.path self_type clause given.body item
  impl_only item is =
      let p = is.parts in
      let front = only_front item.attributes.now item.visibility.now item.qualifiers.now p.from_header p.front in
      let header = only_header item.generics.now item.constness.now item.negation.now item.trait_path item.self_type.now
      p.from_clause
      (subst (λ ts. HasHeader ts item.generics.now item.constness.now item.negation.now item.trait_path
      item.self_type.now p.from_clause) front.after p.header)
      item.where_clause.now item.body.now p.end in
      let end = only_end item.where_clause.now item.body.now
      (subst (λ ts. HasBraces ts item.where_clause.now item.body.now []) header.types.after p.end) in
      record {
        attributes = front.attributes_none;
        visibility = front.visibility_none;
        qualifiers = front.qualifiers_none;
        generics = header.generic;
        constness = header.no_const;
        negation = header.no_not;
        trait_path = header.types.named;
        self_type = header.types.typed;
        where_clause = end.0;
        body = end.1;
      }

-- Attributes and a visibility before a part, and the parts of a field with a name.
use Rattle.std.proofs.Common.{◌≡◌, refl, sym, ◌∙◌, ap, subst, ℕ, ◌-◌, true, false, List, [], ◌∷◌, ◌++◌}
use Rattle.std.proofs.Common.{Option, Some, None, append_assoc, append-nil, length}
use Rattle.std.proofs.lemmas.List.{append_cancel_left, append_cancel_right}
use Rattle.grammars.specs.Deterministic.{IsStart}
use Rattle.grammars.specs.First.{may_begin}
use Rattle.grammars.specs.Grammar.{Mark, Then}
use Rattle.pm_span.specs.Extent.{Extent}
use Rattle.pm_token.specs.Leaf.{Name}
use Rattle.pm_stream.specs.declared.stream.TokenTree.{TokenTree}
use Rattle.pm_stream.specs.declared.stream.TokenTree.TheVariants.{Ident}
use Rattle.declarations.specs.Expected.{Expects}
use Rattle.declarations.specs.Explore.{ExpectsWhole}
use Rattle.declarations.specs.Fault.{extent_at, first_extent}
use Rattle.declarations.specs.Field.{HasColonType, HasFieldParts, HasFront, HasNameType, IsFieldAt, IsNamed}
use Rattle.declarations.specs.Field.{ReadsFront, field_rest}
use Rattle.declarations.specs.Forms.{AreAttributes, IsField, IsType}
use Rattle.declarations.specs.Function.{IsNameAt}
use Rattle.declarations.specs.Reader.{Finds, Remains, Sticks}
use Rattle.declarations.specs.Reading.{FaultAt, Reads}
use Rattle.declarations.specs.Signs.{BeginsWith, Sign, classes_of, pair_class, signs, tree_class, trees_of}
use Rattle.declarations.specs.Whole.{ReadsAll}
use Rattle.item_tables.specs.Classes.{is}
use Rattle.item_tables.specs.declared.class.SignClass.{SignClass}
use Rattle.item_tables.specs.declared.class.SignClass.TheVariants as classes
use Rattle.declarations.specs.declared.expected.Expected.{Expected}
use Rattle.declarations.specs.declared.field.Field.{Field}
use Rattle.declarations.specs.rules.Names.{G, Named, OfType, Rest, one, word}
use Rattle.declarations.specs.rules.Parameters.{with_type}
use Rattle.declarations.specs.rules.Parts as rule
use Rattle.declarations.specs.rules.Pieces.{ByRule}
use Rattle.declarations.specs.rules.Rules.{follows, rules}
use Rattle.declarations.specs.rules.Types.{type}
use Rattle.declarations.proofs.FunctionPartLemmas.{name_finds}
use Rattle.declarations.proofs.PartReaderLemmas as parts_read
use Rattle.declarations.proofs.ReaderLemmas.{heads_none, heads_sign, lacks, mark_finds, mark_sticks}
use Rattle.declarations.proofs.ReaderLemmas.{remains_span, sign_finds, then_fails, then_finds, then_sticks}
use Rattle.declarations.proofs.ReadingLemmas.{classes-append, trees-append}
use Rattle.declarations.proofs.RuleExpectsLemmas.{stuck_expects}
use Rattle.declarations.proofs.RuleFaultLemmas.{rule_fault}
use Rattle.declarations.proofs.RuleFormLemmas.{found_reads}
use Rattle.declarations.proofs.SignLemmas.{after_first_sign, pair_signs, signs-cons}
use Rattle.declarations.proofs.SortLemmas.{marks, sort_of}
use Rattle.declarations.proofs.ClassLemmas.{same_class}
use Rattle.declarations.proofs.TreeLemmas.{is_mark_sign, or_nothing}
use Rattle.declarations.proofs.StartLemmas as begin

-- ---- a part without the trees after it

tail_of : (tree : TokenTree) (xs ys : List TokenTree) → tree ∷ xs ≡ tree ∷ ys → xs ≡ ys
tail_of tree xs ys same = cc

last_alone : (tree : TokenTree) (more rest : List TokenTree) → tree ∷ [] ≡ tree ∷ (more ++ rest)
    → signs (tree ∷ more) ≡ record { class = tree_class tree; trees = tree ∷ [] } ∷ signs more
last_alone tree [] rest whole = refl
last_alone tree (other ∷ more) rest whole = cc

single_alone : (tree second : TokenTree) (tail more rest : List TokenTree) → pair_class tree second ≡ None
    → second ∷ tail ≡ more ++ rest
    → signs (tree ∷ more) ≡ record { class = tree_class tree; trees = tree ∷ [] } ∷ signs more
single_alone tree second tail [] rest pair whole = refl
single_alone tree second tail (other ∷ more) rest pair whole =
    let same : second ≡ other = cc in
    signs-cons tree other more
    ∙ ap (λ o. pair_signs o tree other more) (ap (pair_class tree) (sym same) ∙ pair)

-- the first sign stays the same if trees after it are left away
first_alone : (trees more rest : List TokenTree) (sign : Sign) (after : List Sign) → signs trees ≡ sign ∷ after
    → trees ≡ sign.trees ++ (more ++ rest) → signs (sign.trees ++ more) ≡ sign ∷ signs more
first_alone [] more rest sign after read whole = cc
first_alone (tree ∷ []) more rest sign after read whole =
    let alone : Sign = record { class = tree_class tree; trees = tree ∷ [] } in
    let is : alone ≡ sign = cc in
    subst (λ s. tree ∷ [] ≡ s.trees ++ (more ++ rest) → signs (s.trees ++ more) ≡ s ∷ signs more) is
    (λ h. last_alone tree more rest h) whole
first_alone (tree ∷ second ∷ tail) more rest sign after read whole =
    elim (pair_class tree second) as (λ o. pair_class tree second ≡ o → pair_signs o tree second tail ≡ sign ∷ after
    → signs (sign.trees ++ more) ≡ sign ∷ signs more) [
      | None ↦ λ pair h.
          let alone : Sign = record { class = tree_class tree; trees = tree ∷ [] } in
          let is : alone ≡ sign = cc in
          subst (λ s. tree ∷ second ∷ tail ≡ s.trees ++ (more ++ rest) → signs (s.trees ++ more) ≡ s ∷ signs more) is
          (λ w. single_alone tree second tail more rest pair (tail_of tree (second ∷ tail) (more ++ rest) w)) whole
      | Some class ↦ λ pair h.
          let both : Sign = record { class = class; trees = tree ∷ second ∷ [] } in
          let is : both ≡ sign = cc in
          subst (λ s. signs (s.trees ++ more) ≡ s ∷ signs more) is
          (signs-cons tree second more ∙ ap (λ o. pair_signs o tree second more) pair)
    ] refl (sym (signs-cons tree second tail) ∙ read)

alone_signs : (piece : List Sign) (trees rest : List TokenTree) → signs trees ≡ piece ++ signs rest
    → trees ≡ trees_of piece ++ rest → signs (trees_of piece) ≡ piece
alone_signs [] trees rest read whole = refl
alone_signs (sign ∷ piece) trees rest read whole =
    let sign_rest = after_first_sign trees sign (piece ++ signs rest) read in
    let all : trees ≡ sign.trees ++ (trees_of piece ++ rest) = whole ∙ append_assoc sign.trees (trees_of piece) rest in
    let left : sign_rest.rest ≡ trees_of piece ++ rest =
    append_cancel_left sign.trees sign_rest.rest (trees_of piece ++ rest) (sym sign_rest.whole ∙ all) in
    let here = alone_signs piece sign_rest.rest rest sign_rest.read left in
    first_alone trees (trees_of piece) rest sign (piece ++ signs rest) read all ∙ ap (λ ss. sign ∷ ss) here

-- what is read before a rest is also read if there is no rest
pub reads_alone : (g : G) (trees part rest : List TokenTree) → Reads (ByRule g) trees part rest
    → ReadsAll (ByRule g) part
reads_alone g trees part rest reads =
    let alone : signs part ≡ reads.piece =
    ap signs reads.taken
    ∙ alone_signs reads.piece trees rest reads.read (reads.whole ∙ ap (λ p. p ++ rest) reads.taken) in
    record {
      piece = reads.piece;
      read = alone ∙ sym (append-nil reads.piece);
      taken = reads.taken;
      whole = sym (append-nil part);
      stands = (
        record { events = reads.stands.events; reading = reads.stands.reading; longest = λ c more e. cc },
        refl,
      );
    }

-- what is read before other trees is also read if the last of these trees are left away
pub reads_before : (g : G) (trees part mid rest : List TokenTree) → Reads (ByRule g) trees part mid
    → (b : Remains rest mid)
    → Reads (ByRule g) (part ++ trees_of b.front) part (trees_of b.front)
reads_before g trees part mid rest reads b =
    let all : signs trees ≡ (reads.piece ++ b.front) ++ signs rest =
    reads.read ∙ (ap (λ ss. reads.piece ++ ss) b.read ∙ sym (append_assoc reads.piece b.front (signs rest))) in
    let both : part ++ trees_of b.front ≡ trees_of (reads.piece ++ b.front) =
    ap (λ p. p ++ trees_of b.front) reads.taken ∙ sym (trees-append reads.piece b.front) in
    let whole : trees ≡ trees_of (reads.piece ++ b.front) ++ rest =
    reads.whole ∙ (ap (λ ts. part ++ ts) b.whole
    ∙ (sym (append_assoc part (trees_of b.front) rest) ∙ ap (λ ts. ts ++ rest) both)) in
    let here : signs (trees_of b.front) ≡ b.front = alone_signs b.front mid rest b.read b.whole in
    let classes : classes_of (signs mid) ≡ classes_of (signs (trees_of b.front)) ++ classes_of (signs rest) =
    ap classes_of b.read
    ∙ (classes-append b.front (signs rest) ∙ ap (λ ss. classes_of ss ++ classes_of (signs rest)) (sym here)) in
    record {
      piece = reads.piece;
      read = ap signs both ∙ (alone_signs (reads.piece ++ b.front) trees rest all whole
          ∙ ap (λ ss. reads.piece ++ ss) (sym here));
      taken = reads.taken;
      whole = refl;
      stands = record {
        events = reads.stands.events;
        reading = reads.stands.reading;
        longest = λ c more e. reads.stands.longest c (more ++ classes_of (signs rest))
            (classes ∙ ap (λ cs. cs ++ classes_of (signs rest)) e);
      };
    }

-- ---- attributes and a visibility

pub front_reads : (trees a v mid rest : List TokenTree) → Finds rule.attributes trees mid
    → Finds rule.visibility mid rest → trees ≡ a ++ mid → mid ≡ v ++ rest
    → ReadsFront trees a v rest
front_reads trees a v mid rest f g whole more = record {
  from_visibility = mid;
  attributes_found = f;
  visibility_found = g;
  attributes_whole = whole;
  visibility_whole = more;
}

pub ruleset fronts = (front_reads)

module _ (trees a v mid rest : List TokenTree) (f : ReadsFront trees a v mid) where
  front_before : (b : Remains rest mid) → HasFront (a ++ (v ++ trees_of b.front)) a v (trees_of b.front)
  front_before b =
      let here = f.visibility_found.remains in
      let shown : v ≡ trees_of here.front =
      append_cancel_right v (trees_of here.front) mid (sym f.visibility_whole ∙ here.whole) in
      let same : trees_of (here.front ++ b.front) ≡ v ++ trees_of b.front =
      trees-append here.front b.front ∙ ap (λ ts. ts ++ trees_of b.front) (sym shown) in
      let more : Remains rest f.from_visibility = record {
        front = here.front ++ b.front;
        read = here.read ∙ (ap (λ ss. here.front ++ ss) b.read ∙ sym (append_assoc here.front b.front (signs rest)));
        whole = f.visibility_whole
            ∙ (ap (λ ts. v ++ ts) b.whole
            ∙ (sym (append_assoc v (trees_of b.front) rest) ∙ ap (λ ts. ts ++ rest) (sym same)));
      } in
      let attributed = parts_read.attributes_reads trees a f.from_visibility f.attributes_found f.attributes_whole in
      let visible = parts_read.visibility_reads f.from_visibility v mid f.visibility_found f.visibility_whole in
      record {
        whole = refl;
        attributes_read = subst (λ r. Reads AreAttributes (a ++ r) a r) same
            (reads_before rule.attributes trees a f.from_visibility rest attributed more);
        visibility_read = reads_before rule.visibility f.from_visibility v mid rest visible b;
      }

  -- attributes and a visibility before these trees, without the rest
  pub front_of : (other : List TokenTree) → Remains rest mid → mid ≡ other ++ rest
      → HasFront (a ++ (v ++ other)) a v other
  front_of other b whole =
      let same : trees_of b.front ≡ other = append_cancel_right (trees_of b.front) other rest (sym b.whole ∙ whole) in
      subst (λ o. HasFront (a ++ (v ++ o)) a v o) same (front_before b)

  pub front_whole : (other : List TokenTree) → mid ≡ other ++ rest → trees ≡ (a ++ (v ++ other)) ++ rest
  front_whole other whole =
      f.attributes_whole
      ∙ (ap (λ r. a ++ r) (f.visibility_whole
      ∙ (ap (λ r. v ++ r) whole ∙ sym (append_assoc v other rest)))
      ∙ sym (append_assoc a (v ++ other) rest))

-- a rule that begins with attributes and a visibility
module _ (g : G) where
  pub front_finds : (trees a v mid rest : List TokenTree) → ReadsFront trees a v mid → Finds g mid rest
      → Finds (Then rule.attributes (Then rule.visibility g)) trees rest
  front_finds trees a v mid rest f h =
      then_finds rule.attributes (Then rule.visibility g) trees f.from_visibility rest f.attributes_found
      (then_finds rule.visibility g f.from_visibility mid rest f.visibility_found h)

  pub front_fails : (trees a v mid left : List TokenTree) → ReadsFront trees a v mid → Sticks g mid left
      → Sticks (Then rule.attributes (Then rule.visibility g)) trees left
  front_fails trees a v mid left f s =
      then_fails rule.attributes (Then rule.visibility g) trees f.from_visibility left f.attributes_found
      (then_fails rule.visibility g f.from_visibility mid left f.visibility_found s)

  pub front_sticks : (trees left : List TokenTree) → Sticks rule.attributes trees left
      → Sticks (Then rule.attributes (Then rule.visibility g)) trees left
  front_sticks trees left s = then_sticks rule.attributes (Then rule.visibility g) trees left s

-- ---- `:` and a type

pub starts_type : IsStart rules follows (type ∷ [])
starts_type = begin.type_starts

-- a sign that passes the test of a class has this class
pub begins_as : (trees rest : List TokenTree) (x class : SignClass) → BeginsWith trees class rest → is x class ≡ true
    → BeginsWith trees x rest
begins_as trees rest x class b h = subst (λ c. BeginsWith trees c rest) (same_class x class h) b

-- a sign that is a mark is one tree
pub mark_first : (trees rest : List TokenTree) (class : SignClass) → BeginsWith trees class rest
    → sort_of class ≡ marks
    → (tree : TokenTree) × (trees ≡ tree ∷ rest) × (tree_class tree ≡ class)
mark_first trees rest class b sort =
    let sign : Sign = record { class = class; trees = b.front } in
    let at = is_mark_sign trees sign (signs rest) b.read sort in
    let one : b.front ≡ at.0 ∷ [] = ap (λ s. s.trees) at.2.is in
    (at.0, b.whole ∙ ap (λ ts. ts ++ rest) one, sym (ap (λ s. s.class) at.2.is))

module _ (trees from_type : List TokenTree) (class : SignClass) (b : BeginsWith trees class from_type)
    (h : is classes.Colon class ≡ true) where
  pub colon_finds : (rest : List TokenTree) → Finds type from_type rest → Finds with_type trees rest
  colon_finds rest f =
      mark_finds Rest _ trees rest
      (then_finds (one classes.Colon) _ trees from_type rest (sign_finds (is classes.Colon) trees from_type class b h)
      (mark_finds OfType type from_type rest f))

  pub colon_fails : (left : List TokenTree) → Sticks type from_type left → Sticks with_type trees left
  colon_fails left s =
      mark_sticks Rest _ trees left
      (then_fails (one classes.Colon) _ trees from_type left (sign_finds (is classes.Colon) trees from_type class b h)
      (mark_sticks OfType type from_type left s))

  pub colon_has : (ty rest : List TokenTree) → Finds type from_type rest → from_type ≡ ty ++ rest
      → HasColonType trees ty rest
  colon_has ty rest f whole = record {
    from_type = from_type;
    colon = begins_as trees from_type classes.Colon class b h;
    type_read = found_reads type starts_type from_type ty rest f whole;
  }

pub no_colon : (trees rest : List TokenTree) (class : SignClass) → BeginsWith trees class rest
    → is classes.Colon class ≡ false
    → Sticks with_type trees trees
no_colon trees rest class b h =
    lacks with_type trees
    (heads_sign with_type trees rest class b
    ∙ (or_nothing (is classes.Colon class) (may_begin (Then (Mark OfType) type) class) ∙ h)) refl

pub colon_none : (trees : List TokenTree) → trees ≡ [] → Sticks with_type trees trees
colon_none trees e = lacks with_type trees (heads_none with_type trees e) refl

-- ---- a name, `:` and a type

pub named_finds : (trees mid rest : List TokenTree) (n : Name) → IsNameAt trees n mid → Finds with_type mid rest
    → Finds field_rest trees rest
named_finds trees mid rest n at f =
    mark_finds Named (Then word with_type) trees rest
    (then_finds word with_type trees mid rest (name_finds trees mid n at) f)

pub named_has : (trees mid ty rest : List TokenTree) (n : Name) → IsNameAt trees n mid → HasColonType mid ty rest
    → HasNameType trees n ty rest
named_has trees mid ty rest n at typed = record { from_colon = mid; named = at; typed = typed }

pub named_fails : (trees mid left : List TokenTree) (n : Name) → IsNameAt trees n mid → Sticks with_type mid left
    → Sticks field_rest trees left
named_fails trees mid left n at s =
    mark_sticks Named (Then word with_type) trees left
    (then_fails word with_type trees mid left (name_finds trees mid n at) s)

pub named_sticks : (trees left : List TokenTree) → Sticks word trees left → Sticks field_rest trees left
named_sticks trees left s =
    mark_sticks Named (Then word with_type) trees left (then_sticks word with_type trees left s)

pub ruleset named_types = (named_finds, named_has, named_fails, named_sticks)

-- ---- a field

pub starts_field : IsStart rules follows (rule.field ∷ [])
starts_field = begin.field_starts

-- what is read as a type before a rest is a type by itself
pub type_alone : (trees ty rest : List TokenTree) → Reads (ByRule type) trees ty rest → ReadsAll IsType ty
type_alone = reads_alone type

pub field_finds : (trees a v mid rest : List TokenTree) → ReadsFront trees a v mid → Finds field_rest mid rest
    → Finds rule.field trees rest
field_finds = front_finds field_rest

pub field_fails : (trees a v mid left : List TokenTree) → ReadsFront trees a v mid → Sticks field_rest mid left
    → Sticks rule.field trees left
field_fails = front_fails field_rest

pub field_sticks : (trees left : List TokenTree) → Sticks rule.attributes trees left → Sticks rule.field trees left
field_sticks = front_sticks field_rest

pub field_at : (trees mid rest : List TokenTree) (n : Name) (found : Field)
    → ReadsFront trees found.attributes.now found.visibility.now mid → Finds field_rest mid rest
    → HasNameType mid n found.field_type.now rest → IsNamed n found
    → IsFieldAt IsField HasFieldParts trees found rest
field_at trees mid rest n found f h typed named =
    let a = found.attributes.now in
    let v = found.visibility.now in
    let ty = found.field_type.now in
    let from_colon = typed.from_colon in
    let from_type = typed.typed.from_type in
    let colon = mark_first from_colon from_type classes.Colon typed.typed.colon refl in
    let other : List TokenTree = Ident n ∷ colon.0 ∷ ty in
    let whole : mid ≡ other ++ rest =
    typed.named.whole ∙ ap (λ r. Ident n ∷ r) (colon.1 ∙ ap (λ r. colon.0 ∷ r) typed.typed.type_read.whole) in
    record {
      part = a ++ (v ++ other);
      reads = found_reads rule.field starts_field trees (a ++ (v ++ other)) rest
          (field_finds trees a v mid rest f h) (front_whole trees a v mid rest f other whole);
      parts = record {
        ident = n;
        colon = colon.0;
        front = front_of trees a v mid rest f other h.remains whole;
        name = named;
        is_name = typed.named.is_name;
        is_colon = colon.2;
        type_read = type_alone from_type ty rest typed.typed.type_read;
      };
    }

pub ruleset fields_of = (field_finds, field_fails, field_sticks, field_at)

-- ---- errors

pub field_fault : (trees left : List TokenTree) (at : ℕ) → Sticks rule.field trees left
    → at ≡ length trees - length left
    → FaultAt IsField trees at
field_fault = rule_fault rule.field starts_field

pub field_span : (trees left : List TokenTree) (at : ℕ) (span : Option Extent) → Sticks rule.field trees left
    → at ≡ length trees - length left → span ≡ first_extent left
    → span ≡ extent_at trees at
field_span trees left at span s counted first = remains_span trees left at span s.remains counted first

pub field_expects : (trees left : List TokenTree) (at : ℕ) (set : Expected) → Sticks rule.field trees left
    → at ≡ length trees - length left → ExpectsWhole rule.field trees set
    → Expects IsField trees at set
field_expects = stuck_expects rule.field starts_field

pub ruleset field_faults = (field_fault, field_span, field_expects)

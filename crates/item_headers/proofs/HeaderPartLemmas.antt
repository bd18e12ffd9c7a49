-- Generic parameters without defaults are read after `impl`, and so is a where clause before a body.
use Rattle.std.proofs.Common.{◌≡◌, refl, sym, ◌∙◌, ap, subst, ℕ, ◌==◌, Bool, true, false, not, ◌&&◌, ◌||◌, List, []}
use Rattle.std.proofs.Common.{◌∷◌, ◌++◌, append_assoc, append-nil, codes, Some, None, ◌⊎◌, inl, inr}
use Rattle.std.proofs.lemmas.Bool.{both_ways}
use Rattle.std.proofs.lemmas.List.{append_cancel_right}
use Rattle.grammars.specs.Deterministic.{IsStart}
use Rattle.grammars.specs.Find.{Past, find}
use Rattle.grammars.specs.First.{heads, may_begin}
use Rattle.grammars.specs.Grammar.{Either, Mark, Nothing, Then}
use Rattle.grammars.specs.Machine.{closing, run}
use Rattle.grammars.specs.Next.{may_follow}
use Rattle.grammars.proofs.CompleteLemmas.{run_complete}
use Rattle.grammars.proofs.NextLemmas.{goes_on_next}
use Rattle.grammars.proofs.PieceLemmas.{piece_stops, piece_walk}
use Rattle.pm_stream.specs.declared.stream.Group.{Group as Grouped}
use Rattle.pm_stream.specs.declared.stream.TokenTree.{TokenTree}
use Rattle.pm_stream.specs.declared.stream.TokenTree.TheVariants.{Group}
use Rattle.proc_macro2.specs.declared.Delimiter.TheVariants as delimiters
use Rattle.item_tables.specs.Classes.{every, is, is_word, opens}
use Rattle.item_tables.specs.declared.class.Keyword.TheVariants as keywords
use Rattle.item_tables.specs.declared.class.SignClass.{SignClass}
use Rattle.item_tables.specs.declared.class.SignClass.TheVariants as classes
use Rattle.item_tables.specs.declared.class.Word.{Word}
use Rattle.item_tables.specs.declared.class.Word.TheVariants as words
use Rattle.declarations.specs.Impl.{begins_generics, begins_parameter, ends_parameter, goes_on_parameter, has_generics}
use Rattle.declarations.specs.Reader.{Finds, classes_in}
use Rattle.declarations.specs.Reading.{Reads}
use Rattle.declarations.specs.Signs.{BeginsWith, classes_of, group_class, signs, tree_class}
use Rattle.declarations.specs.rules.Bodies.{where_and_body}
use Rattle.declarations.specs.rules.Names.{G, Generics, Rest, Where, comma_list, key, one}
use Rattle.declarations.specs.rules.Parts.{closed_parameters, generics, parameter, parameters, predicate, where_clause}
use Rattle.declarations.specs.rules.Pieces.{ByRule}
use Rattle.declarations.specs.rules.Rules.{follows, rules}
use Rattle.declarations.specs.rules.Types.{type}
use Rattle.declarations.proofs.ClassLemmas.{every_holds, same_class}
use Rattle.declarations.proofs.ReaderLemmas.{classes_sign, first_finds, heads_sign, mark_finds, sign_finds, then_finds}
use Rattle.declarations.proofs.ReadingLemmas.{classes-append}
use Rattle.declarations.proofs.RuleLemmas.{starts, well_formed}
use Rattle.declarations.proofs.SignLemmas.{trees_of-signs}
use Rattle.item_headers.proofs.DerivedLemmas.{Derived, classes_seam, derived_both, derived_finds, derived_first}
use Rattle.item_headers.proofs.DerivedLemmas.{derived_mark, derived_nothing, derived_second, walk_finds}
use Rattle.item_headers.proofs.ParamReadingLemmas.{AllDerived, begins_tree, derived_tree, list_derived, mark_apart}
use Rattle.item_headers.proofs.ParamReadingLemmas.{mark_tree, more_listed, type_part, word_tree}
use Rattle.item_headers.proofs.SeamLemmas.{seam}

-- ---- the trees

-- the elements in angle brackets
abbrev pub angle_trees : List TokenTree → List (List TokenTree) → List TokenTree
angle_trees x xs = mark_tree 60 ∷ ((x ++ more_listed xs) ++ (mark_tree 62 ∷ []))

-- `where` and the elements, or nothing if there are none
abbrev pub where_trees : List (List TokenTree) → List TokenTree
where_trees [] = []
where_trees (x ∷ xs) = word_tree (codes "where") ∷ (x ++ more_listed xs)

pub begins_mark : (c : ℕ) (rest : List TokenTree) → (c == 35) ≡ false → (c == 39) ≡ false
    → BeginsWith (mark_tree c ∷ rest) (tree_class (mark_tree c)) rest
begins_mark c rest hash quote = begins_tree (mark_tree c) rest (mark_apart c hash quote)

pub begins_less : (rest : List TokenTree) → BeginsWith (mark_tree 60 ∷ rest) classes.Less rest
begins_less rest = begins_mark 60 rest refl refl

pub begins_greater : (rest : List TokenTree) → BeginsWith (mark_tree 62 ∷ rest) classes.Greater rest
begins_greater rest = begins_mark 62 rest refl refl

-- ---- generic parameters are found

starts_parameters : IsStart rules follows (parameters ∷ [])
starts_parameters = starts parameters refl refl

starts_closed : IsStart rules follows (Then parameters (one classes.Greater) ∷ [])
starts_closed = starts (Then parameters (one classes.Greater)) refl refl

abbrev rest_closed : G
rest_closed = Then (Mark Rest) (one classes.Greater)

closed_finds : (d rest : List TokenTree) → Derived parameters d
    → Finds closed_parameters (d ++ (mark_tree 62 ∷ rest)) rest
closed_finds d rest x =
    then_finds parameters rest_closed (d ++ (mark_tree 62 ∷ rest)) (mark_tree 62 ∷ rest) rest
    (derived_finds parameters classes.Greater starts_parameters starts_closed refl d (mark_tree 62 ∷ rest)
    (classes_in rest) x (classes_sign (mark_tree 62 ∷ rest) rest classes.Greater (begins_greater rest)))
    (mark_finds Rest (one classes.Greater) (mark_tree 62 ∷ rest) rest
    (sign_finds (is classes.Greater) (mark_tree 62 ∷ rest) rest classes.Greater (begins_greater rest) refl))

abbrev by_less : G
by_less = Then (one classes.Less) closed_parameters

abbrev by_joint : G
by_joint = Then (one classes.LessJoint) closed_parameters

inner_finds : (d rest : List TokenTree) → Derived parameters d
    → Finds generics (mark_tree 60 ∷ (d ++ (mark_tree 62 ∷ rest))) rest
inner_finds d rest x =
    let inside : List TokenTree = d ++ (mark_tree 62 ∷ rest) in
    let trees : List TokenTree = mark_tree 60 ∷ inside in
    let at = begins_less inside in
    first_finds (Then (Mark Generics) (Either by_less by_joint)) Nothing trees rest
    (heads_sign (Then (Mark Generics) (Either by_less by_joint)) trees inside classes.Less at)
    (mark_finds Generics (Either by_less by_joint) trees rest
    (first_finds by_less by_joint trees rest (heads_sign by_less trees inside classes.Less at)
    (then_finds (one classes.Less) closed_parameters trees inside rest
    (sign_finds (is classes.Less) trees inside classes.Less at refl) (closed_finds d rest x))))

angle_same : (x : List TokenTree) (xs : List (List TokenTree)) (rest : List TokenTree)
    → mark_tree 60 ∷ ((x ++ more_listed xs) ++ (mark_tree 62 ∷ rest)) ≡ angle_trees x xs ++ rest
angle_same x xs rest =
    ap (λ ts. mark_tree 60 ∷ ts) (sym (append_assoc (x ++ more_listed xs) (mark_tree 62 ∷ []) rest))

-- parameters in angle brackets are read as generic parameters, whatever comes after them
pub angle_finds : (x : List TokenTree) (xs : List (List TokenTree)) (rest : List TokenTree) → Derived parameter x
    → AllDerived parameter xs
    → Finds generics (angle_trees x xs ++ rest) rest
angle_finds x xs rest d all =
    subst (λ ts. Finds generics ts rest) (angle_same x xs rest)
    (inner_finds (x ++ more_listed xs) rest (list_derived parameter x xs d all))

-- ---- such a `<` begins generic parameters

abbrev with_end : G
with_end = Then parameters (one classes.Greater)

-- what comes after some of the signs
next_may : (trees : List TokenTree) → Derived with_end trees → (front : List SignClass) (c : SignClass)
    (more : List SignClass) → classes_in trees ≡ front ++ c ∷ more
    → may_follow rules (with_end ∷ []) front c ≡ true
next_may trees x front c more is =
    goes_on_next rules follows well_formed (with_end ∷ []) starts_closed front c (
      x.events,
      more,
      (x.events, [], sym (append-nil x.events), x.derives, refl),
      x.same ∙ (is ∙ sym (append_assoc front (c ∷ []) more)),
    )

first_may : (c : SignClass) → may_follow rules (with_end ∷ []) [] c ≡ true
    → (begins_parameter c || is_word c) ≡ true
first_may c h = go (begins_parameter c || is_word c) refl
  where
    go : (b : Bool) → (begins_parameter c || is_word c) ≡ b → b ≡ true
    go true e = refl
    go false e =
        absurd (both_ways _ (rw (h, e) refl)
        (every_holds (λ d. not (may_follow rules (with_end ∷ []) [] d) || (begins_parameter d || is_word d)) refl c))

-- whether the sign comes after no such word, or shows that the word is a parameter
abbrev ends_word : Word → SignClass → Bool
ends_word w c = not (may_follow rules (with_end ∷ []) (classes.Word w ∷ []) c) || ends_parameter c

word_may : (w : Word) (c : SignClass) → may_follow rules (with_end ∷ []) (classes.Word w ∷ []) c ≡ true
    → ends_parameter c ≡ true
word_may w c h = go (ends_parameter c) refl
  where
    all : (w : Word) → every (ends_word w) ≡ true
    all words.Auto = refl
    all _ = refl

    go : (b : Bool) → ends_parameter c ≡ b → b ≡ true
    go true e = refl
    go false e =
        absurd (both_ways _ (rw (h, e) refl) (every_holds (ends_word w) (all w) c))

-- a word alone is no parameter and `>`
word_alone : (w : Word) → run rules (with_end ∷ []) (classes.Word w ∷ []) ≡ None
word_alone words.Auto = refl
word_alone _ = refl

begins_word : (trees : List TokenTree) → Derived with_end trees → (w : Word) (cs ds : List SignClass)
    → classes_in trees ≡ classes.Word w ∷ cs
    → begins_generics (classes.Word w ∷ (cs ++ ds)) ≡ true
begins_word trees x w [] ds is =
    let ran = run_complete rules follows well_formed.deterministic (with_end ∷ []) x.events starts_closed.deterministic
    (x.events, [], sym (append-nil x.events), x.derives, refl) in
    let wrong : None ≡ Some x.events =
    sym (word_alone w) ∙ (ap (run rules (with_end ∷ [])) (sym (x.same ∙ is)) ∙ ran) in
    absurd cc
begins_word trees x w (c ∷ cs) ds is =
    ap (λ b. begins_parameter (classes.Word w) || b) (word_may w c (next_may trees x (classes.Word w ∷ []) c cs is))
    ∙ or_true (begins_parameter (classes.Word w))
  where
    or_true : (b : Bool) → (b || true) ≡ true
    or_true true = refl
    or_true false = refl

word_is : (c : SignClass) → is_word c ≡ true → (w : Word) × (c ≡ classes.Word w)
word_is (classes.Word w) h = (w, refl)
word_is (classes.Keyword keywords.Const) h = absurd (both_ways _ refl h)
word_is _ h = absurd (both_ways _ refl h)

or_false : (b : Bool) → (b || false) ≡ b
or_false true = refl
or_false false = refl

-- parameters and `>` begin generic parameters, whatever comes after them
begins_first : (trees : List TokenTree) → Derived with_end trees → (cs ds : List SignClass) → classes_in trees ≡ cs
    → begins_generics (cs ++ ds) ≡ true
begins_first trees x [] ds is =
    let ran = run_complete rules follows well_formed.deterministic (with_end ∷ []) x.events starts_closed.deterministic
    (x.events, [], sym (append-nil x.events), x.derives, refl) in
    let wrong : None ≡ Some x.events = ap (run rules (with_end ∷ [])) (sym (x.same ∙ is)) ∙ ran in
    absurd cc
begins_first trees x (c ∷ cs) ds is = go (is_word c) refl
  where
    go : (b : Bool) → is_word c ≡ b → begins_generics (c ∷ (cs ++ ds)) ≡ true
    go true e =
        let w = word_is c e in
        subst (λ d. begins_generics (d ∷ (cs ++ ds)) ≡ true) (sym w.1)
        (begins_word trees x w.0 cs ds (is ∙ ap (λ d. d ∷ cs) w.1))
    go false e =
        let alone : begins_parameter c ≡ true =
        sym (or_false (begins_parameter c)) ∙ (ap (λ b. begins_parameter c || b) (sym e)
        ∙ first_may c (next_may trees x [] c cs is)) in
        ap (λ b. b || is_word c && goes_on_parameter (cs ++ ds)) alone

-- parameters in angle brackets are generic parameters after `impl`
pub angle_begins : (x : List TokenTree) (xs : List (List TokenTree)) (rest : List TokenTree) → Derived parameter x
    → AllDerived parameter xs
    → has_generics (classes_in (angle_trees x xs ++ rest)) ≡ true
angle_begins x xs rest d all =
    let inside : List TokenTree = (x ++ more_listed xs) ++ (mark_tree 62 ∷ []) in
    let whole : Derived with_end inside =
    derived_both parameters (one classes.Greater) (x ++ more_listed xs) (mark_tree 62 ∷ [])
    (list_derived parameter x xs d all)
    (derived_tree (mark_tree 62) classes.Greater (mark_apart 62 refl refl) refl refl) in
    ap has_generics (classes_sign (mark_tree 60 ∷ (inside ++ rest)) (inside ++ rest) classes.Less
    (begins_less (inside ++ rest)))
    ∙ (ap begins_generics (classes_seam inside rest whole.calm)
    ∙ begins_first inside whole (classes_in inside) (classes_in rest) refl)

-- a path that begins no generic parameters begins none before `for`
pub plain_front : (cs ds : List SignClass) → has_generics cs ≡ false
    → has_generics (cs ++ classes.Keyword keywords.For ∷ ds) ≡ false
plain_front [] ds h = refl
plain_front (c ∷ []) ds h = none (opens c)
  where
    none : (b : Bool) → (b && false) ≡ false
    none true = refl
    none false = refl
plain_front (c ∷ (d ∷ [])) ds h = h
plain_front (c ∷ (d ∷ (e ∷ cs))) ds h = h

-- ---- the where clause

where_derived : (xs : List (List TokenTree)) → AllDerived predicate xs → Derived where_clause (where_trees xs)
where_derived [] all = derived_second _ Nothing [] derived_nothing
where_derived (x ∷ xs) all =
    derived_first _ Nothing _
    (derived_mark Where _ _
    (derived_both (key keywords.Where) (comma_list predicate) (word_tree (codes "where") ∷ []) (x ++ more_listed xs)
    (derived_tree (word_tree (codes "where")) (classes.Keyword keywords.Where) (λ s. refl) refl refl)
    (list_derived predicate x xs all.0 all.1)))

pub braces_class : (g : Grouped) → g.delimiter ≡ delimiters.Brace → classes_in (Group g ∷ []) ≡ classes.Braces ∷ []
unfolding classes_in
braces_class g brace = ap (λ d. group_class d g.stream ∷ []) brace

-- a where clause is read before a body
pub where_finds : (xs : List (List TokenTree)) (g : Grouped) → AllDerived predicate xs → g.delimiter ≡ delimiters.Brace
    → Finds where_clause (where_trees xs ++ (Group g ∷ [])) (Group g ∷ [])
where_finds xs g all brace =
    derived_finds where_clause classes.Braces (starts where_clause refl refl)
    (starts (Then where_clause (one classes.Braces)) refl refl) refl (where_trees xs) (Group g ∷ []) []
    (where_derived xs all) (braces_class g brace)

-- ---- parts that are read by a rule

-- a part that a rule reads before a sign is found by it
pub reads_finds : (g : G) → IsStart rules follows (g ∷ []) → (trees part rest : List TokenTree) (c : SignClass)
    (more : List SignClass) → classes_in rest ≡ c ∷ more → Reads (ByRule g) trees part rest
    → Finds g trees rest
unfolding classes_in
reads_finds g start trees part rest c more is reads =
    let piece : List SignClass = classes_of reads.piece in
    let stands : ByRule g piece (c ∷ more) = subst (λ cs. ByRule g piece cs) is reads.stands in
    let w = piece_walk rules follows well_formed (g ∷ []) start piece (c ∷ more) stands in
    let stop = piece_stops rules follows well_formed (g ∷ []) start piece (c ∷ more) stands w c more refl in
    record {
      events = w.taken.0 ++ closing w.taken.1;
      found = ap (find rules g)
          (ap classes_of reads.read ∙ (classes-append reads.piece (signs rest) ∙ ap (λ cs. piece ++ cs) is))
          ∙ (walk_finds g piece w c more stop ∙ ap (Past (w.taken.0 ++ closing w.taken.1)) (sym is));
      remains = record {
        front = reads.piece;
        read = reads.read;
        whole = reads.whole ∙ ap (λ ts. ts ++ rest) reads.taken;
      };
    }

-- ---- the two types

-- signs that begin a where clause or a body
end_first : (cs : List SignClass) → heads where_and_body cs ≡ true
    → (more : List SignClass) × ((cs ≡ classes.Keyword keywords.Where ∷ more) ⊎ (cs ≡ classes.Braces ∷ more))
end_first [] h = absurd (both_ways _ refl h)
end_first (c ∷ cs) h = (cs, go (is (classes.Keyword keywords.Where) c) refl (is classes.Braces c) refl)
  where
    go : (x : Bool) → is (classes.Keyword keywords.Where) c ≡ x → (y : Bool) → is classes.Braces c ≡ y
        → (c ∷ cs ≡ classes.Keyword keywords.Where ∷ cs) ⊎ (c ∷ cs ≡ classes.Braces ∷ cs)
    go true e y k = inl (ap (λ d. d ∷ cs) (same_class (classes.Keyword keywords.Where) c e))
    go false e true k = inr (ap (λ d. d ∷ cs) (same_class classes.Braces c k))
    go false e false k =
        absurd (both_ways _ (rw (h, e, k) refl)
        (every_holds
        (λ d. not (may_begin where_and_body d) || (is (classes.Keyword keywords.Where) d || is classes.Braces d)) refl
        c))

-- the type of an item is read before a where clause and a body
pub self_finds : (t rest : List TokenTree) → Derived type t → heads where_and_body (classes_in rest) ≡ true
    → Finds type (t ++ rest) rest
self_finds t rest d h = go (end_first (classes_in rest) h)
  where
    go : (more : List SignClass) × ((classes_in rest ≡ classes.Keyword keywords.Where ∷ more)
        ⊎ (classes_in rest ≡ classes.Braces ∷ more))
        → Finds type (t ++ rest) rest
    go (more, inl is) =
        derived_finds type (classes.Keyword keywords.Where) (starts type refl refl)
        (starts (Then type (key keywords.Where)) refl refl) refl t rest more d is
    go (more, inr is) =
        derived_finds type classes.Braces (starts type refl refl) (starts (Then type (one classes.Braces)) refl refl)
        refl t rest more d is

abbrev pub for_tree : TokenTree
for_tree = word_tree (codes "for")

abbrev for_class : SignClass
for_class = classes.Keyword keywords.For

pub begins_for : (rest : List TokenTree) → BeginsWith (for_tree ∷ rest) for_class rest
begins_for rest = begins_tree for_tree rest (λ s. refl)

-- the trees of a path that is read before `for`
pub path_derived : (path : List TokenTree) → Reads (ByRule type) (path ++ for_tree ∷ []) path (for_tree ∷ [])
    → Derived type path
path_derived path reads = type_part (path ++ for_tree ∷ []) path (for_tree ∷ []) reads

-- a path that is read before `for` is read before `for` and other trees
pub path_finds : (path rest : List TokenTree) → Reads (ByRule type) (path ++ for_tree ∷ []) path (for_tree ∷ [])
    → Finds type (path ++ for_tree ∷ rest) (for_tree ∷ rest)
unfolding classes_in
path_finds path rest reads =
    let d = path_derived path reads in
    let start : IsStart rules follows (type ∷ []) = starts type refl refl in
    let piece : List SignClass = classes_of reads.piece in
    let same : piece ≡ classes_in path =
    append_cancel_right piece (classes_in path) (for_class ∷ [])
    (sym (ap classes_of reads.read ∙ classes-append reads.piece (signs (for_tree ∷ [])))
    ∙ classes_seam path (for_tree ∷ []) d.calm) in
    let w = piece_walk rules follows well_formed (type ∷ []) start piece (for_class ∷ []) reads.stands in
    let stop = piece_stops rules follows well_formed (type ∷ []) start piece (for_class ∷ []) reads.stands w for_class
    [] refl in
    let after : classes_in (for_tree ∷ rest) ≡ for_class ∷ classes_in rest =
    classes_sign (for_tree ∷ rest) rest for_class (begins_for rest) in
    record {
      events = w.taken.0 ++ closing w.taken.1;
      found = ap (find rules type)
          (classes_seam path (for_tree ∷ rest) d.calm ∙ (ap (λ cs. cs ++ classes_in (for_tree ∷ rest)) (sym same)
          ∙ ap (λ cs. piece ++ cs) after))
          ∙ (walk_finds type piece w for_class (classes_in rest) stop
          ∙ ap (Past (w.taken.0 ++ closing w.taken.1)) (sym after));
      remains = record {
        front = signs path;
        read = seam path (for_tree ∷ rest) d.calm;
        whole = ap (λ ts. ts ++ for_tree ∷ rest) (sym (trees_of-signs path));
      };
    }

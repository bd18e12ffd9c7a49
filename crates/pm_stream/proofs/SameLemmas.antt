-- What is left to compare while groups are open, in the test whether two streams are the same.
use Rattle.std.proofs.Common.{rules, ◌≡◌, ◌↔◌, ℕ, ◌+◌, ◌*◌, ◌<◌, Bool, true, false, IsTrue, List, [], ◌∷◌, ◌++◌, length}
use Rattle.std.proofs.Common.{nat_eq, refl, sym, ap, ◌∙◌, arith, Result, Ok, Err, is_ok, if◌then◌else◌}
use Rattle.std.specs.Cmp.Lexicographic.{pointwise}
use Rattle.std.specs.Str.{chars, IsUtf8, encode_utf8_all}
use Rattle.std.proofs.lemmas.Bool.{eqb-true}
use Rattle.std.proofs.lemmas.List.{nil_from_length}
use Rattle.std.proofs.lemmas.Slice.Eq.{bytes_eq-Decides}
use Rattle.std.proofs.lemmas.Str.{encodes-chars}
use Rattle.lexical.specs.Token as tokens
use Rattle.lexical.specs.Token.{Token}
use Rattle.pm_token.specs.Leaf.{name_token, mark_token, text_token}
use Rattle.pm_token.specs.declared.delimiters.Delimiter.{Delimiter}
use Rattle.pm_stream.specs.Events.{One, Opens}
use Rattle.pm_stream.specs.Forest.{Forest, nil, leaf, group}
use Rattle.pm_stream.specs.Trees.{before, forest, inside}
use Rattle.pm_stream.specs.Same.{Same}
use Rattle.pm_stream.specs.SameTree.{first_event}
use Rattle.pm_stream.specs.Size.{count}
use Rattle.pm_stream.specs.declared.same.Lists.{Lists}
use Rattle.pm_stream.specs.declared.stream.TokenTree.{TokenTree}
use Rattle.pm_stream.specs.declared.stream.TokenTree.TheVariants.{Group, Ident, Punct, Literal}

count-before : (t : TokenTree) (rest : Forest) → count (before t rest) ≡ 1 + count (inside t) + count rest
count-before (Group g) rest = refl
count-before (Ident i) rest = refl
count-before (Punct p) rest = refl
count-before (Literal l) rest = refl

-- a push that succeeded
pub pushed_ok : {E X : Type 0} (r : Result (Unit {0}) E) (b : Bool) (new xs ys : List X) → b ≡ is_ok r → b ≡ true
    → new ≡ (if is_ok r then xs else ys) → new ≡ xs
pushed_ok (Ok u) b new xs ys e t p = p
pushed_ok (Err x) b new xs ys e t p = cc

-- the trees after each open group are the same
abbrev pub RestsSame : List Lists → Type 0
RestsSame [] = Unit {0}
RestsSame (after ∷ inner) = Same (forest after.trees.now) (forest after.others.now) × RestsSame inner

-- the number of trees and ends of groups after the open groups
abbrev pub rests_count : List Lists → ℕ
rests_count [] = 0
rests_count (after ∷ inner) = 1 + 2 * count (forest after.trees.now) + rests_count inner

-- everything that is left is the same: these trees, and those after the open groups
abbrev pub LeftSame : List TokenTree → List TokenTree → List Lists → Type 0
LeftSame trees others outer = Same (forest trees) (forest others) × RestsSame outer

-- how much is left
abbrev pub left_count : List TokenTree → List Lists → ℕ
left_count trees outer = 2 * count (forest trees) + rests_count outer

RestsSame-push : (outer : List Lists) (after : Lists)
    → RestsSame (outer ++ after ∷ []) ↔ (Same (forest after.trees.now) (forest after.others.now) × RestsSame outer)
RestsSame-push [] after = (λ h. h, λ h. h)
RestsSame-push (x ∷ outer) after =
    let more = RestsSame-push outer after in
    (λ h. let m = more.0 h.1 in (m.0, (h.0, m.1)), λ h. (h.1.0, more.1 (h.0, h.1.1)))

rests_count-push : (outer : List Lists) (after : Lists)
    → rests_count (outer ++ after ∷ []) ≡ 1 + 2 * count (forest after.trees.now) + rests_count outer
rests_count-push [] after = refl
rests_count-push (x ∷ outer) after = omega (arith, rests_count-push outer after)

-- the first trees, the trees inside them and those after them are the same
abbrev Alike : TokenTree → TokenTree → Forest → Forest → Type 0
Alike t u f g = (first_event t ≡ first_event u) × Same (inside t) (inside u) × Same f g

leaf_same : (a b : Token) (f g : Forest)
    → Same (leaf a 0 0 f) (leaf b 0 0 g) ↔ ((One a 0 0 ≡ One b 0 0) × Same nil nil × Same f g)
leaf_same a b f g = (λ e. (cc, refl, cc), λ h. let one = h.0 in let rest = h.2 in cc)

group_same : (d e : Delimiter) (s t f g : Forest)
    → Same (group d 0 0 s f) (group e 0 0 t g) ↔ ((Opens d 0 ≡ Opens e 0) × Same s t × Same f g)
group_same d e s t f g = (λ e. (cc, cc, cc), λ h. let one = h.0 in let within = h.1 in let rest = h.2 in cc)

same-before : (t u : TokenTree) (f g : Forest) → Same (before t f) (before u g) ↔ Alike t u f g
same-before (Group g) (Group h) f k = group_same g.delimiter h.delimiter g.stream h.stream f k
same-before (Group g) (Ident i) f k = (λ e. absurd cc, λ h. let one = h.0 in absurd cc)
same-before (Group g) (Punct p) f k = (λ e. absurd cc, λ h. let one = h.0 in absurd cc)
same-before (Group g) (Literal l) f k = (λ e. absurd cc, λ h. let one = h.0 in absurd cc)
same-before (Ident i) (Group g) f k = (λ e. absurd cc, λ h. let one = h.0 in absurd cc)
same-before (Punct p) (Group g) f k = (λ e. absurd cc, λ h. let one = h.0 in absurd cc)
same-before (Literal l) (Group g) f k = (λ e. absurd cc, λ h. let one = h.0 in absurd cc)
same-before (Ident i) (Ident j) f k = leaf_same (name_token i) (name_token j) f k
same-before (Ident i) (Punct p) f k = leaf_same (name_token i) (mark_token p) f k
same-before (Ident i) (Literal l) f k = leaf_same (name_token i) (text_token l) f k
same-before (Punct p) (Ident j) f k = leaf_same (mark_token p) (name_token j) f k
same-before (Punct p) (Punct q) f k = leaf_same (mark_token p) (mark_token q) f k
same-before (Punct p) (Literal l) f k = leaf_same (mark_token p) (text_token l) f k
same-before (Literal l) (Ident j) f k = leaf_same (text_token l) (name_token j) f k
same-before (Literal l) (Punct q) f k = leaf_same (text_token l) (mark_token q) f k
same-before (Literal l) (Literal m) f k = leaf_same (text_token l) (text_token m) f k

-- literals are the same if their bytes are
pub literal_alike : (a b s t : List ℕ) (r : Bool) → chars s ≡ a → chars t ≡ b → IsUtf8 s → IsUtf8 t
    → r ≡ pointwise nat_eq s t
    → IsTrue r ↔ (One (tokens.Literal a) 0 0 ≡ One (tokens.Literal b) 0 0)
literal_alike a b s t r own other utf8 utf8-other is =
    let bytes = bytes_eq-Decides s t in (
      λ h. let same = bytes.0 (sym is ∙ h) in cc,
      λ e. let same : a ≡ b = cc in
          is ∙ bytes.1 (sym (encodes-chars s utf8)
          ∙ (ap encode_utf8_all (own ∙ (same ∙ sym other)) ∙ encodes-chars t utf8-other)),
    )

not_nil : (u : TokenTree) (f : Forest) → Same nil (before u f) → ⊥
not_nil (Group g) f e = cc
not_nil (Ident i) f e = cc
not_nil (Punct p) f e = cc
not_nil (Literal l) f e = cc

-- one list ends before the other, so what is left is not the same
pub uneven : (trees others : List TokenTree) (outer : List Lists) (r : Bool)
    → length trees ≡ 0 → r ≡ nat_eq (length others) 0 → r ≡ false → LeftSame trees others outer → ⊥
uneven [] [] outer r none is some h = cc
uneven [] (u ∷ others) outer r none is some h = not_nil u (forest others) h.0
uneven (t ∷ trees) others outer r none is some h = absurd (omega (arith, none))

-- the first trees begin alike, and the trees inside them are compared next
pub inside_same : (trees others within within-other : List TokenTree) (after : Lists) (t u : TokenTree) (r : Bool)
    (outer new : List Lists)
    → trees ≡ t ∷ after.trees.now → others ≡ u ∷ after.others.now
    → IsTrue r ↔ (first_event t ≡ first_event u) → IsTrue r
    → forest within ≡ inside t → forest within-other ≡ inside u → new ≡ outer ++ after ∷ []
    → LeftSame trees others outer ↔ LeftSame within within-other new
inside_same trees others within within-other after t u r outer new whole whole-other alike same into into-other push =
    let first = same-before t u (forest after.trees.now) (forest after.others.now) in
    let rests = RestsSame-push outer after in
    rw (whole, whole-other, push, into, into-other) (
      λ h. let parts = first.0 h.0 in (parts.1, rests.1 (parts.2, h.1)),
      λ h. let parts = rests.0 h.1 in (first.1 (alike.0 same, h.0, parts.0), parts.1),
    )

pub inside_less : (trees within : List TokenTree) (after : Lists) (t : TokenTree) (outer new : List Lists)
    → trees ≡ t ∷ after.trees.now → forest within ≡ inside t → new ≡ outer ++ after ∷ []
    → left_count within new < left_count trees outer
inside_less trees within after t outer new whole into push =
    rw (whole, push, into) (omega (arith, rests_count-push outer after, count-before t (forest after.trees.now)))

-- no tree is left in the innermost groups, and the trees after these groups are compared next
pub after_same : (trees others : List TokenTree) (after : Lists) (r : Bool) (outer new : List Lists)
    → length trees ≡ 0 → r ≡ nat_eq (length others) 0 → r ≡ true → outer ≡ new ++ after ∷ []
    → LeftSame trees others outer ↔ LeftSame after.trees.now after.others.now new
after_same [] [] after r outer new none is end pop =
    let rests = RestsSame-push new after in
    rw pop (λ h. rests.0 h.1, λ h. (refl, rests.1 h))
after_same [] (u ∷ others) after r outer new none is end pop = absurd (search (rules, is, end))
after_same (t ∷ trees) others after r outer new none is end pop = absurd (omega (arith, none))

pub after_less : (trees : List TokenTree) (after : Lists) (outer new : List Lists)
    → outer ≡ new ++ after ∷ [] → left_count after.trees.now new < left_count trees outer
after_less trees after outer new pop = rw pop (omega (arith, rests_count-push new after))

-- the other list ends first, so what is left is not the same
pub uneven_other : (trees others : List TokenTree) (t : TokenTree) (after : List TokenTree) (outer : List Lists)
    → trees ≡ t ∷ after → length others ≡ 0 → LeftSame trees others outer → ⊥
uneven_other trees [] t after outer whole none h =
    let first = rw whole at h.0 in not_nil t (forest after) (sym first)
uneven_other trees (u ∷ others) t after outer whole none h = absurd (omega (arith, none))

-- a push that failed
pub pushed_not : {E X : Type 0} (r : Result (Unit {0}) E) (b : Bool) (new xs ys : List X) → b ≡ is_ok r → b ≡ false
    → new ≡ (if is_ok r then xs else ys) → new ≡ ys
pushed_not (Ok u) b new xs ys e t p = cc
pushed_not (Err x) b new xs ys e t p = p

-- there are no trees inside the first ones
pub both_empty : (within within-other : List TokenTree) (r s : Bool) → r ≡ nat_eq (length within) 0 → r ≡ true
    → s ≡ nat_eq (length within-other) 0 → s ≡ true → Same (forest within) (forest within-other)
both_empty within within-other r s is empty is-other empty-other =
    let first = nil_from_length within (eqb-true _ _ (sym is ∙ empty)) in
    let other = nil_from_length within-other (eqb-true _ _ (sym is-other ∙ empty-other)) in
    rw (first, other) refl

module _ (trees others after after-other : List TokenTree) (t u : TokenTree) (whole : trees ≡ t ∷ after)
    (whole-other : others ≡ u ∷ after-other) where
  alike_of : (outer : List Lists) → LeftSame trees others outer → Alike t u (forest after) (forest after-other)
  alike_of outer h = (same-before t u (forest after) (forest after-other)).0 (rw (whole, whole-other) at h.0)

  -- the first trees do not begin alike
  pub apart : (r : Bool) (outer : List Lists) → IsTrue r ↔ (first_event t ≡ first_event u) → r ≡ false
      → LeftSame trees others outer → ⊥
  apart r outer alike other h = let yes : r ≡ true = alike.1 (alike_of outer h).0 in cc

  module _ (within within-other : List TokenTree) (into : forest within ≡ inside t)
      (into-other : forest within-other ≡ inside u) where
    -- the trees inside the first ones are not the same
    pub apart_inside : (r : Bool) (outer : List Lists) → IsTrue r ↔ Same (forest within) (forest within-other)
        → r ≡ false → LeftSame trees others outer → ⊥
    apart_inside r outer is other h =
        let inner : Same (forest within) (forest within-other) = rw (into, into-other) (alike_of outer h).1 in
        let yes : r ≡ true = is.1 inner in cc

    -- the trees inside the first ones are the same, and those after them are compared next
    pub passed_same : (r : Bool) (outer new : List Lists) → IsTrue r ↔ (first_event t ≡ first_event u) → IsTrue r
        → Same (forest within) (forest within-other) → new ≡ outer
        → LeftSame trees others outer ↔ LeftSame after after-other new
    passed_same r outer new alike same inner kept =
        let first = same-before t u (forest after) (forest after-other) in
        let both : Same (inside t) (inside u) = rw (into, into-other) at inner in
        rw (whole, whole-other, kept) (
          λ h. ((first.0 h.0).2, h.1),
          λ h. (first.1 (alike.0 same, both, h.0), h.1),
        )

pub passed_less : (trees after : List TokenTree) (t : TokenTree) (outer new : List Lists) → trees ≡ t ∷ after
    → new ≡ outer → left_count after new < left_count trees outer
passed_less trees after t outer new whole kept = rw (whole, kept) (omega (arith, count-before t (forest after)))

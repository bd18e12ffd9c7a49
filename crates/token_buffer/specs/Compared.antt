-- Equality of cursors.
use Rattle.std.proofs.Common.{◌≡◌, ◌↔◌, Bool, true, false, ◌&&◌, nat_eq, refl, sym, ap, ap₂, ◌∙◌, eqb-true, eq-eqb}
use Rattle.std.specs.Cmp.{IsEquivalence}
use Rattle.std.proofs.lemmas.Bool.{and_from, and_parts}
use base.Stored.{Gv, gnil, gnum, gcons}
use Rattle.pm_stream.specs.Codec.{forest_code, forest_inj}
use Rattle.pm_stream.specs.Same.{Same, without_spans}
use Rattle.token_buffer.specs.Reads.{left}
use Rattle.token_buffer.specs.declared.cursor.Cursor.{Cursor}

-- whether two values are equal, given their codes
abbrev pub code_eq : Gv → Gv → Bool
code_eq gnil gnil = true
code_eq gnil (gnum n) = false
code_eq gnil (gcons c d) = false
code_eq (gnum m) gnil = false
code_eq (gnum m) (gnum n) = nat_eq m n
code_eq (gnum m) (gcons c d) = false
code_eq (gcons a b) gnil = false
code_eq (gcons a b) (gnum n) = false
code_eq (gcons a b) (gcons c d) = code_eq a c && code_eq b d

-- whether both cursors have the same trees left, up to spans
abbrev pub cursor_eq : Cursor → Cursor → Bool
cursor_eq a b = code_eq (forest_code (without_spans (left a))) (forest_code (without_spans (left b)))

-- ---- this is a test of `Same`, and so an equivalence

code_eq-sound : (x y : Gv) → code_eq x y ≡ true → x ≡ y
code_eq-sound gnil gnil e = refl
code_eq-sound gnil (gnum n) e = absurd cc
code_eq-sound gnil (gcons c d) e = absurd cc
code_eq-sound (gnum m) gnil e = absurd cc
code_eq-sound (gnum m) (gnum n) e = ap gnum (eqb-true m n e)
code_eq-sound (gnum m) (gcons c d) e = absurd cc
code_eq-sound (gcons a b) gnil e = absurd cc
code_eq-sound (gcons a b) (gnum n) e = absurd cc
code_eq-sound (gcons a b) (gcons c d) e =
    let parts = and_parts (code_eq a c) (code_eq b d) e in
    ap₂ gcons (code_eq-sound a c parts.0) (code_eq-sound b d parts.1)

code_eq-same : (x : Gv) → code_eq x x ≡ true
code_eq-same gnil = refl
code_eq-same (gnum n) = eq-eqb n n refl
code_eq-same (gcons a b) = and_from (code_eq a a) (code_eq b b) (code_eq-same a) (code_eq-same b)

pub cursor_eq-Same : (a b : Cursor) → (cursor_eq a b ≡ true) ↔ Same (left a) (left b)
cursor_eq-Same a b = (
  λ e. forest_inj (without_spans (left a)) (without_spans (left b))
      (code_eq-sound (forest_code (without_spans (left a))) (forest_code (without_spans (left b))) e),
  λ same. ap (λ f. code_eq (forest_code (without_spans (left a))) (forest_code f)) (sym same)
      ∙ code_eq-same (forest_code (without_spans (left a))),
)

pub one_answer : (p q : Bool) → (p ≡ true → q ≡ true) → (q ≡ true → p ≡ true) → p ≡ q
one_answer true true h k = refl
one_answer true false h k = sym (h refl)
one_answer false true h k = k refl
one_answer false false h k = refl

pub cursor_eq_equiv : IsEquivalence cursor_eq
cursor_eq_equiv = record {
  refl = λ a. code_eq-same (forest_code (without_spans (left a)));
  symm = λ a b. one_answer (cursor_eq a b) (cursor_eq b a)
      (λ e. (cursor_eq-Same b a).1 (sym ((cursor_eq-Same a b).0 e)))
      (λ e. (cursor_eq-Same a b).1 (sym ((cursor_eq-Same b a).0 e)));
  congr = λ a b c e. ap (λ f. code_eq (forest_code f) (forest_code (without_spans (left c))))
      ((cursor_eq-Same a b).0 e);
}

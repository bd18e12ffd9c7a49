-- How literals begin.
use Rattle.std.proofs.Common.{◌≡◌, ℕ, Bool, true, false, not, ◌==◌, List, ◌∷◌, ◌++◌, codes, refl, ap, ◌∙◌, inl, inr}
use Rattle.std.specs.List.{list_any, list_all}
use Rattle.std.proofs.lemmas.Bool.{both_ways, and_left, or_from, not-true}
use Rattle.lexical.specs.Class.{is_white}
use Rattle.lexical.specs.Text.{begins_any}
use Rattle.lexical.specs.Mark.{is_mark, comment_fronts}
use Rattle.lexical.specs.Delimiter.{is_opener, is_closer, error_literal}
use Rattle.lexical.specs.Literal.{AnyLiteral}
use Rattle.lexical.proofs.ClassLemmas.{any_of, sub_listed}
use Rattle.lexical.proofs.LiteralFinderLemmas.{literal_fronts, literal_front}

-- ---- how a literal begins

-- whether a literal's first character decides what else can begin there
pub record BeginsLiteral (p : List ℕ) : Type 0 where
  pub first : ℕ
  pub rest : List ℕ
  pub whole : p ≡ first ∷ rest
  pub mark : is_mark first ≡ (first == 39)
  pub slash : (47 == first) ≡ false
  pub closer : is_closer first ≡ false
  pub white : is_white first ≡ false
  pub front_mark : (first == 0xFEFF) ≡ false
  pub opener : is_opener first ≡ true → p ≡ error_literal

-- a first character of a literal fails each test that all of `literal_fronts` fail
none_passes : (passes : ℕ → Bool) (c : ℕ) → list_all (λ d. not (passes d)) literal_fronts ≡ true
    → list_any (λ d. d == c) literal_fronts ≡ true → passes c ≡ false
none_passes passes c all any = not-true _ (sub_listed (λ d. not (passes d)) literal_fronts all c any)

-- a literal begins with no mark except `'`, with no opener except that of the error literal, and like no other piece
pub literal_first : (p r : List ℕ) → AnyLiteral p r → BeginsLiteral p
literal_first p r (inr error) = record {
  first = 40;
  rest = codes "/*ERROR*/)";
  whole = error;
  mark = refl;
  slash = refl;
  closer = refl;
  white = refl;
  front_mark = refl;
  opener = λ h. error;
}
literal_first p r (inl literal) =
    let at = literal_front p r literal in
    record {
      first = at.0;
      rest = at.1;
      whole = at.2;
      mark = any_of (λ d. is_mark d ≡ (d == 39)) literal_fronts at.0 (
        refl,
        (
          refl,
          (
            refl,
            (
              refl,
              (refl, (refl, (refl, (refl, (refl, (refl, (refl, (refl, (refl, (refl, (refl, tt))))))))))),
            ),
          ),
        ),
      ) at.3;
      slash = none_passes (λ d. 47 == d) at.0 refl at.3;
      closer = none_passes is_closer at.0 refl at.3;
      white = none_passes is_white at.0 refl at.3;
      front_mark = none_passes (λ d. d == 0xFEFF) at.0 refl at.3;
      opener = λ h. absurd (both_ways _ (none_passes is_opener at.0 refl at.3) h);
    }

-- no comment begins where a literal does, before any text
pub literal_plain : (p r s : List ℕ) → AnyLiteral p r → begins_any comment_fronts (p ++ s) ≡ false
literal_plain p r s h =
    let at = literal_first p r h in
    ap (λ x. begins_any comment_fronts (x ++ s)) at.whole
    ∙ or_from _ _ (and_left _ _ at.slash) (or_from _ _ (and_left _ _ at.slash) refl)

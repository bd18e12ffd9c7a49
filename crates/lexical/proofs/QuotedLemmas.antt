-- How literals end.
use Rattle.std.proofs.Common.{◌≡◌, ℕ, Bool, true, false, not, ◌==◌, List, [], ◌∷◌, ◌++◌, codes, refl, ap, ◌∙◌}
use Rattle.std.specs.List.{list_all, list_any}
use Rattle.std.proofs.lemmas.Bool.{both_ways, not-true}
use Rattle.unicode_ident.proofs.Computing.{unicode_ident}
use Rattle.lexical.specs.Class.{is_ident_start, is_ident_continue}
use Rattle.lexical.specs.Text.{first_passes}
use Rattle.lexical.specs.Form.{HasNone}
use Rattle.lexical.specs.Identifier.{Name}
use Rattle.lexical.proofs.ClassLemmas.{sub_listed}

-- ---- suffixes

-- no name is there, if no identifier begins
pub no_name : (r : List ℕ) → first_passes is_ident_start r ≡ false → HasNone Name r
no_name r none p q whole is =
    both_ways _ none (ap (first_passes is_ident_start)
    (whole ∙ ap (λ xs. xs ++ q) (is.whole ∙ ap (λ xs. xs ++ is.back) is.first.1)) ∙ is.first.2)

-- whether the text begins with no character that begins or continues a suffix
pub record EndsSuffix (r : List ℕ) : Type 0 where
  pub start : first_passes is_ident_start r ≡ false
  pub continue : first_passes is_ident_continue r ≡ false

-- ---- stops

-- whether the text begins with a space, LF or a closer, or is empty
abbrev pub stops : List ℕ → Bool
stops [] = true
stops (c ∷ r) = list_any (λ d. d == c) (codes " \n)]}")

-- a text at a stop begins with no character of a class that contains no stop
pub stop_out : (class : ℕ → Bool) (r : List ℕ) → list_all (λ c. not (class c)) (codes " \n)]}") ≡ true → stops r ≡ true
    → first_passes class r ≡ false
stop_out class [] none e = refl
stop_out class (c ∷ r) none e = not-true _ (sub_listed (λ d. not (class d)) (codes " \n)]}") none c e)

pub stop_ends : (r : List ℕ) → stops r ≡ true → EndsSuffix r
unfolding unicode_ident
stop_ends r e = record { start = stop_out is_ident_start r refl e; continue = stop_out is_ident_continue r refl e }

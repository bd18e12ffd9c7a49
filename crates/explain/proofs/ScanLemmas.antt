-- Steps up to the end of a literal.
use Rattle.std.proofs.Common.{◌≡◌, ℕ, ◌+◌, Bool, true, false, not, ◌==◌, ◌||◌, List, [], ◌∷◌, ◌++◌}
use Rattle.std.proofs.Common.{Option, Some}
use Rattle.std.proofs.Common.{None, refl, sym, ap, ◌∙◌, subst, arith, eqb-true}
use Rattle.std.specs.List.{list_all}
use Rattle.std.specs.Str.{chars}
use Rattle.std.proofs.lemmas.Bool.{both_ways, and_parts, or_left, false_from_ne_true}
use Rattle.lexical.specs.Ascii.{all_ascii}
use Rattle.lexical.specs.Form.{HasNone}
use Rattle.lexical.specs.Rule.{Rule, One, Stands, find}
use Rattle.lexical.specs.RuleMatch.{Leads, Passes, Reads}
use Rattle.lexical.specs.Text.{begins_with}
use Rattle.lexical.specs.declared.cursor.TextCursor.{TextCursor}
use Rattle.lexical.proofs.BlockLemmas.{prepend_nothing}
use Rattle.lexical.proofs.FinderLemmas.{none_is}
use Rattle.lexical.proofs.RuleLemmas.{Clear, exact}
use Rattle.lexical.proofs.RuleSteps.{one_passes, apart_passes}
use Rattle.lexical.proofs.UnitSteps.{leads_passes, leads_fails}
use Rattle.lexical.proofs.TextLemmas.{begins_self}
use Rattle.explain.specs.Shapes.{any, closed_raw_body, is_hash, pair, raw_unit}

pub leads_self : (rule : Rule) (at : TextCursor) → Leads rule at rule at
leads_self rule at = record { front = []; found = sym (prepend_nothing _); count = omega arith }

pub reads_last : (rule rest : Rule) (at mid : TextCursor) (result : Option TextCursor) → Leads rule at rest mid
    → Reads rest mid result → Reads rule at result
reads_last rule rest at mid None h none = leads_fails rule rest at mid None refl h none
reads_last rule rest at mid (Some to) h j = leads_passes rule rest at mid to h j

-- if the rule finds no match, it has none
pub none_stands : (rule : Rule) → Clear rule → (text front part r : List ℕ) → find rule text ≡ None
    → text ≡ front ++ (part ++ r) → HasNone (Stands rule) (front ++ (part ++ r))
none_stands rule clear text front part r none e =
    none_is (find rule) (Stands rule) (exact rule clear) (front ++ (part ++ r)) (subst (λ t. find rule t ≡ None) e none)

-- ---- characters that are their own units

abbrev pub other_than : ℕ → ℕ → ℕ → Bool
other_than a b c = not (c == a || c == b)

pub pair_alone : (c : ℕ) (text : List ℕ) → other_than 34 92 c ≡ true → find pair (c ∷ text) ≡ Some (c ∷ [], text)
unfolding find
pair_alone c text e = grind (arith, e)

abbrev pub no_quote : ℕ → Bool
no_quote c = not (c == 34)

pub raw_alone : (hashes : List ℕ) (c : ℕ) (text : List ℕ) → no_quote c ≡ true
    → find (raw_unit hashes) (c ∷ text) ≡ Some (c ∷ [], text)
unfolding find
raw_alone hashes c text e = grind (arith, e)

pub raw_any : (hashes : List ℕ) (c : ℕ) (at after : TextCursor) → chars at.rest.now ≡ c ∷ chars after.rest.now
    → after.chars_before ≡ at.chars_before + 1 → (c ≡ 34 → begins_with hashes (chars after.rest.now) ≡ false)
    → Passes (raw_unit hashes) at after
raw_any hashes c at after split count apart =
    apart_passes (34 ∷ hashes) (One any) at after
    (ap (begins_with (34 ∷ hashes)) split ∙ false_from_ne_true _ (λ e.
    let parts = and_parts (34 == c) (begins_with hashes (chars after.rest.now)) e in
    both_ways _ (apart (sym (eqb-true 34 c parts.0))) parts.1))
    (one_passes any c at after split count refl)

-- hash signs are ASCII
pub hashes_ascii : (hashes : List ℕ) → list_all is_hash hashes ≡ true → all_ascii hashes ≡ true
hashes_ascii [] each = refl
hashes_ascii (c ∷ hashes) each =
    let parts = and_parts _ _ each in
    let is : c ≡ 35 = eqb-true c 35 parts.0 in
    rw is (hashes_ascii hashes parts.1)

pub clear_raw : (hashes : List ℕ) → Clear (closed_raw_body hashes)
clear_raw hashes = (assumption, assumption, refl, or_left _ _ (or_left _ _ (begins_self (34 ∷ hashes))))

-- The scripts of a name, character by character.
use Rattle.std.proofs.Common.{◌≡◌, ◌↔◌, ◌∙◌, ◌++◌, ℕ, Bool, true, false, not, List, [], ◌∷◌, Option, IsTrue, ap, codes}
use Rattle.std.proofs.Common.{encode_utf8, if◌then◌else◌, length, refl, sym}
use Rattle.std.proofs.lemmas.Bool.Decides.{same_from_decides}
use Rattle.std.proofs.lemmas.Slice.Eq.{bytes_eq-Decides}
use Rattle.unicode_normalization.specs.Forms.{IsInForm, Nfc, is_nfc, nfc}
use Rattle.rust_check.specs.LineEnds.{odd}
use Rattle.rust_check.specs.Message.{Found}
use Rattle.rust_check.specs.NameForms.{is_other}
use Rattle.rust_check.specs.Telling.{Tells}
use Rattle.rust_check.specs.declared.finding.TextPosition.{TextPosition}
use Rattle.rust_check.specs.declared.options.Form.{Form}
use Rattle.rust_check.proofs.ReportLemmas.{tells_more, tells_same}
use Rattle.std.specs.Str.{chars, IsUtf8}
use Rattle.std.proofs.lemmas.List.{nil_from_length}
use Rattle.std.proofs.lemmas.Str.{chars-nil, chars_past_char, IsUtf8-past_char}
use Rattle.ucd_script.specs.Script.{script}
use Rattle.rust_check.specs.Names.{all_written, found_in_name, is_mixed, written_with}
use Rattle.rust_check.specs.declared.names.Writing.{Writing}
use Rattle.rust_check.specs.declared.names.Writing.TheVariants.{Open}

-- the scripts so far, with the characters that are left, give the scripts of the whole name
pub record IsWritten (name rest : List ℕ) (writing : Writing) : Type 0 where
  pub utf8 : IsUtf8 rest
  pub all : all_written writing (chars rest) ≡ all_written Open (chars name)

pub written_start : (name : List ℕ) → IsUtf8 name → IsWritten name name Open
written_start name utf8 = record { utf8 = utf8; all = refl }

pub written_one : (name rest more : List ℕ) (writing after : Writing) (c : ℕ) → IsWritten name rest writing
    → rest ≡ encode_utf8 c ++ more → after ≡ written_with writing (script c) → IsWritten name more after
written_one name rest more writing after c so split step = record {
  utf8 = IsUtf8-past_char rest more c so.utf8 split;
  all = ap (λ w. all_written w (chars more)) step
      ∙ (ap (all_written writing) (sym (chars_past_char rest more c so.utf8 split)) ∙ so.all);
}

pub written_end : (name rest : List ℕ) (writing : Writing) → IsWritten name rest writing → length rest ≡ 0
    → writing ≡ all_written Open (chars name)
written_end name rest writing so none =
    let nil : chars rest ≡ [] = ap chars (nil_from_length rest none) ∙ chars-nil in
    ap (all_written writing) (sym nil) ∙ so.all

not_cases : {A : Type 0} (b : Bool) (x y : A) → (if not b then x else y) ≡ (if b then y else x)
not_cases true x y = refl
not_cases false x y = refl

-- the three tests of a name together report all that is odd about it
pub name_report : (form : Form) (path : List ℕ) (place : TextPosition) (name text : List ℕ) (good apart other : Bool)
    (first second third : Found) (names : List (List ℕ))
    (old between later new : Option (List ℕ)) (before so_far by_now after : Bool) → (IsTrue good ↔ IsInForm Nfc name)
    → apart ≡ is_mixed name → other ≡ is_other name names
    → first ≡ odd (codes "name-not-in-nfc") (codes "a name that is not in the form NFC") text place
    → second ≡ odd (codes "name-of-mixed-scripts") (codes "a name of scripts that are not written together") text place
    → third ≡ odd (codes "name-like-another") (codes "a name that the form NFKC makes one with a name before it") text
    place
    → Tells form path (if not good then first ∷ [] else []) old between before so_far
    → Tells form path (if apart then second ∷ [] else []) between later so_far by_now
    → Tells form path (if other then third ∷ [] else []) later new by_now after
    → Tells form path (found_in_name place names name text) old new before after
name_report form path place name text good apart other first second third names old between later new before so_far
    by_now
    after answer parts likes one two three report mixed like =
    let same : good ≡ is_nfc name = same_from_decides good (is_nfc name) answer (bytes_eq-Decides (nfc name) name) in
    let front : (if not good then first ∷ [] else [])
    ≡ (if is_nfc name then []
    else odd (codes "name-not-in-nfc") (codes "a name that is not in the form NFC") text place ∷ []) =
    not_cases good (first ∷ []) []
    ∙ (ap (λ b. if b then [] else first ∷ []) same ∙ ap (λ x. if is_nfc name then [] else x ∷ []) one) in
    let back : (if apart then second ∷ [] else [])
    ≡ (if is_mixed name
    then odd (codes "name-of-mixed-scripts") (codes "a name of scripts that are not written together") text place ∷ []
    else []) =
    ap (λ b. if b then second ∷ [] else []) parts ∙ ap (λ x. if is_mixed name then x ∷ [] else []) two in
    let last : (if other then third ∷ [] else [])
    ≡ (if is_other name names
    then odd (codes "name-like-another") (codes "a name that the form NFKC makes one with a name before it") text
    place ∷ []
    else []) =
    ap (λ b. if b then third ∷ [] else []) likes ∙ ap (λ x. if is_other name names then x ∷ [] else []) three in
    tells_more form path _ _ old between new before so_far after
    (tells_same form path _ _ old between before so_far front report)
    (tells_more form path _ _ between later new so_far by_now after
    (tells_same form path _ _ between later so_far by_now back mixed)
    (tells_same form path _ _ later new by_now after last like))

-- The one sort of reason that can hold of a text. All errors of contents are of one sort.
use Rattle.std.proofs.Common.{◌≡◌, ℕ, Bool, true, false, ◌==◌, ◌||◌, cond, List, [], ◌∷◌, ◌++◌, codes, Some, None}
use Rattle.std.proofs.Common.{inl, inr, refl, sym, ap, ◌∙◌, ◌⊎◌}
use Rattle.std.specs.Prelude.{is_some}
use Rattle.std.specs.Char.{is_ascii_digit}
use Rattle.std.proofs.lemmas.Bool.{cond-true, true_from_ne_false}
use Rattle.lexical.specs.Class.{is_ident_continue}
use Rattle.lexical.specs.Comment.{comment}
use Rattle.lexical.specs.Finder.{Answer}
use Rattle.lexical.specs.Form.{HasNone}
use Rattle.lexical.specs.Identifier.{name}
use Rattle.lexical.specs.Number.{integer}
use Rattle.lexical.specs.Quoted.{front as string_front}
use Rattle.lexical.specs.RawString.{raw_front}
use Rattle.lexical.specs.Rule.{Rule, One, Run, Exactly, Then, Either, Stands, find}
use Rattle.lexical.specs.declared.bytes.Base.TheVariants.{Binary, Octal, Hexadecimal}
use Rattle.lexical.specs.declared.quoted.StringKind.{StringKind}
use Rattle.lexical.specs.declared.quoted.StringKind.TheVariants.{Plain, Byte, C}
use Rattle.lexical.proofs.FinderLemmas.{none_is}
use Rattle.lexical.proofs.RuleLemmas.{Clear, exact, none_found}
use Rattle.literal_escaper.specs.declared.errors.EscapeError.{EscapeError}
use Rattle.literal_escaper.specs.declared.errors.EscapeError.TheVariants.{ZeroChars}
use Rattle.explain.specs.Shapes.{bare_prefix, closed_raw, closed_single, closed_string, digit_lifetime}
use Rattle.explain.specs.Shapes.{long_opening, raw_lifetime_start, raw_name_start, raw_opening, single_opening}
use Rattle.explain.specs.declared.reason.Reason.{Reason}
use Rattle.explain.specs.declared.reason.Reason.TheVariants as reasons

-- ---- the beginning of a text

-- how a text begins: with a comment, a string or a raw string of some kind, a byte, a quote, a number, U+FEFF, or with
-- none of these
pub data Front : Type 0 where
  Slash : Front
  Quotes : StringKind → Front
  Letters : StringKind → Front
  Bytes : Front
  Lone : Front
  Digits : Front
  Misplaced : Front
  Other : Front

-- how a text begins, by what follows its `b`
abbrev pub after_b : List ℕ → Front
after_b [] = Other
after_b (d ∷ text) =
    cond (d == 34) (Quotes Byte) (cond (d == 39) Bytes (cond (d == 114) (Letters Byte) Other))

-- how a text begins, by what follows its `c`
abbrev pub after_c : List ℕ → Front
after_c [] = Other
after_c (d ∷ text) = cond (d == 34) (Quotes C) (cond (d == 114) (Letters C) Other)

abbrev pub front_of : List ℕ → Front
front_of [] = Other
front_of (c ∷ text) =
    cond (is_ascii_digit c) Digits
    (cond (c == 47) Slash
    (cond (c == 34) (Quotes Plain)
    (cond (c == 39) Lone
    (cond (c == 98) (after_b text)
    (cond (c == 99) (after_c text)
    (cond (c == 114) (Letters Plain)
    (cond (c == 0xFEFF) Misplaced Other)))))))

-- ---- the sort of reason that is left

-- whether the rule has a match at the start of the text
abbrev pub has : Rule → List ℕ → Bool
has rule text = is_some (find rule text)

-- the prefix of a base without digits
abbrev pub bare : Rule
bare = Either (bare_prefix Binary) (Either (bare_prefix Octal) (bare_prefix Hexadecimal))

-- a character literal that is closed, with a raw name between its quotes, a name, or a word that begins with a digit
abbrev pub raw_named : Rule
raw_named = Then (Exactly (codes "'r#")) (Then name (Exactly (codes "'")))

abbrev pub plain_named : Rule
plain_named = Then (Exactly (codes "'")) (Then name (Exactly (codes "'")))

abbrev pub digit_named : Rule
digit_named =
    Then (Exactly (codes "'")) (Then (Then (One is_ascii_digit) (Run is_ident_continue)) (Exactly (codes "'")))

-- whether a character literal with a name or a digit between its quotes begins the text
abbrev pub has_named : List ℕ → Bool
has_named text = has raw_named text || (has plain_named text || has digit_named text)

-- the sort of all errors of contents
abbrev pub content : Reason
content = reasons.Content ZeroChars

abbrev pub reason_from : Front → List ℕ → Reason
reason_from Slash text = cond (has comment text) reasons.BareReturnInDoc reasons.UnclosedComment
reason_from (Quotes kind) text = cond (has (closed_string kind) text) content reasons.UnclosedString
reason_from (Letters kind) text =
    cond (has (raw_opening kind) text)
    (cond (has (closed_raw kind) text)
    (cond (has (long_opening kind) text) reasons.TooManyHashes content) reasons.UnclosedRawString)
    (cond (has raw_name_start text) reasons.ReservedRawName reasons.HashesWithoutQuote)
reason_from Bytes text = cond (has closed_single text) content reasons.UnclosedCharacter
reason_from Lone text =
    cond (has single_opening text) (cond (has closed_single text) content reasons.UnclosedCharacter)
    (cond (has_named text) content
    (cond (has digit_lifetime text) reasons.DigitLifetime
    (cond (has raw_lifetime_start text) reasons.ReservedRawName reasons.HashAfterLifetime)))
reason_from Digits text =
    cond (has integer text) reasons.BadNumberEnd (cond (has bare text) reasons.NoDigits reasons.BadDigit)
reason_from Misplaced text = reasons.MisplacedMark
reason_from Other text = reasons.NoToken

abbrev pub main_reason : List ℕ → Reason
main_reason text = reason_from (front_of text) text

-- the sort of a reason, which forgets the error of a content
abbrev pub sort : Reason → Reason
sort (reasons.Content e) = content
sort reason = reason

-- a reason is its own sort, or an error of a content
pub sort_is : (x : Reason) → (x ≡ sort x) ⊎ ((e : EscapeError) × (x ≡ reasons.Content e))
sort_is (reasons.Content e) = inr (e, refl)
sort_is x = inl refl

-- two reasons of one sort are equal, or both are errors of contents
pub one_sort : (x y : Reason) → sort x ≡ sort y
    → (x ≡ y) ⊎ ((e : EscapeError) × (o : EscapeError) × (x ≡ reasons.Content e) × (y ≡ reasons.Content o))
one_sort x y same = elim (sort_is x) [
  | inl here ↦ elim (sort_is y) [
    | inl there ↦ inl (here ∙ (same ∙ sym there))
    | inr there ↦ inr (ZeroChars, there.0, here ∙ (same ∙ ap sort there.1), there.1)
  ]
  | inr here ↦ elim (sort_is y) [
    | inl there ↦ inr (here.0, ZeroChars, here.1, there ∙ (sym same ∙ ap sort here.1))
    | inr there ↦ inr (here.0, there.0, here.1, there.1)
  ]
]

-- ---- whether a rule has a match

pub stands_has : (rule : Rule) → Clear rule → (text p r : List ℕ) → text ≡ p ++ r → Stands rule p r
    → has rule text ≡ true
stands_has rule clear text p r e is = ap is_some (ap (find rule) e ∙ (exact rule clear).complete p r is)

pub lacks_has : (rule : Rule) → Clear rule → (text : List ℕ) → HasNone (Stands rule) text → has rule text ≡ false
lacks_has rule clear text none = ap is_some (none_found rule clear text none)

none_of : (o : Answer) → is_some o ≡ false → o ≡ None
none_of None e = refl
none_of (Some x) e = absurd (cc)

pub not_lacks_has : (rule : Rule) → Clear rule → (text : List ℕ) → (HasNone (Stands rule) text → ⊥)
    → has rule text ≡ true
not_lacks_has rule clear text some = true_from_ne_false _ (λ e.
    some (none_is (find rule) (Stands rule) (exact rule clear) text (none_of (find rule text) e)))

-- ---- the sort of reason for each beginning

module _ (text : List ℕ) (s : Front) (from : front_of text ≡ s) where
  pub by_front : main_reason text ≡ reason_from s text
  by_front = ap (λ s. reason_from s text) from

pub quotes_front : (kind : StringKind) (text rest : List ℕ) → text ≡ string_front kind ++ rest
    → front_of text ≡ Quotes kind
quotes_front Plain text rest e = ap front_of e
quotes_front Byte text rest e = ap front_of e
quotes_front C text rest e = ap front_of e

pub letters_front : (kind : StringKind) (text rest : List ℕ) → text ≡ raw_front kind ++ rest
    → front_of text ≡ Letters kind
letters_front Plain text rest e = ap front_of e
letters_front Byte text rest e = ap front_of e
letters_front C text rest e = ap front_of e

pub digits_front : (c : ℕ) (text rest : List ℕ) → text ≡ c ∷ rest → is_ascii_digit c ≡ true
    → front_of text ≡ Digits
digits_front c text rest e digit = ap front_of e ∙ cond-true _ _ _ digit

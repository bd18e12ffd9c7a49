-- The finder of literals between quotes.
use Rattle.std.proofs.Common.{◌≡◌, ℕ, true, ◌||◌, ◌==◌, List, ◌∷◌, ◌++◌, codes, inl, inr, refl, ap, ◌∙◌}
use Rattle.std.specs.List.{list_all}
use Rattle.std.specs.Str.{chars}
use Rattle.std.proofs.lemmas.Bool.{and_from, or_left}
use Rattle.lexical.specs.Quoted.{is_code_digit, code_digits, unit, Str, body, cooked_string}
use Rattle.lexical.specs.Literal.{string, quoted_literal, QuotedLiteral}
use Rattle.lexical.specs.RawString.{may_stand_raw, raw_unit, raw_string}
use Rattle.lexical.specs.SingleQuoted.{character, byte}
use Rattle.lexical.specs.Finder.{Finds}
use Rattle.lexical.specs.Rule.{Stands, find}
use Rattle.lexical.specs.RuleMatch.{Passes}
use Rattle.lexical.specs.declared.cursor.TextCursor.{TextCursor}
use Rattle.lexical.specs.declared.quoted.StringKind.{StringKind}
use Rattle.lexical.specs.declared.quoted.StringKind.TheVariants as kinds
use Rattle.lexical.proofs.TextLemmas.{begins_self}
use Rattle.lexical.proofs.RuleLemmas.{Clear, exact, apart}
use Rattle.lexical.proofs.RuleSteps.{passes_piece}

-- ---- escapes

-- the code of a character has digits and `_` only
pub digits_whole : (at to : TextCursor) (h : Passes code_digits at to)
    → chars at.rest.now ≡ h.front ++ chars to.rest.now
digits_whole at to h = (passes_piece code_digits (assumption) at to h).0

pub digits_all : (at to : TextCursor) (h : Passes code_digits at to) → list_all is_code_digit h.front ≡ true
digits_all at to h =
    let is = (passes_piece code_digits (assumption) at to h).1 in
    let all : list_all is_code_digit (is.first.0 ∷ is.back) ≡ true =
    and_from _ _ (ap (λ b. b || (is.first.0 == 95)) is.first.2) is.second.each in
    ap (list_all is_code_digit) (is.whole ∙ ap (λ x. x ++ is.back) is.first.1) ∙ all

-- a statement about each of the three kinds of strings holds for all kinds
pub each_kind : (P : StringKind → Type 0) → P kinds.Plain → P kinds.Byte → P kinds.C → (kind : StringKind) → P kind
each_kind P plain bytes c kinds.Plain = plain
each_kind P plain bytes c kinds.Byte = bytes
each_kind P plain bytes c kinds.C = c

-- ---- strings

pub clear_body : (kind : StringKind) → Clear (body (unit kind) (codes "\""))
clear_body = each_kind (λ k. Clear (body (unit k) (codes "\""))) (assumption) (assumption) (assumption)

-- the text that closes a raw string does not begin at one of its units
pub clear_raw_body : (kind : StringKind) (text : List ℕ) → Clear (body (raw_unit (may_stand_raw kind) text) text)
clear_raw_body kind text = (
  each_kind (λ k. Clear (raw_unit (may_stand_raw k) text)) (assumption) (assumption) (assumption) kind,
  assumption,
  refl,
  or_left _ _ (or_left _ _ (begins_self text)),
)

clear_string : (kind : StringKind) → Clear (string kind)
clear_string kind = (
  (tt, clear_body kind),
  (tt, (tt, λ hashes. (tt, clear_raw_body kind (34 ∷ hashes)))),
  each_kind (λ k. apart (cooked_string k) (raw_string k) ≡ true) refl refl refl kind,
)

-- ---- all literals between quotes

pub clear_quoted : Clear quoted_literal
clear_quoted = assumption (clear_string kinds.Plain, clear_string kinds.Byte, clear_string kinds.C)

pub finds_quoted : Finds (find quoted_literal) QuotedLiteral
unfolding Str
finds_quoted = exact quoted_literal clear_quoted

-- a literal between quotes is a string of some kind, a character or a byte
module _ (P : Type 0) (p r : List ℕ) (text : (kind : StringKind) → Stands (cooked_string kind) p r → P)
    (raw : (kind : StringKind) → Stands (raw_string kind) p r → P) (one : Stands character p r → P)
    (single : Stands byte p r → P) where
  string_cases : (kind : StringKind) → Stands (string kind) p r → P
  string_cases kind (inl is) = text kind is
  string_cases kind (inr is) = raw kind is

  pub quoted_cases : QuotedLiteral p r → P
  unfolding Str
  quoted_cases (inl is) = string_cases kinds.Plain is
  quoted_cases (inr (inl is)) = one is
  quoted_cases (inr (inr (inl is))) = string_cases kinds.Byte is
  quoted_cases (inr (inr (inr (inl is)))) = single is
  quoted_cases (inr (inr (inr (inr is)))) = string_cases kinds.C is

-- The finder of literals, and how literals begin.
use Rattle.std.proofs.Common.{◌≡◌, ℕ, Bool, true, false, not, ◌==◌, ◌⊎◌, List, [], ◌∷◌, ◌++◌, codes, is_some, Some}
use Rattle.std.proofs.Common.{None, refl, sym, ap, ◌∙◌, inl, inr, eqb-true}
use Rattle.std.specs.List.{list_all, AllByRecursion}
use Rattle.std.proofs.lemmas.Bool.{and_parts, and_right, cond-false, cond_both, or_from}
use Rattle.unicode_ident.proofs.Computing.{unicode_ident}
use Rattle.lexical.specs.Class.{is_ident_start, is_ident_continue}
use Rattle.lexical.specs.Text.{begins_with, begins_any, first_passes}
use Rattle.lexical.specs.Identifier.{literal_prefixes}
use Rattle.lexical.specs.Mark.{LoneQuote, bars_quote, follows_quote, name_after_quote}
use Rattle.lexical.specs.Number.{number}
use Rattle.lexical.specs.Literal.{quoted_literal, QuotedLiteral, Literal}
use Rattle.lexical.specs.Quoted.{is_one_of, Str, cooked_string}
use Rattle.lexical.specs.RawString.{may_stand_raw, raw_front, raw_string, Raw}
use Rattle.lexical.specs.Rule.{Rule, Either, Stands, find}
use Rattle.lexical.specs.SingleQuoted.{byte, Character}
use Rattle.lexical.specs.Finder.{Answer, Finds, and_find, find_run, if_passes}
use Rattle.lexical.specs.PieceFinder.{find_literal, find_lone_quote, piece_start}
use Rattle.lexical.specs.declared.class.PieceStart.TheVariants as starts
use Rattle.lexical.specs.declared.quoted.StringKind.{StringKind}
use Rattle.lexical.specs.declared.quoted.StringKind.TheVariants as kinds
use Rattle.lexical.proofs.TextLemmas.{begins_each, any_begins_more, any_first, first_cons}
use Rattle.lexical.proofs.WordLemmas.{Disjoint, front_whole}
use Rattle.lexical.proofs.CommentKindLemmas.{front_is}
use Rattle.lexical.proofs.NameFinderLemmas.{finds_lone_quote}
use Rattle.lexical.proofs.RuleLemmas.{exact, begins, begins_one, first_one}
use Rattle.lexical.proofs.QuotedFinderLemmas.{each_kind, clear_quoted, quoted_cases}
use Rattle.lexical.proofs.NumberFinderLemmas.{clear_number, number_first}
use Rattle.lexical.proofs.ClassLemmas.{start_letter, sub_digits}

pub finds_literal : Finds find_literal Literal
unfolding Literal Str number find
finds_literal = exact (Either quoted_literal number) (clear_quoted, clear_number, refl)

-- ---- how a literal begins

-- whether the text begins with a letter and a literal prefix
pub record StartsLetter (text : List ℕ) : Type 0 where
  pub first : ℕ
  pub rest : List ℕ
  pub whole : text ≡ first ∷ rest
  pub starts : piece_start first ≡ starts.Letter
  pub prefixed : begins_any literal_prefixes text ≡ true

prefixed_starts : (text : List ℕ) → begins_any literal_prefixes text ≡ true → StartsLetter text
unfolding unicode_ident
prefixed_starts text h =
    let at = first_cons is_ident_start text (any_first is_ident_start literal_prefixes text refl h) in
    record { first = at.0; rest = at.1; whole = at.2; starts = start_letter at.0 at.3; prefixed = h }

rule_starts : (rule : Rule) → begins (begins_any literal_prefixes) rule ≡ true → (p r : List ℕ) → Stands rule p r
    → StartsLetter (p ++ r)
rule_starts rule h p r is = prefixed_starts (p ++ r)
    (any_begins_more literal_prefixes p r (begins_one literal_prefixes rule h p r is))

-- a raw string is its opening letters, hash signs, a quote and more
pub raw_text : (front : List ℕ) (allowed : ℕ → Bool) (p r : List ℕ) → Raw front allowed p r
    → (hashes : List ℕ) × (tail : List ℕ) × (p ≡ front ++ (hashes ++ (34 ∷ tail)))
    × (list_all (λ c. c == 35) hashes ≡ true)
raw_text front allowed p r h =
    let inner = h.second in
    let quotes = inner.second in
    let tail = inner.whole ∙ ap (λ x. inner.front ++ x) (front_is quotes) in
    (inner.front, quotes.back, front_is h ∙ ap (λ x. front ++ x) tail, inner.first.0.each)

-- the texts that can follow the opening letters of a raw string
abbrev pub raw_fronts : List (List ℕ)
raw_fronts = codes "\"" ∷ codes "#\"" ∷ codes "##" ∷ []

pub hashes_begin : (hashes tail : List ℕ) → list_all (λ c. c == 35) hashes ≡ true
    → begins_any raw_fronts (hashes ++ (34 ∷ tail)) ≡ true
hashes_begin [] tail each = refl
hashes_begin (c ∷ []) tail each = rw (eqb-true c 35 (and_parts _ _ each).0) refl
hashes_begin (c ∷ d ∷ hashes) tail each =
    let parts = and_parts _ _ each in
    rw (eqb-true c 35 parts.0, eqb-true d 35 (and_parts _ _ parts.1).0) refl

raw_prefixed : (kind : StringKind) (text : List ℕ) → begins_any raw_fronts text ≡ true
    → begins_any literal_prefixes (raw_front kind ++ text) ≡ true
raw_prefixed kind text h =
    begins_each (λ t. begins_any literal_prefixes (raw_front kind ++ t) ≡ true) raw_fronts text h
    (each_kind (λ k. AllByRecursion
    (λ f. (rest : List ℕ) → begins_any literal_prefixes (raw_front k ++ (f ++ rest)) ≡ true) raw_fronts)
    (assumption) (assumption) (assumption) kind)

raw_starts : (kind : StringKind) (p r : List ℕ) → Stands (raw_string kind) p r → StartsLetter (p ++ r)
raw_starts kind p r h =
    let at = raw_text (raw_front kind) (may_stand_raw kind) p r h in
    prefixed_starts (p ++ r) (any_begins_more literal_prefixes p r
    (ap (begins_any literal_prefixes) at.2 ∙ raw_prefixed kind (at.0 ++ (34 ∷ at.1)) (hashes_begin at.0 at.1 at.3)))

-- whether the piece begins with one of the characters
abbrev pub BeginsWithOne : List ℕ → List ℕ → Type 0
BeginsWithOne characters p = (c : ℕ) × (q : List ℕ) × (p ≡ c ∷ q) × (is_one_of characters c ≡ true)

-- the characters with which literals begin
abbrev pub literal_fronts : List ℕ
literal_fronts = codes "\"'bcr0123456789"

pub literal_front : (p r : List ℕ) → Literal p r → BeginsWithOne literal_fronts p
unfolding Literal Str
literal_front p r h = elim h [
  | inl quoted ↦ first_one (is_one_of literal_fronts) quoted_literal refl p r quoted
  | inr number ↦
      let at = number_first p r number in
      (at.0, at.1, at.2, sub_digits (is_one_of literal_fronts) refl at.0 at.3)
]

-- whether a literal between quotes begins with `"`, as a character literal, or with a letter
abbrev pub QuotedStarts : List ℕ → List ℕ → Type 0
QuotedStarts p r = ((rest : List ℕ) × (p ++ r ≡ 34 ∷ rest)) ⊎ (Character p r ⊎ StartsLetter (p ++ r))

pub quoted_starts : (p r : List ℕ) → QuotedLiteral p r → QuotedStarts p r
quoted_starts p r =
    quoted_cases (QuotedStarts p r) p r
    (each_kind (λ k. Stands (cooked_string k) p r → QuotedStarts p r)
    (λ is. inl (is.back ++ r, front_whole (codes "\"") _ p r is))
    (λ is. inr (inr (rule_starts (cooked_string kinds.Byte) refl p r is)))
    (λ is. inr (inr (rule_starts (cooked_string kinds.C) refl p r is))))
    (λ kind is. inr (inr (raw_starts kind p r is)))
    (λ is. inr (inl is))
    (λ is. inr (inr (rule_starts byte refl p r is)))

-- ---- a lone quote begins no character literal

quote_bars : (c : ℕ) (tail : List ℕ) → follows_quote (c ∷ 39 ∷ tail) ≡ false
unfolding unicode_ident find
quote_bars c tail =
    let plain : begins_with (codes "r#") (c ∷ 39 ∷ tail) ≡ false = and_right (114 == c) _ refl in
    let follows : Answer → Bool = λ o. is_some (if_passes (λ p r. not (first_passes (bars_quote false) r)) o) in
    ap (λ raw. is_some (find (name_after_quote raw) (c ∷ 39 ∷ tail))) plain
    ∙ (ap follows (cond-false _ _ _ (or_from _ _ plain refl))
    ∙ cond_both (is_ident_start c) (Some (c ∷ [], 39 ∷ tail)) None
    (λ o. follows (and_find (find_run is_ident_continue) o) ≡ false) (λ e. refl) (λ e. refl))

escape_bars : (tail : List ℕ) → find_lone_quote (39 ∷ 92 ∷ tail) ≡ None
unfolding unicode_ident find
escape_bars tail = refl

-- a character literal has a backslash after its first quote, or one character and a quote
no_lone_quote : (p r : List ℕ) → Character p r → find_lone_quote (p ++ r) ≡ None
unfolding unicode_ident find
no_lone_quote p r h =
    let unit = h.second in
    let close = unit.second in
    elim unit.first [
      | inl one ↦ rw (h.whole, h.first, unit.whole, one.1, close.whole, close.first)
          (cond-false _ _ _ (quote_bars one.0 (close.back ++ r)))
      | inr escape ↦ rw (h.whole, h.first, unit.whole, escape.whole, escape.first)
          (escape_bars ((escape.back ++ unit.back) ++ r))
    ]

pub quote_apart : Disjoint LoneQuote Character
quote_apart p q r s quote character e =
    let clash : ◌≡◌ {A = Answer} (Some (p, r)) None =
    sym (finds_lone_quote.complete p r quote) ∙ (ap find_lone_quote e ∙ no_lone_quote q s character) in
    cc

-- Which literals may follow a lone quote.
use Rattle.std.proofs.Common.{◌≡◌, ℕ, true, false, List, ◌∷◌, ◌++◌, codes, refl, sym, ap, ◌∙◌, inl, inr}
use Rattle.std.specs.List.{AllByRecursion}
use Rattle.std.specs.Char.{is_ascii_digit}
use Rattle.std.proofs.lemmas.Bool.{both_ways, false_from_ne_true}
use Rattle.unicode_ident.proofs.Computing.{unicode_ident}
use Rattle.lexical.specs.Class.{is_ident_start}
use Rattle.lexical.specs.Text.{begins_any, first_passes}
use Rattle.lexical.specs.Form.{Form, Then, Exactly}
use Rattle.lexical.specs.Mark.{FollowsQuote, follows_quote, quotable_fronts}
use Rattle.lexical.specs.Quoted.{cooked_string}
use Rattle.lexical.specs.RawString.{may_stand_raw, raw_front, raw_string}
use Rattle.lexical.specs.Rule.{Stands, find}
use Rattle.lexical.specs.Literal.{QuotedLiteral, Literal, AnyLiteral}
use Rattle.lexical.specs.declared.class.PieceStart.TheVariants as starts
use Rattle.lexical.specs.declared.quoted.StringKind.{StringKind}
use Rattle.lexical.specs.declared.quoted.StringKind.TheVariants as kinds
use Rattle.lexical.proofs.TextLemmas.{begins_each}
use Rattle.lexical.proofs.WordLemmas.{front_whole}
use Rattle.lexical.proofs.NameFinderLemmas.{follows_sound, follows_complete}
use Rattle.lexical.proofs.RuleLemmas.{begins_one}
use Rattle.lexical.proofs.QuotedFinderLemmas.{each_kind, quoted_cases}
use Rattle.lexical.proofs.NumberFinderLemmas.{number_first}
use Rattle.lexical.proofs.LiteralFinderLemmas.{raw_text, raw_fronts, hashes_begin}
use Rattle.lexical.proofs.ClassLemmas.{start_letter, start_digit}
use Rattle.grammar_laws.proofs.NameLemmas.{follows_start}

-- ---- these literals may

-- a text with one of the five prefixes may follow a lone quote, whatever follows the prefix
pub prefixed_follows : (p r : List ℕ) → begins_any quotable_fronts p ≡ true → FollowsQuote (p ++ r)
unfolding unicode_ident find
prefixed_follows p r h =
    begins_each (λ t. FollowsQuote (t ++ r)) quotable_fronts p h (
      λ t. follows_sound _ refl,
      (
        λ t. follows_sound _ refl,
        (λ t. follows_sound _ refl, (λ t. follows_sound _ refl, (λ t. follows_sound _ refl, tt))),
      ),
    )

-- ---- no other literals may

not_followed : {A : Type 0} (text : List ℕ) → follows_quote text ≡ false → FollowsQuote text → A
not_followed text out h = absurd (both_ways _ out (follows_complete text h))

-- a text whose first character begins no identifier may not follow a lone quote
no_start : (c : ℕ) (text rest : List ℕ) → text ≡ c ∷ rest → is_ident_start c ≡ false → FollowsQuote text → ⊥
no_start c text rest e out h = both_ways (is_ident_start c) out
    (sym (ap (first_passes is_ident_start) e) ∙ follows_start text h)

-- whether the piece begins with one of the five prefixes, if it may follow a lone quote
abbrev Quotable : List ℕ → List ℕ → Type 0
Quotable p r = FollowsQuote (p ++ r) → begins_any quotable_fronts p ≡ true

front_bars : (front : List ℕ) (A : Form) (p r : List ℕ) → Then (Exactly front) A p r
    → ((tail : List ℕ) → follows_quote (front ++ tail) ≡ false) → Quotable p r
front_bars front A p r h out follows =
    (not_followed (p ++ r) (ap follows_quote (front_whole front A p r h) ∙ out (h.back ++ r)) follows)

-- a raw string may follow a lone quote only if it has no hash signs
raw_quotable : (kind : StringKind) (p r : List ℕ) → Stands (raw_string kind) p r → Quotable p r
unfolding unicode_ident find
raw_quotable kind p r h =
    let at = raw_text (raw_front kind) (may_stand_raw kind) p r h in
    rw at.2 (begins_each (λ t. Quotable (raw_front kind ++ t) r) raw_fronts (at.0 ++ (34 ∷ at.1))
    (hashes_begin at.0 at.1 at.3)
    (each_kind (λ k. AllByRecursion (λ f. (tail : List ℕ) → Quotable (raw_front k ++ (f ++ tail)) r) raw_fronts)
    (λ t no. refl, (λ t. not_followed _ refl, (λ t. not_followed _ refl, tt)))
    (λ t no. refl, (λ t. not_followed _ refl, (λ t. not_followed _ refl, tt)))
    (λ t no. refl, (λ t. not_followed _ refl, (λ t. not_followed _ refl, tt))) kind))

between_quotes : (p r : List ℕ) → QuotedLiteral p r → Quotable p r
unfolding unicode_ident find
between_quotes p r =
    quoted_cases (Quotable p r) p r
    (each_kind (λ k. Stands (cooked_string k) p r → Quotable p r) (λ is. front_bars (codes "\"") _ p r is (λ t. refl))
    (λ is no. begins_one quotable_fronts (cooked_string kinds.Byte) refl p r is)
    (λ is no. begins_one quotable_fronts (cooked_string kinds.C) refl p r is))
    (λ kind. raw_quotable kind p r)
    (λ is. front_bars (codes "'") _ p r is (λ t. refl))
    (λ is. front_bars (codes "b'") _ p r is (λ t. refl))

-- a digit begins no identifier
digit_no_start : (c : ℕ) → is_ascii_digit c ≡ true → is_ident_start c ≡ false
digit_no_start c digit = false_from_ne_true _ (λ letter.
    let clash : starts.Letter ≡ starts.Digit = sym (start_letter c letter) ∙ start_digit c digit in
    cc)

-- a literal that may follow a lone quote begins with one of the five prefixes
pub literal_quoted : (p r : List ℕ) → AnyLiteral p r → FollowsQuote (p ++ r) → begins_any quotable_fronts p ≡ true
unfolding Literal unicode_ident
literal_quoted p r (inl literal) follows = elim literal [
  | inl quoted ↦ between_quotes p r quoted follows
  | inr number ↦
      let at = number_first p r number in
      absurd (no_start at.0 (p ++ r) (at.1 ++ r) (ap (λ x. x ++ r) at.2) (digit_no_start at.0 at.3) follows)
]
literal_quoted p r (inr error) follows =
    absurd (no_start 40 (p ++ r) (codes "/*ERROR*/)" ++ r) (ap (λ x. x ++ r) error) refl follows)

-- Identifiers and marks, for the laws of texts.
use Rattle.std.proofs.Common.{◌≡◌, ℕ, Bool, true, false, not, ◌==◌, ◌⊎◌, List, [], ◌∷◌, ◌++◌, Some, None, IsTrue, inl}
use Rattle.std.proofs.Common.{inr, codes, refl, sym, ap, ◌∙◌}
use Rattle.std.specs.List.{list_any}
use Rattle.std.proofs.lemmas.Bool.{both_ways, and_left, not-true}
use Rattle.lexical.specs.Class.{is_ident_start, is_ident_continue}
use Rattle.lexical.specs.Text.{begins_with, begins_any, first_passes}
use Rattle.lexical.specs.Token.{Name, Literal, raw_front}
use Rattle.lexical.specs.Identifier as identifiers
use Rattle.lexical.specs.Identifier.{Named, Identifier, identifier, literal_prefixes, is_allowed}
use Rattle.lexical.specs.Mark as marks
use Rattle.lexical.specs.Mark.{is_mark, comment_fronts, joint_before, bars_quote, FollowsQuote}
use Rattle.lexical.specs.Piece.{Kind, Leaf, IsPiece}
use Rattle.lexical.specs.Rule.{find}
use Rattle.lexical.specs.Literal.{quoted_literal}
use Rattle.lexical.specs.PieceFinder.{Found, literal_kind, name_kind, and_kind, or_found, found_identifier}
use Rattle.lexical.specs.PieceFinder.{found_literal}
use Rattle.lexical.specs.Finder.{Answer}
use Rattle.lexical.proofs.TextLemmas.{any_cut}
use Rattle.lexical.proofs.ClassLemmas.{any_of}
use Rattle.lexical.proofs.QuotedLemmas.{stops, stop_ends, stop_out}
use Rattle.lexical.proofs.NameFinderLemmas.{named_start, follows_at, follows_complete}
use Rattle.lexical.proofs.PieceLemmas.{letter_start, found_complete}
use Rattle.grammar_laws.proofs.StableLemmas.{stable}

-- ---- stops

-- whether the character is no stop
abbrev goes_on : ℕ → Bool
goes_on c = not (list_any (λ d. d == c) (codes " \n)]}"))

stop_first : (s : List ℕ) → stops s ≡ true → first_passes goes_on s ≡ false
stop_first s = stop_out goes_on s refl

-- ---- identifiers before another text

-- a name stays a name before each text that does not continue it
pub name_before : (p r s : List ℕ) → first_passes is_ident_continue s ≡ false → identifiers.Name p r
    → identifiers.Name p s
name_before p r s ends h = stable is_ident_continue identifiers.name (tt, λ c is. is) p [] r s ends h

-- the name of an identifier is a name at the end of the text too, and is allowed
pub identifier_alone : (raw : Bool) (name r : List ℕ) → Identifier raw name r
    → identifiers.Name name [] × IsTrue (is_allowed raw name)
identifier_alone true name r h = (name_before name r [] refl h.0.0, h.0.1)
identifier_alone false name r h = (name_before name r [] refl h.0.0, refl)

-- an identifier stays an identifier before each stop, even if a literal begins there
pub named_before_stop : (raw : Bool) (name r s : List ℕ) → stops s ≡ true → Named raw name r → Named raw name s
named_before_stop true name r s e h = (name_before name r s (stop_ends s e).continue h.0, h.1)
named_before_stop false name r s e h = (
  name_before name r s (stop_ends s e).continue h.0,
  any_cut goes_on (codes "r#" ∷ []) name r s refl (stop_first s e) h.1,
)

-- an identifier stays an identifier before each stop, if no literal begins there
pub identifier_before_stop : (raw : Bool) (name r s : List ℕ) → stops s ≡ true → Identifier raw name r
    → Identifier raw name s
identifier_before_stop true name r s e h = (
  named_before_stop true name r s e h.0,
  any_cut goes_on literal_prefixes (codes "r#" ++ name) r s refl (stop_first s e) h.1,
)
identifier_before_stop false name r s e h =
    (named_before_stop false name r s e h.0, any_cut goes_on literal_prefixes name r s refl (stop_first s e) h.1)

-- ---- lone quotes

-- no stop forbids a `'` before the identifier
pub stop_unbarred : (raw : Bool) (s : List ℕ) → stops s ≡ true → first_passes (bars_quote raw) s ≡ false
stop_unbarred true s = stop_out (bars_quote true) s refl
stop_unbarred false s = stop_out (bars_quote false) s refl

-- if a lone quote is before an identifier, no character that forbids it follows the identifier
pub quote_unbarred : (raw : Bool) (name r : List ℕ) → Named raw name r
    → FollowsQuote (raw_front raw ++ (name ++ r)) → first_passes (bars_quote raw) r ≡ false
quote_unbarred raw name r h follows =
    not-true _ (sym (follows_at raw name r h) ∙ follows_complete (raw_front raw ++ (name ++ r)) follows)

-- the text after a lone quote begins with a character that may begin an identifier
pub follows_start : (r : List ℕ) → FollowsQuote r → first_passes is_ident_start r ≡ true
follows_start r h = ap (first_passes is_ident_start) h.whole ∙ named_start h.raw h.name h.rest h.named

pub follows_something : FollowsQuote [] → ⊥
follows_something h = both_ways _ refl (follows_start [] h)

-- whether the kind is that of an identifier or a literal
abbrev pub IsNameOrLiteral : Kind → Type 0
IsNameOrLiteral kind = ((raw : Bool) × (name : List ℕ) × (kind ≡ Leaf (Name raw name)))
    ⊎ ((text : List ℕ) × (kind ≡ Leaf (Literal text)))

-- an answer with a kind has that kind
pub tagged_is : (kind : List ℕ → List ℕ → Kind) (o : Answer) (k : Kind) (p r : List ℕ)
    → and_kind kind o ≡ Some (k, p, r)
    → (k ≡ kind p r) × (o ≡ Some (p, r))
tagged_is kind None k p r e = absurd (cc)
tagged_is kind (Some x) k p r e =
    let same : ◌≡◌ {A = Kind × List ℕ × List ℕ} (kind x.0 x.1, x.0, x.1) (k, p, r) = cc in
    let piece : x ≡ (p, r) = ap (λ y. (y.1, y.2)) same in
    (sym (ap (λ y. y.0) same) ∙ ap (λ y. kind y.0 y.1) piece, ap Some piece)

-- the piece after a lone quote is an identifier or a literal
pub quote_next : (first : Bool) (k : Kind) (p r : List ℕ) → IsPiece first k p r → FollowsQuote (p ++ r)
    → IsNameOrLiteral k
quote_next first k p r h follows =
    by_cases (found_identifier (p ++ r)) refl
    (sym (letter_start first (p ++ r) (follows_start (p ++ r) follows)) ∙ found_complete first k p r h)
  where
    by_cases : (o : Found) → found_identifier (p ++ r) ≡ o
        → or_found o (found_literal quoted_literal (p ++ r)) ≡ Some (k, p, r) → IsNameOrLiteral k
    by_cases None is e = inr (p, (tagged_is literal_kind (find quoted_literal (p ++ r)) k p r e).0)
    by_cases (Some x) is e =
        let raw = begins_with (codes "r#") (p ++ r) in
        inl (raw, _, (tagged_is (name_kind raw) (find (identifier raw) (p ++ r)) k p r (is ∙ e)).0)

-- ---- other marks

-- a mark stays a mark before each stop
pub mark_before_stop : (c : ℕ) (r s : List ℕ) → stops s ≡ true → marks.Mark (c ∷ []) r → marks.Mark (c ∷ []) s
mark_before_stop c r s e h = (h.0, any_cut goes_on comment_fronts (c ∷ []) r s refl (stop_first s e) h.1)

-- a mark is Alone before a stop
pub stop_alone : (s : List ℕ) → stops s ≡ true → joint_before s ≡ false
stop_alone [] e = refl
stop_alone (c ∷ s) e =
    and_left (is_mark c) (not (begins_any comment_fronts (c ∷ s)))
    (any_of (λ d. is_mark d ≡ false) (codes " \n)]}") c (refl, (refl, (refl, (refl, (refl, tt))))) e)

-- A text parses to a built stream, and a built stream prints a text.
use Rattle.std.proofs.Common.{◌≡◌, ◌==◌, ℕ, ◌+◌, ◌≤◌, Bool, true, false, List, [], ◌∷◌, ◌++◌, length, refl, sym, subst}
use Rattle.std.proofs.Common.{arith, inl, inr}
use Rattle.std.specs.Char.{IsScalar}
use Rattle.std.specs.List.{list_any}
use Rattle.std.proofs.lemmas.Bool.{and_parts, both_ways, or_cases, eqb-true}
use Rattle.lexical.specs.Mark.{is_mark, marks}
use Rattle.lexical.specs.Token.{Token, Name, Mark, Literal, raw_front, token_text}
use Rattle.lexical.specs.Comment.{Doc, closing}
use Rattle.lexical.specs.Piece.{Kind, Piece, FrontMark, Gap, Doc as Documents, Open, Close, Leaf, IsPiece}
use Rattle.lexical.specs.Cover.{onto, StandBefore}
use Rattle.pm_token.specs.Built.{IsBuiltToken}
use Rattle.pm_token.specs.Escaped.{string_text}
use Rattle.pm_token.specs.Text.{IsText}
use Rattle.pm_token.specs.declared.delimiters.Delimiter.{Delimiter}
use Rattle.pm_token.specs.declared.delimiters.Delimiter.TheVariants.{Parenthesis, Brace, Bracket, None}
use Rattle.pm_token.proofs.EscapedLemmas as escaped
use Rattle.pm_token.proofs.TextLemmas.{text_append, text_one, text_split}
use Rattle.pm_stream.specs.Events.{Event, One, Opens, Closes, bang, equals, doc_group_onto, doc_onto, events_onto}
use Rattle.pm_stream.specs.Events.{expansion}
use Rattle.pm_stream.specs.Forest.{Forest, nil, leaf, group, flat_onto, IsBuilt}
use Rattle.pm_stream.specs.Delimited.{opening, closing as closes, is_brace}
use Rattle.pm_stream.specs.Parsing.{ParsesTo}
use Rattle.pm_stream.specs.Printed.{parts, space, printed_after, printed}
use Rattle.pm_stream.proofs.DocLemmas.{doc_name_built}
use Rattle.pm_stream.proofs.PieceLemmas.{token_built}

-- ---- what a text parses to

doc_text : (inner : Bool) (text p r : List ℕ) → Doc inner text p r → IsText p → IsText text
doc_text inner text p r h all =
    (text_split text (closing p r) (text_split h.front (text ++ closing p r) (subst IsText h.whole all)).1).0

-- whether each token is built, each span ends at or after its start, and no group begins or ends before n
abbrev Rising : ℕ → List Event → Type 0
Rising n [] = Unit {0}
Rising n (One token lo hi ∷ es) = IsBuiltToken token × (lo ≤ hi) × Rising n es
Rising n (Opens d lo ∷ es) = (n ≤ lo) × Rising lo es
Rising n (Closes d hi ∷ es) = (n ≤ hi) × Rising n es

rising_from : (m n : ℕ) (es : List Event) → m ≤ n → Rising n es → Rising m es
rising_from m n [] l h = tt
rising_from m n (One token lo hi ∷ es) l h = (h.0, h.1, rising_from m n es l h.2)
rising_from m n (Opens d lo ∷ es) l h = let le = h.0 in (omega arith, h.1)
rising_from m n (Closes d hi ∷ es) l h = let le = h.0 in (omega arith, rising_from m n es l h.1)

-- the group of a doc comment
doc_group_rises : (n lo hi : ℕ) (text : List ℕ) (es : List Event) → n ≤ lo → lo ≤ hi → IsText text → Rising lo es
    → Rising n (doc_group_onto lo hi text es)
doc_group_rises n lo hi text es l le all more =
    let literal : Rising lo (One (Literal (string_text text)) lo hi ∷ Closes Bracket hi ∷ es) =
    (escaped.doc_built text all, le, (le, more)) in
    let sign : Rising lo (One equals lo hi ∷ One (Literal (string_text text)) lo hi ∷ Closes Bracket hi ∷ es) =
    (refl, le, literal) in
    (l, (doc_name_built, le, sign))

doc_rises : (n lo hi : ℕ) (inner : Bool) (text : List ℕ) (es : List Event) → n ≤ lo → lo ≤ hi → IsText text
    → Rising lo es → Rising n (doc_onto lo hi inner text es)
doc_rises n lo hi true text es l le all more =
    let sign : Rising n (One bang lo hi ∷ doc_group_onto lo hi text es) =
    (refl, le, doc_group_rises n lo hi text es l le all more) in
    (refl, le, sign)
doc_rises n lo hi false text es l le all more = (refl, le, doc_group_rises n lo hi text es l le all more)

-- the events of a piece, before other events
events_rise : (n at : ℕ) (b : Bool) (k : Kind) (p r : List ℕ) (es : List Event) → n ≤ at → IsText p → IsPiece b k p r
    → ((m : ℕ) → m ≤ at + length p → Rising m es) → Rising n (events_onto at k p es)
events_rise n at b FrontMark p r es l all h more = more n (omega arith)
events_rise n at b Gap p r es l all h more = more n (omega arith)
events_rise n at b (Documents inner text) p r es l all h more =
    let le : at ≤ at + length p = omega arith in
    doc_rises n at (at + length p) inner text es l le (doc_text inner text p r h all) (more at le)
events_rise n at b (Open c) p r es l all h more = (l, more at (omega arith))
events_rise n at b (Close c) p r es l all h more = (omega arith, more n (omega arith))
events_rise n at b (Leaf token) p r es l all h more =
    (token_built token r (subst IsText h.0 all) h.1, omega arith, more n (omega arith))

expansion_rises : (n at : ℕ) (b : Bool) (ps : List Piece) (r : List ℕ) → n ≤ at → IsText (onto ps r)
    → StandBefore b ps r → Rising n (expansion at ps)
expansion_rises n at b [] r l all h = tt
expansion_rises n at b (x ∷ ps) r l all h =
    let parts = text_split x.1 (onto ps r) all in
    events_rise n at b x.0 x.1 (onto ps r) (expansion (at + length x.1) ps) l parts.0 h.0
    (λ m le. expansion_rises m (at + length x.1) false ps r le parts.1 h.1)

flat_built : (n : ℕ) (f : Forest) (es : List Event) → Rising n (flat_onto f es) → IsBuilt f × Rising n es
flat_built n nil es h = (tt, h)
flat_built n (leaf token lo hi f) es h = let more = flat_built n f es h.2 in ((h.0, h.1, more.0), more.1)
flat_built n (group d lo hi f k) es h =
    let inside = flat_built lo f (Closes d hi ∷ flat_onto k es) h.1 in
    let more = flat_built lo k es inside.1.1 in
    ((inside.1.0, inside.0, more.0), rising_from n lo es h.0 more.1)

pub parsed_built : (base : ℕ) (source : List ℕ) (t : Forest) → IsText source → ParsesTo base source t → IsBuilt t
parsed_built base source t all h =
    (flat_built base t [] (subst (Rising base) (sym h.expands)
    (expansion_rises base base true h.pieces [] (omega arith) (subst IsText h.covers.whole all) h.covers.stand))).0

-- ---- the printed text of a built stream

-- the marks are ASCII
mark_text : (c : ℕ) → is_mark c ≡ true → IsText (c ∷ [])
mark_text c h = text_one c (passes_any marks c refl h)
  where
    passes_any : (ds : List ℕ) (c : ℕ) → IsText ds → list_any (λ d. d == c) ds ≡ true → IsScalar c
    passes_any [] c all h = absurd (both_ways _ refl h)
    passes_any (d ∷ ds) c all h =
        let parts = and_parts _ _ all in
        elim (or_cases _ _ h) [
          | inl same ↦ subst IsScalar (eqb-true d c same) parts.0
          | inr more ↦ passes_any ds c parts.1 more
        ]

token_texts : (token : Token) → IsBuiltToken token → IsText (token_text token)
token_texts (Name true name) h = text_append (raw_front true) name refl h.2
token_texts (Name false name) h = h.2
token_texts (Mark c joint) h = mark_text c h
token_texts (Literal text) h = h.1

space_text : (gap : Bool) → IsText (space gap)
space_text true = refl
space_text false = refl

opening_text : (d : Delimiter) → IsText (opening d)
opening_text Parenthesis = refl
opening_text Brace = refl
opening_text Bracket = refl
opening_text None = refl

closing_text : (d : Delimiter) → IsText (closes d)
closing_text Parenthesis = refl
closing_text Brace = refl
closing_text Bracket = refl
closing_text None = refl

printed_texts : (gap : Bool) (f : Forest) → IsBuilt f → IsText (printed_after gap f)
printed_texts gap nil h = refl
printed_texts gap (leaf token lo hi f) h =
    text_append (space gap) _ (space_text gap)
    (text_append (token_text token) _ (token_texts token h.0) (printed_texts (parts token) f h.2))
printed_texts gap (group d lo hi f k) h =
    text_append (space gap) _ (space_text gap)
    (text_append (opening d) _ (opening_text d)
    (text_append (printed_after (is_brace d) f) _ (printed_texts (is_brace d) f h.1)
    (text_append (space (is_brace d)) _ (space_text (is_brace d))
    (text_append (closes d) _ (closing_text d) (printed_texts true k h.2)))))

pub printed_text : (f : Forest) → IsBuilt f → IsText (printed f)
printed_text f h = printed_texts false f h

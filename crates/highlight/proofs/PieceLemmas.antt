-- All pieces of a text, one by one.
use Rattle.std.proofs.Common.{◌≡◌, ℕ, Bool, true, false, ◌==◌, List, [], ◌∷◌, ◌++◌, IsTrue}
use Rattle.std.proofs.Common.{refl, sym, ap, subst, ◌∙◌, ◌+◌, arith, length, length-append, append_assoc, append-nil}
use Rattle.std.proofs.Common.{MatchOption, Option, drop, encode_utf8, take}
use Rattle.std.specs.Str.{chars, encode_utf8_all, IsUtf8}
use Rattle.std.proofs.lemmas.Bool.{and_parts, eqb-true, ne_eqb}
use Rattle.std.proofs.lemmas.Str.{chars_past_char, encodes-chars, length-encode, len_utf8_bounds}
use Rattle.lexical.specs.Delimiter.{is_closer}
use Rattle.lexical.specs.Found.{kind_of}
use Rattle.lexical.specs.Piece.{Piece, Kind, IsPiece}
use Rattle.lexical.specs.Walk.{IsNext}
use Rattle.lexical.specs.declared.piece.PieceKind.{PieceKind}
use Rattle.lexical.specs.declared.piece.PieceKind.TheVariants as kinds
use Rattle.lexical.specs.declared.walk.PlacedPiece.{PlacedPiece}
use Rattle.lexical.specs.declared.walk.PieceWalk.{PieceWalk}
use Rattle.lexical.proofs.PieceLemmas.{one_piece}
use Rattle.highlight.specs.Nesting.{ClosesByCloser}
use Rattle.explain.specs.Explained.{IsExplained, Parses}
use Rattle.explain.specs.declared.explained.Explained.{Explained}
use Rattle.explain.specs.declared.reason.Reason.{Reason}
use Rattle.highlight.specs.Mark.{Styled, Faulty}
use Rattle.highlight.specs.Pieces.{AreAllPieces, faulty, first_position, is_nil, is_quote, piece_style, shown_from}
use Rattle.highlight.specs.Pieces.{stuck, styles_left, unread}
use Rattle.highlight.specs.Delimiters.{delimiter_styles}
use Rattle.highlight.specs.declared.style.Style.{Style}
use Rattle.highlight.specs.Page.{IsMarked, line_past, marked_piece, marked_pieces}
use Rattle.highlight.specs.declared.format.Format.{Format}
use Rattle.highlight.specs.declared.style.Style.TheVariants.{NoPiece, Unread}

-- a text has only one such list of pieces
pub unique : (first : Bool) (source : List ℕ) (ps qs : List Piece) (r s : List ℕ)
    → AreAllPieces first source ps r → AreAllPieces first source qs s → (ps ≡ qs) × (r ≡ s)
unique first source [] [] r s x y = (refl, sym x.0 ∙ y.0)
unique first source [] (q ∷ qs) r s x y = absurd (x.1 q.0 q.1 y.0 (sym x.0 ∙ y.1) y.2)
unique first source (p ∷ ps) [] r s x y = absurd (y.1 p.0 p.1 x.0 (sym y.0 ∙ x.1) x.2)
unique first source (p ∷ ps) (q ∷ qs) r s x y =
    let one = one_piece first p.0 q.0 p.1 q.1 x.0 y.0 x.2 y.2 (sym x.1 ∙ y.1) in
    let more = unique false x.0 ps qs r s x.3 (subst (λ l. AreAllPieces false l qs s) (sym one.2) y.3) in
    let kind : p ≡ (q.0, p.1) = ap (λ k. (k, p.1)) one.0 in
    let same : p ≡ q = kind ∙ ap (λ t. (q.0, t)) one.1 in
    (ap (λ piece. piece ∷ ps) same ∙ ap (λ l. q ∷ l) more.0, more.1)

-- a piece, and then all pieces after it, are all pieces
pub all_from : (at : PieceWalk) (next : PlacedPiece) (to : PieceWalk) (more : List Piece) (rest : List ℕ)
    → IsNext at next to → AreAllPieces to.at_front (chars to.rest.now) more rest
    → AreAllPieces at.at_front (chars at.rest.now)
    ((kind_of next.piece.kind (chars next.text.now), chars next.text.now) ∷ more) rest
all_from at next to more rest step are = (
  chars to.rest.now,
  step.whole,
  step.stands,
  subst (λ first. AreAllPieces first (chars to.rest.now) more rest) step.front_after are,
)

pub closes : (first : Bool) (kind : PieceKind) (p r : List ℕ) → IsPiece first (kind_of kind p) p r → ClosesByCloser kind
closes first kinds.FrontMark p r stands = tt
closes first kinds.Gap p r stands = tt
closes first (kinds.Doc inner text) p r stands = tt
closes first (kinds.Opener c) p r stands = tt
closes first (kinds.Closer c) p r stands =
    let parts = and_parts (is_closer stands.0) (stands.0 == c) stands.2 in
    subst (λ d. IsTrue (is_closer d)) (eqb-true stands.0 c parts.1) parts.0
closes first kinds.Literal p r stands = tt
closes first (kinds.Mark joint mark) p r stands = tt
closes first (kinds.Name raw name) p r stands = tt

-- a text has no bytes exactly if it has no characters
by_chars : (cs : List ℕ) → (length (encode_utf8_all cs) == 0) ≡ is_nil cs
by_chars [] = refl
by_chars (c ∷ cs) =
    let bounds = len_utf8_bounds c in
    let more : length (encode_utf8_all (c ∷ cs)) ≡ length (encode_utf8 c) + length (encode_utf8_all cs) =
    length-append (encode_utf8 c) (encode_utf8_all cs) in
    ne_eqb _ 0 (λ e. omega (arith, e, more, length-encode c, bounds))

pub is_nil_chars : (text : List ℕ) → IsUtf8 text → (length text == 0) ≡ is_nil (chars text)
is_nil_chars text utf8 = ap (λ l. length l == 0) (sym (encodes-chars text utf8)) ∙ by_chars (chars text)

-- ---- the text at which no piece begins

pub rest_parts : (format given : Format) (line next : ℕ) (rest after : List ℕ) (c : ℕ) (before one two : List ℕ)
    → IsUtf8 rest → rest ≡ encode_utf8 c ++ after → IsUtf8 after
    → one ≡ before ++ marked_piece format line (Styled NoPiece, encode_utf8 c) → given ≡ format
    → next ≡ line_past format line (encode_utf8 c) → two ≡ one ++ marked_piece given next (Styled Unread, after)
    → two ≡ before ++ marked_pieces format line (stuck (chars rest))
rest_parts format given line next rest after c before one two utf8 split more first same moved last =
    let front : encode_utf8_all (c ∷ []) ≡ encode_utf8 c = append-nil (encode_utf8 c) in
    let back : encode_utf8_all (chars after) ≡ after = encodes-chars after more in
    rw (
      chars_past_char rest after c utf8 split,
      front,
      back,
      last,
      first,
      same,
      moved,
      append_assoc,
      append-nil (marked_piece format (line_past format line (encode_utf8 c)) (Styled Unread, after)),
    ) refl

-- the part that is wrong, and the parts around it
pub faulty_parts : (format f1 f2 : Format) (line l1 l2 : ℕ) (reason : Reason) (before size : ℕ)
    (text front here after : List ℕ) (old one two new : List ℕ)
    → encode_utf8_all (take before text) ≡ front → encode_utf8_all (take size (drop before text)) ≡ here
    → encode_utf8_all (drop size (drop before text)) ≡ after
    → one ≡ old ++ marked_piece format line (Styled Unread, front) → f1 ≡ format → l1 ≡ line_past format line front
    → two ≡ one ++ marked_piece f1 l1 (Faulty reason, here) → f2 ≡ f1 → l2 ≡ line_past f1 l1 here
    → new ≡ two ++ marked_piece f2 l2 (Styled Unread, after)
    → new ≡ old ++ marked_pieces format line (faulty reason before size text)
faulty_parts format f1 f2 line l1 l2 reason before size text front here after old one two new is_front is_here
    is_after first same1 next1 second same2 next2 third =
    rw (third, second, first, next2, next1, same2, same1, is_front, is_here, is_after)
    (simp (append_assoc, append-nil))

-- ---- one more piece

pub marked_step : (format given : Format) (answer : Option Explained) (line next : ℕ)
    (before out whole text words : List ℕ) (style : Style) (delimiters left : List Style) (quote quoted : Bool)
    (kind : Kind) (more : List Piece) (rest : List ℕ)
    → encode_utf8_all words ≡ text → style ≡ piece_style delimiters quote kind text
    → left ≡ styles_left delimiters kind → quoted ≡ is_quote kind → given ≡ format
    → out ≡ before ++ marked_piece given line (Styled style, text) → next ≡ line_past given line text
    → before ++ marked_pieces format line (shown_from answer delimiters quote ((kind, words) ∷ more) rest) ≡ whole
    → out ++ marked_pieces format next (shown_from answer left quoted more rest) ≡ whole
marked_step format given answer line next before out whole text words style delimiters left quote quoted kind more rest
    spelled styled lefts quotes same is moved all =
    let inner : marked_piece given line (Styled style, text)
    ++ marked_pieces format next (shown_from answer left quoted more rest)
    ≡ marked_pieces format line (shown_from answer delimiters quote ((kind, words) ∷ more) rest) =
    rw (lefts, quotes, moved, same, styled, spelled) refl in
    ap (λ l. l ++ marked_pieces format next (shown_from answer left quoted more rest)) is
    ∙ append_assoc before (marked_piece given line (Styled style, text)) _ ∙ ap (λ l. before ++ l) inner ∙ all

pub marked_end : (format given : Format) (answer : Option Explained) (text before out : List ℕ) (line : ℕ)
    (styles : List Style) (rest other : List ℕ) (all others : List Piece)
    → AreAllPieces true (chars text) all rest → AreAllPieces true (chars text) others other
    → MatchOption answer (Parses first_position rest) (IsExplained first_position rest)
    → styles ≡ delimiter_styles (is_nil other) [] [] others → given ≡ format
    → out ≡ before ++ marked_pieces given line (unread answer rest)
    → before ++ marked_pieces format line (unread answer rest)
    ≡ marked_pieces format 1 (shown_from answer styles false all rest)
    → IsMarked format text out
marked_end format given answer text before out line styles rest other all others are too explained styled same last
    whole =
    let one = unique true (chars text) all others rest other are too in
    let known : styles ≡ delimiter_styles (is_nil rest) [] [] all =
    styled ∙ ap (λ r. delimiter_styles (is_nil r) [] [] others) (sym one.1)
    ∙ ap (λ l. delimiter_styles (is_nil rest) [] [] l) (sym one.0) in
    record {
      all = all;
      rest = rest;
      are = are;
      answer = answer;
      explained = explained;
      is = last ∙ ap (λ f. before ++ marked_pieces f line (unread answer rest)) same ∙ whole
          ∙ ap (λ s. marked_pieces format 1 (shown_from answer s false all rest)) known;
    }

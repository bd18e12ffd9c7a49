-- Runs of white characters, each of which is a gap without a mark.
use Rattle.std.proofs.Common.{◌≡◌, ◌∙◌, ◌==◌, ◌≤◌, ℕ, Bool, true, false, List, [], ◌∷◌, ◌++◌, ◌&&◌, ap, ap₂, inl, inr}
use Rattle.std.proofs.Common.{Option, None, Some, append-nil, append_assoc, arith, encode_utf8, length, refl, subst}
use Rattle.std.proofs.Common.{sym}
use Rattle.std.specs.List.{list_all}
use Rattle.std.specs.Str.{chars, encode_utf8_all, IsUtf8}
use Rattle.std.proofs.lemmas.Bool.{and_parts, both_ways, cases_lt, ne_eqb}
use Rattle.std.proofs.lemmas.Str.{encode_ascii, encodes-chars}
use Rattle.lexical.specs.Class.{is_white}
use Rattle.lexical.specs.Piece.{Piece}
use Rattle.lexical.specs.Walk.{IsSpaced}
use Rattle.lexical.specs.declared.walk.Spaced.{Spaced}
use Rattle.lexical.specs.declared.walk.PieceWalk.{PieceWalk}
use Rattle.lexical.specs.declared.walk.PlacedPiece.{PlacedPiece}
use Rattle.lexical.proofs.TextLemmas.{first_byte}
use Rattle.lexical.proofs.SpacedLemmas.{gaps, next_there, no_longer, none_passed, none_there, piece_of, still}
use Rattle.highlight.specs.Delimiters.{Waiting, delimiter_styles}
use Rattle.highlight.specs.Mark.{Styled}
use Rattle.highlight.specs.Page.{escape_text, line_past, marked_piece, marked_pieces}
use Rattle.explain.specs.declared.explained.Explained.{Explained}
use Rattle.highlight.specs.Pieces.{AreAllPieces, shown_from}
use Rattle.highlight.specs.Style.{gap_style}
use Rattle.highlight.specs.declared.format.Format.{Format}
use Rattle.highlight.specs.declared.format.Format.TheVariants.{Html, Term}
use Rattle.highlight.specs.declared.style.Style.{Style}
use Rattle.highlight.specs.declared.style.Style.TheVariants.{Bare}
use Rattle.highlight.proofs.EscapeLemmas.{escaped-append, line_after-append}
use Rattle.highlight.proofs.PieceLemmas.{all_from}

-- ---- white characters before all pieces

gaps_first : (first : Bool) (white after : List ℕ) (more : List Piece) (rest : List ℕ) → list_all is_white white ≡ true
    → AreAllPieces (first && (length white == 0)) after more rest
    → AreAllPieces first (white ++ after) (gaps white ++ more) rest
gaps_first first [] after more rest each are = subst (λ b. AreAllPieces b after more rest) (still first) are
gaps_first first (c ∷ white) after more rest each are =
    let parts = and_parts _ _ each in (
      white ++ after,
      refl,
      inl (c, refl, parts.0),
      gaps_first false white after more rest parts.1
          (subst (λ b. AreAllPieces b after more rest) (no_longer first c white) are),
    )

all_white : (at : PieceWalk) (next : Spaced) (to : PieceWalk) (is : IsSpaced at next to) (more : List Piece)
    (rest : List ℕ) → AreAllPieces is.here.at_front (chars is.here.rest.now) more rest
    → AreAllPieces at.at_front (chars at.rest.now) (gaps (chars next.white.now) ++ more) rest
all_white at next to is more rest are =
    let white = next.white.now in
    let splits = is.passes.splits in
    let front = is.passes.front_after ∙ ap (λ none. at.at_front && none) (none_passed white splits.white_utf8) in
    rw splits.whole (gaps_first at.at_front (chars white) (chars is.here.rest.now) more rest splits.stands.each
    (subst (λ b. AreAllPieces b (chars is.here.rest.now) more rest) front are))

-- white characters, a piece, and then all pieces after it, are all pieces
pub all_past : (at : PieceWalk) (next : Spaced) (to : PieceWalk) (is : IsSpaced at next to) (piece : PlacedPiece)
    → next.piece ≡ Some piece → (more : List Piece) (rest : List ℕ)
    → AreAllPieces to.at_front (chars to.rest.now) more rest
    → AreAllPieces at.at_front (chars at.rest.now) (gaps (chars next.white.now) ++ (piece_of piece ∷ more)) rest
all_past at next to is piece some more rest are =
    all_white at next to is (piece_of piece ∷ more) rest
    (all_from is.here piece to more rest (next_there at next to is piece some) are)

-- white characters are all pieces, if no piece follows them
pub all_end : (at : PieceWalk) (next : Spaced) (to : PieceWalk) → IsSpaced at next to → next.piece ≡ None
    → AreAllPieces at.at_front (chars at.rest.now) (gaps (chars next.white.now) ++ []) (chars next.rest.now)
all_end at next to is none =
    subst (λ r. AreAllPieces at.at_front (chars at.rest.now) (gaps (chars next.white.now) ++ []) (chars r))
    (sym is.rest) (all_white at next to is [] (chars is.here.rest.now) (refl, none_there at next to is none))

-- ---- no white character is a delimiter

pub styles_past_gaps : (whole : Bool) (styles : List Style) (waiting : List Waiting) (white : List ℕ)
    (more : List Piece) → delimiter_styles whole styles waiting (gaps white ++ more)
    ≡ delimiter_styles whole styles waiting more
styles_past_gaps whole styles waiting [] more = refl
styles_past_gaps whole styles waiting (c ∷ white) more = styles_past_gaps whole styles waiting white more

-- ---- white characters have no mark

no_slash : (c : ℕ) → is_white c ≡ true → gap_style (encode_utf8_all (c ∷ [])) ≡ Bare
no_slash c white = elim (cases_lt c 128) [
  | inl low ↦
      rw (
        encode_ascii c low,
        ne_eqb c 47 (λ e. both_ways (is_white 47) refl (subst (λ x. is_white x ≡ true) e white)),
      ) refl
  | inr past ↦ let cell = first_byte c past in rw (cell.2, ne_eqb cell.0 47 (λ e. omega (arith, e, cell.3))) refl
]

-- a text of the style `Bare` is written without a mark
bare_text : (line : ℕ) (text : List ℕ) → marked_piece Html line (Styled Bare, text) ≡ escape_text line text
bare_text line [] = refl
bare_text line (c ∷ text) = refl

bare_term : (line : ℕ) (text : List ℕ) → marked_piece Term line (Styled Bare, text) ≡ text
bare_term line [] = refl
bare_term line (c ∷ text) = refl

bare-append : (format : Format) (line : ℕ) (text more : List ℕ) → marked_piece format line (Styled Bare, text ++ more)
    ≡ marked_piece format line (Styled Bare, text)
    ++ marked_piece format (line_past format line text) (Styled Bare, more)
bare-append Html line text more =
    bare_text line (text ++ more) ∙ (escaped-append line text more
    ∙ sym (ap₂ (λ a b. a ++ b) (bare_text line text) (bare_text (line_past Html line text) more)))
bare-append Term line text more =
    bare_term line (text ++ more) ∙ sym (ap₂ (λ a b. a ++ b) (bare_term line text) (bare_term line more))

line_past-append : (format : Format) (line : ℕ) (text more : List ℕ)
    → line_past format line (text ++ more) ≡ line_past format (line_past format line text) more
line_past-append Html line text more = line_after-append line text more
line_past-append Term line text more = refl

shown_gaps : (format : Format) (line : ℕ) (answer : Option Explained) (delimiters : List Style) (quote : Bool)
    (white : List ℕ) (more : List Piece) (rest : List ℕ) → list_all is_white white ≡ true
    → marked_pieces format line (shown_from answer delimiters quote (gaps white ++ more) rest)
    ≡ marked_piece format line (Styled Bare, encode_utf8_all white)
    ++ marked_pieces format (line_past format line (encode_utf8_all white))
    (shown_from answer delimiters (quote && (length white == 0)) more rest)
shown_gaps Html line answer delimiters quote [] more rest each =
    ap (λ q. marked_pieces Html line (shown_from answer delimiters q more rest)) (sym (still quote))
shown_gaps Term line answer delimiters quote [] more rest each =
    ap (λ q. marked_pieces Term line (shown_from answer delimiters q more rest)) (sym (still quote))
shown_gaps format line answer delimiters quote (c ∷ white) more rest each =
    let parts = and_parts _ _ each in
    let one : encode_utf8_all (c ∷ []) ≡ encode_utf8 c = append-nil (encode_utf8 c) in
    let next = line_past format line (encode_utf8 c) in
    let all = encode_utf8_all (c ∷ white) in
    let end = marked_pieces format (line_past format line all) (shown_from answer delimiters false more rest) in
    let front : marked_pieces format line (shown_from answer delimiters quote (gaps (c ∷ white) ++ more) rest)
    ≡ marked_piece format line (Styled Bare, encode_utf8 c)
    ++ marked_pieces format next (shown_from answer delimiters false (gaps white ++ more) rest) =
    rw (no_slash c parts.0, one) refl in
    front
    ∙ (ap (λ l. marked_piece format line (Styled Bare, encode_utf8 c) ++ l)
    (shown_gaps format next answer delimiters false white more rest parts.1
    ∙ ap (λ n. marked_piece format next (Styled Bare, encode_utf8_all white)
    ++ marked_pieces format n (shown_from answer delimiters false more rest))
    (sym (line_past-append format line (encode_utf8 c) (encode_utf8_all white))))
    ∙ (sym (append_assoc (marked_piece format line (Styled Bare, encode_utf8 c))
    (marked_piece format next (Styled Bare, encode_utf8_all white)) end)
    ∙ (ap (λ l. l ++ end) (sym (bare-append format line (encode_utf8 c) (encode_utf8_all white)))
    ∙ ap (λ q. marked_piece format line (Styled Bare, all) ++ marked_pieces format
    (line_past format line all) (shown_from answer delimiters q more rest)) (sym (no_longer quote c white)))))

pub marked_white : (format given : Format) (answer : Option Explained) (line next : ℕ) (before out whole : List ℕ)
    (delimiters : List Style) (quote : Bool) (white : List ℕ) (more : List Piece) (rest : List ℕ)
    → IsUtf8 white → list_all is_white (chars white) ≡ true → given ≡ format
    → out ≡ before ++ marked_piece given line (Styled Bare, white) → next ≡ line_past given line white
    → before ++ marked_pieces format line (shown_from answer delimiters quote (gaps (chars white) ++ more) rest) ≡ whole
    → out ++ marked_pieces format next (shown_from answer delimiters (quote && (length white == 0)) more rest) ≡ whole
marked_white format given answer line next before out whole delimiters quote white more rest utf8 each same is moved
    all =
    let run : marked_pieces format line (shown_from answer delimiters quote (gaps (chars white) ++ more) rest)
    ≡ marked_piece format line (Styled Bare, white) ++ marked_pieces format (line_past format line white)
    (shown_from answer delimiters (quote && (length white == 0)) more rest) =
    shown_gaps format line answer delimiters quote (chars white) more rest each
    ∙ ap₂ (λ text none. marked_piece format line (Styled Bare, text) ++ marked_pieces format
    (line_past format line text) (shown_from answer delimiters (quote && none) more rest))
    (encodes-chars white utf8) (sym (none_passed white utf8)) in
    rw (is, moved, same) (append_assoc before (marked_piece format line (Styled Bare, white)) _
    ∙ (ap (λ l. before ++ l) (sym run) ∙ all))

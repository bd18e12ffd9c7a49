-- What `relayout` writes for the choices.
use Rattle.std.specs.Prelude.{ℕ, Bool, false, not, ◌==◌, ◌≡◌, List, [], ◌∷◌, ◌++◌, codes, zero, suc}
use Rattle.std.specs.Prelude.{if◌then◌else◌}
use Rattle.std.specs.List.{list_any}
use Rattle.lexical.specs.Text.{begins_with}
use Rattle.lexical.specs.Piece as pieces
use Rattle.lexical.specs.Piece.{Piece}
use Rattle.relayout.specs.Relayout.{is_line}
use Rattle.relayout.specs.declared.white.White.{White}
use Rattle.relayout.specs.declared.white.White.TheVariants.{Kept, Space, Lines}

-- ---- white space

-- the character `n` times
abbrev pub times : ℕ → ℕ → List ℕ
times c zero = []
times c (suc n) = c ∷ times c n

-- whether there is an LF in the white space
abbrev pub ends_line : List ℕ → Bool
ends_line white = list_any (λ c. c == 10) white

-- the line end for one character: LF, or CR LF if CR precedes it, or nothing if the character is not LF
abbrev pub line_end : Bool → ℕ → List ℕ
line_end returned c = if c == 10 then (if returned then codes "\r\n" else codes "\n") else []

-- the line ends of the white space, each LF or CR LF; `returned` says that CR precedes the white space
abbrev pub line_ends : Bool → List ℕ → List ℕ
line_ends returned [] = []
line_ends returned (c ∷ white) = line_end returned c ++ line_ends (c == 13) white

-- what replaces a run that is not empty; `line` says whether the run follows a line comment
abbrev pub white_text : White → Bool → List ℕ → List ℕ
white_text Kept line white = white
white_text Space line white = if line then codes "\n" else codes " "
white_text (Lines tabs spaces) line white =
    if ends_line white then line_ends false white ++ (times 9 tabs ++ times 32 spaces) else white

-- what replaces a run: nothing if the run is empty
abbrev pub replacement : White → Bool → List ℕ → List ℕ
replacement choice line [] = []
replacement choice line (c ∷ white) = white_text choice line (c ∷ white)

-- ---- the choices, one for each run of white characters

-- the next choice, which is `Kept` if no choices are left
abbrev pub next_choice : List White → White
next_choice [] = Kept
next_choice (choice ∷ choices) = choice

-- the choices that are left after this white space, which takes one choice unless it is empty
abbrev pub choices_left : List White → List ℕ → List White
choices_left choices [] = choices
choices_left [] (c ∷ white) = []
choices_left (choice ∷ choices) (c ∷ white) = choices

-- the run is replaced as the next choice says. `front` was kept before it and `rest` follows it; what is written and
-- what is still kept before `rest` join to `old`, `front` and the new run
pub record Placed (choices left : List White) (line : Bool) (front run kept rest old new : List ℕ) : Type 0 where
  pub front_now : List ℕ
  pub keeps : kept ≡ front_now ++ rest
  pub writes : new ++ front_now ≡ (old ++ front) ++ replacement (next_choice choices) line run
  pub leaves : left ≡ choices_left choices run

-- ---- the whole text

-- whether the piece is a white character: a gap where no comment begins
abbrev pub is_white_gap : Piece → Bool
is_white_gap (pieces.Gap, text) = not (begins_with (codes "/") text)
is_white_gap (_, text) = false

-- what is written for the pieces after the white space `white`; `line` says whether a line comment precedes that
abbrev pub relayout_text : List White → Bool → List ℕ → List Piece → List ℕ
relayout_text choices line white [] = replacement (next_choice choices) line white
relayout_text choices line white (piece ∷ more) =
    if is_white_gap piece then relayout_text choices line (white ++ piece.1) more
    else (replacement (next_choice choices) line white
    ++ (piece.1 ++ relayout_text (choices_left choices white) (is_line piece) [] more))

-- the pieces that are not white characters
abbrev pub solid_pieces : List Piece → List Piece
solid_pieces [] = []
solid_pieces (piece ∷ more) =
    if is_white_gap piece then solid_pieces more else piece ∷ solid_pieces more

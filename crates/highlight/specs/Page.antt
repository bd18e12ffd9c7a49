-- The output: a page for a browser, or text with the colours of a terminal.
use Rattle.std.specs.Prelude.{ℕ, ◌≡◌, ◌+◌, ◌==◌, List, [], ◌∷◌, ◌++◌, false, true, codes, length, if◌then◌else◌}
use Rattle.std.specs.Prelude.{MatchOption, Option}
use Rattle.std.specs.Fmt.{decimal}
use Rattle.std.specs.Str.{chars}
use Rattle.lexical.specs.Piece.{Piece}
use Rattle.explain.specs.Explained.{IsExplained, Parses}
use Rattle.explain.specs.declared.explained.Explained.{Explained}
use Rattle.highlight.specs.Mark.{class_of, colour_of}
use Rattle.highlight.specs.Pieces.{AreAllPieces, Shown, all_shown, first_position}
use Rattle.highlight.specs.declared.format.Format.{Format}
use Rattle.highlight.specs.declared.format.Format.TheVariants.{Html, Term}

-- ---- the text of a piece

-- the anchor at the start of a line, to which a link can lead
abbrev pub anchor : ℕ → List ℕ
anchor line = codes "<a id=L" ++ (decimal line ++ codes "></a>")

-- a byte of the text, escaped if it is `<` (60), `>` (62), `&` (38) or `"` (34)
abbrev pub escape : ℕ → List ℕ
escape c =
    if c == 60 then codes "&lt;"
    else (if c == 62 then codes "&gt;" else (if c == 38 then codes "&amp;"
    else (if c == 34 then codes "&quot;" else c ∷ [])))

-- the byte is not escaped, and is not a line feed
abbrev pub IsBare : ℕ → Type 0
IsBare c = ((c == 10) ≡ false) × (escape c ≡ c ∷ [])

-- a text that begins on this line, escaped, with an anchor after each line feed (10)
abbrev pub escape_text : ℕ → List ℕ → List ℕ
escape_text line [] = []
escape_text line (c ∷ rest) =
    if c == 10 then c ∷ (anchor (line + 1) ++ escape_text (line + 1) rest) else escape c ++ escape_text line rest

-- the line on which a text ends
abbrev pub line_after : ℕ → List ℕ → ℕ
line_after line [] = line
line_after line (c ∷ rest) = if c == 10 then line_after (line + 1) rest else line_after line rest

-- the line on which a text ends; lines are counted only for a page
abbrev pub line_past : Format → ℕ → List ℕ → ℕ
line_past Html line text = line_after line text
line_past Term line text = line

-- ---- marks around the text

-- the text in a `<span>` of the class, or without one if the class is empty
abbrev pub in_span : List ℕ → List ℕ → List ℕ
in_span class text =
    if length class == 0 then text else codes "<span class=" ++ (class ++ (codes ">" ++ (text ++ codes "</span>")))

-- the text in the colour, or without one if the colour is empty; ESC is 27
abbrev pub in_colour : List ℕ → List ℕ → List ℕ
in_colour colour text =
    if length colour == 0 then text
    else (27 ∷ codes "[") ++ (colour ++ (codes "m" ++ (text ++ (27 ∷ codes "[0m"))))

-- the text with this class or in this colour; an empty text has no mark
abbrev pub marked_text : Format → ℕ → List ℕ → List ℕ → List ℕ → List ℕ
marked_text format line class colour [] = []
marked_text Html line class colour (c ∷ text) = in_span class (escape_text line (c ∷ text))
marked_text Term line class colour (c ∷ text) = in_colour colour (c ∷ text)

abbrev pub marked_piece : Format → ℕ → Shown → List ℕ
marked_piece format line piece = marked_text format line (class_of piece.0) (colour_of piece.0) piece.1

-- all the pieces, marked, from this line on
abbrev pub marked_pieces : Format → ℕ → List Shown → List ℕ
marked_pieces format line [] = []
marked_pieces format line (piece ∷ more) =
    marked_piece format line piece ++ marked_pieces format (line_past format line piece.1) more

-- the body is the marked text: its pieces in order, and then what follows them, marked by the reason why that doesn't
-- parse
pub record IsMarked (format : Format) (text body : List ℕ) : Type 0 where
  pub all : List Piece
  pub rest : List ℕ
  pub are : AreAllPieces true (chars text) all rest
  pub answer : Option Explained
  pub explained : MatchOption answer (Parses first_position rest) (IsExplained first_position rest)
  pub is : body ≡ marked_pieces format 1 (all_shown answer all rest)

-- ---- the text before and after the marked text

-- the lines, each of which ends with a line feed
abbrev pub lines : List (List ℕ) → List ℕ
lines [] = []
lines (line ∷ more) = line ++ (10 ∷ lines more)

-- the head of a page; browsers ignore the line feed after `<pre>`, so that a line feed at the start of the text stays
unfoldable pub page_head : List ℕ
page_head =
    lines (codes "<!DOCTYPE html>"
    ∷ codes "<html lang=\"en\">"
    ∷ codes "<head>"
    ∷ codes "<meta charset=\"utf-8\">"
    ∷ codes "<meta name=\"viewport\" content=\"width=device-width, initial-scale=1\">"
    ∷ codes "<title>Source text</title>"
    ∷ codes "<style>"
    ∷ codes ":root {"
    ∷ codes "  color-scheme: light dark;"
    ∷ codes "  --back: #ffffff; --text: #1f2328; --quiet: #6a737d; --doc: #4d6b57;"
    ∷ codes "  --keyword: #8a1c8f; --raw: #6f42c1; --lifetime: #0b6e7f;"
    ∷ codes "  --string: #1a6b2d; --character: #2f7d11; --number: #a04100; --mark: #4b5563;"
    ∷ codes "  --fault: #ffffff; --fault-back: #c62828; --unread: #8b4a4a;"
    ∷ codes "  --d0: #b07900; --d1: #9c27b0; --d2: #1565c0; --d3: #00838f; --d4: #558b2f; --d5: #d84315;"
    ∷ codes "}"
    ∷ codes "@media (prefers-color-scheme: dark) {"
    ∷ codes "  :root {"
    ∷ codes "    --back: #15181d; --text: #dfe3e8; --quiet: #8b949e; --doc: #9dbda8;"
    ∷ codes "    --keyword: #dd9bf0; --raw: #b9a4f5; --lifetime: #6fd3e3;"
    ∷ codes "    --string: #8fd19e; --character: #b5d98a; --number: #f0a873; --mark: #b3bac4;"
    ∷ codes "    --fault: #ffffff; --fault-back: #c93c37; --unread: #d39c9c;"
    ∷ codes "    --d0: #e6c15c; --d1: #dd9bf0; --d2: #7cb7ff; --d3: #5fd0d8; --d4: #a5d26b; --d5: #ff9e73;"
    ∷ codes "  }"
    ∷ codes "}"
    ∷ codes "body { margin: 0; background: var(--back); color: var(--text); }"
    ∷ codes "pre {"
    ∷ codes "  margin: 0; padding: 1.25rem 1.5rem; tab-size: 4; counter-reset: line;"
    ∷ codes "  font: 14px/1.5 ui-monospace, \"SF Mono\", Menlo, Consolas, \"DejaVu Sans Mono\", monospace;"
    ∷ codes "}"
    ∷ codes "a::before {"
    ∷ codes "  counter-increment: line; content: counter(line); display: inline-block; width: 3em; padding-right: 1em;"
    ∷ codes "  text-align: right; color: var(--quiet); font-style: normal; font-weight: 400;"
    ∷ codes "}"
    ∷ codes "a:target::before { color: var(--fault); background: var(--fault-back); }"
    ∷ codes ".k { color: var(--keyword); font-weight: 600; }"
    ∷ codes ".r { color: var(--raw); }"
    ∷ codes ".l { color: var(--lifetime); }"
    ∷ codes ".s, .rs, .bs, .cs { color: var(--string); }"
    ∷ codes ".c, .b { color: var(--character); }"
    ∷ codes ".i, .f, .e { color: var(--number); }"
    ∷ codes ".lc, .bc { color: var(--quiet); font-style: italic; }"
    ∷ codes ".dc { color: var(--doc); font-style: italic; }"
    ∷ codes ".m { color: var(--mark); }"
    ∷ codes ".d0 { color: var(--d0); } .d1 { color: var(--d1); } .d2 { color: var(--d2); }"
    ∷ codes ".d3 { color: var(--d3); } .d4 { color: var(--d4); } .d5 { color: var(--d5); }"
    ∷ codes ".x { color: var(--fault); background: var(--fault-back); border-radius: 2px; }"
    ∷ codes ".u { color: var(--unread); }"
    ∷ codes "</style>"
    ∷ codes "</head>"
    ∷ codes "<body>"
    ∷ codes "<pre>" ∷ []) ++ codes "<a id=L1></a>"

unfoldable pub page_foot : List ℕ
page_foot = codes "</pre>\n</body>\n</html>\n"

abbrev pub head : Format → List ℕ
head Html = page_head
head Term = []

abbrev pub foot : Format → List ℕ
foot Html = page_foot
foot Term = []

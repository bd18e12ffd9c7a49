-- What the program writes for a text.
use Rattle.std.specs.Prelude.{ℕ, ◌≡◌, ◌-◌, ◌||◌, Bool, true, false, List, [], ◌++◌, Option, Some, None}
use Rattle.std.specs.Prelude.{MatchOption, codes, drop, is_some, length}
use Rattle.std.specs.Prelude.{decimal, if◌then◌else◌, nat_le, take}
use Rattle.std.specs.Str.{encode_utf8_all}
use Rattle.std.specs.Io.KnownBytes.{Appends}
use Rattle.explain.specs.Explained.{IsExplained, Parses}
use Rattle.explain.specs.Hint.{IsHint}
use Rattle.explain.specs.declared.explained.Explained.{Explained}
use Rattle.explain.specs.declared.explained.Opener.{Opener}
use Rattle.explain.specs.declared.explained.Stretch.{Stretch}
use Rattle.explain.specs.declared.hints.Hint.{Hint}
use Rattle.explain.specs.declared.hints.Hint.TheVariants.{Comments, Quote}
use Rattle.explain.specs.declared.reason.Reason.{Reason}
use Rattle.explain.specs.declared.reason.Reason.TheVariants.{MismatchedCloser}
use Rattle.pm_span.specs.Files.{new_map, next_lo}
use Rattle.rust_check.specs.Colours.{Codes, plain, terminal}
use Rattle.rust_check.specs.Message.{Found, excerpt, message}
use Rattle.rust_check.specs.TextPosition.{last_line, last_number}
use Rattle.rust_check.specs.Report.{TellsHidden}
use Rattle.explain.specs.Words.{name_of, sentence_of}
use Rattle.rust_check.specs.declared.options.Form.{Form}
use Rattle.rust_check.specs.declared.options.Form.TheVariants.{Short, Long, Coloured, Json}

-- the position of the text's first character
abbrev pub first : ℕ
first = next_lo new_map

-- a finding whose text is the first `size` characters of `rest`, where `before` precedes `rest`
abbrev pub found_between : List ℕ → List ℕ → List ℕ → List ℕ → ℕ → Found
found_between name says before rest size = record {
  name = name;
  says = says;
  line = last_number before;
  column = length (last_line before);
  begin = length (encode_utf8_all before);
  front = last_line before;
  here = take size rest;
  rest = rest;
}

-- a finding for the characters from position `lo` up to position `hi`
abbrev pub found_at : List ℕ → List ℕ → List ℕ → ℕ → ℕ → Found
found_at name says text lo hi =
    found_between name says (take (lo - first) text) (drop (lo - first) text) (hi - lo)

-- the finding for the text's error
abbrev pub fault : List ℕ → Explained → Found
fault text x = found_at (name_of x.reason) (sentence_of x.reason) text x.at.span.lo x.at.span.hi

-- a note with the part of the source that it is about
abbrev pub note_message : Codes → List ℕ → List ℕ → Found → List ℕ
note_message k path says x = k.strong ++ (codes "note" ++ (k.off ++ (codes ": " ++ (says ++ codes "\n"))))
    ++ excerpt k path x

abbrev pub noted_at : Codes → List ℕ → List ℕ → List ℕ → Stretch → List ℕ
noted_at k path says text at = note_message k path says (found_at [] [] text at.span.lo at.span.hi)

-- the note that shows the opener that waits for another closer
abbrev pub waiting_note : Codes → List ℕ → List ℕ → Option Opener → List ℕ
waiting_note k path text None = []
waiting_note k path text (Some opener) = noted_at k path (codes "this opener waits") text opener.at

abbrev pub note_of : Reason → Codes → List ℕ → List ℕ → Option Opener → List ℕ
note_of MismatchedCloser k path text innermost = waiting_note k path text innermost
note_of _ k path text innermost = []

-- the note that says how many comments are open, if there is more than one
abbrev pub depth_note : Codes → ℕ → List ℕ
depth_note k depth =
    if nat_le depth 1 then []
    else k.strong ++ (codes "note" ++ (k.off ++ (codes ": comments that are open at the end of the text: "
    ++ (decimal depth ++ codes "\n"))))

-- the note that shows the comment that ended last
abbrev pub closed_note : Codes → List ℕ → List ℕ → Option Stretch → List ℕ
closed_note k path text None = []
closed_note k path text (Some at) = noted_at k path (codes "the comment in it that ended last") text at

abbrev pub hint_note : Codes → List ℕ → List ℕ → Option Hint → List ℕ
hint_note k path text None = []
hint_note k path text (Some (Comments depth closed)) = depth_note k depth ++ closed_note k path text closed
hint_note k path text (Some (Quote at)) =
    noted_at k path (codes "the quote that came nearest to ending it") text at

abbrev pub notes : Codes → List ℕ → List ℕ → Explained → Option Hint → List ℕ
notes k path text x hint = note_of x.reason k path text x.innermost ++ hint_note k path text hint

-- the notes below the error
abbrev pub note : Form → List ℕ → List ℕ → Explained → Option Hint → List ℕ
note Long path text x hint = notes plain path text x hint
note Coloured path text x hint = notes terminal path text x hint
note Short path text x hint = []
note Json path text x hint = []

-- the message about the error and the notes below it; nothing for a text that parses
abbrev pub message_and_notes : Form → List ℕ → List ℕ → Option Explained → Option Hint → List ℕ
message_and_notes form path text None hint = []
message_and_notes form path text (Some x) hint = message form path (fault text x) ++ note form path text x hint

-- the text is explained, with a hint if there is one; all of that is written, and the result is whether the text has an
-- error
abbrev pub Tells : Form → List ℕ → List ℕ → Option (List ℕ) → Option (List ℕ) → Bool → Type 0
Tells form path text old new faulty =
    (answer : Option Explained) × (hint : Option Hint)
    × MatchOption answer (Parses first text) (λ x. IsExplained first text x × IsHint first text x hint)
    × (faulty ≡ is_some answer) × Appends old new (message_and_notes form path text answer hint)

-- the text's error is written, and then its hidden characters if `hidden` is true; the result is whether anything was
-- found
abbrev pub TellsAll : Form → Bool → List ℕ → List ℕ → Option (List ℕ) → Option (List ℕ) → Bool → Type 0
TellsAll form false path text old new found = Tells form path text old new found
TellsAll form true path text old new found =
    (faulty : Bool) × (report : Bool) × (between : Option (List ℕ)) × Tells form path text old between faulty
    × TellsHidden form path text between new report × (found ≡ (faulty || report))

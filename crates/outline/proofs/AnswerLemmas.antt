-- Texts that are read into a buffer, with a map of their own.
use Rattle.std.proofs.Common.{◌≡◌, ◌∙◌, ◌+◌, ◌<◌, ◌≤◌, refl, sym, ap, subst, ℕ, List, ◌++◌, None, append_assoc}
use Rattle.std.proofs.Common.{append-nil, drop, get_or, length, map}
use Rattle.std.proofs.lemmas.List.{at_drop_all, at_drop_more}
use Rattle.std.specs.Option.{option_to_list}
use Rattle.std.specs.declared.alloc.AllocError.{AllocError}
use Rattle.pm_span.specs.Extent.{Extent}
use Rattle.pm_span.specs.Files.{Files, Fits, Holds, new_map, next_lo, with_file}
use Rattle.pm_span.specs.Lookup.{StartsAt}
use Rattle.pm_token.specs.Outcome.{IfLex}
use Rattle.pm_token.specs.declared.errors.ParseError.{ParseError}
use Rattle.pm_token.specs.declared.errors.ParseError.TheVariants.{Lex, MapFull, Memory}
use Rattle.pm_stream.specs.Forest.{Forest}
use Rattle.pm_stream.specs.Parsing.{FaultAt, ParsesTo}
use Rattle.pm_stream.specs.Trees.{forest}
use Rattle.pm_stream.proofs.FaultLemmas.{fault_held}
use Rattle.pm_stream.proofs.LineColumnLemmas.{fault_starts}
use Rattle.token_buffer.specs.Reads.{left}
use Rattle.token_buffer.specs.Refused.{IfParse}
use Rattle.token_buffer.specs.declared.cursor.Cursor.{Cursor}
use Rattle.token_buffer.specs.declared.errors.BufferError.{BufferError}
use Rattle.token_buffer.specs.declared.errors.BufferError.TheVariants.{Parse}
use Rattle.proc_macro2.specs.declared.LineColumn.{LineColumn}
use Rattle.messages.specs.Parsed.{MayFail, first}
use Rattle.messages.specs.declared.errors.Failure.{Failure}
use Rattle.messages.specs.declared.errors.Failure.TheVariants.{Fault, MapFull as TooLong, Memory as NoMemory}
use Rattle.messages.proofs.ParsedLemmas.{Keeps-same}
use Rattle.outline.specs.Answer.{IsUnlisted, Lists, lines_of, shown_line}
use Rattle.outline.specs.Levels.{trees_left}
use Rattle.outline.specs.Line.{line_of}
use Rattle.outline.specs.Outline.{IsTreesOutline, Outline, entries_of, entry_of_value}
use Rattle.outline.specs.declared.entries.Entry.{Entry}
use Rattle.outline.specs.declared.options.Form.{Form}
use Rattle.outline.proofs.LevelLemmas.{forest-trees_in}

-- what holds of the buffer's error holds of the error in the text
pub lex_of : (failure : BufferError) (error : ParseError) → failure ≡ Parse error → (P : Extent → Type 0)
    → IfParse failure (λ parse. IfLex parse P) → IfLex error P
lex_of failure error is P h = subst (λ e. IfParse e (λ parse. IfLex parse P)) is h

-- the map of the text holds the span of the text's error
pub fault_is_held : (map : Files) (text : List ℕ) (error : ParseError) → map ≡ with_file new_map text
    → IfLex error (λ fault. (fault.lo ≡ fault.hi) × FaultAt (next_lo new_map) text fault.lo) → IfLex error (Holds map)
fault_is_held map text (Lex fault) is h = subst (λ m. Holds m fault) (sym is) (fault_held new_map text fault h.0 h.1)
fault_is_held map text MapFull is h = tt
fault_is_held map text (Memory refused) is h = tt

-- the contract allows the failure that an unread text gives
pub unread_may_fail : (text : List ℕ) (map : Files) (error : ParseError) (failure : Failure)
    → map ≡ with_file new_map text
    → IfLex error (λ fault. (fault.lo ≡ fault.hi) × FaultAt (next_lo new_map) text fault.lo)
    → (error ≡ MapFull → Fits new_map (length text) → ⊥)
    → IfLex error (λ fault. (start : LineColumn) × (failure ≡ Fault start) × StartsAt map fault start)
    → (error ≡ MapFull → failure ≡ TooLong) → ((refused : AllocError) → error ≡ Memory refused → failure ≡ NoMemory)
    → MayFail text None None failure
unread_may_fail text map (Lex fault) failure is stands full (start, lex_fault, starts) too_long no_memory =
    rw lex_fault (fault.lo, stands.1, fault_starts new_map map text fault start is stands starts, Keeps-same None)
unread_may_fail text map MapFull failure is stands full lex_fault too_long no_memory =
    rw (too_long refl) (full refl, Keeps-same None)
unread_may_fail text map (Memory refused) failure is stands full lex_fault too_long no_memory =
    rw (no_memory refused refl) tt

-- the text parses to the trees of the buffer's first cursor
begin_parses : (text : List ℕ) (trees : Forest) (begin : Cursor) → ParsesTo first text trees → left begin ≡ trees
    → ParsesTo first text (forest (trees_left begin))
begin_parses text trees begin parses is =
    subst (ParsesTo first text) (sym is ∙ sym (forest-trees_in (left begin))) parses

pub buffer_lists : (form : Form) (path text : List ℕ) (trees : Forest) (begin : Cursor) (lines : List (List ℕ))
    → ParsesTo first text trees → left begin ≡ trees
    → ((outline : Outline) × IsTreesOutline (trees_left begin) outline
    × (lines ≡ lines_of form path text (entries_of outline))) → Lists form path text lines
buffer_lists form path text trees begin lines parses is (outline, are, each) = record {
  trees = trees_left begin;
  parses = begin_parses text trees begin parses is;
  outline = outline;
  are = are;
  each = each;
}

pub buffer_unlisted : (text : List ℕ) (trees : Forest) (begin : Cursor) → ParsesTo first text trees
    → left begin ≡ trees → ((outline : Outline) → IsTreesOutline (trees_left begin) outline → ⊥) → IsUnlisted text
buffer_unlisted text trees begin parses is never = record {
  trees = trees_left begin;
  parses = begin_parses text trees begin parses is;
  never = never;
}

-- the lines so far and those of the entries that are left are the same lines after one more entry
pub lines_entry : (form : Form) (path text : List ℕ) (entries : List Entry) (k : ℕ) (entry : Entry)
    (put lines more all : List (List ℕ)) → k < length entries → entry ≡ get_or entries k entry
    → put ≡ option_to_list (line_of form path (shown_line text (entry_of_value entry))) → more ≡ lines ++ put
    → lines ++ lines_of form path text (map entry_of_value (drop k entries)) ≡ all
    → more ++ lines_of form path text (map entry_of_value (drop (k + 1) entries)) ≡ all
lines_entry form path text entries k entry put lines more all within is so added before =
    let rest = lines_of form path text (map entry_of_value (drop (k + 1) entries)) in
    let split : lines_of form path text (map entry_of_value (drop k entries)) ≡ put ++ rest =
    at_drop_more (λ es. lines_of form path text (map entry_of_value es)) entries k entry within
    ∙ ap (λ e. option_to_list (line_of form path (shown_line text (entry_of_value e))) ++ rest) (sym is)
    ∙ ap (λ ls. ls ++ rest) (sym so) in
    ap (λ ls. ls ++ rest) added ∙ append_assoc lines put rest ∙ ap (λ ls. lines ++ ls) (sym split) ∙ before

-- the lines are all lines once no entry is left
pub lines_end : (form : Form) (path text : List ℕ) (entries : List Entry) (k : ℕ) (lines all : List (List ℕ))
    → length entries ≤ k → lines ++ lines_of form path text (map entry_of_value (drop k entries)) ≡ all
    → lines ≡ all
lines_end form path text entries k lines all past before =
    sym (append-nil lines)
    ∙ ap (λ ls. lines ++ ls) (sym (at_drop_all (λ es. lines_of form path text (map entry_of_value es)) entries k past))
    ∙ before

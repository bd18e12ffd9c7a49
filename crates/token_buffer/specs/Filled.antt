-- The entries of a buffer while its text is read.
use Rattle.std.specs.Prelude.{ℕ, Bool, true, false, ◌≡◌, ◌<◌, ◌^◌, List, [], ◌∷◌, ◌++◌, length}
use Rattle.std.specs.Str.{chars, IsUtf8}
use Rattle.pm_token.specs.declared.delimiters.Delimiter.TheVariants.{Bracket}
use Rattle.pm_stream.specs.Taken.{Taken}
use Rattle.token_buffer.specs.Entries.{events_of}
use Rattle.token_buffer.specs.Left.{HoldsOwn}
use Rattle.token_buffer.specs.declared.entry.Entry.{Entry}
use Rattle.token_buffer.specs.declared.entry.Entry.TheVariants as entries
use Rattle.token_buffer.specs.declared.filling.Filling.{Filling}
use Rattle.token_buffer.specs.declared.filling.OpenGroup.{OpenGroup}

-- whether the entries are the tokens of trees, if they are few enough that each count is right
abbrev pub AreTrees : List ℕ → List Entry → Type 0
AreTrees text all = length all < 2 ^ 32 → HoldsOwn text all

-- whether the entries are those before the group, its opener, which has no count yet, and those of trees inside
pub record IsInnermost (text : List ℕ) (group : OpenGroup) (all before inner : List Entry) : Type 0 where
  pub whole : all ≡ before ++ (entries.Open group.delimiter group.lo 0 ∷ inner)
  pub index : group.index ≡ length before
  pub trees : AreTrees text inner

-- whether the entries are those of trees and of the open groups among them, with the innermost group first
abbrev pub AreEntries : List ℕ → List OpenGroup → List Entry → Type 0
AreEntries text [] all = AreTrees text all
AreEntries text (group ∷ groups) all =
    (before : List Entry) × (inner : List Entry) × IsInnermost text group all before inner
    × AreEntries text groups before

-- whether these are the entries of the part of the text that was taken
pub record HasEntries (text : List ℕ) (all : List Entry) (taken : Taken OpenGroup) : Type 0 where
  pub source : taken.source ≡ chars text
  pub utf8 : IsUtf8 text
  pub bytes : length text < 2 ^ 32
  pub entries : AreEntries text taken.opened all
  pub events : events_of text all ≡ taken.events

-- whether the buffer has the entries of the part that was taken
abbrev pub Fills : Filling → Taken OpenGroup → Type 0
Fills filling taken = HasEntries filling.text.now filling.entries.items taken

-- whether a step added exactly these entries
pub record Puts (old new : Filling) (more : List Entry) : Type 0 where
  pub text : new.text ≡ old.text
  pub entries : new.entries.items ≡ old.entries.items ++ more

-- the entries of the group `[doc = ..]`, where `text` is that of its literal
abbrev pub doc_group_entries : Entry → ℕ → ℕ → List Entry
doc_group_entries text at end =
    entries.Open Bracket at 3
    ∷ entries.DocName at end
    ∷ entries.Mark false 61 at end
    ∷ text
    ∷ entries.Close Bracket end
    ∷ []

-- the entries of a doc comment: the mark `#`, the mark `!` if it is inner, and the group
abbrev pub doc_entries : Bool → Entry → ℕ → ℕ → List Entry
doc_entries true text at end =
    entries.Mark false 35 at end ∷ entries.Mark false 33 at end ∷ doc_group_entries text at end
doc_entries false text at end = entries.Mark false 35 at end ∷ doc_group_entries text at end

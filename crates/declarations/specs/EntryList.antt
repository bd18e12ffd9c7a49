-- The entries of an attribute's list, one at a time.
use Rattle.std.specs.Prelude.{◌≡◌, ◌⊎◌, ◌||◌, true, List, [], Option, Result, MatchOption, MatchResult}
use Rattle.pm_stream.specs.declared.stream.TokenTree.{TokenTree}
use Rattle.declarations.specs.Entry.{Fails, IsAfterEntry, IsEntryAt, IsNearEntryAt, IsNoEntry}
use Rattle.declarations.specs.EntryExpects.{ExpectsEntry, ExpectsOnward}
use Rattle.declarations.specs.Expected.{HasSigns, holds}
use Rattle.declarations.specs.List.{IsFirst, IsPastComma}
use Rattle.item_tables.specs.declared.class.SignClass.TheVariants as classes
use Rattle.declarations.specs.declared.entry.Entry.{Entry}
use Rattle.declarations.specs.declared.entry_list.Entries.{Entries}
use Rattle.declarations.specs.declared.expected.Expected.{Expected}
use Rattle.declarations.specs.declared.fault.Fault.{Fault}
use Rattle.item_tables.specs.Classes.{is}

-- the list begins with no entry, and the error has exactly the signs that could come there in an entry
pub record LacksEntry (trees : List TokenTree) (fault : Fault) : Type 0 where
  pub none : IsNoEntry trees fault
  pub expected : ExpectsEntry trees fault.at fault.expected

-- an entry is read, and neither `,` nor the end comes after it. The error has exactly `,` and the signs with which the
-- entry could go on, and the end
pub record LacksCommaAfter (trees : List TokenTree) (fault : Fault) : Type 0 where
  pub rest : List TokenTree
  pub after : IsAfterEntry IsEntryAt trees rest fault
  pub none : (left : List TokenTree) → IsPastComma rest left → ⊥
  pub onward : Expected
  pub goes_on : ExpectsOnward IsNearEntryAt trees fault.at onward
  pub expected : HasSigns fault.expected (λ class. is classes.Comma class || holds onward class) true

-- the error of a list of entries: its next entry cannot be read, or neither `,` nor the end comes after that entry
abbrev pub IsEntryListFault : Fails
IsEntryListFault trees fault = LacksEntry trees fault ⊎ LacksCommaAfter trees fault

-- a call of `next` gives the next entry or an error, and nothing if no trees are left
abbrev pub GivesEntry : Entries → Option (Result Entry Fault) → Entries → Type 0
GivesEntry old given new =
    MatchOption given ((old.left.now ≡ []) × (new ≡ old))
    (λ found. MatchResult found (λ entry. IsFirst IsEntryAt old.left.now entry new.left.now)
    (λ fault. IsEntryListFault old.left.now fault × (new.left.now ≡ [])))

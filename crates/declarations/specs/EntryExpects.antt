-- Which signs could come where an entry has its error, perhaps in a group without delimiters.
use Rattle.std.specs.Prelude.{ℕ, ◌-◌, Bool, true, false, List, [], ◌⊎◌, ◌||◌, MatchOption}
use Rattle.grammars.specs.Grammar.{Nothing}
use Rattle.pm_stream.specs.declared.stream.Group.{Group as Grouped}
use Rattle.pm_stream.specs.declared.stream.TokenTree.{TokenTree}
use Rattle.declarations.specs.Bare.{bare_first, inside_of}
use Rattle.declarations.specs.Entry.{Begins, Continues, Fails, IsNearEntryAt, IsNearFault, IsPlainEntryAt}
use Rattle.declarations.specs.Entry.{IsPlainEntryFault}
use Rattle.declarations.specs.Expected.{Expects, HasSigns, holds}
use Rattle.declarations.specs.Explore.{ExpectsWhole}
use Rattle.item_tables.specs.declared.class.SignClass.TheVariants as classes
use Rattle.declarations.specs.declared.entry.Entry.{Entry}
use Rattle.declarations.specs.declared.entry.EntryKind.{EntryKind}
use Rattle.declarations.specs.declared.entry.EntryKind.TheVariants as kinds
use Rattle.declarations.specs.declared.expected.Expected.{Expected}
use Rattle.declarations.specs.declared.fault.Fault.{Fault}
use Rattle.item_tables.specs.Classes.{is}
use Rattle.declarations.specs.rules.Entries as rule
use Rattle.declarations.specs.rules.Names.{G}
use Rattle.declarations.specs.rules.Pieces.{ByRule}

-- what says which signs could come after so many of the trees
abbrev pub Hints : Type 1
Hints = List TokenTree → ℕ → Expected → Type 0

-- whether an entry of this kind is a path alone
abbrev pub is_path : EntryKind → Bool
is_path kinds.Path = true
is_path _ = false

-- the rule that reads what can come after a group that holds an entry of this kind: only a path alone goes on
abbrev pub rest_of : EntryKind → G
rest_of kinds.Path = rule.entry_rest
rest_of _ = Nothing

-- the trees inside of the group are not exactly one entry, and the set has the signs that could come at their error.
-- The end in the set is that of the group
pub record ExpectsWithin (fails : Fails) (hints : Hints) (g : Grouped) (set : Expected) : Type 0 where
  pub inner : Fault
  pub stands : fails (inside_of g) inner
  pub expected : hints (inside_of g) inner.at set

-- the group holds exactly one entry, and the set has the signs with which it could go on after the group. The number
-- counts the group and the trees after it
pub record ExpectsAfter (begins : Begins) (g : Grouped) (after : List TokenTree) (at : ℕ) (set : Expected) : Type 0
  where
    pub held : Entry
    pub within : begins (inside_of g) held []
    pub expected : Expects (ByRule (rest_of held.kind)) after (at - 1) set

-- the set has exactly the signs with which the entry at the start of the trees could go on
abbrev pub ExpectsOnward : Begins → Hints
ExpectsOnward begins trees at set =
    MatchOption (bare_first trees) (Expects (ByRule rule.entry) trees at set)
    (λ found. ExpectsAfter begins found.0 found.1 at set)

-- the set has exactly the signs that could come where the trees have their error as an entry. If they begin with a
-- group without delimiters, the error is in the group or after it
abbrev pub ExpectsHeld : Begins → Fails → Hints → Hints
ExpectsHeld begins fails hints trees at set =
    MatchOption (bare_first trees) (Expects (ByRule rule.entry) trees at set)
    (λ found. ExpectsWithin fails hints found.0 set ⊎ ExpectsAfter begins found.0 found.1 at set)

-- the set has exactly the signs that could come in an entry, perhaps in a group without delimiters that holds no such
-- group
abbrev pub ExpectsNear : Hints
ExpectsNear = ExpectsHeld IsPlainEntryAt IsPlainEntryFault (Expects (ByRule rule.entry))

-- the set has exactly the signs that could come in an entry. The entry may be in a group without delimiters, and its
-- path in another one
abbrev pub ExpectsEntry : Hints
ExpectsEntry = ExpectsHeld IsNearEntryAt IsNearFault ExpectsNear

-- ---- steps of the parser

-- if the trees begin with this entry, and trees are left after it, the set has exactly the signs with which it could go
-- on
abbrev pub CouldGoOn : List TokenTree → Entry → List TokenTree → Expected → Type 0
CouldGoOn trees entry rest set =
    MatchOption (bare_first trees) (ExpectsWhole rule.entry trees set)
    (λ found. (held : Entry) → Continues held.kind held found.1 entry rest
    → ExpectsWhole (rest_of held.kind) found.1 set)

-- the set has exactly `,`, the signs with which the entry could go on, and the end
pub record ExpectsCommaAfter (trees : List TokenTree) (entry : Entry) (rest : List TokenTree) (set : Expected) : Type 0
  where
    pub onward : Expected
    pub goes_on : CouldGoOn trees entry rest onward
    pub signs : HasSigns set (λ class. is classes.Comma class || holds onward class) true

-- The parts of an attribute's entry, in reading order.
use Rattle.std.specs.Prelude.{◌≡◌, true, List, [], ◌∷◌, ◌++◌, ◌⊎◌, ℕ, MatchOption, MatchResult, None, Option, Result}
use Rattle.std.specs.Prelude.{Some, length, suc}
use Rattle.std.specs.Borrow.{Bor}
use Rattle.pm_span.specs.Extent.{Extent}
use Rattle.pm_token.specs.Leaf.{Name}
use Rattle.pm_stream.specs.declared.stream.Group.{Group as Grouped}
use Rattle.pm_stream.specs.declared.stream.TokenTree.{TokenTree}
use Rattle.pm_stream.specs.declared.stream.TokenTree.TheVariants.{Group, Ident}
use Rattle.declarations.specs.Bare.{bare_first, bare_trees, inside_of}
use Rattle.declarations.specs.Fault.{extent_at, first_extent}
use Rattle.declarations.specs.Reader.{Finds, Sticks}
use Rattle.declarations.specs.Reading.{FaultAt, Reads}
use Rattle.declarations.specs.Signs.{BeginsWith}
use Rattle.item_tables.specs.declared.class.SignClass.{SignClass}
use Rattle.item_tables.specs.declared.class.SignClass.TheVariants as classes
use Rattle.declarations.specs.declared.entry.Entry.{Entry}
use Rattle.declarations.specs.declared.entry.EntryKind.{EntryKind}
use Rattle.declarations.specs.declared.entry.EntryKind.TheVariants as kinds
use Rattle.declarations.specs.declared.fault.Fault.{Fault}
use Rattle.declarations.specs.rules.Entries as rule
use Rattle.declarations.specs.rules.Names.{G}
use Rattle.declarations.specs.rules.Pieces.{ByRule}

-- the trees begin with a group that is the list of an entry, and the rest comes after it
pub record IsListAt (trees : List TokenTree) (tree : TokenTree) (rest : List TokenTree) : Type 0 where
  pub whole : trees ≡ tree ∷ rest
  pub class : SignClass
  pub begins : BeginsWith trees class rest
  pub is : rule.is_list class ≡ true

-- the trees begin with a path and a list
pub record HasList (trees path : List TokenTree) (tree : TokenTree) (rest : List TokenTree) : Type 0 where
  pub from_list : List TokenTree
  pub path_read : Reads (ByRule rule.entry_path) trees path from_list
  pub list : from_list ≡ tree ∷ rest

-- the trees begin with a path, `=` and a value
pub record HasValue (trees path value rest : List TokenTree) : Type 0 where
  pub from_equals : List TokenTree
  pub from_value : List TokenTree
  pub path_read : Reads (ByRule rule.entry_path) trees path from_equals
  pub equals : BeginsWith from_equals classes.Equals from_value
  pub value_read : Reads (ByRule rule.entry_value) from_value value rest

-- the trees begin with a literal, and the path has no trees
pub record HasLiteral (trees path literal rest : List TokenTree) : Type 0 where
  pub no_path : path ≡ []
  pub literal_read : Reads (ByRule rule.entry_literal) trees literal rest

-- the trees begin with an entry of this kind that has this path
abbrev pub HasParts : EntryKind → List TokenTree → List TokenTree → List TokenTree → Type 0
HasParts kinds.Path trees path rest = Reads (ByRule rule.entry_path) trees path rest
HasParts (kinds.List g) trees path rest = HasList trees path (Group g.now) rest
HasParts (kinds.Value value) trees path rest = HasValue trees path value.now rest
HasParts (kinds.Literal literal) trees path rest = HasLiteral trees path literal.now rest

-- the trees begin with an entry that has these parts, and the rest comes after it. No part is looked for in a group
pub record IsPlainEntryAt (trees : List TokenTree) (entry : Entry) (rest : List TokenTree) : Type 0 where
  pub part : List TokenTree
  pub reads : Reads (ByRule rule.entry) trees part rest
  pub parts : HasParts entry.kind trees entry.path.now rest

-- the trees after a path are what an entry of this kind has there, and then the rest
abbrev pub HasArgs : EntryKind → List TokenTree → List TokenTree → Type 0
HasArgs kinds.Path from_args rest = from_args ≡ rest
HasArgs (kinds.List g) from_args rest = from_args ≡ Group g.now ∷ rest
HasArgs (kinds.Value value) from_args rest =
    (from_value : List TokenTree) × BeginsWith from_args classes.Equals from_value
    × Reads (ByRule rule.entry_value) from_value value.now rest
HasArgs (kinds.Literal literal) from_args rest = ⊥

-- whatever the rule reads at the start of the trees, this is the rest after it
abbrev pub IsOnlyRest : G → List TokenTree → List TokenTree → Type 0
IsOnlyRest g trees rest = (part2 rest2 : List TokenTree) → Reads (ByRule g) trees part2 rest2 → rest2 ≡ rest

-- the result is the entry and the trees after what the rule finds, or the trees from the error on
abbrev pub ReadsEntry : G → List TokenTree → Result (Entry × Bor (List TokenTree)) (Bor (List TokenTree)) → Type 0
ReadsEntry g trees result =
    MatchResult result
    (λ found. Finds g trees found.1.now × HasParts found.0.kind trees found.0.path.now found.1.now)
    (λ left. Sticks g trees left.now)

-- the identifier, if it is the only tree
abbrev pub only_name : List TokenTree → Option Name
only_name (Ident i ∷ []) = Some i
only_name _ = None

-- the identifier, if it is the only tree, perhaps in groups without delimiters
abbrev pub sole_name : List TokenTree → Option Name
sole_name trees = only_name (bare_trees trees)

-- the span of the first tree of an entry that has this kind and this path
abbrev pub entry_extent : EntryKind → List TokenTree → Option Extent
entry_extent (kinds.Literal literal) path = first_extent literal.now
entry_extent _ path = first_extent path

-- ---- trees that are exactly one entry

-- an entry is read from the trees, and trees are left after it
pub record LeavesTrees (trees : List TokenTree) (at : ℕ) : Type 0 where
  pub part : List TokenTree
  pub rest : List TokenTree
  pub reads : Reads (ByRule rule.entry) trees part rest
  pub counted : at ≡ length part
  pub some : rest ≡ [] → ⊥

-- the trees are not exactly one entry. The error is in the entry, or at the first tree after it
pub record IsPlainEntryFault (trees : List TokenTree) (fault : Fault) : Type 0 where
  pub place : FaultAt (ByRule rule.entry) trees fault.at ⊎ LeavesTrees trees fault.at
  pub span : fault.span ≡ extent_at trees fault.at

-- ---- an entry that a group without delimiters holds, or whose path it holds

-- what says that trees begin with an entry, and which trees come after it
abbrev pub Begins : Type 1
Begins = List TokenTree → Entry → List TokenTree → Type 0

-- the entry has this path, and the trees after the path begin with what follows it
pub record GoesOn (path after : List TokenTree) (entry : Entry) (rest : List TokenTree) : Type 0 where
  pub same : entry.path.now ≡ path
  pub args : List TokenTree
  pub reads : Reads (ByRule rule.entry_rest) after args rest
  pub has : HasArgs entry.kind after rest

-- the group holds this entry. If it is a path alone, a list or a value can come after the group
abbrev pub Continues : EntryKind → Entry → List TokenTree → Entry → List TokenTree → Type 0
Continues kinds.Path held after entry rest = GoesOn held.path.now after entry rest
Continues _ held after entry rest = (entry ≡ held) × (rest ≡ after)

-- the trees inside of the group are exactly one entry, and the trees after the group go on with it as they can
pub record IsHeldEntryAt (begins : Begins) (inside after : List TokenTree) (entry : Entry) (rest : List TokenTree)
    : Type 0 where
  pub held : Entry
  pub within : begins inside held []
  pub goes_on : Continues held.kind held after entry rest

-- the trees begin with an entry, or with a group without delimiters in which there is one
abbrev pub BeginsWithHeld : Begins → Begins
BeginsWithHeld begins trees entry rest =
    MatchOption (bare_first trees) (IsPlainEntryAt trees entry rest)
    (λ found. IsHeldEntryAt begins (inside_of found.0) found.1 entry rest)

-- the trees begin with an entry that has these parts, perhaps in a group without delimiters that holds no such group
abbrev pub IsNearEntryAt : Begins
IsNearEntryAt = BeginsWithHeld IsPlainEntryAt

-- the trees begin with an entry that has these parts, and the rest comes after it. The entry may be in a group without
-- delimiters, and its path in another one
abbrev pub IsEntryAt : Begins
IsEntryAt = BeginsWithHeld IsNearEntryAt

-- the trees begin with no group without delimiters, or whatever the rule reads there, this is the rest after it
abbrev pub IsOnlyPlainRest : List TokenTree → List TokenTree → Type 0
IsOnlyPlainRest trees rest = bare_first trees ≡ None → IsOnlyRest rule.entry trees rest

-- ---- where the error is if there is no entry

-- what says that trees have an error
abbrev pub Fails : Type 1
Fails = List TokenTree → Fault → Type 0

-- the span, or else the other one
abbrev pub span_or : Option Extent → Extent → Extent
span_or None other = other
span_or (Some span) other = span

-- the trees inside of the group are not exactly one entry. The error is counted before the group, and has the span of
-- the wrong tree inside, or that of the group if trees are missing at its end
pub record IsFaultWithin (fails : Fails) (g : Grouped) (fault : Fault) : Type 0 where
  pub inner : Fault
  pub stands : fails (inside_of g) inner
  pub counted : fault.at ≡ 0
  pub span : fault.span ≡ Some (span_or inner.span g.span)

-- the trees after a group that holds a path begin with no value, though with an `=`. The error counts the group too
pub record IsArgsFault (after : List TokenTree) (fault : Fault) : Type 0 where
  pub at : ℕ
  pub stands : FaultAt (ByRule rule.entry_rest) after at
  pub counted : fault.at ≡ suc at
  pub span : fault.span ≡ extent_at after at

-- the group holds a path alone, and the trees after it begin with no value, though with an `=`
pub record IsFaultAfter (begins : Begins) (g : Grouped) (after : List TokenTree) (fault : Fault) : Type 0 where
  pub held : Entry
  pub within : begins (inside_of g) held []
  pub path : held.kind ≡ kinds.Path
  pub stands : IsArgsFault after fault

-- no entry can be read from the trees, and this is the error
pub record IsPlainFault (trees : List TokenTree) (fault : Fault) : Type 0 where
  pub place : FaultAt (ByRule rule.entry) trees fault.at
  pub span : fault.span ≡ extent_at trees fault.at

-- the trees begin with no entry. A group without delimiters at their start holds none, by what is said of its trees
abbrev pub BeginsWithNone : Begins → Fails → Fails
BeginsWithNone begins fails trees fault =
    MatchOption (bare_first trees) (IsPlainFault trees fault)
    (λ found. IsFaultWithin fails found.0 fault ⊎ IsFaultAfter begins found.0 found.1 fault)

-- an entry is read from the trees, and then come trees that the error is at
pub record IsAfterEntry (begins : Begins) (trees rest : List TokenTree) (fault : Fault) : Type 0 where
  pub entry : Entry
  pub part : List TokenTree
  pub reads : begins trees entry rest
  pub whole : trees ≡ part ++ rest
  pub counted : fault.at ≡ length part
  pub span : fault.span ≡ extent_at trees fault.at

-- trees are left after an entry, and the error is at them
abbrev pub LeavesSome : Begins → Fails
LeavesSome begins trees fault =
    (rest : List TokenTree) × IsAfterEntry begins trees rest fault × (rest ≡ [] → ⊥)

-- the trees are not exactly one entry, perhaps in a group without delimiters that holds no such group
abbrev pub IsNearFault : Fails
IsNearFault trees fault =
    BeginsWithNone IsPlainEntryAt IsPlainEntryFault trees fault ⊎ LeavesSome IsNearEntryAt trees fault

-- the trees begin with no entry, and this is the error
abbrev pub IsNoEntry : Fails
IsNoEntry = BeginsWithNone IsNearEntryAt IsNearFault

-- the trees are not exactly one entry. The error is in the entry, or at the first tree after it
abbrev pub IsEntryFault : Fails
IsEntryFault trees fault = IsNoEntry trees fault ⊎ LeavesSome IsEntryAt trees fault

-- the span of the first tree, or if that is a group without delimiters, that of the entry in it
abbrev pub entry_spot : List TokenTree → Entry → Option Extent
entry_spot trees entry =
    elim (bare_first trees) [ None ↦ first_extent trees | Some found ↦ entry_extent entry.kind entry.path.now ]

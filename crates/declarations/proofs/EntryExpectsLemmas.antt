-- Which signs could come where an entry has its error.
use Rattle.std.proofs.Common.{◌≡◌, refl, sym, ◌∙◌, ap, subst, ℕ, ◌+◌, ◌-◌, ◌<◌, Bool, true, false, List, [], ◌∷◌}
use Rattle.std.proofs.Common.{Option, Some, None, length, inl, inr, arith}
use Rattle.std.proofs.lemmas.Bool.{both_ways}
use Rattle.std.specs.Prelude.{◌⊎◌, IfErr, MatchOption, Result, Ok, Err}
use Rattle.std.specs.Borrow.{Bor}
use Rattle.grammars.specs.Deterministic.{IsStart}
use Rattle.grammars.specs.Grammar.{Nothing}
use Rattle.pm_stream.specs.declared.stream.Group.{Group as Grouped}
use Rattle.pm_stream.specs.declared.stream.TokenTree.{TokenTree}
use Rattle.declarations.specs.Bare.{bare_first, inside_of}
use Rattle.declarations.specs.Entry.{Begins, BeginsWithHeld, Continues, Fails, HasArgs, IsEntryAt, IsHeldEntryAt}
use Rattle.declarations.specs.Entry.{IsNearEntryAt, IsNoEntry, IsPlainEntryAt}
use Rattle.declarations.specs.EntryExpects.{CouldGoOn, ExpectsAfter, ExpectsCommaAfter, ExpectsEntry, ExpectsHeld}
use Rattle.declarations.specs.EntryExpects.{ExpectsOnward, ExpectsWithin, Hints, is_path, rest_of}
use Rattle.declarations.specs.EntryList.{IsEntryListFault}
use Rattle.declarations.specs.Expected.{Expects}
use Rattle.declarations.specs.Explore.{ExpectsWhole}
use Rattle.declarations.specs.Fault.{first_extent}
use Rattle.declarations.specs.List.{IsPastComma}
use Rattle.declarations.specs.Reader.{Sticks, classes_in}
use Rattle.declarations.specs.Reading.{Reads}
use Rattle.declarations.specs.declared.entry.Entry.{Entry}
use Rattle.declarations.specs.declared.entry.EntryKind.{EntryKind}
use Rattle.declarations.specs.declared.entry.EntryKind.TheVariants as kinds
use Rattle.declarations.specs.declared.expected.Expected.{Expected}
use Rattle.declarations.specs.declared.fault.Fault.{Fault}
use Rattle.declarations.specs.rules.Entries as rule
use Rattle.declarations.specs.rules.Names.{G}
use Rattle.declarations.specs.rules.Pieces.{ByRule}
use Rattle.declarations.specs.rules.Rules.{follows, rules}
use Rattle.declarations.proofs.EntryLemmas.{starts_entry}
use Rattle.declarations.proofs.HeldLemmas.{after_entry, bare_whole, starts_rest}
use Rattle.declarations.proofs.ListLemmas.{none_past, rest_within}
use Rattle.declarations.proofs.ReaderLemmas.{heads_nothing, stays}
use Rattle.declarations.proofs.RuleExpectsLemmas.{reads_expects, stuck_expects}
use Rattle.declarations.proofs.RuleFormLemmas.{found_reads}
use Rattle.declarations.proofs.RuleLemmas.{starts}

abbrev Found : Type 0
Found = Result (Entry × Bor (List TokenTree)) Fault

-- ---- in the group, or after it

pub args_expected : (after left : List TokenTree) (at : ℕ) (set : Expected) → Sticks rule.entry_rest after left
    → at ≡ 1 + (length after - length left) → ExpectsWhole rule.entry_rest after set
    → Expects (ByRule rule.entry_rest) after (at - 1) set
args_expected after left at set f counted e =
    let less : at - 1 ≡ length after - length left = omega arith in
    stuck_expects rule.entry_rest starts_rest after left (at - 1) set f less e

module _ (begins : Begins) (fails : Fails) (hints : Hints) where
  pub within_expected : (g : Grouped) (after : List TokenTree) (inner fault : Fault) → fails (inside_of g) inner
      → hints (inside_of g) inner.at inner.expected → fault.expected ≡ inner.expected
      → ExpectsWithin fails hints g fault.expected ⊎ ExpectsAfter begins g after fault.at fault.expected
  within_expected g after inner fault stands e same =
      inl (record {
        inner = inner;
        stands = stands;
        expected = subst (hints (inside_of g) inner.at) (sym same) e;
      })

  pub path_expected : (g : Grouped) (after : List TokenTree) (held : Entry) (result : Found)
      → begins (inside_of g) held [] → held.kind ≡ kinds.Path
      → IfErr result (λ fault. Expects (ByRule rule.entry_rest) after (fault.at - 1) fault.expected)
      → IfErr result
      (λ fault. ExpectsWithin fails hints g fault.expected ⊎ ExpectsAfter begins g after fault.at fault.expected)
  path_expected g after held (Ok found) within kind e = tt
  path_expected g after held (Err fault) within kind e =
      inr (record {
        held = held;
        within = within;
        expected = subst (λ k. Expects (ByRule (rest_of k)) after (fault.at - 1) fault.expected) (sym kind) e;
      })

  module _ (trees : List TokenTree) (result : Found) where
    pub held_expected : (after : List TokenTree) (g : Grouped) → bare_first trees ≡ Some (g, after)
        → IfErr result
        (λ fault. ExpectsWithin fails hints g fault.expected ⊎ ExpectsAfter begins g after fault.at fault.expected)
        → IfErr result (λ fault. ExpectsHeld begins fails hints trees fault.at fault.expected)
    held_expected after g is e =
        subst
        (λ first. IfErr result (λ fault. MatchOption first (Expects (ByRule rule.entry) trees fault.at fault.expected)
        (λ found. ExpectsWithin fails hints found.0 fault.expected
        ⊎ ExpectsAfter begins found.0 found.1 fault.at fault.expected))) (sym is) e

    pub plain_expected : bare_first trees ≡ None
        → IfErr result (λ fault. Expects (ByRule rule.entry) trees fault.at fault.expected)
        → IfErr result (λ fault. ExpectsHeld begins fails hints trees fault.at fault.expected)
    plain_expected is e =
        subst
        (λ first. IfErr result (λ fault. MatchOption first (Expects (ByRule rule.entry) trees fault.at fault.expected)
        (λ found. ExpectsWithin fails hints found.0 fault.expected
        ⊎ ExpectsAfter begins found.0 found.1 fault.at fault.expected))) (sym is) e

-- ---- whether a group holds a path alone

-- trees after the group belong to the entry
pub path_longer : (kind : EntryKind) (held entry : Entry) (after rest : List TokenTree)
    → Continues kind held after entry rest → length rest < length after → is_path kind ≡ true
path_longer kinds.Path held entry after rest goes less = refl
path_longer (kinds.List g) held entry after rest goes less = let same = ap length goes.1 in absurd (omega arith)
path_longer (kinds.Value v) held entry after rest goes less = let same = ap length goes.1 in absurd (omega arith)
path_longer (kinds.Literal l) held entry after rest goes less = let same = ap length goes.1 in absurd (omega arith)

args_longer : (kind : EntryKind) (after rest : List TokenTree) → HasArgs kind after rest → is_path kind ≡ false
    → length rest < length after
args_longer kinds.Path after rest has other = absurd (both_ways _ other refl)
args_longer (kinds.List g) after rest has other = let whole = ap length has in omega arith
args_longer (kinds.Value v) after rest has other =
    let fewer : length has.0 < length after = has.1.fewer in
    let within = rest_within (ByRule rule.entry_value) has.0 v.now rest has.2 in
    omega arith
args_longer (kinds.Literal l) after rest has other = absurd has

-- no trees after the group belong to the entry
pub path_same : (kind : EntryKind) (held entry : Entry) (after rest : List TokenTree) → kind ≡ held.kind
    → Continues kind held after entry rest → (length rest < length after → ⊥) → is_path kind ≡ is_path entry.kind
path_same kinds.Path held entry after rest same goes none = go (is_path entry.kind) refl
  where
    go : (b : Bool) → is_path entry.kind ≡ b → true ≡ b
    go true e = refl
    go false e = absurd (none (args_longer entry.kind after rest goes.has e))
path_same (kinds.List g) held entry after rest same goes none =
    ap is_path same ∙ ap (λ x. is_path x.kind) (sym goes.0)
path_same (kinds.Value v) held entry after rest same goes none =
    ap is_path same ∙ ap (λ x. is_path x.kind) (sym goes.0)
path_same (kinds.Literal l) held entry after rest same goes none =
    ap is_path same ∙ ap (λ x. is_path x.kind) (sym goes.0)

pub path_rule : (kind : EntryKind) → is_path kind ≡ true → rule.entry_rest ≡ rest_of kind
path_rule kinds.Path h = refl
path_rule (kinds.List g) h = absurd (both_ways _ refl h)
path_rule (kinds.Value v) h = absurd (both_ways _ refl h)
path_rule (kinds.Literal l) h = absurd (both_ways _ refl h)

pub other_rule : (kind : EntryKind) → is_path kind ≡ false → Nothing ≡ rest_of kind
other_rule kinds.Path h = absurd (both_ways _ h refl)
other_rule (kinds.List g) h = refl
other_rule (kinds.Value v) h = refl
other_rule (kinds.Literal l) h = refl

-- ---- how an entry could go on

pub held_goes_on : (g : G) (trees rest : List TokenTree) (entry : Entry) (first : Grouped × List TokenTree)
    (set : Expected)
    → bare_first trees ≡ Some first
    → ((held : Entry) → Continues held.kind held first.1 entry rest → g ≡ rest_of held.kind)
    → ExpectsWhole g first.1 set
    → CouldGoOn trees entry rest set
held_goes_on g trees rest entry first set is by e =
    subst
    (λ o. MatchOption o (ExpectsWhole rule.entry trees set)
    (λ found. (held : Entry) → Continues held.kind held found.1 entry rest
    → ExpectsWhole (rest_of held.kind) found.1 set)) (sym is)
    (λ held goes. subst (λ h. ExpectsWhole h first.1 set) (by held goes) e)

pub plain_goes_on : (trees rest : List TokenTree) (entry : Entry) (set : Expected) → bare_first trees ≡ None
    → ExpectsWhole rule.entry trees set
    → CouldGoOn trees entry rest set
plain_goes_on trees rest entry set is e =
    subst
    (λ o. MatchOption o (ExpectsWhole rule.entry trees set)
    (λ found. (held : Entry) → Continues held.kind held found.1 entry rest
    → ExpectsWhole (rest_of held.kind) found.1 set)) (sym is) e

starts_nothing : IsStart rules follows (Nothing ∷ [])
starts_nothing = starts Nothing refl refl

starts_after : (kind : EntryKind) → IsStart rules follows (rest_of kind ∷ [])
starts_after kinds.Path = starts_rest
starts_after (kinds.List g) = starts_nothing
starts_after (kinds.Value v) = starts_nothing
starts_after (kinds.Literal l) = starts_nothing

reads_nothing : (after rest : List TokenTree) → rest ≡ after → Reads (ByRule Nothing) after [] rest
reads_nothing after rest same =
    subst (λ r. Reads (ByRule Nothing) after [] r) (sym same)
    (found_reads Nothing starts_nothing after [] after
    (stays Nothing after (heads_nothing (classes_in after)) refl) refl)

-- what is read after the group
goes_reads : (kind : EntryKind) (held entry : Entry) (after rest : List TokenTree)
    → Continues kind held after entry rest
    → (part : List TokenTree) × Reads (ByRule (rest_of kind)) after part rest
goes_reads kinds.Path held entry after rest goes = (goes.args, goes.reads)
goes_reads (kinds.List g) held entry after rest goes = ([], reads_nothing after rest goes.1)
goes_reads (kinds.Value v) held entry after rest goes = ([], reads_nothing after rest goes.1)
goes_reads (kinds.Literal l) held entry after rest goes = ([], reads_nothing after rest goes.1)

no_trees : (rest : List TokenTree) → (rest ≡ [] → ⊥) → length rest ≡ 0 → ⊥
no_trees [] some none = some refl
no_trees (tree ∷ rest) some none = omega arith

pub plain_left : (trees rest : List TokenTree) (entry : Entry) (at : ℕ) (set : Expected)
    → IsPlainEntryAt trees entry rest → (rest ≡ [] → ⊥) → at ≡ length trees - length rest
    → ExpectsWhole rule.entry trees set
    → Expects (ByRule rule.entry) trees at set
plain_left trees rest entry at set is some counted e =
    reads_expects rule.entry starts_entry trees is.part rest at set is.reads (no_trees rest some) counted e

module _ (begins : Begins) (trees rest : List TokenTree) (entry : Entry) (at : ℕ) (set : Expected)
    (is : BeginsWithHeld begins trees entry rest) (some : rest ≡ [] → ⊥) (counted : at ≡ length trees - length rest)
    (e : CouldGoOn trees entry rest set) where
  pub onward_expected : ExpectsOnward begins trees at set
  onward_expected = go (bare_first trees) refl is e
    where
      go : (first : Option (Grouped × List TokenTree)) → bare_first trees ≡ first
          → MatchOption first (IsPlainEntryAt trees entry rest)
          (λ f. IsHeldEntryAt begins (inside_of f.0) f.1 entry rest)
          → MatchOption first (ExpectsWhole rule.entry trees set)
          (λ f. (held : Entry) → Continues held.kind held f.1 entry rest → ExpectsWhole (rest_of held.kind) f.1 set)
          → MatchOption first (Expects (ByRule rule.entry) trees at set) (λ f. ExpectsAfter begins f.0 f.1 at set)
      go None first plain next = plain_left trees rest entry at set plain some counted next
      go (Some found) first held next =
          let whole = ap length (bare_whole trees found.1 found.0 first) in
          let read = goes_reads held.held.kind held.held entry found.1 rest held.goes_on in
          let less : at - 1 ≡ length found.1 - length rest = omega arith in
          record {
            held = held.held;
            within = held.within;
            expected = reads_expects (rest_of held.held.kind) (starts_after held.held.kind) found.1 read.0 rest (at - 1)
                set read.1 (no_trees rest some) less (next held.held held.goes_on);
          }

  -- trees are left after the entry
  pub left_expected : (fails : Fails) (hints : Hints) → ExpectsHeld begins fails hints trees at set
  left_expected fails hints = go (bare_first trees) onward_expected
    where
      go : (first : Option (Grouped × List TokenTree))
          → MatchOption first (Expects (ByRule rule.entry) trees at set) (λ f. ExpectsAfter begins f.0 f.1 at set)
          → MatchOption first (Expects (ByRule rule.entry) trees at set)
          (λ f. ExpectsWithin fails hints f.0 set ⊎ ExpectsAfter begins f.0 f.1 at set)
      go None found = found
      go (Some first) found = inr found

-- ---- lists of entries

pub entry_lacks_comma : (trees rest : List TokenTree) (entry : Entry) (fault : Fault) → IsEntryAt trees entry rest
    → ((left : List TokenTree) → IsPastComma rest left → ⊥) → fault.at ≡ length trees - length rest
    → fault.span ≡ first_extent rest → ExpectsCommaAfter trees entry rest fault.expected
    → IsEntryListFault trees fault
entry_lacks_comma trees rest entry fault is none counted first e =
    inr (record {
      rest = rest;
      after = after_entry IsNearEntryAt trees rest entry is fault counted first;
      none = none;
      onward = e.onward;
      goes_on = onward_expected IsNearEntryAt trees rest entry fault.at e.onward is
          (λ empty. none rest (none_past rest (ap length empty))) counted e.goes_on;
      expected = e.signs;
    })

pub entry_lacks_part : (trees : List TokenTree) (fault : Fault) → IsNoEntry trees fault
    → ExpectsEntry trees fault.at fault.expected
    → IsEntryListFault trees fault
entry_lacks_part trees fault none e = inl (record { none = none; expected = e })

-- Entries of attributes in groups without delimiters.
use Rattle.std.proofs.Common.{◌≡◌, refl, sym, ◌∙◌, ap, subst, ℕ, ◌+◌, ◌-◌, ◌≤◌, ◌<◌, ◌==◌, Bool, true, false, List, []}
use Rattle.std.proofs.Common.{◌∷◌}
use Rattle.std.proofs.Common.{◌++◌, Option, Some, None, drop, length, if◌then◌else◌, suc, inl, inr, arith}
use Rattle.std.specs.Prelude.{◌⊎◌, IfErr, IfOk, MatchOption, MatchResult, Result, Ok, Err}
use Rattle.std.specs.Borrow.{Bor}
use Rattle.std.proofs.lemmas.List.{length-append}
use Rattle.std.proofs.Math.Seq.{drop-append_seam}
use Rattle.grammars.specs.Deterministic.{IsStart}
use Rattle.pm_span.specs.Extent.{Extent}
use Rattle.pm_stream.specs.declared.stream.Group.{Group as Grouped}
use Rattle.pm_stream.specs.declared.stream.TokenTree.{TokenTree}
use Rattle.pm_stream.specs.declared.stream.TokenTree.TheVariants.{Group, Ident, Punct, Literal}
use Rattle.declarations.specs.Bare.{bare_first, has_no_delimiters, inside_of}
use Rattle.declarations.specs.Entry.{Begins, BeginsWithHeld, BeginsWithNone, Continues, Fails, GoesOn, HasArgs}
use Rattle.declarations.specs.Entry.{IsAfterEntry, IsArgsFault, IsFaultAfter, IsFaultWithin}
use Rattle.declarations.specs.Entry.{IsHeldEntryAt, IsNearEntryAt, IsNearFault, IsNoEntry, IsOnlyPlainRest}
use Rattle.declarations.specs.Entry.{IsOnlyRest, IsPlainEntryAt, IsPlainFault, LeavesSome, span_or}
use Rattle.declarations.specs.EntryList.{IsEntryListFault}
use Rattle.declarations.specs.Fault.{extent_at, first_extent}
use Rattle.declarations.specs.Reader.{Finds, Sticks}
use Rattle.declarations.specs.Signs.{trees_of}
use Rattle.declarations.specs.declared.entry.Entry.{Entry}
use Rattle.declarations.specs.declared.entry.EntryKind.{EntryKind}
use Rattle.declarations.specs.declared.entry.EntryKind.TheVariants as kinds
use Rattle.declarations.specs.declared.fault.Fault.{Fault}
use Rattle.declarations.specs.rules.Entries as rule
use Rattle.declarations.specs.rules.Pieces.{ByRule}
use Rattle.declarations.specs.rules.Rules.{follows, rules}
use Rattle.declarations.proofs.ParamLemmas.{fault_within}
use Rattle.declarations.proofs.ReaderLemmas.{remains_span, remains_within}
use Rattle.declarations.proofs.RuleFormLemmas.{found_reads, stuck_fault}
use Rattle.declarations.proofs.RuleLemmas.{starts}

abbrev Found : Type 0
Found = Result (Entry × Bor (List TokenTree)) Fault

pub starts_rest : IsStart rules follows (rule.entry_rest ∷ [])
starts_rest = starts rule.entry_rest refl refl

-- ---- what comes after a path in a group

pub goes_on : (path after rest : List TokenTree) (entry : Entry) → entry.path.now ≡ path
    → Finds rule.entry_rest after rest → HasArgs entry.kind after rest
    → GoesOn path after entry rest
goes_on path after rest entry same f has = record {
  same = same;
  args = trees_of f.remains.front;
  reads = found_reads rule.entry_rest starts_rest after (trees_of f.remains.front) rest f f.remains.whole;
  has = has;
}

pub goes_within : (after rest : List TokenTree) → Finds rule.entry_rest after rest → length rest ≤ length after
goes_within after rest f = remains_within after rest f.remains

pub args_fault : (after left : List TokenTree) (fault : Fault) → Sticks rule.entry_rest after left
    → fault.at ≡ 1 + (length after - length left) → fault.span ≡ first_extent left
    → IsArgsFault after fault
args_fault after left fault f counted first =
    let within = remains_within after left f.remains in record {
      at = length after - length left;
      stands = stuck_fault rule.entry_rest starts_rest after left (length after - length left) f (omega arith);
      counted = omega arith;
      span = remains_span after left (length after - length left) fault.span f.remains refl first;
    }

-- ---- an entry in a group

module _ (begins : Begins) where
  pub held_path : (inside after path : List TokenTree) (held : Entry) (result : Found) → begins inside held []
      → held.kind ≡ kinds.Path → path ≡ held.path.now
      → MatchResult result (λ found. GoesOn path after found.0 found.1.now) (λ fault. IsArgsFault after fault)
      → IfOk result (λ found. IsHeldEntryAt begins inside after found.0 found.1.now)
  held_path inside after path held (Ok found) within kind same goes = record {
    held = held;
    within = within;
    goes_on = subst (λ k. Continues k held after found.0 found.1.now) (sym kind)
        (subst (λ p. GoesOn p after found.0 found.1.now) same goes);
  }
  held_path inside after path held (Err fault) within kind same goes = tt

  pub held_path_fault : (fails : Fails) (g : Grouped) (after path : List TokenTree) (held : Entry) (result : Found)
      → begins (inside_of g) held [] → held.kind ≡ kinds.Path
      → MatchResult result (λ found. GoesOn path after found.0 found.1.now) (λ fault. IsArgsFault after fault)
      → IfErr result (λ fault. IsFaultWithin fails g fault ⊎ IsFaultAfter begins g after fault)
  held_path_fault fails g after path held (Ok found) within kind goes = tt
  held_path_fault fails g after path held (Err fault) within kind goes =
      inr (record { held = held; within = within; path = kind; stands = goes })

pub within_fault : (begins : Begins) (fails : Fails) (g : Grouped) (after : List TokenTree) (inner fault : Fault)
    → fails (inside_of g) inner → fault.at ≡ 0 → fault.span ≡ Some (span_or inner.span g.span)
    → IsFaultWithin fails g fault ⊎ IsFaultAfter begins g after fault
within_fault begins fails g after inner fault stands counted span =
    inl (record { inner = inner; stands = stands; counted = counted; span = span })

-- ---- the first tree

pub bare_whole : (trees after : List TokenTree) (g : Grouped) → bare_first trees ≡ Some (g, after)
    → trees ≡ Group g ∷ after
bare_whole [] after g e = cc
bare_whole (Ident i ∷ rest) after g e = cc
bare_whole (Punct p ∷ rest) after g e = cc
bare_whole (Literal l ∷ rest) after g e = cc
bare_whole (Group h ∷ rest) after g e = go (has_no_delimiters h.delimiter) (h, rest) (g, after) e
  where
    go : (b : Bool) (first found : Grouped × List TokenTree) → (if b then Some first else None) ≡ Some found
        → Group first.0 ∷ first.1 ≡ Group found.0 ∷ found.1
    go true first found k = let same : first ≡ found = cc in ap (λ p. Group p.0 ∷ p.1) same
    go false first found k = cc

module _ (trees : List TokenTree) (result : Found) (begins : Begins) where
  pub held_found : (after : List TokenTree) (g : Grouped) → bare_first trees ≡ Some (g, after)
      → IfOk result (λ found. IsHeldEntryAt begins (inside_of g) after found.0 found.1.now)
      → IfOk result (λ found. BeginsWithHeld begins trees found.0 found.1.now)
  held_found after g is held =
      subst
      (λ first. IfOk result (λ found. MatchOption first (IsPlainEntryAt trees found.0 found.1.now)
      (λ f. IsHeldEntryAt begins (inside_of f.0) f.1 found.0 found.1.now))) (sym is) held

  pub plain_found : bare_first trees ≡ None → IfOk result (λ found. IsPlainEntryAt trees found.0 found.1.now)
      → IfOk result (λ found. BeginsWithHeld begins trees found.0 found.1.now)
  plain_found is plain =
      subst
      (λ first. IfOk result (λ found. MatchOption first (IsPlainEntryAt trees found.0 found.1.now)
      (λ f. IsHeldEntryAt begins (inside_of f.0) f.1 found.0 found.1.now))) (sym is) plain

  pub held_fails : (fails : Fails) (after : List TokenTree) (g : Grouped) → bare_first trees ≡ Some (g, after)
      → IfErr result (λ fault. IsFaultWithin fails g fault ⊎ IsFaultAfter begins g after fault)
      → IfErr result (λ fault. BeginsWithNone begins fails trees fault)
  held_fails fails after g is stands =
      subst
      (λ first. IfErr result (λ fault. MatchOption first (IsPlainFault trees fault)
      (λ f. IsFaultWithin fails f.0 fault ⊎ IsFaultAfter begins f.0 f.1 fault))) (sym is) stands

  pub plain_fails : (fails : Fails) → bare_first trees ≡ None → IfErr result (λ fault. IsPlainFault trees fault)
      → IfErr result (λ fault. BeginsWithNone begins fails trees fault)
  plain_fails fails is stands =
      subst
      (λ first. IfErr result (λ fault. MatchOption first (IsPlainFault trees fault)
      (λ f. IsFaultWithin fails f.0 fault ⊎ IsFaultAfter begins f.0 f.1 fault))) (sym is) stands

pub held_less : (trees after : List TokenTree) (g : Grouped) (result : Found)
    → bare_first trees ≡ Some (g, after) → IfOk result (λ found. length found.1.now ≤ length after)
    → IfOk result (λ found. length found.1.now < length trees)
held_less trees after g (Ok found) is within =
    let whole = ap length (bare_whole trees after g is) in
    omega arith
held_less trees after g (Err fault) is within = tt

pub held_only : (trees after : List TokenTree) (g : Grouped) (result : Found)
    → bare_first trees ≡ Some (g, after)
    → IfOk result (λ found. IsOnlyPlainRest trees found.1.now)
held_only trees after g (Ok found) is = λ none. not_both (g, after) (sym is ∙ none)
  where
    not_both : (first : Grouped × List TokenTree) → Some first ≡ None → IsOnlyRest rule.entry trees found.1.now
    not_both first both = cc
held_only trees after g (Err fault) is = tt

pub plain_only : (trees : List TokenTree) (result : Found)
    → IfOk result (λ found. IsOnlyRest rule.entry trees found.1.now)
    → IfOk result (λ found. IsOnlyPlainRest trees found.1.now)
plain_only trees (Ok found) only = λ none. only
plain_only trees (Err fault) only = tt

-- ---- what comes after an entry

rest_span : (trees part rest : List TokenTree) (at : ℕ) (span : Option Extent) → trees ≡ part ++ rest
    → at ≡ length part → span ≡ first_extent rest → span ≡ extent_at trees at
rest_span trees part rest at span whole counted first =
    first ∙ ap first_extent (sym (drop-append_seam part rest) ∙ ap (λ n. drop n (part ++ rest)) (sym counted)
    ∙ ap (drop at) (sym whole))

module _ (begins : Begins) (trees rest : List TokenTree) (entry : Entry)
    (at : BeginsWithHeld begins trees entry rest) where
  -- the trees before the rest of an entry
  pub entry_front : (part : List TokenTree) × (trees ≡ part ++ rest)
  entry_front = go (bare_first trees) refl at
    where
      held : (g : Grouped) (after : List TokenTree) → bare_first trees ≡ Some (g, after)
          → (kind : EntryKind) (entry2 : Entry) → Continues kind entry2 after entry rest
          → (part : List TokenTree) × (trees ≡ part ++ rest)
      held g after is kinds.Path entry2 goes =
          (Group g ∷ goes.args, bare_whole trees after g is ∙ ap (λ ts. Group g ∷ ts) goes.reads.whole)
      held g after is (kinds.List h) entry2 goes =
          (Group g ∷ [], bare_whole trees after g is ∙ ap (λ ts. Group g ∷ ts) (sym goes.1))
      held g after is (kinds.Value v) entry2 goes =
          (Group g ∷ [], bare_whole trees after g is ∙ ap (λ ts. Group g ∷ ts) (sym goes.1))
      held g after is (kinds.Literal l) entry2 goes =
          (Group g ∷ [], bare_whole trees after g is ∙ ap (λ ts. Group g ∷ ts) (sym goes.1))

      go : (first : Option (Grouped × List TokenTree)) → bare_first trees ≡ first
          → MatchOption first (IsPlainEntryAt trees entry rest)
          (λ f. IsHeldEntryAt begins (inside_of f.0) f.1 entry rest)
          → (part : List TokenTree) × (trees ≡ part ++ rest)
      go None is plain = (plain.part, plain.reads.whole)
      go (Some found) is at2 = held found.0 found.1 is at2.held.kind at2.held at2.goes_on

  pub rest_less : length rest ≤ length trees
  rest_less =
      let front = entry_front in
      let sum = ap length front.1 ∙ length-append front.0 rest in
      omega arith

  pub after_entry : (fault : Fault) → fault.at ≡ length trees - length rest → fault.span ≡ first_extent rest
      → IsAfterEntry (BeginsWithHeld begins) trees rest fault
  after_entry fault counted first =
      let front = entry_front in
      let sum = ap length front.1 ∙ length-append front.0 rest in
      let count : fault.at ≡ length front.0 = omega arith in
      record {
        entry = entry;
        part = front.0;
        reads = at;
        whole = front.1;
        counted = count;
        span = rest_span trees front.0 rest fault.at fault.span front.1 count first;
      }

  pub leaves_some : (fault : Fault) → fault.at ≡ length trees - length rest → fault.span ≡ first_extent rest
      → (rest ≡ [] → ⊥)
      → LeavesSome (BeginsWithHeld begins) trees fault
  leaves_some fault counted first some = (rest, after_entry fault counted first, some)

pub no_rest : (rest : List TokenTree) (b : Bool) → b ≡ (length rest == 0) → b ≡ false → rest ≡ [] → ⊥
no_rest rest b is some none =
    let empty : b ≡ true = is ∙ ap (λ ts. length ts == 0) none in
    let clash : true ≡ false = sym empty ∙ some in
    cc

-- ---- where an error can be

no_entry_within : (trees : List TokenTree) (fault : Fault) → IsNoEntry trees fault → fault.at ≤ length trees
no_entry_within trees fault at = go (bare_first trees) refl at
  where
    go : (first : Option (Grouped × List TokenTree)) → bare_first trees ≡ first
        → MatchOption first (IsPlainFault trees fault)
        (λ f. IsFaultWithin IsNearFault f.0 fault ⊎ IsFaultAfter IsNearEntryAt f.0 f.1 fault)
        → fault.at ≤ length trees
    go None is plain = fault_within (ByRule rule.entry) trees fault.at plain.place
    go (Some found) is (inl within) = let zero : fault.at ≡ 0 = within.counted in omega arith
    go (Some found) is (inr after) =
        let whole = ap length (bare_whole trees found.1 found.0 is) in
        let counted : fault.at ≡ suc after.stands.at = after.stands.counted in
        let less = fault_within (ByRule rule.entry_rest) found.1 after.stands.at after.stands.stands in
        omega arith

pub entry_list_fault_within : (trees : List TokenTree) (fault : Fault) → IsEntryListFault trees fault
    → fault.at ≤ length trees
entry_list_fault_within trees fault (inl lacks) = no_entry_within trees fault lacks.none
entry_list_fault_within trees fault (inr lacks) =
    let after = lacks.after in
    let sum = ap length after.whole ∙ length-append after.part lacks.rest in
    let counted : fault.at ≡ length after.part = after.counted in
    omega arith

use Rattle.std.proofs.Common.{◌≡◌, false, rules}
use Rattle.token_buffer.proofs.PartLemmas.{ends_events, eq_same, eq_value, longer_events, other_events}
use Rattle.token_buffer.proofs.compared.CursorPartialEq.eq.Goals as goal

pub returns-in_default-split_first-clause-same : goal.returns-in_default-split_first-clause-same
returns-in_default-split_first-clause-same c =
    eq_same c.args.self.now c.args.other.now _ _ false c.loop-entry.invariant.same
    (longer_events c.args.self.now.text.now c.args.other.now.text.now c.loop-entry.entries.now c.loop-entry.others.now
    c.in-Some.entry.now c.in-Some.after.now c.in-Some.ensures.cases.0 c.in_default-split_first.ensures.cases)

pub returns-in_default-split_first-clause-value : goal.returns-in_default-split_first-clause-value
returns-in_default-split_first-clause-value c =
    eq_value c.args.self.now c.args.other.now false
    (eq_same c.args.self.now c.args.other.now _ _ false c.loop-entry.invariant.same
    (longer_events c.args.self.now.text.now c.args.other.now.text.now c.loop-entry.entries.now c.loop-entry.others.now
    c.in-Some.entry.now c.in-Some.after.now c.in-Some.ensures.cases.0 c.in_default-split_first.ensures.cases))

pub returns-then-not-are_same-clause-same : goal.returns-then-not-are_same-clause-same
returns-then-not-are_same-clause-same c =
    let no : c.are_same.result ≡ false = search rules in
    eq_same c.args.self.now c.args.other.now _ _ false c.loop-entry.invariant.same
    (other_events c.args.self.now.text.now c.args.other.now.text.now c.loop-entry.entries.now c.loop-entry.others.now
    c.in-Some.entry.now c.in-Some-split_first.other_entry.now c.in-Some.after.now c.in-Some-split_first.other_after.now
    c.part_of.result c.part_of-in-Some.result c.are_same.result c.in-Some.ensures.cases.0
    c.in-Some-split_first.ensures.cases.0 c.part_of.ensures c.part_of-in-Some.ensures c.are_same.ensures no)

pub returns-then-not-are_same-clause-value : goal.returns-then-not-are_same-clause-value
returns-then-not-are_same-clause-value c =
    let no : c.are_same.result ≡ false = search rules in
    eq_value c.args.self.now c.args.other.now false
    (eq_same c.args.self.now c.args.other.now _ _ false c.loop-entry.invariant.same
    (other_events c.args.self.now.text.now c.args.other.now.text.now c.loop-entry.entries.now c.loop-entry.others.now
    c.in-Some.entry.now c.in-Some-split_first.other_entry.now c.in-Some.after.now c.in-Some-split_first.other_after.now
    c.part_of.result c.part_of-in-Some.result c.are_same.result c.in-Some.ensures.cases.0
    c.in-Some-split_first.ensures.cases.0 c.part_of.ensures c.part_of-in-Some.ensures c.are_same.ensures no))

pub returns-clause-same : goal.returns-clause-same
returns-clause-same c =
    eq_same c.args.self.now c.args.other.now _ _ c.is_empty.result c.loop-entry.invariant.same
    (ends_events c.args.self.now.text.now c.args.other.now.text.now c.loop-entry.entries.now c.loop-entry.others.now
    c.is_empty.result c.in_default.ensures.cases c.is_empty.ensures)

pub returns-clause-value : goal.returns-clause-value
returns-clause-value c =
    eq_value c.args.self.now c.args.other.now c.is_empty.result
    (eq_same c.args.self.now c.args.other.now _ _ c.is_empty.result c.loop-entry.invariant.same
    (ends_events c.args.self.now.text.now c.args.other.now.text.now c.loop-entry.entries.now c.loop-entry.others.now
    c.is_empty.result c.in_default.ensures.cases c.is_empty.ensures))

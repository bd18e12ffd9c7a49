use Rattle.std.proofs.Common.{◌∙◌, sym}
use Rattle.declarations.specs.rules.Entries.{is_entry_segment}
use Rattle.declarations.proofs.ReaderLemmas.{sign_ends, sign_finds, sign_sticks}
use Rattle.declarations.proofs.entry.segment.Goals as goal

pub returns-then-is_segment : goal.returns-then-is_segment
returns-then-is_segment c =
    sign_finds is_entry_segment c.args.trees.now c.in-Some.rest.now c.in-Some.found c.in-Some.ensures (sym
    c.is_segment.ensures ∙ c.if-is_segment.true)

pub returns-else-is_segment : goal.returns-else-is_segment
returns-else-is_segment c =
    sign_sticks is_entry_segment c.args.trees.now c.in-Some.rest.now c.in-Some.found c.in-Some.ensures (sym
    c.is_segment.ensures ∙ c.if-is_segment.false)

pub returns-in-None : goal.returns-in-None
returns-in-None c = sign_ends is_entry_segment c.args.trees.now c.in-None.ensures

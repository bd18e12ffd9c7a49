use Rattle.relayout.proofs.LiteralLemmas.{plain_boundary, plain_split}
use Rattle.relayout.proofs.literals.split_plain.Goals as goal

pub split_at-requires : goal.split_at-requires
split_at-requires c =
    plain_boundary c.plain_size.result c.args.text.now c.utf8.text (rw c.as_bytes.ensures.value at c.plain_size.ensures)

pub returns-clause-split : goal.returns-clause-split
returns-clause-split c =
    (plain_split c.plain_size.result c.args.text.now c.utf8.text (rw c.as_bytes.ensures.value at c.plain_size.ensures)
    c.split_at.result.0.now c.split_at.result.1.now c.split_at.ensures.front c.split_at.ensures.back).0

pub returns-clause-plain : goal.returns-clause-plain
returns-clause-plain c =
    (plain_split c.plain_size.result c.args.text.now c.utf8.text (rw c.as_bytes.ensures.value at c.plain_size.ensures)
    c.split_at.result.0.now c.split_at.result.1.now c.split_at.ensures.front c.split_at.ensures.back).1

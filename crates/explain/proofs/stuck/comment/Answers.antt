use Rattle.explain.proofs.BareReturnLemmas.{bad_return, block_begins, doc_at, front_fits, has_bare}
use Rattle.explain.proofs.StuckLemmas.{unclosed_comment}
use Rattle.explain.proofs.stuck.comment.Goals as goal

pub unreachable-requires : goal.unreachable-requires
unreachable-requires c = block_begins _ c.requires.begins c.in_default.ensures c.in_default-past.ensures

pub returns-in_default : goal.returns-in_default
returns-in_default c =
    unclosed_comment c.args.at c.in-Some-past.after c.in-Some-past.ensures c.in_default.ensures

pub after_bytes-requires : goal.after_bytes-requires
after_bytes-requires c = front_fits c.args.at (doc_at c.args.at c.in-Some.field-0 c.in-Some.ensures c.requires.none)

pub unreachable-requires-in_default-bare_return : goal.unreachable-requires-in_default-bare_return
unreachable-requires-in_default-bare_return c =
    has_bare c.args.at c.after_bytes.result (doc_at c.args.at c.in-Some.field-0 c.in-Some.ensures c.requires.none)
    c.after_bytes.ensures.rest c.after_bytes.ensures.count c.in_default-bare_return.ensures

pub returns : goal.returns
returns c =
    bad_return c.args.at c.after_bytes.result (doc_at c.args.at c.in-Some.field-0 c.in-Some.ensures c.requires.none)
    c.after_bytes.ensures.rest c.after_bytes.ensures.count c.in-Some-bare_return.at c.in-Some-bare_return.after
    c.in-Some-bare_return.ensures

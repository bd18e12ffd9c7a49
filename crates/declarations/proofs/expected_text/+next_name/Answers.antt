use Rattle.std.proofs.Common.{refl}
use Rattle.std.proofs.lemmas.List.{nil_from_length}
use Rattle.declarations.proofs.ExpectedTextLemmas.{names_first, names_other}
use Rattle.declarations.proofs.expected_text.+next_name.Goals as goal

pub returns-in_err-row : goal.returns-in_err-row
returns-in_err-row t c =
    rw (c.from_residual.ensures, nil_from_length c.args.rows.now c.in_err-row.ensures.cases) refl

pub returns-then-left-row : goal.returns-then-left-row
returns-then-left-row t c =
    names_first c.args.left c.args.rows.now c.in_ok-row.more.now c.in_ok-row.row.now c.in_ok-row.ensures.cases.0
    c.if-left-row.true

pub returns : goal.returns
returns t c =
    rw (names_other c.args.left c.args.rows.now c.in_ok-row.more.now c.in_ok-row.row.now
    c.in_ok-row.ensures.cases.0 c.if-left-row.false) c.next_name.ensures

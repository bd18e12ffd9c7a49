use Rattle.std.proofs.Common.{[], ◌++◌, ◌-◌, codes, refl, sym, true}
use Rattle.std.proofs.Output.{has_written_of_eq}
use Rattle.std.proofs.lemmas.Grind.{put_two}
use Rattle.declarations.specs.ExpectedText.{more_listed, names_of, rows_of}
use Rattle.declarations.proofs.ExpectedTextLemmas.{err_not_ok, more_none, more_split, more_stopped}
use Rattle.declarations.proofs.expected_text.+write_more.Goals as goal

pub returns-in_ok-write_both-in-Some : goal.returns-in_ok-write_both-in-Some
returns-in_ok-write_both-in-Some g t c = λ plain ok.
    let first = c.in_ok-write_both-in-Some.ensures plain (refl {a = true}) in
    put_two g.W.Write.write_str_gives _ _ _ (c.separator.result.now ++ c.in-Some.name.now)
    (more_listed (c.args.count - 1) (names_of c.in-Some.left (rows_of c.in-Some.rows.now)))
    (more_listed c.args.count (names_of c.args.left (rows_of c.args.rows.now))) first
    (c.write_more.ensures first.plain ok)
    (sym (more_split c.args.count (names_of c.args.left (rows_of c.args.rows.now))
    (names_of c.in-Some.left (rows_of c.in-Some.rows.now)) c.in-Some.name.now c.separator.result.now
    c.if-count-eq0.false c.in-Some.ensures c.separator.ensures))

pub returns-then-count-eq0 : goal.returns-then-count-eq0
returns-then-count-eq0 g t c = λ plain ok.
    has_written_of_eq g.W.Write.write_str_gives _ (codes ", among others")
    (more_listed c.args.count (names_of c.args.left (rows_of c.args.rows.now))) _
    (more_stopped c.args.count (names_of c.args.left (rows_of c.args.rows.now))
    (names_of c.in-Some.left (rows_of c.in-Some.rows.now)) c.in-Some.name.now c.if-count-eq0.true c.in-Some.ensures)
    (c.write_str.ensures.writes plain ok)

pub returns-in_err-write_both-in-Some : goal.returns-in_err-write_both-in-Some
returns-in_err-write_both-in-Some g t c =
    λ plain ok. absurd (err_not_ok c.from_residual.result c.from_residual.ensures.0 ok)

pub returns-in-None : goal.returns-in-None
returns-in-None g t c = λ plain ok.
    rw (c.in-None.ensures, more_none c.args.count)
    (record { wrote = record { parts = []; calls = refl; whole = refl }; plain = plain })

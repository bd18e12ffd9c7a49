use Rattle.std.proofs.Common.{refl, inl, inr}
use Rattle.std.proofs.lemmas.Result.{IfOk-from_err}
use Rattle.lexical.specs.declared.piece.PieceKind.TheVariants as kinds
use Rattle.pm_stream.proofs.ReadingLemmas.{can_close, can_open, closer_fits, no_closer}
use Rattle.pm_stream.proofs.ReadingLemmas.{reads_closer, reads_opener, reads_token}
use Rattle.pm_stream.proofs.reading.take.Goals as goal

pub open-requires : goal.open-requires
open-requires g c = can_open _ c.in-Opener.c _ c.delimiter.ensures c.requires c.in-Opener.is

pub close-requires : goal.close-requires
close-requires g c =
    can_close _ c.in-Closer.c _ c.delimiter-delimiter.ensures _ c.innermost.new.opened.items c.requires c.in-Closer.is
    c.in-Some.ensures.some.0 c.in-Some.ensures.some.1

pub returns-in_ok-push-in-Opener-clause-ok : goal.returns-in_ok-push-in-Opener-clause-ok
returns-in_ok-push-in-Opener-clause-ok g c = λ is.
    reads_opener _ c.in-Opener.c _ _ c.delimiter.ensures c.in-Opener.is c.in_ok-push-in-Opener.ensures.items
    c.in_ok-group-in-Opener.ensures

pub returns-in_ok-close-in-Closer-clause-ok : goal.returns-in_ok-close-in-Closer-clause-ok
returns-in_ok-close-in-Closer-clause-ok g c = λ is.
    reads_closer _ c.in-Closer.c _ _ c.delimiter-delimiter.ensures c.in-Closer.is
    c.in-Some.ensures.some.0 c.in-Some.ensures.some.1 c.in_ok-close-in-Closer.ensures

pub returns-in_ok-doc-in-Doc-clause-ok : goal.returns-in_ok-doc-in-Doc-clause-ok
returns-in_ok-doc-in-Doc-clause-ok g c = λ is.
    reads_token _ _ c.in-Doc.is tt refl c.in_ok-doc-in-Doc.ensures

pub returns-in_ok-mark-in-Mark-clause-ok : goal.returns-in_ok-mark-in-Mark-clause-ok
returns-in_ok-mark-in-Mark-clause-ok g c = λ is.
    reads_token _ _ c.in-Mark.is tt refl c.in_ok-mark-in-Mark.ensures

pub returns-in_ok-name-in-Name-clause-ok : goal.returns-in_ok-name-in-Name-clause-ok
returns-in_ok-name-in-Name-clause-ok g c = λ is.
    reads_token _ _ c.in-Name.is tt refl c.in_ok-name-in-Name.ensures

pub returns-in_ok-literal-in-Literal-clause-ok : goal.returns-in_ok-literal-in-Literal-clause-ok
returns-in_ok-literal-in-Literal-clause-ok g c = λ is.
    reads_token _ _ c.in-Literal.is tt refl c.in_ok-literal-in-Literal.ensures

pub returns-in-FrontMark-clause-ok : goal.returns-in-FrontMark-clause-ok
returns-in-FrontMark-clause-ok g c = λ is.
    elim c.in-FrontMark.is [
      | inl mark ↦ reads_token _ kinds.FrontMark mark tt refl c.gap.ensures
      | inr gap ↦ reads_token _ kinds.Gap gap tt refl c.gap.ensures
    ]

pub returns-in_err-doc-in-Doc-clause-memory : goal.returns-in_err-doc-in-Doc-clause-memory
returns-in_err-doc-in-Doc-clause-memory g c =
    no_closer _ g.S.TokenSink.opens c.args.opened.now.items _ _ c.in-Doc.is (λ groups stray. stray)

pub returns-in_err-mark-in-Mark-clause-memory : goal.returns-in_err-mark-in-Mark-clause-memory
returns-in_err-mark-in-Mark-clause-memory g c =
    no_closer _ g.S.TokenSink.opens c.args.opened.now.items _ _ c.in-Mark.is (λ groups stray. stray)

pub returns-in_err-name-in-Name-clause-memory : goal.returns-in_err-name-in-Name-clause-memory
returns-in_err-name-in-Name-clause-memory g c =
    no_closer _ g.S.TokenSink.opens c.args.opened.now.items _ _ c.in-Name.is (λ groups stray. stray)

pub returns-in_err-literal-in-Literal-clause-memory : goal.returns-in_err-literal-in-Literal-clause-memory
returns-in_err-literal-in-Literal-clause-memory g c =
    no_closer _ g.S.TokenSink.opens c.args.opened.now.items _ _ c.in-Literal.is (λ groups stray. stray)

pub returns-in_err-group-in-Opener-clause-memory : goal.returns-in_err-group-in-Opener-clause-memory
returns-in_err-group-in-Opener-clause-memory g c =
    no_closer _ g.S.TokenSink.opens c.args.opened.now.items _ _ c.in-Opener.is (λ groups stray. stray)

pub returns-in_err-push-in-Opener-clause-memory : goal.returns-in_err-push-in-Opener-clause-memory
returns-in_err-push-in-Opener-clause-memory g c =
    no_closer _ g.S.TokenSink.opens c.args.opened.now.items _ _ c.in-Opener.is (λ groups stray. stray)

pub returns-in_err-close-in-Closer-clause-memory : goal.returns-in_err-close-in-Closer-clause-memory
returns-in_err-close-in-Closer-clause-memory g c =
    closer_fits _ g.S.TokenSink.opens c.args.opened.now.items _ c.in-Closer.c c.delimiter-delimiter.result
    c.in-Some.group c.innermost.new.opened.items c.in-Closer.is c.delimiter-delimiter.ensures
    c.in-Some.ensures.some.0 c.in-Some.ensures.some.1

pub returns-in_err-group-in-Opener-clause-ok : goal.returns-in_err-group-in-Opener-clause-ok
returns-in_err-group-in-Opener-clause-ok g c =
    IfOk-from_err c.from_residual.result _ c.from_residual.ensures.0

pub returns-in_err-group-in-Opener-clause-stray : goal.returns-in_err-group-in-Opener-clause-stray
returns-in_err-group-in-Opener-clause-stray g c =
    IfOk-from_err c.from_residual.result _ c.from_residual.ensures.0

pub returns-in_err-push-in-Opener-clause-ok : goal.returns-in_err-push-in-Opener-clause-ok
returns-in_err-push-in-Opener-clause-ok g c =
    IfOk-from_err c.from_residual-in_err-push-in-Opener.result _ c.from_residual-in_err-push-in-Opener.ensures.0

pub returns-in_err-push-in-Opener-clause-stray : goal.returns-in_err-push-in-Opener-clause-stray
returns-in_err-push-in-Opener-clause-stray g c =
    IfOk-from_err c.from_residual-in_err-push-in-Opener.result _ c.from_residual-in_err-push-in-Opener.ensures.0

pub returns-in_err-close-in-Closer-clause-ok : goal.returns-in_err-close-in-Closer-clause-ok
returns-in_err-close-in-Closer-clause-ok g c =
    IfOk-from_err c.from_residual-in_err-close-in-Closer.result _ c.from_residual-in_err-close-in-Closer.ensures.0

pub returns-in_err-close-in-Closer-clause-stray : goal.returns-in_err-close-in-Closer-clause-stray
returns-in_err-close-in-Closer-clause-stray g c =
    IfOk-from_err c.from_residual-in_err-close-in-Closer.result _ c.from_residual-in_err-close-in-Closer.ensures.0

pub returns-in_err-doc-in-Doc-clause-ok : goal.returns-in_err-doc-in-Doc-clause-ok
returns-in_err-doc-in-Doc-clause-ok g c =
    IfOk-from_err c.from_residual-in_err-doc-in-Doc.result _ c.from_residual-in_err-doc-in-Doc.ensures.0

pub returns-in_err-doc-in-Doc-clause-stray : goal.returns-in_err-doc-in-Doc-clause-stray
returns-in_err-doc-in-Doc-clause-stray g c =
    IfOk-from_err c.from_residual-in_err-doc-in-Doc.result _ c.from_residual-in_err-doc-in-Doc.ensures.0

pub returns-in_err-mark-in-Mark-clause-ok : goal.returns-in_err-mark-in-Mark-clause-ok
returns-in_err-mark-in-Mark-clause-ok g c =
    IfOk-from_err c.from_residual-in_err-mark-in-Mark.result _ c.from_residual-in_err-mark-in-Mark.ensures.0

pub returns-in_err-mark-in-Mark-clause-stray : goal.returns-in_err-mark-in-Mark-clause-stray
returns-in_err-mark-in-Mark-clause-stray g c =
    IfOk-from_err c.from_residual-in_err-mark-in-Mark.result _ c.from_residual-in_err-mark-in-Mark.ensures.0

pub returns-in_err-name-in-Name-clause-ok : goal.returns-in_err-name-in-Name-clause-ok
returns-in_err-name-in-Name-clause-ok g c =
    IfOk-from_err c.from_residual-in_err-name-in-Name.result _ c.from_residual-in_err-name-in-Name.ensures.0

pub returns-in_err-name-in-Name-clause-stray : goal.returns-in_err-name-in-Name-clause-stray
returns-in_err-name-in-Name-clause-stray g c =
    IfOk-from_err c.from_residual-in_err-name-in-Name.result _ c.from_residual-in_err-name-in-Name.ensures.0

pub returns-in_err-literal-in-Literal-clause-ok : goal.returns-in_err-literal-in-Literal-clause-ok
returns-in_err-literal-in-Literal-clause-ok g c =
    IfOk-from_err c.from_residual-in_err-literal-in-Literal.result _ c.from_residual-in_err-literal-in-Literal.ensures.0

pub returns-in_err-literal-in-Literal-clause-stray : goal.returns-in_err-literal-in-Literal-clause-stray
returns-in_err-literal-in-Literal-clause-stray g c =
    IfOk-from_err c.from_residual-in_err-literal-in-Literal.result _ c.from_residual-in_err-literal-in-Literal.ensures.0

pub returns-in_ok-push-in-Opener-clause-stray : goal.returns-in_ok-push-in-Opener-clause-stray
returns-in_ok-push-in-Opener-clause-stray g c = λ no. absurd cc

pub returns-in_ok-close-in-Closer-clause-stray : goal.returns-in_ok-close-in-Closer-clause-stray
returns-in_ok-close-in-Closer-clause-stray g c = λ no. absurd cc

pub returns-in_ok-doc-in-Doc-clause-stray : goal.returns-in_ok-doc-in-Doc-clause-stray
returns-in_ok-doc-in-Doc-clause-stray g c = λ no. absurd cc

pub returns-in_ok-mark-in-Mark-clause-stray : goal.returns-in_ok-mark-in-Mark-clause-stray
returns-in_ok-mark-in-Mark-clause-stray g c = λ no. absurd cc

pub returns-in_ok-name-in-Name-clause-stray : goal.returns-in_ok-name-in-Name-clause-stray
returns-in_ok-name-in-Name-clause-stray g c = λ no. absurd cc

pub returns-in_ok-literal-in-Literal-clause-stray : goal.returns-in_ok-literal-in-Literal-clause-stray
returns-in_ok-literal-in-Literal-clause-stray g c = λ no. absurd cc

pub returns-in-FrontMark-clause-stray : goal.returns-in-FrontMark-clause-stray
returns-in-FrontMark-clause-stray g c = λ no. absurd cc

pub returns-in_default-clause-ok : goal.returns-in_default-clause-ok
returns-in_default-clause-ok g c = λ no. absurd cc

pub returns-in_default-clause-stray : goal.returns-in_default-clause-stray
returns-in_default-clause-stray g c = λ no. (
  refl,
  c.in_default.ensures.none.0,
  rw (c.in-Closer.is, ← c.delimiter-delimiter.ensures) c.in_default.ensures.none.1,
)

pub returns-in_default-clause-memory : goal.returns-in_default-clause-memory
returns-in_default-clause-memory g c = tt

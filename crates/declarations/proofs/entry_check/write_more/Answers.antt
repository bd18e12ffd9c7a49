use Rattle.std.proofs.Common.{rules, true, refl}
use Rattle.declarations.proofs.EntryCheckLemmas.{more_written}
use Rattle.declarations.proofs.entry_check.write_more.Goals as goal

pub loop-word-preserved : goal.loop-word-preserved
loop-word-preserved g c = λ plain.
    let now = c.loop-word.invariant plain in
    let more = c.in_ok-write_next.ensures now.1.plain (refl {a = true}) in
    more_written _ _ _ _ c.args.words.now c.loop-word.word-index _ now.0 (search rules) now.1 more now.2

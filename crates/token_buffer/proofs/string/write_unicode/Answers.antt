use Rattle.std.proofs.Common.{true, [], ◌∷◌, ◌++◌, refl, sym, ap, ◌∙◌, arith}
use Rattle.std.specs.Char.Iter.{escape_rest}
use Rattle.pm_stream.proofs.PrintLemmas.{written_more}
use Rattle.token_buffer.proofs.string.write_unicode.Goals as goal

pub loop-unit-preserved : goal.loop-unit-preserved
loop-unit-preserved g c =
    let steps = c.in-Some.ensures.steps in
    record {
      written = λ plain.
          let now = c.loop-unit.invariant.written plain in
          let more = c.in_ok-write_one.ensures now.1.plain (refl {a = true}) in
          written_more _ _ _ _ now.0 (c.in-Some.unit ∷ []) (escape_rest c.next.new.self)
          (escape_rest c.into_iter-unit-iterator.result) now.1 more (ap (λ x. now.0 ++ x) (sym steps.1.0) ∙ now.2);
      bound = omega (arith, steps.0, c.loop-unit.invariant.bound);
    }

use Rattle.std.proofs.Common.{true, ◌++◌, codes, length, refl, sym, ap, ◌∙◌, subst, arith}
use Rattle.std.specs.Str.{encode_utf8_all, IsUtf8}
use Rattle.std.proofs.Output.{has_written_of_eq}
use Rattle.std.proofs.lemmas.Str.{chars_past_char}
use Rattle.pm_stream.proofs.PrintLemmas.{written_more, written_two}
use Rattle.token_buffer.proofs.StringLemmas.{string_end, string_on}
use Rattle.token_buffer.proofs.string.write_string.Goals as goal

pub loop-c-init : goal.loop-c-init
loop-c-init g c = rw c.chars-rest.ensures.rest (record {
  written = λ plain. (codes "\"", c.in_ok-write_one.ensures plain (refl {a = true}), refl);
  utf8 = c.utf8.text;
})

pub loop-c-smaller : goal.loop-c-smaller
loop-c-smaller g c = omega (
  arith,
  ap length (chars_past_char _ _ _ c.loop-c.invariant.utf8 c.in-Some.ensures.steps.0),
)

pub loop-c-preserved : goal.loop-c-preserved
loop-c-preserved g c =
    let was = c.loop-c.invariant in
    let on = string_on _ _ c.as_str.result.now c.in-Some.c c.escape_of.result was.utf8 c.in-Some.ensures.steps.0
    c.as_str.ensures c.escape_of.ensures in
    record {
      written = λ plain.
          let now = was.written plain in
          let more = c.in_ok-write_escape.ensures now.1.plain (refl {a = true}) in
          written_more _ _ _ _ _ _ _ _ now.1 more (ap (λ x. now.0 ++ x) (sym on) ∙ now.2);
      utf8 = subst IsUtf8 c.as_str.ensures c.as_str.utf8;
    }

pub returns : goal.returns
returns g c = λ plain ok.
    let now = c.loop-c.invariant.written plain in
    let last = c.write_one-2.ensures now.1.plain ok in
    has_written_of_eq _ _ _ _ _
    (ap encode_utf8_all (ap (λ x. now.0 ++ x) (sym (string_end _ c.in_default.ensures.steps.0.0)) ∙ now.2))
    (written_two _ _ _ _ _ _ now.1 last)

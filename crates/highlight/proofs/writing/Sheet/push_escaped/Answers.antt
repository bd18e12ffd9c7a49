use Rattle.std.proofs.Common.{◌∙◌, encode_utf8}
use Rattle.std.specs.Str.Iter.{chars_rest}
use Rattle.highlight.proofs.EscapeLemmas.{escaped_step, line_step}
use Rattle.highlight.proofs.writing.Sheet.push_escaped.Goals as goal

pub loop-c-preserved : goal.loop-c-preserved
loop-c-preserved c = record {
  shown = rw (c.chars-rest-in-Some.ensures.rest, c.push_bare-in-Some.ensures.kept_line)
      (c.in_ok-push_bare-2.ensures.shown ∙ rw c.as_str.ensures
      (escaped_step _ _ _ _ _ (encode_utf8 c.in-Some.c) (chars_rest c.next.new.self) _
      c.in-Some.ensures.steps.0 c.in_ok-push_character.ensures.shown
      c.in_ok-push_character.ensures.line c.loop-c.invariant.shown));
  line = rw (c.chars-rest-in-Some.ensures.rest, c.push_bare-in-Some.ensures.kept_line)
      (c.in_ok-push_bare-2.ensures.line ∙ rw c.as_str.ensures
      (line_step _ _ _ (encode_utf8 c.in-Some.c) (chars_rest c.next.new.self) _
      c.in-Some.ensures.steps.0 c.in_ok-push_character.ensures.line c.loop-c.invariant.line));
  kept = c.push_bare-in-Some.ensures.kept_format ∙ c.in_ok-push_character.ensures.kept ∙ c.loop-c.invariant.kept;
}

use Rattle.std.proofs.Common.{◌≡◌, ◌++◌, length, sym, ap, ◌∙◌, arith}
use Rattle.std.specs.Str.{chars}
use Rattle.std.proofs.lemmas.Str.{chars_past_char}
use Rattle.pm_token.specs.Escaped.{written_char, char_text}
use Rattle.pm_token.proofs.TextBuilderLemmas.{content_more, content_end, content_past, past_shorter}
use Rattle.pm_token.proofs.escapes.TextBuilder.push_content.Goals as goal

pub loop-c-init : goal.loop-c-init
loop-c-init c =
    let plain = c.in_ok-push_plain.ensures.ok in
    rw c.chars-rest.ensures.rest (record {
      same = content_past c.args.quote c.args.self.now c.push_plain.new.self plain.0 (chars c.args.text.now)
          (chars c.in_ok-push_plain.field-0.now)
          plain.1 plain.2 plain.3.each;
      utf8 = c.in_ok-push_plain.ensures.utf8;
    })

pub loop-c-smaller : goal.loop-c-smaller
loop-c-smaller c =
    let plain = c.in_ok-push_plain-2.ensures.ok in
    omega (
      arith,
      ap length (chars_past_char _ _ _ c.loop-c.invariant.utf8 c.in-Some.ensures.steps.0),
      past_shorter plain.0 (chars c.next.new.self.rest.now) (chars c.in_ok-push_plain-2.field-0.now)
          (sym (ap chars c.as_str-in-Some.ensures) ∙ plain.1),
      ap (λ x. length (chars x)) c.chars-rest-in-Some.ensures.rest,
    )

pub loop-c-preserved : goal.loop-c-preserved
loop-c-preserved c =
    let plain = c.in_ok-push_plain-2.ensures.ok in
    let wrote : c.push_escaped.new.self
    ≡ c.loop-c.self ++ char_text c.args.quote written_char c.in-Some.c (chars c.next.new.self.rest.now) =
    c.in_ok-push_escaped.ensures.ok
    ∙ ap (λ rest. c.loop-c.self ++ char_text c.args.quote written_char c.in-Some.c (chars rest)) c.as_str.ensures in
    rw c.chars-rest-in-Some.ensures.rest (record {
      same = content_past c.args.quote c.push_escaped.new.self c.push_plain-in-Some.new.self plain.0
          (chars c.next.new.self.rest.now)
          (chars c.in_ok-push_plain-2.field-0.now) (sym (ap chars c.as_str-in-Some.ensures) ∙ plain.1) plain.2
          plain.3.each
          ∙ (content_more _ _ _ _ _ _ c.loop-c.invariant.utf8 c.in-Some.ensures.steps.0 wrote
          ∙ c.loop-c.invariant.same);
      utf8 = c.in_ok-push_plain-2.ensures.utf8;
    })

pub returns : goal.returns
returns c = record {
  ok = sym (content_end c.args.quote c.loop-c.self c.loop-c.rest.rest.now c.in_default.ensures.steps.0.0)
      ∙ c.loop-c.invariant.same;
}

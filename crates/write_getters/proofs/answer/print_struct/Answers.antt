use Rattle.std.proofs.Common.{[], ◌∷◌}
use Rattle.std.proofs.KnownBytes.{Appends-nil, Appends-trans}
use Rattle.write_getters.proofs.AnswerLemmas.{body_code, no_body}
use Rattle.write_getters.proofs.answer.print_struct.Goals as goal

pub returns-in_ok-writeln-in-Some : goal.returns-in_ok-writeln-in-Some
returns-in_ok-writeln-in-Some g c =
    let code = c.in_ok-code-in-Some in (
      code.code ∷ [],
      (
        c.in_ok-item.item,
        c.in_ok-item.ensures.ok,
        body_code c.args.templates.now c.in_ok-item.item _ c.in-Some.group.now code.code c.in-Some.ensures (record {
          trees = c.named.result.left.now;
          inside = c.named.ensures.inside;
          is = code.ensures.code;
          faithful = code.ensures.back;
        }),
      ),
      Appends-trans _ _ _ _ _ c.in_ok-writeln-in-Some.ensures.bytes (Appends-nil _),
    )

pub returns-in-None : goal.returns-in-None
returns-in-None g c = (
  [],
  (
    c.in_ok-item.item,
    c.in_ok-item.ensures.ok,
    no_body c.args.templates.now c.in_ok-item.item _ c.in-None.ensures,
  ),
  Appends-nil _,
)

use Rattle.std.proofs.Common.{◌∙◌, ◌++◌, ap}
use Rattle.std.specs.Str.{chars}
use Rattle.pm_token.specs.Escaped.{string_text}
use Rattle.same.proofs.ComparingLemmas.{string_same}
use Rattle.same.proofs.comparing.is_string_of.Goals as goal

pub returns : goal.returns
returns c =
    string_same c.into_string.result c.push_string.new.self (string_text (chars c.args.text.now)) c.as_str.result.now
    c.args.literal.now c.eq.result c.into_string.ensures
    (c.in_ok-push_string.ensures.ok ∙ ap (λ l. l ++ string_text (chars c.args.text.now)) c.in_ok-string.ensures)
    c.as_str.ensures.value c.as_str.utf8 c.utf8.literal c.eq.ensures

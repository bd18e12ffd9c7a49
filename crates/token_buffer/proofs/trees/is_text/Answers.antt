use Rattle.std.proofs.Common.{sym, ap, ◌∙◌}
use Rattle.std.specs.Str.{bytes_eq}
use Rattle.std.proofs.lemmas.Str.{encodes-chars}
use Rattle.token_buffer.proofs.trees.is_text.Goals as goal

pub returns : goal.returns
returns c = c.eq.ensures ∙ ap (λ b. bytes_eq b c.args.other.now) (sym (encodes-chars c.args.text.now c.utf8.text))

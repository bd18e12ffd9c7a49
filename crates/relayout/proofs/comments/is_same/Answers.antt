use Rattle.std.proofs.Common.{ap, sym, ◌∙◌}
use Rattle.std.specs.Str.{chars}
use Rattle.std.proofs.lemmas.Slice.Eq.{bytes_eq-Decides}
use Rattle.pm_token.proofs.ShortLemmas.{same_bytes}
use Rattle.relayout.proofs.comments.is_same.Goals as goal

pub returns : goal.returns
returns c =
    let bytes = bytes_eq-Decides c.args.text.now c.args.other.now in (
      λ yes. ap chars (bytes.0 (sym c.eq.ensures ∙ yes)),
      λ same. c.eq.ensures ∙ bytes.1 (same_bytes _ _ c.utf8.text c.utf8.other same),
    )

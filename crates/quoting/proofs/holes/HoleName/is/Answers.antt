use Rattle.quoting.proofs.NameLemmas.{same_text}
use Rattle.std.proofs.Common.{◌∙◌, ap, sym}
use Rattle.quoting.specs.Given.{text_of}
use Rattle.quoting.proofs.holes.HoleName.is.Goals as goal

pub returns-in-Digits : goal.returns-in-Digits
returns-in-Digits c =
    same_text _ _ _ _ c.text.utf8 c.utf8.text (c.text.ensures ∙ sym (ap text_of c.in-Digits.is)) c.eq.ensures

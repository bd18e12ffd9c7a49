use Rattle.std.proofs.Common.{◌≡◌, length}
use denote.Text.{Utf8}
use denote.Shadow.{shadow}
use Rattle.std.specs.Str.{chars}
use Rattle.pm_token.specs.Content.{hashed_content as hashed}
use Rattle.pm_token.proofs.literals.values.content.hashed_content.Given as goal

-- removing hash signs at both ends does not change the content
abbrev pub invariant-loop-after_hash : goal.invariant-loop-after_hash
invariant-loop-after_hash l = (hashed (chars l.quoted) ≡ hashed (chars l.initial.quoted)) × shadow (Utf8 l.quoted)

abbrev pub decreases-loop-after_hash : goal.decreases-loop-after_hash
decreases-loop-after_hash l = length (chars l.quoted)

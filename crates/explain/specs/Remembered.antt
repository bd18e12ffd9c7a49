-- What the sink keeps of the openers of a text while it is read.
use Rattle.std.specs.Prelude.{◌≡◌}
use Rattle.std.specs.List.{AllByRecursion}
use Rattle.std.specs.Str.{chars, IsUtf8}
use Rattle.pm_stream.specs.Taken.{Taken}
use Rattle.explain.specs.Explained.{IsOpenerOf}
use Rattle.explain.specs.declared.explained.Opener.{Opener}
use Rattle.explain.specs.declared.explaining.Openers.{Openers}

-- the source is the sink's text, and each open opener has its own delimiter, bytes and span in the source
pub record Remembers (openers : Openers) (taken : Taken Opener) : Type 0 where
  pub text : taken.source ≡ chars openers.text.now
  pub utf8 : IsUtf8 openers.text.now
  pub stand : AllByRecursion (IsOpenerOf taken.base taken.source) taken.opened

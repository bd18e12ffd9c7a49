use Rattle.std.proofs.Common.{sym, subst}
use Rattle.std.specs.List.Sorted.{IsNonDecreasing}
use Rattle.std.specs.Str.{chars}
use Rattle.pm_span.proofs.LineLemmas.{after_line_feeds_from-rising}
use Rattle.pm_span.proofs.file_info.FileInfo.new.Goals as goal

pub new-requires-2 : goal.new-requires-2
new-requires-2 c =
    subst IsNonDecreasing (sym c.in_ok-starts.ensures.starts) (after_line_feeds_from-rising 0 (chars c.args.text.now))

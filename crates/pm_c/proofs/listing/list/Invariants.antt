use Rattle.std.proofs.Common.{◌≡◌, ◌++◌, length, flat_map, string_bytes}
use Rattle.proc_macro2.specs.InOrder.{in_order}
use Rattle.pm_c.specs.Listing.{kept_text, records_from}
use Rattle.std.specs.List.{All}
use Rattle.pm_c.proofs.ListingLemmas.{HasAtMost}
use Rattle.pm_c.proofs.listing.list.Given as goal

-- the records and texts of the trees that are left are those that are missing, and no tree has too many inside
abbrev pub invariant-loop-walk : goal.invariant-loop-walk
invariant-loop-walk l =
    (l.trees.items ++ records_from (length (string_bytes l.text)) l.walk ≡ records_from 0 (in_order l.stream))
    × (string_bytes l.text ++ flat_map kept_text l.walk ≡ flat_map kept_text (in_order l.stream))
    × All (HasAtMost (length (in_order l.stream))) l.walk

abbrev pub decreases-loop-walk : goal.decreases-loop-walk
decreases-loop-walk l = length l.walk

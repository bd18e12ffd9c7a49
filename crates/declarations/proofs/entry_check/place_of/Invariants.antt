use Rattle.std.proofs.Common.{◌≡◌, ◌+◌, not, drop}
use Rattle.std.specs.List.{prefix_len}
use Rattle.declarations.specs.EntryCheck.{has_name, place_of}
use Rattle.declarations.proofs.entry_check.place_of.Given as goal

-- none of the names so far is the entry's
abbrev pub invariant-loop-word : goal.invariant-loop-word
invariant-loop-word l =
    (l.at ≡ l.word-index)
    × (place_of l.known l.entry ≡ l.at + prefix_len (λ word. not (has_name l.entry word)) (drop l.at l.known))

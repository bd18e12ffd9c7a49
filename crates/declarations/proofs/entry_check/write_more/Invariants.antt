use Rattle.std.proofs.Common.{◌≡◌, ℕ, List, ◌++◌, drop}
use Rattle.std.specs.Fmt.{HasWritten, IsPlainFormatter}
use Rattle.declarations.specs.EntryCheck.{more_known}
use Rattle.declarations.proofs.entry_check.write_more.Given as goal

-- what is written so far, and what is left to write
abbrev pub invariant-loop-word : goal.invariant-loop-word
invariant-loop-word g l =
    IsPlainFormatter l.initial.f
    → (done : List ℕ)
    × HasWritten g.W.Write.write_str_gives l.initial.f done l.f
    × (done ++ more_known (drop l.word-index l.words) ≡ more_known l.words)

use Rattle.std.proofs.Common.{◌≡◌, drop, map, string_bytes}
use Rattle.rust_check.specs.Options.{asks, no_wish, wishes_of}
use Rattle.rust_check.proofs.options.request_of.Given as goal

-- the options so far and the words that are left mean what all the words mean
abbrev pub invariant-loop-word : goal.invariant-loop-word
invariant-loop-word l =
    asks (wishes_of l.options) (map string_bytes (drop l.word-index l.words))
    ≡ asks no_wish (map string_bytes l.words)

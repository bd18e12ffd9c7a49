use Rattle.std.proofs.Common.{◌≡◌, drop, map, string_bytes}
use Rattle.outline.specs.Options.{asks, no_wish, wishes_of}
use Rattle.outline.proofs.options.options_of.Given as goal

-- the options so far, with the arguments that are left, are what all arguments say
abbrev pub invariant-loop-word : goal.invariant-loop-word
invariant-loop-word l =
    asks (wishes_of l.options) (map string_bytes (drop l.word-index l.words))
    ≡ asks no_wish (map string_bytes l.words)

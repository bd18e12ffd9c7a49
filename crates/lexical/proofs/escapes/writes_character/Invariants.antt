use Rattle.std.proofs.Common.{◌≤◌, drop}
use Rattle.lexical.proofs.CodeLemmas.{CountsTo}
use Rattle.lexical.proofs.escapes.writes_character.Given as goal

abbrev pub invariant-loop-byte : goal.invariant-loop-byte
invariant-loop-byte l = CountsTo l.value l.count (drop l.byte-index l.code) l.code
    × (l.count ≤ 6)
    × (l.value ≤ 0x10_FFFF)

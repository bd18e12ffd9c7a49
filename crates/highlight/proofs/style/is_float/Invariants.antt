use Rattle.std.proofs.Common.{◌≡◌}
use Rattle.std.specs.Prelude.{if◌then◌else◌}
use Rattle.std.specs.Str.Iter.{bytes_rest}
use Rattle.highlight.specs.Style.{has_exponent, is_float}
use Rattle.highlight.proofs.style.is_float.Given as goal

abbrev pub invariant-loop-byte : goal.invariant-loop-byte
invariant-loop-byte l =
    (if l.after_e then has_exponent (bytes_rest l.byte-iterator) else is_float (bytes_rest l.byte-iterator))
    ≡ is_float l.number

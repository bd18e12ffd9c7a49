-- Plain bytes.
use Rattle.std.specs.Prelude.{ℕ, Bool, not, nat_lt, ◌&&◌}
use Rattle.pm_span.specs.CharOffset.{is_line_feed}

-- whether the byte is ASCII and no line feed
abbrev pub is_plain : ℕ → Bool
is_plain b = nat_lt b 128 && not (is_line_feed b)

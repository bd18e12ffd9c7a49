-- Lines of a text.
use Rattle.std.specs.Prelude.{ℕ, Bool, not, List}
use Rattle.std.specs.List.{list_all}
use Rattle.pm_span.specs.CharOffset.{is_line_feed}

-- whether no character of the text is a line feed
abbrev pub is_one_line : List ℕ → Bool
is_one_line text = list_all (λ c. not (is_line_feed c)) text

-- The colours of a terminal.
use Rattle.std.specs.Prelude.{ℕ, List, [], ◌∷◌, codes}
use Rattle.rust_check.specs.declared.colours.Colours.{Colours}

-- what is written before something wrong, before the words about it and before what surrounds the source, and after
-- each of them
pub record Codes : Type 0 where
  pub fault : List ℕ
  pub strong : List ℕ
  pub line : List ℕ
  pub off : List ℕ

abbrev pub plain : Codes
plain = record { fault = []; strong = []; line = []; off = [] }

-- red, bold and blue, where 27 is ESC
abbrev pub terminal : Codes
terminal = record {
  fault = 27 ∷ codes "[1;31m";
  strong = 27 ∷ codes "[1m";
  line = 27 ∷ codes "[1;34m";
  off = 27 ∷ codes "[0m";
}

-- the sequences of the program's record
abbrev pub codes_of : Colours → Codes
codes_of colours = record {
  fault = colours.fault.now;
  strong = colours.strong.now;
  line = colours.line.now;
  off = colours.off.now;
}

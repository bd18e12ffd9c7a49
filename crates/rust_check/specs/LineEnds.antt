-- What is odd about the line ends of a text.
use Rattle.std.specs.Prelude.{ℕ, Bool, false, not, ◌&&◌, ◌==◌, List, [], ◌∷◌, codes}
use Rattle.std.specs.Prelude.{if◌then◌else◌}
use Rattle.rust_check.specs.Message.{Found}
use Rattle.rust_check.specs.Telling.{found_along}
use Rattle.rust_check.specs.declared.ends.LineEnds.{LineEnds}
use Rattle.rust_check.specs.declared.ends.Style.{Style}
use Rattle.rust_check.specs.declared.ends.Style.TheVariants.{Unknown, Feed, Return, Mixed}
use Rattle.rust_check.specs.declared.finding.TextPosition.{TextPosition}

-- whether a line that ends with LF here ends differently from the lines before it, which all end alike
abbrev pub is_unlike : Style → Bool → Bool
is_unlike Unknown after_return = false
is_unlike Feed after_return = after_return
is_unlike Return after_return = not after_return
is_unlike Mixed after_return = false

abbrev pub is_other : LineEnds → Bool
is_other ends = is_unlike ends.style ends.after_return

-- how lines end once LF is read here
abbrev pub with_end : Style → Bool → Style
with_end Unknown after_return = if after_return then Return else Feed
with_end Feed after_return = if after_return then Mixed else Feed
with_end Return after_return = if after_return then Return else Mixed
with_end Mixed after_return = Mixed

abbrev pub joint_style : LineEnds → Style
joint_style ends = with_end ends.style ends.after_return

-- what is known about the line ends after the character, where LF is 10 and CR is 13
abbrev pub ends_after : LineEnds → ℕ → LineEnds
ends_after ends c = record {
  style = if c == 10 then joint_style ends else ends.style;
  after_return = c == 13;
}

abbrev pub begins_feed : List ℕ → Bool
begins_feed [] = false
begins_feed (c ∷ rest) = c == 10

abbrev pub odd : List ℕ → List ℕ → List ℕ → TextPosition → Found
odd name says here place = record {
  name = name;
  says = says;
  line = place.line;
  column = place.column;
  begin = place.begin;
  front = [];
  here = here;
  rest = [];
}

-- what is odd at this character: CR before anything but LF, or LF that ends its line differently from the lines before
-- it
abbrev pub found_at_end : LineEnds → TextPosition → ℕ → List ℕ → List Found
found_at_end ends place c rest =
    if (c == 13) && not (begins_feed rest)
    then odd (codes "bare-return") (codes "CR that no LF follows") (13 ∷ []) place ∷ []
    else (if (c == 10) && is_other ends
    then odd (codes "mixed-line-ends") (codes "a line that ends unlike those before it") (10 ∷ []) place ∷ []
    else [])

-- what is odd about the line ends of a text that begins at this place
abbrev pub found_in_ends : TextPosition → List ℕ → List Found
found_in_ends place text =
    found_along found_at_end (λ ends c rest. ends_after ends c) (record { style = Unknown; after_return = false }) place
    text

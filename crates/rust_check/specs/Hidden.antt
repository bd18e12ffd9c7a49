-- Characters that a reader doesn't see, or that change how the text around them looks.
use Rattle.std.specs.Prelude.{ℕ, Bool, true, false, not, ◌&&◌, ◌||◌, ◌==◌, Option, Some, None, nat_lt}
use Rattle.std.specs.Prelude.{if◌then◌else◌}
use Rattle.ucd_category.specs.GeneralCategory.{general_category}
use Rattle.ucd_category.specs.declared.GeneralCategory.{GeneralCategory}
use Rattle.ucd_category.specs.declared.GeneralCategory.TheVariants as categories
use Rattle.ucd_derived.specs.Binary.{is_default_ignorable_code_point}
use Rattle.ucd_props.specs.Binary.{is_bidi_control, is_join_control, is_variation_selector, is_white_space}
use Rattle.rust_check.specs.declared.hidden.Hidden.{Hidden}
use Rattle.rust_check.specs.declared.hidden.Hidden.TheVariants.{Direction, Joiner, Invisible, Control, White}

-- how an ASCII character hides something: each control does, except tab (9), LF (10) and CR (13)
abbrev pub ascii_hides_as : ℕ → Option Hidden
ascii_hides_as c =
    if (c == 9) || (c == 10) || (c == 13) then None else (if nat_lt c 32 || (c == 127) then Some Control else None)

-- whether it is the category of the controls
abbrev pub is_control : GeneralCategory → Bool
is_control categories.Control = true
is_control _ = false

-- how a character past ASCII hides something, by the properties of Unicode; a variation selector shows on the character
-- before it, so it hides nothing
abbrev pub other_hides_as : ℕ → Option Hidden
other_hides_as c =
    if is_bidi_control c then Some Direction
    else (if is_join_control c then Some Joiner
    else (if is_default_ignorable_code_point c && not (is_variation_selector c) then Some Invisible
    else (if is_control (general_category c) then Some Control
    else (if is_white_space c then Some White else None))))

abbrev pub hides_as : ℕ → Option Hidden
hides_as c = if nat_lt c 128 then ascii_hides_as c else other_hides_as c

-- whether a character hides something in another way than as white space
abbrev pub is_unseen : Option Hidden → Bool
is_unseen None = false
is_unseen (Some White) = false
is_unseen (Some _) = true

abbrev pub is_hidden : ℕ → Bool
is_hidden c = is_unseen (hides_as c)

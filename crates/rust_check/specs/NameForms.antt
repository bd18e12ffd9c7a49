-- Names that have the same normal form NFKC.
use Rattle.std.specs.Prelude.{ℕ, ◌≡◌, Bool, false, not, List, [], ◌∷◌, Option, Some, None, nat_eq}
use Rattle.std.specs.Prelude.{if◌then◌else◌}
use Rattle.std.specs.HashMap.{HashMap, get_by_text}
use Rattle.std.specs.Str.{encode_utf8_all}
use Rattle.std.specs.Prelude.{String, string_bytes}
use Rattle.unicode_normalization.specs.Forms.{nfkc}
use lib.Pointwise.{pointwise}

abbrev pub is_same_text : List ℕ → List ℕ → Bool
is_same_text a b = pointwise nat_eq a b

-- `first` if there is one, else the name if it has this form
abbrev pub or_named : Option (List ℕ) → List ℕ → List ℕ → Option (List ℕ)
or_named (Some first) form name = Some first
or_named None form name = if is_same_text (nfkc name) form then Some name else None

-- the first name that has this NFKC form, if one has; the list has the last name first
abbrev pub first_named : List ℕ → List (List ℕ) → Option (List ℕ)
first_named form [] = None
first_named form (name ∷ before) = or_named (first_named form before) form name

abbrev pub is_other_than : List ℕ → Option (List ℕ) → Bool
is_other_than name None = false
is_other_than name (Some first) = not (is_same_text first name)

-- whether another name with the same NFKC form came first
abbrev pub is_other : List ℕ → List (List ℕ) → Bool
is_other name before = is_other_than name (first_named (nfkc name) before)

-- the program's text is this text, or both are missing
abbrev pub IsText : {A : Type 0} → Option (String A) → Option (List ℕ) → Type 0
IsText None None = Unit {0}
IsText None (Some name) = ⊥
IsText (Some text) None = ⊥
IsText (Some text) (Some name) = string_bytes text ≡ encode_utf8_all name

-- for each form, the map has the first of the names with this form
abbrev pub AreFirst : {A B S : Type 0} → HashMap (String A) (String B) S → List (List ℕ) → Type 0
AreFirst map names =
    (form : List ℕ) → IsText (get_by_text map (encode_utf8_all form)) (first_named form names)

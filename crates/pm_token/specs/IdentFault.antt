-- Why a text is not a valid name of an identifier.
use Rattle.std.specs.Prelude.{ℕ, Bool, false, not, ◌&&◌, ◌||◌, List, [], ◌∷◌, length, ◌==◌, Option, Some, None, Result}
use Rattle.std.specs.Prelude.{Err, ◌≡◌, ◌↔◌, if◌then◌else◌, codes}
use Rattle.std.specs.List.{list_all}
use Rattle.std.specs.Char.{is_ascii_alphabetic, is_ascii_alphanumeric, is_ascii_digit}
use Rattle.lexical.specs.Class.{is_ident_start, is_ident_continue}
use Rattle.lexical.specs.Identifier.{is_allowed}
use Rattle.pm_token.specs.declared.identifiers.faults.IdentError.{IdentError}
use Rattle.pm_token.specs.declared.identifiers.faults.IdentError.TheVariants.{Empty, Number, Invalid, Reserved, Memory}

-- whether the whole text is a name: a character that may begin an identifier, and then only ones that may continue it
abbrev pub is_name : List ℕ → Bool
is_name [] = false
is_name (c ∷ text) = is_ident_start c && list_all is_ident_continue text

-- whether all characters are ASCII digits
abbrev pub is_number : List ℕ → Bool
is_number text = list_all is_ascii_digit text

-- whether the byte is an ASCII letter or `_`, which may begin a name
abbrev pub is_plain_start : ℕ → Bool
is_plain_start b = is_ascii_alphabetic b || (b == 95)

-- whether the byte is an ASCII letter, a digit or `_`, which may continue a name
abbrev pub is_plain_continue : ℕ → Bool
is_plain_continue b = is_ascii_alphanumeric b || (b == 95)

-- `identifier-fault`: the first reason why the text is not a valid name, raw or plain; `None` if it is valid
abbrev pub ident_fault : Bool → List ℕ → Option IdentError
ident_fault raw name =
    if length name == 0 then Some Empty else
    (if is_number name then Some Number else
    (if not (is_name name) then Some Invalid else
    (if not (is_allowed raw name) then Some Reserved else None)))

-- whether the result is each of these errors exactly if it is the fault; so `Memory` comes only for a valid name
pub record Refuses {T : Type 0} (fault : Option IdentError) (result : Result T IdentError) : Type 0 where
  pub empty : (result ≡ Err Empty) ↔ (fault ≡ Some Empty)
  pub number : (result ≡ Err Number) ↔ (fault ≡ Some Number)
  pub invalid : (result ≡ Err Invalid) ↔ (fault ≡ Some Invalid)
  pub reserved : (result ≡ Err Reserved) ↔ (fault ≡ Some Reserved)

-- the text of each error
abbrev pub ident_message : IdentError → List ℕ
ident_message Empty = codes "an identifier has at least one character"
ident_message Number = codes "a number is no identifier"
ident_message Invalid = codes "not a valid identifier"
ident_message Reserved = codes "this name is reserved, and can't be raw"
ident_message (Memory error) = codes "no memory"

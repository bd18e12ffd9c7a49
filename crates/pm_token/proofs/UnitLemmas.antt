-- The units of characters and escapes, and their values.
use Rattle.std.proofs.Common.{◌≡◌, ℕ, Bool, true, not, ◌==◌, nat_lt, List, [], ◌∷◌, Result, Ok, refl, ltb-true}
use Rattle.std.specs.Char.{is_ascii}
use Rattle.std.proofs.lemmas.Bool.{cond_both, cond-false, cond-true, not-true}
use Rattle.std.proofs.lemmas.Str.{encode_ascii}
use Rattle.literal_escaper.specs.declared.errors.EscapeError.{EscapeError}
use Rattle.literal_escaper.specs.declared.mixed_unit.MixedUnit.TheVariants.{Char, HighByte}
use Rattle.literal_escaper.specs.Kind.{Kind, byte_kind, string_kind}
use Rattle.literal_escaper.specs.Units.{byte_unit, c_char}
use Rattle.pm_token.specs.Joined.{numbers, utf8}
use Rattle.pm_token.specs.Value.{unit_bytes}
use Rattle.pm_token.proofs.ReadLemmas.{Escapes}

-- whether this is a unit, with this value
pub record Gives {U : Type 0} (spell : U → List ℕ) (read : Result U EscapeError) (value : List ℕ) : Type 0 where
  pub unit : U
  pub is : read ≡ Ok unit
  pub value_is : spell unit ≡ value

-- whether p is an escape of a unit with this value
pub record EscapesAs {U : Type 0} (kind : Kind U) (spell : U → List ℕ) (p value : List ℕ) : Type 0 where
  pub unit : U
  pub escapes : Escapes kind p unit
  pub value_is : spell unit ≡ value

-- whether each character that passes has a unit with the right value
abbrev pub Spells : {U : Type 0} → (U → List ℕ) → (ℕ → Result U EscapeError) → (ℕ → List ℕ) → (ℕ → Bool) → Type 0
Spells spell read of_char passes = (c : ℕ) → passes c ≡ true → Gives spell (read c) (of_char c)

-- the value of a number is itself
abbrev pub one : ℕ → List ℕ
one n = n ∷ []

pub string_chars : Spells one string_kind.of_char numbers.of_char (λ c. true)
string_chars c passes = record { unit = c; is = refl; value_is = refl }

pub byte_chars : Spells one byte_kind.of_char numbers.of_char is_ascii
byte_chars c ascii = record { unit = c; is = cond-true _ _ _ ascii; value_is = refl }

pub c_chars : Spells unit_bytes c_char utf8.of_char (λ c. not (c == 0))
c_chars c some = record { unit = Char c; is = cond-false _ _ _ (not-true _ some); value_is = refl }

-- the value of a byte in a C string is itself, whether it is a character or not
pub byte_bytes : (b : ℕ) → unit_bytes (byte_unit b) ≡ b ∷ []
byte_bytes b = cond_both (nat_lt b 128) (Char b) (HighByte b) (λ u. unit_bytes u ≡ b ∷ [])
    (λ e. encode_ascii b (ltb-true b 128 e)) (λ e. refl)

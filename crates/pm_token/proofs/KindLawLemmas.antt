-- The kinds of the literals that the constructors made.
use Rattle.std.proofs.Common.{◌<◌, ℕ, List, [], ◌∷◌, refl, subst, sym}
use Rattle.std.specs.List.{AllByRecursion}
use Rattle.lexical.specs.Quoted.{CStr}
use Rattle.lexical.proofs.QuotedLemmas.{stop_ends}
use Rattle.pm_token.specs.KindLaws.{ByteStringsAreByteStrings, BytesAreBytes, CStringsAreCStrings}
use Rattle.pm_token.specs.KindLaws.{CharactersAreCharacters, StringsAreStrings}
use Rattle.pm_token.proofs.ByteLemmas.{AreBytes, byte_stands, byte_string_stands}
use Rattle.pm_token.proofs.CStringLemmas.{c_string_stands}
use Rattle.pm_token.proofs.EscapedLemmas.{character_stands, string_before_stop}

bytes_below : (bytes : List ℕ) → AllByRecursion (λ b. b < 256) bytes → AreBytes bytes
bytes_below [] all = tt
bytes_below (b ∷ bytes) all = (all.0, bytes_below bytes all.1)

pub strings_are_strings : StringsAreStrings
strings_are_strings text all = string_before_stop text [] all refl

pub byte_strings_are_byte_strings : ByteStringsAreByteStrings
byte_strings_are_byte_strings bytes all = byte_string_stands bytes [] (bytes_below bytes all) (stop_ends [] refl)

pub c_strings_are_c_strings : CStringsAreCStrings
c_strings_are_c_strings bytes text all none is =
    subst (λ t. CStr t []) (sym is.whole)
    (c_string_stands is.parts bytes [] is.reads (bytes_below bytes all) none (stop_ends [] refl))

pub characters_are_characters : CharactersAreCharacters
characters_are_characters c scalar = character_stands c [] scalar (stop_ends [] refl)

pub bytes_are_bytes : BytesAreBytes
bytes_are_bytes b low = byte_stands b [] low (stop_ends [] refl)

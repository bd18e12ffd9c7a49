-- The texts of integer literals: an `integer-text` is std's `decimal` or `signed_decimal`, and then a suffix.
use Rattle.std.specs.Prelude.{ℕ, List, [], codes}
use Rattle.pm_token.specs.declared.literals.integers.Suffix.{Suffix}
use Rattle.pm_token.specs.declared.literals.integers.Suffix.TheVariants.{Nothing, U8, U16, U32, U64, U128, Usize, I8}
use Rattle.pm_token.specs.declared.literals.integers.Suffix.TheVariants.{I16, I32, I64, I128, Isize}

-- `integer-suffix`: the text after the digits
abbrev pub suffix_text : Suffix → List ℕ
suffix_text Nothing = []
suffix_text U8 = codes "u8"
suffix_text U16 = codes "u16"
suffix_text U32 = codes "u32"
suffix_text U64 = codes "u64"
suffix_text U128 = codes "u128"
suffix_text Usize = codes "usize"
suffix_text I8 = codes "i8"
suffix_text I16 = codes "i16"
suffix_text I32 = codes "i32"
suffix_text I64 = codes "i64"
suffix_text I128 = codes "i128"
suffix_text Isize = codes "isize"

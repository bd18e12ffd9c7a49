use Rattle.std.proofs.Common.{refl, ap, ◌∙◌}
use Rattle.unicode_ident.proofs.Computing.{unicode_ident}
use Rattle.lexical.specs.declared.bytes.Class.TheVariants.{DigitOf, DigitOrUnderscoreOf}
use Rattle.lexical.proofs.ByteLemmas.{same_class}
use Rattle.lexical.proofs.bytes.kinds.Goals as goal

pub returns-in-Digit : goal.returns-in-Digit
returns-in-Digit c = same_class _ c.in-Digit.is refl

pub returns-in-DigitOrUnderscore : goal.returns-in-DigitOrUnderscore
returns-in-DigitOrUnderscore c = same_class _ c.in-DigitOrUnderscore.is refl

pub returns-in-Underscore : goal.returns-in-Underscore
returns-in-Underscore c = same_class _ c.in-Underscore.is refl

pub returns-in-Binary : goal.returns-in-Binary
returns-in-Binary c = same_class _ (c.in-DigitOf.is ∙ ap DigitOf c.in-Binary.is) refl

pub returns-in-Octal : goal.returns-in-Octal
returns-in-Octal c = same_class _ (c.in-DigitOf.is ∙ ap DigitOf c.in-Octal.is) refl

pub returns-in-Hexadecimal : goal.returns-in-Hexadecimal
returns-in-Hexadecimal c = same_class _ (c.in-DigitOf.is ∙ ap DigitOf c.in-Hexadecimal.is) refl

pub returns-in-Binary-base : goal.returns-in-Binary-base
returns-in-Binary-base c = same_class _ (c.in-DigitOrUnderscoreOf.is ∙ ap DigitOrUnderscoreOf c.in-Binary-base.is) refl

pub returns-in-Octal-base : goal.returns-in-Octal-base
returns-in-Octal-base c = same_class _ (c.in-DigitOrUnderscoreOf.is ∙ ap DigitOrUnderscoreOf c.in-Octal-base.is) refl

pub returns-in-Hexadecimal-base : goal.returns-in-Hexadecimal-base
returns-in-Hexadecimal-base c =
    same_class _ (c.in-DigitOrUnderscoreOf.is ∙ ap DigitOrUnderscoreOf c.in-Hexadecimal-base.is) refl

pub returns-in-Sign : goal.returns-in-Sign
returns-in-Sign c = same_class _ c.in-Sign.is refl

pub returns-in-ExponentLetter : goal.returns-in-ExponentLetter
returns-in-ExponentLetter c = same_class _ c.in-ExponentLetter.is refl

pub returns-in-HexDigit : goal.returns-in-HexDigit
returns-in-HexDigit c = same_class _ c.in-HexDigit.is refl

pub returns-in-CodeDigit : goal.returns-in-CodeDigit
returns-in-CodeDigit c = same_class _ c.in-CodeDigit.is refl

pub returns-in-Hash : goal.returns-in-Hash
returns-in-Hash c = same_class _ c.in-Hash.is refl

pub returns-in-IdentifierStart : goal.returns-in-IdentifierStart
unfolding unicode_ident
returns-in-IdentifierStart c = same_class _ c.in-IdentifierStart.is refl

pub returns-in-IdentifierContinue : goal.returns-in-IdentifierContinue
unfolding unicode_ident
returns-in-IdentifierContinue c = same_class _ c.in-IdentifierContinue.is refl

pub returns-in-BarsDot : goal.returns-in-BarsDot
unfolding unicode_ident
returns-in-BarsDot c = same_class _ c.in-BarsDot.is refl

pub returns-in-White : goal.returns-in-White
returns-in-White c = same_class _ c.in-White.is refl

pub returns-in-Opener : goal.returns-in-Opener
returns-in-Opener c = same_class _ c.in-Opener.is refl

pub returns-in-Closer : goal.returns-in-Closer
returns-in-Closer c = same_class _ c.in-Closer.is refl

pub returns-in-Mark : goal.returns-in-Mark
returns-in-Mark c = same_class _ c.in-Mark.is refl

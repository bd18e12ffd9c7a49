use Rattle.std.proofs.Common.{refl}
use Rattle.literal_escaper.proofs.ClassLemmas.{same_class}
use Rattle.literal_escaper.proofs.classes.bit.Goals as goal

pub returns-in-Blank : goal.returns-in-Blank
returns-in-Blank c = same_class _ c.in-Blank.is refl

pub returns-in-White : goal.returns-in-White
returns-in-White c = same_class _ c.in-White.is refl

pub returns-in-HexDigit : goal.returns-in-HexDigit
returns-in-HexDigit c = same_class _ c.in-HexDigit.is refl

pub returns-in-CodeCharacter : goal.returns-in-CodeCharacter
returns-in-CodeCharacter c = same_class _ c.in-CodeCharacter.is refl

pub returns-in-SimpleEscape : goal.returns-in-SimpleEscape
returns-in-SimpleEscape c = same_class _ c.in-SimpleEscape.is refl

pub returns-in-StringSpecial : goal.returns-in-StringSpecial
returns-in-StringSpecial c = same_class _ c.in-StringSpecial.is refl

pub returns-in-CharSpecial : goal.returns-in-CharSpecial
returns-in-CharSpecial c = same_class _ c.in-CharSpecial.is refl

pub returns-in-RawSpecial : goal.returns-in-RawSpecial
returns-in-RawSpecial c = same_class _ c.in-RawSpecial.is refl

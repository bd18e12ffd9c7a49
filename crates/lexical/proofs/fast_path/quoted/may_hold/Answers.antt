use Rattle.std.proofs.Common.{◌≡◌, true, subst, sym}
use Rattle.std.specs.Bool.{MatchBool}
use Rattle.std.specs.List.{list_all}
use Rattle.std.specs.Str.{IsAscii, IsNotAscii, chars}
use Rattle.lexical.specs.RawString.{may_stand_raw}
use Rattle.lexical.proofs.FastEscapeLemmas.{ascii_holds, plain_holds}
use Rattle.lexical.proofs.fast_path.quoted.may_hold.Goals as goal

pub returns-in-Plain : goal.returns-in-Plain
returns-in-Plain c = λ is.
    subst (λ k. list_all (may_stand_raw k) (chars c.args.stretch.now) ≡ true) (sym c.in-Plain.is)
    (plain_holds (chars c.args.stretch.now))

pub returns-in-Byte : goal.returns-in-Byte
returns-in-Byte c = λ is.
    subst (λ k. list_all (may_stand_raw k) (chars c.args.stretch.now) ≡ true) (sym c.in-Byte.is)
    (ascii_holds c.args.stretch.now
    (subst (λ b. MatchBool b (IsAscii c.args.stretch.now) (IsNotAscii c.args.stretch.now)) is c.is_ascii.ensures.cases))

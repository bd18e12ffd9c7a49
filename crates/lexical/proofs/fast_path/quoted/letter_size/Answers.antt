use Rattle.std.proofs.Common.{◌≡◌, ◌<◌, true, subst, sym}
use Rattle.std.proofs.lemmas.Bool.{ltb-true}
use Rattle.lexical.specs.Quoted.{is_one_of, letters}
use Rattle.lexical.proofs.FastEscapeLemmas.{letter_read}
use Rattle.lexical.proofs.fast_path.quoted.letter_size.Goals as goal

pub returns-then-is_letter : goal.returns-then-is_letter
returns-then-is_letter c =
    letter_read c.args.kind c.args.bytes.now
    (subst (λ b. b < 128) c.byte_at-first.ensures
    (ltb-true c.byte_at-first.result 128 (sym c.if-is_ascii.ensures)))
    (subst (λ b. is_one_of (letters c.args.kind) b ≡ true) c.byte_at-first.ensures (sym c.if-is_letter.ensures))

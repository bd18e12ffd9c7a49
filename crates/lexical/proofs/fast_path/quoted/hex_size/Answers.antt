use Rattle.std.proofs.Common.{◌&&◌, nat_lt, sym, ap, ◌∙◌}
use Rattle.lexical.specs.Bytes.{ascii_in}
use Rattle.lexical.specs.Quick.{pair_front}
use Rattle.lexical.specs.declared.bytes.Class.TheVariants as classes
use Rattle.lexical.proofs.FastEscapeLemmas.{hex_read}
use Rattle.lexical.proofs.fast_path.quoted.hex_size.Goals as goal

pub returns-then-holds_ascii : goal.returns-then-holds_ascii
returns-then-holds_ascii c =
    hex_read c.args.kind c.args.bytes.now (sym c.byte_at.ensures ∙ c.if-byte_at-eq120.true)
    (ap (λ b. nat_lt b 128 && pair_front c.args.kind b) (sym c.byte_at-then-byte_at-eq120.ensures)
    ∙ sym c.if-begins_pair.ensures)
    (ap (ascii_in classes.HexDigit) (sym c.byte_at-then-begins_pair.ensures) ∙ sym c.if-holds_ascii.ensures)

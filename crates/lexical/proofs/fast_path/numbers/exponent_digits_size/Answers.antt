use Rattle.std.proofs.Common.{nat_lt, sym, ap, ◌∙◌, ltb-true}
use Rattle.lexical.specs.Bytes.{ascii_in}
use Rattle.lexical.specs.declared.bytes.Class.TheVariants as classes
use Rattle.lexical.proofs.FastExponentLemmas.{exponent_digits_at}
use Rattle.lexical.proofs.fast_path.numbers.exponent_digits_size.Goals as goal

pub returns-then-is_ascii-clause-digits : goal.returns-then-is_ascii-clause-digits
returns-then-is_ascii-clause-digits c =
    exponent_digits_at c.args.bytes.now _ (ap (ascii_in classes.Digit) (sym c.byte_at.ensures)
    ∙ sym c.if-not-holds_ascii.ensures) c.count_ascii-size.ensures
    (ltb-true _ 128 (ap (λ b. nat_lt b 128) (sym c.byte_at-2.ensures) ∙ sym c.if-is_ascii.ensures))

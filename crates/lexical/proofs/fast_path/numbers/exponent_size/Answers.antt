use Rattle.std.proofs.Common.{◌≡◌, ◌-◌, ◌≤◌, ℕ, List, [], ◌∷◌, true, false, length, get_or, take, drop, refl}
use Rattle.std.proofs.Common.{sym, ap, ◌∙◌, arith}
use Rattle.std.proofs.lemmas.Bool.{both_ways}
use Rattle.std.proofs.lemmas.List.{take_rest}
use Rattle.lexical.specs.Bytes.{ascii_in}
use Rattle.lexical.specs.declared.bytes.Class.{Class}
use Rattle.lexical.specs.declared.bytes.Class.TheVariants as classes
use Rattle.lexical.proofs.FastExponentLemmas.{signed_read, unsigned_read}
use Rattle.lexical.proofs.FastNumberLemmas.{first_low}
use Rattle.lexical.proofs.fast_path.numbers.exponent_size.Goals as goal

pub returns-then-holds_ascii-clause-exponent : goal.returns-then-holds_ascii-clause-exponent
returns-then-holds_ascii-clause-exponent c =
    let bytes = c.args.bytes.now in
    let after = take (length bytes - 1) (drop 1 bytes) in
    signed_read bytes after _ _ _ _ c.byte_at.ensures c.if-not-holds_ascii.ensures (take_rest bytes 1)
    c.byte_at-2.ensures c.if-holds_ascii.ensures (take_rest after 1) c.in_ok-exponent_digits_size.ensures.digits

pub returns-clause-exponent : goal.returns-clause-exponent
returns-clause-exponent c =
    let bytes = c.args.bytes.now in
    let after = take (length bytes - 1) (drop 1 bytes) in
    unsigned_read bytes after _ _ c.byte_at.ensures c.if-not-holds_ascii.ensures (take_rest bytes 1)
    c.in_ok-exponent_digits_size-2.ensures.digits c.in_ok-exponent_digits_size-2.ensures.first

-- a text whose first byte is in the class is not empty
some_first : (class : Class) → ascii_in class 32 ≡ false → (bytes : List ℕ)
    → ascii_in class (get_or bytes 0 32) ≡ true → 1 ≤ length bytes
some_first class other [] h = absurd (both_ways _ other h)
some_first class other (b ∷ rest) h = omega arith

pub slice_bounds-after-count : goal.slice_bounds-after-count
slice_bounds-after-count c =
    some_first classes.ExponentLetter refl c.args.bytes.now
    (ap (ascii_in classes.ExponentLetter) (sym c.byte_at.ensures) ∙ sym c.if-not-holds_ascii.ensures)

pub slice_bounds-exponent_digits_size-count : goal.slice_bounds-exponent_digits_size-count
slice_bounds-exponent_digits_size-count c =
    some_first classes.Sign refl _
    (ap (ascii_in classes.Sign) (sym c.byte_at-2.ensures) ∙ sym c.if-holds_ascii.ensures)

pub returns-in_err-exponent_digits_size-clause-exponent : goal.returns-in_err-exponent_digits_size-clause-exponent
returns-in_err-exponent_digits_size-clause-exponent c = rw c.from_residual.ensures tt

pub returns-clause-ascii : goal.returns-clause-ascii
returns-clause-ascii c = first_low classes.ExponentLetter _ _ c.byte_at.ensures c.if-not-holds_ascii.ensures

pub returns-then-holds_ascii-clause-ascii : goal.returns-then-holds_ascii-clause-ascii
returns-then-holds_ascii-clause-ascii c =
    first_low classes.ExponentLetter _ _ c.byte_at.ensures c.if-not-holds_ascii.ensures

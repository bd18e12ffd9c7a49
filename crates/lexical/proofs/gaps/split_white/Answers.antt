use Rattle.std.proofs.Common.{◌<◌, ◌∙◌, ap, arith, get_or, ltb-true, sym}
use Rattle.lexical.proofs.WhiteRunLemmas.{splits_low, splits_wide, white_cut, wide_cut}
use Rattle.lexical.proofs.gaps.split_white.Goals as goal

pub split_at-requires : goal.split_at-requires
split_at-requires c =
    (white_cut c.args.text.now c.past_white-size.result.0.now c.past_white-size.result.1 c.utf8.text
    c.past_white-size.ensures.utf8 c.past_white-size.ensures.passed).1

pub returns-then-is_ascii : goal.returns-then-is_ascii
returns-then-is_ascii c =
    let n = c.past_white-size.result.1 in
    let low : get_or c.args.text.now n 32 < 128 =
    omega (
      arith,
      ap (λ bytes. get_or bytes n 32) c.as_bytes.ensures.value,
      c.byte_at.ensures,
      ltb-true c.byte_at.result 128 (sym c.is_ascii.ensures ∙ c.if-is_ascii.true),
    ) in
    splits_low c.args.text.now _ _ c.past_white-size.result.0.now n c.utf8.text c.past_white-size.ensures.utf8
    c.past_white-size.ensures.passed low c.split_at.ensures.front c.split_at.ensures.back

pub split_at-requires-2 : goal.split_at-requires-2
split_at-requires-2 c = wide_cut c.args.text.now c.utf8.text c.white_size.result c.white_size.ensures

pub returns : goal.returns
returns c =
    splits_wide c.args.text.now c.utf8.text c.white_size.result c.white_size.ensures _ _ c.split_at-2.ensures.front
    c.split_at-2.ensures.back

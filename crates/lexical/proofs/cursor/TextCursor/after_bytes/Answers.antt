use Rattle.std.proofs.Common.{arith, ap, length, ◌∙◌}
use Rattle.std.specs.Str.{chars}
use Rattle.std.proofs.lemmas.Str.{IsUtf8-had}
use Rattle.lexical.proofs.CountLemmas.{chars_cut, front_range}
use Rattle.lexical.proofs.cursor.TextCursor.after_bytes.Goals as goal

pub overflow_add-result : goal.overflow_add-result
overflow_add-result c =
    let text = c.args.self.rest.now in
    let n = c.args.size in
    let front = ap (λ x. length (chars x)) (c.range.ensures.value ∙ front_range text n) in
    let cut = chars_cut text n (IsUtf8-had text c.args.self.text) c.requires in
    omega (arith, c.args.self.room, c.char_count.ensures, cut, front)

pub invariant_of-result-clause-room : goal.invariant_of-result-clause-room
invariant_of-result-clause-room c =
    let text = c.args.self.rest.now in
    let n = c.args.size in
    let front = ap (λ x. length (chars x)) (c.range.ensures.value ∙ front_range text n) in
    let rest = ap (λ x. length (chars x)) c.range_from.ensures.value in
    let cut = chars_cut text n (IsUtf8-had text c.args.self.text) c.requires in
    omega (arith, c.args.self.room, c.char_count.ensures, cut, front, rest)

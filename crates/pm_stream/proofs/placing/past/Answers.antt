use Rattle.std.proofs.Common.{◌≡◌, [], ◌∷◌, length, sym, ap, subst, ◌∙◌, arith}
use Rattle.std.specs.Str.{chars, IsUtf8}
use Rattle.std.specs.Str.Iter.{chars_rest}
use Rattle.std.proofs.lemmas.List.{nil_from_length}
use Rattle.std.proofs.lemmas.Str.{chars-nil, chars_past_char, IsUtf8-past_char}
use Rattle.pm_stream.specs.Places.{moved_past}
use Rattle.pm_stream.proofs.PlaceLemmas.{moved_past-within}
use Rattle.pm_stream.proofs.placing.past.Goals as goal

pub loop-c-init : goal.loop-c-init
loop-c-init c =
    let same : chars_rest c.into_iter-c-iterator.result ≡ c.args.text.now =
    ap chars_rest c.into_iter-c-iterator.ensures.into_iter_gives ∙ c.chars-c-items.ensures.rest in
    let size : length (chars (chars_rest c.into_iter-c-iterator.result)) ≡ length (chars c.args.text.now) =
    ap (λ s. length (chars s)) same in
    record {
      utf8 = subst IsUtf8 (sym same) c.utf8.text;
      left = ap (λ s. moved_past c.args.start (chars s)) same;
      lines = omega (arith, size, c.requires.lines);
      columns = omega (arith, size, c.requires.columns);
    }

pub past_char-place-requires-clause-lines : goal.past_char-place-requires-clause-lines
past_char-place-requires-clause-lines c =
    let old = chars_rest c.loop-c.c-iterator in
    let rest = chars_rest c.next.new.self in
    let more : chars old ≡ c.in-Some.c ∷ chars rest =
    chars_past_char old rest c.in-Some.c c.loop-c.invariant.utf8 c.in-Some.ensures.steps.0 in
    let size : length (chars old) ≡ length (c.in-Some.c ∷ chars rest) = ap length more in
    omega (arith, size, c.loop-c.invariant.lines)

pub past_char-place-requires-clause-columns : goal.past_char-place-requires-clause-columns
past_char-place-requires-clause-columns c =
    let old = chars_rest c.loop-c.c-iterator in
    let rest = chars_rest c.next.new.self in
    let more : chars old ≡ c.in-Some.c ∷ chars rest =
    chars_past_char old rest c.in-Some.c c.loop-c.invariant.utf8 c.in-Some.ensures.steps.0 in
    let size : length (chars old) ≡ length (c.in-Some.c ∷ chars rest) = ap length more in
    omega (arith, size, c.loop-c.invariant.columns)

pub loop-c-smaller : goal.loop-c-smaller
loop-c-smaller c = (c.in-Some.ensures.goes.on c.loop-c.iterator.1).2

pub loop-c-preserved : goal.loop-c-preserved
loop-c-preserved c =
    let old = chars_rest c.loop-c.c-iterator in
    let rest = chars_rest c.next.new.self in
    let split = c.in-Some.ensures.steps.0 in
    let more : chars old ≡ c.in-Some.c ∷ chars rest =
    chars_past_char old rest c.in-Some.c c.loop-c.invariant.utf8 split in
    let within = moved_past-within c.loop-c.place (c.in-Some.c ∷ []) in
    let size : length (chars old) ≡ length (c.in-Some.c ∷ chars rest) = ap length more in
    record {
      utf8 = IsUtf8-past_char old rest c.in-Some.c c.loop-c.invariant.utf8 split;
      left = ap (λ place. moved_past place (chars rest)) c.past_char-place.ensures
          ∙ (ap (moved_past c.loop-c.place) (sym more) ∙ c.loop-c.invariant.left);
      lines = omega (
        arith,
        within.0,
        size,
        ap (λ place. place.line) c.past_char-place.ensures,
        c.loop-c.invariant.lines,
      );
      columns = omega (
        arith,
        within.1,
        size,
        ap (λ place. place.column) c.past_char-place.ensures,
        c.loop-c.invariant.columns,
      );
    }

pub returns : goal.returns
returns c =
    let none : chars (chars_rest c.loop-c.c-iterator) ≡ [] =
    ap chars (nil_from_length (chars_rest c.loop-c.c-iterator) c.in-None.ensures.steps.0.0) ∙ chars-nil in
    ap (moved_past c.loop-c.place) (sym none) ∙ c.loop-c.invariant.left

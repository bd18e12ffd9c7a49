use Rattle.std.proofs.Common.{◌≡◌, ◌-◌, rules, ◌++◌, length, take, drop, ap, flat_map, sym, ◌∙◌}
use Rattle.std.proofs.lemmas.List.{take_rest}
use Rattle.std.proofs.KnownBytes.{Appends-trans}
use Rattle.tokens.specs.Spans.{tree_line}
use Rattle.tokens.proofs.KnownLemmas.{AppendsFront-piece, front_grows}
use Rattle.tokens.proofs.SpanLineLemmas.{lines_cut}
use Rattle.tokens.proofs.spans.write_lines.Goals as goal

pub returns-in_err-write_all-clause-front : goal.returns-in_err-write_all-clause-front
returns-in_err-write_all-clause-front g c =
    let before = c.loop-rest.invariant in
    let cut = lines_cut c.loop-rest.rest.now c.split_at.result.0.now c.split_at.result.1.now _
    c.split_at.ensures.front c.split_at.ensures.back in
    let start = c.put_lines-start.result in
    let buffer = c.put_lines-start.new.buffer in
    let size : length buffer ≡ 32768 = search rules in
    let bytes : take (32768 - start) (drop start buffer) ≡ flat_map tree_line c.split_at.result.0.now =
    ap (λ n. take (n - start) (drop start buffer)) (sym size)
    ∙ (take_rest buffer start ∙ c.put_lines-start.ensures.written) in
    AppendsFront-piece _ _ _ _ before.front _ _ _ before.whole cut before.appends
    (rw bytes at c.in_err-write_all.ensures.front)

pub loop-rest-preserved : goal.loop-rest-preserved
loop-rest-preserved g c =
    let before = c.loop-rest.invariant in
    let cut = lines_cut c.loop-rest.rest.now c.split_at.result.0.now c.split_at.result.1.now _
    c.split_at.ensures.front c.split_at.ensures.back in
    let start = c.put_lines-start.result in
    let buffer = c.put_lines-start.new.buffer in
    let size : length buffer ≡ 32768 = search rules in
    let bytes : take (32768 - start) (drop start buffer) ≡ flat_map tree_line c.split_at.result.0.now =
    ap (λ n. take (n - start) (drop start buffer)) (sym size)
    ∙ (take_rest buffer start ∙ c.put_lines-start.ensures.written) in
    record {
      front = before.front ++ flat_map tree_line c.split_at.result.0.now;
      whole = front_grows _ before.front _ _ _ before.whole cut;
      appends = Appends-trans _ _ _ _ _ before.appends (rw bytes at c.in_ok-write_all.ensures.ok);
      flag = search rules;
    }

use Rattle.std.proofs.Common.{◌≤◌, nat_le, Some, sym, ap, ◌∙◌, length, arith}
use Rattle.std.specs.Str.{chars}
use Rattle.std.proofs.lemmas.Bool.{cond-true, lt-leb, le-leb}
use Rattle.lexical.specs.Finder.{if_passes}
use Rattle.lexical.proofs.HashLemmas.{signs, signs_text}
use Rattle.lexical.proofs.RuleSteps.{passes_whole, where_lacks, find_where}
use Rattle.lexical.proofs.raw_strings.hashes.Goals as goal

pub before-hashes-requires : goal.before-hashes-requires
before-hashes-requires c = passes_whole signs tt _ _ c.skip-end.ensures

pub returns-then-hashes-gt-MOST_HASHES : goal.returns-then-hashes-gt-MOST_HASHES
returns-then-hashes-gt-MOST_HASHES c =
    let same = signs_text _ _ c.skip-end.ensures c.before-hashes.result.now c.before-hashes.utf8
    c.before-hashes.ensures in
    where_lacks (λ hashes. nat_le (length hashes) 255) signs tt _ _
    (chars c.before-hashes.result.now) c.skip-end.ensures c.before-hashes.ensures
    (lt-leb (length (chars c.before-hashes.result.now)) 255
    (omega (arith, ap length same.0, c.if-hashes-gt-MOST_HASHES.true)))

pub returns : goal.returns
returns c =
    let run = c.skip-end.ensures in
    let same = signs_text _ _ run c.before-hashes.result.now c.before-hashes.utf8 c.before-hashes.ensures in
    let few : length run.front ≤ 255 = omega (arith, ap length same.1, c.if-hashes-gt-MOST_HASHES.false) in
    record {
      found = find_where (λ hashes. nat_le (length hashes) 255) signs _
          ∙ (ap (if_passes (λ p r. nat_le (length p) 255)) run.found
          ∙ cond-true _ _ _ (le-leb (length run.front) 255 few))
          ∙ ap (λ x. Some (x, chars c.skip-end.result.rest.now)) (sym same.1);
      count = omega (arith, run.count, ap length same.1);
      ascii = same.2;
    }

use Rattle.std.proofs.Common.{arith}
use Rattle.lexical.proofs.HashLemmas.{signs, signs_text}
use Rattle.lexical.proofs.RuleSteps.{passes_whole}
use Rattle.explain.proofs.QuoteLemmas.{unclosed_raw, too_many}
use Rattle.explain.proofs.strings.raw_string.Goals as goal

pub before-hashes-requires : goal.before-hashes-requires
before-hashes-requires c = passes_whole signs tt _ _ c.skip-quote.ensures

pub past_raw_quote-requires : goal.past_raw_quote-requires
past_raw_quote-requires c =
    (signs_text _ _ c.skip-quote.ensures c.before-hashes.result.now c.before-hashes.utf8 c.before-hashes.ensures).2

pub returns-in_default-past_raw_quote : goal.returns-in_default-past_raw_quote
returns-in_default-past_raw_quote c =
    let same = signs_text _ _ c.skip-quote.ensures c.before-hashes.result.now c.before-hashes.utf8
    c.before-hashes.ensures in
    unclosed_raw c.args.kind c.args.at c.args.inside c.skip-quote.result c.in-Some.body c.requires.letters
    c.skip-quote.ensures c.in-Some.ensures c.before-hashes.result.now same.1 c.in_default-past_raw_quote.ensures

pub returns-then-hashes-gt-MOST_HASHES : goal.returns-then-hashes-gt-MOST_HASHES
returns-then-hashes-gt-MOST_HASHES c =
    let same = signs_text _ _ c.skip-quote.ensures c.before-hashes.result.now c.before-hashes.utf8
    c.before-hashes.ensures in
    too_many c.args.kind c.args.at c.args.inside c.skip-quote.result c.in-Some.body c.requires.letters
    c.skip-quote.ensures c.in-Some.ensures c.before-hashes.result.now _ same.1
    (omega (arith, c.if-hashes-gt-MOST_HASHES.true)) c.in-Some-past_raw_quote.ensures

pub raw_content-requires-clause-signs : goal.raw_content-requires-clause-signs
raw_content-requires-clause-signs c = (
  c.skip-quote.ensures,
  (signs_text _ _ c.skip-quote.ensures c.before-hashes.result.now c.before-hashes.utf8 c.before-hashes.ensures).1,
)

pub raw_content-requires-clause-ascii : goal.raw_content-requires-clause-ascii
raw_content-requires-clause-ascii c =
    (signs_text _ _ c.skip-quote.ensures c.before-hashes.result.now c.before-hashes.utf8 c.before-hashes.ensures).2

use Rattle.std.proofs.Common.{rules}
use Rattle.std.specs.Str.{chars}
use Rattle.pm_token.proofs.ContentLemmas.{stop_signs, past_signs, past_shorter, no_signs}
use Rattle.pm_token.proofs.literals.values.content.hashed_content.Goals as goal

pub returns-in_err-quoted : goal.returns-in_err-quoted
returns-in_err-quoted c =
    let none =
    stop_signs (chars c.args.text.now) (chars c.loop-after_hash.quoted.now) (chars c.in-Some.after_hash.now)
    c.loop-after_hash.invariant.0 c.in-Some.ensures.found c.in_err-quoted.ensures.found in
    search (rules, none)

pub loop-after_hash-smaller : goal.loop-after_hash-smaller
loop-after_hash-smaller c =
    past_shorter (chars c.loop-after_hash.quoted.now) (chars c.in-Some.after_hash.now) (chars c.in_ok-quoted.quoted.now)
    c.in-Some.ensures.found c.in_ok-quoted.ensures.found

pub loop-after_hash-preserved : goal.loop-after_hash-preserved
loop-after_hash-preserved c = (
  past_signs (chars c.args.text.now) (chars c.loop-after_hash.quoted.now) (chars c.in-Some.after_hash.now)
      (chars c.in_ok-quoted.quoted.now)
      c.loop-after_hash.invariant.0 c.in-Some.ensures.found c.in_ok-quoted.ensures.found,
  c.in_ok-quoted.ensures.utf8,
)

pub returns : goal.returns
returns c =
    no_signs (chars c.args.text.now) (chars c.loop-after_hash.quoted.now) c.cooked_content.result
    c.loop-after_hash.invariant.0 c.in_default.ensures.found c.cooked_content.ensures

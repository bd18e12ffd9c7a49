use Rattle.std.proofs.Common.{◌+◌, codes, sym, ap, ◌∙◌, subst}
use Rattle.std.specs.Str.{chars}
use Rattle.std.proofs.lemmas.List.{take_rest}
use Rattle.lexical.specs.Found.{IsAt}
use Rattle.lexical.specs.Quick.{IsStretch}
use Rattle.lexical.specs.Quoted.{body, unit}
use Rattle.lexical.specs.Rule.{Stands}
use Rattle.lexical.proofs.FastLiteralLemmas.{ends}
use Rattle.lexical.proofs.FastStringLemmas.{stretch, string_body, units_on, units_within}
use Rattle.lexical.proofs.fast_path.quoted.body_size.Goals as goal

pub loop-size-init : goal.loop-size-init
loop-size-init c =
    let bytes = c.as_bytes-bytes.result.now in
    let is : IsStretch c.args.kind bytes c.args.stretch =
    subst (λ t. IsStretch c.args.kind t c.args.stretch) (sym c.as_bytes-bytes.ensures.value) c.requires in
    record {
      within = is.first.0.high;
      front = stretch c.args.kind bytes _ c.as_bytes-bytes.ensures.utf8 is;
    }

pub loop-size-preserved : goal.loop-size-preserved
loop-size-preserved c =
    let bytes = c.as_bytes-bytes.result.now in
    let n = c.loop-size.size in
    let e = c.in_ok-size.field-0 in
    let k = c.in_ok-size-2.field-0 in
    let before = c.loop-size.invariant in
    let same = take_rest bytes (n + 1) in
    let rest = take_rest bytes (n + 1 + e) in
    record {
      within = units_within c.args.kind bytes _ _ n e k c.as_bytes-bytes.ensures.utf8 before.front
          c.loop-size-test.true before.within same c.in_ok-size.ensures rest c.in_ok-size-2.ensures;
      front = units_on c.args.kind bytes _ _ n e k c.as_bytes-bytes.ensures.utf8 before.front
          c.loop-size-test.true before.within same c.in_ok-size.ensures rest c.in_ok-size-2.ensures;
    }

pub returns-then-ends_literal-clause-found : goal.returns-then-ends_literal-clause-found
returns-then-ends_literal-clause-found c =
    let n = c.loop-size.size in
    let before = c.loop-size.invariant in
    subst (λ t. IsAt (Stands (body (unit c.args.kind) (codes "\""))) (chars t) (n + 1)) c.as_bytes-bytes.ensures.value
    (string_body c.args.kind c.as_bytes-bytes.result.now n before.within before.front c.if-bytes-size-eq34.true
    (ap ends (sym c.byte_at.ensures) ∙ sym c.if-ends_literal.ensures))

pub returns-in_err-size-clause-found : goal.returns-in_err-size-clause-found
returns-in_err-size-clause-found c = rw c.from_residual.ensures tt

pub returns-in_err-size-clause-within : goal.returns-in_err-size-clause-within
returns-in_err-size-clause-within c = rw c.from_residual.ensures tt

pub returns-in_err-size-2-clause-found : goal.returns-in_err-size-2-clause-found
returns-in_err-size-2-clause-found c = rw c.from_residual-in_err-size-2.ensures tt

pub returns-in_err-size-2-clause-within : goal.returns-in_err-size-2-clause-within
returns-in_err-size-2-clause-within c = rw c.from_residual-in_err-size-2.ensures tt

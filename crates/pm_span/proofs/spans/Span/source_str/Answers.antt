use Rattle.std.proofs.Common.{◌-◌, ◌≡◌, ◌≢◌, ◌<◌, ap, ap₂, sym, ◌∙◌, arith, subst}
use Rattle.std.specs.Option.{MatchOption}
use Rattle.std.specs.Str.{chars}
use Rattle.pm_span.specs.Extent.{nowhere}
use Rattle.pm_span.specs.CharOffset.{between}
use Rattle.pm_span.proofs.ConsecutiveLemmas.{found_none, found_some, holds_at, of_each, in_file_0, past_file_0}
use Rattle.pm_span.proofs.spans.Span.source_str.Goals as goal

pub returns-in_err-file-clause-found : goal.returns-in_err-file-clause-found
returns-in_err-file-clause-found c =
    let lo = ap (λ p. p.0) c.bounds-lo.ensures.value in
    let found = found_none lo c.in_err-file.was c.file_of.ensures.found in
    subst (λ r. MatchOption r (c.args.self ≡ nowhere) (λ text. c.args.self ≢ nowhere)) (sym c.from_residual.ensures)
    (in_file_0 c.args.self found c.bounds-lo.ensures.ordered c.requires)

pub text_between-requires-clause-within : goal.text_between-requires-clause-within
text_between-requires-clause-within c =
    let lo = ap (λ p. p.0) c.bounds-lo.ensures.value in
    let hi = ap (λ p. p.1) c.bounds-lo.ensures.value in
    let found = found_some lo c.in_ok-file.was c.file_of.ensures.found in
    let within = (holds_at c.args.self found c.bounds-lo.ensures.ordered).1 c.requires in
    omega (arith, within, hi, c.lo-2.ensures)

pub returns : goal.returns
returns c =
    let lo = ap (λ p. p.0) c.bounds-lo.ensures.value in
    let hi = ap (λ p. p.1) c.bounds-lo.ensures.value in
    let found = found_some lo c.in_ok-file.was c.file_of.ensures.found in
    let within = (holds_at c.args.self found c.bounds-lo.ensures.ordered).1 c.requires in
    let past = subst (λ o. MatchOption o (c.file_of.result.0 ≡ 0) (λ _. 0 < c.file_of.result.0)) c.in_ok-file.was
    c.file_of.ensures.number in
    let here : chars c.text_between.result.now ≡ between c.in_ok-file.file.now.text
    (c.args.self.lo - c.in_ok-file.file.now.lo) (c.args.self.hi - c.in_ok-file.file.now.lo) =
    c.text_between.ensures ∙ ap₂ (λ j k. between c.in_ok-file.file.now.text j k)
    (ap₂ (λ p l. p - l) lo c.lo.ensures) (ap₂ (λ p l. p - l) hi c.lo-2.ensures) in
    record {
      found = past_file_0 c.args.self found past;
      value = λ text lo file. of_each c.args.self
          (λ n t l. chars c.text_between.result.now ≡ between t (c.args.self.lo - l) (c.args.self.hi - l))
          found c.bounds-lo.ensures.ordered here text lo file;
      text = record {
        held = record {
          text = c.in_ok-file.file.now.text;
          lo = c.in_ok-file.file.now.lo;
          file = found.is_file;
          from = found.begins;
          to = within;
        };
        value = here;
      };
    }

use Rattle.std.proofs.Common.{◌≡◌, ◌++◌, ap, sym, ◌∙◌, subst, codes, arith}
use Rattle.std.specs.Fmt.{decimal}
use Rattle.std.specs.Str.{chars}
use Rattle.std.specs.String.{string_bytes}
use Rattle.std.proofs.lemmas.Result.{IfOk-weaker}
use Rattle.pm_span.specs.Files.{file_name}
use Rattle.pm_span.specs.Lookup.{HasName}
use Rattle.std.specs.Option.{unwrap_or, option_copied}
use Rattle.pm_span.specs.Consecutive.{file_0, IsFileOf}
use Rattle.pm_span.proofs.AsciiLemmas.{chars-parsed_name, chars-unspecified}
use Rattle.pm_span.proofs.ConsecutiveLemmas.{of_each}
use Rattle.pm_span.proofs.spans.Span.file.Goals as goal

pub returns-then-number-eq0 : goal.returns-then-number-eq0
returns-then-number-eq0 c =
    let at = subst (λ lo. IsFileOf c.args.map.now lo c.file_of-number.result.0
    (unwrap_or (option_copied c.file_of-number.result.1) file_0))
    (ap (λ p. p.0) c.bounds-lo.ensures.value) c.file_of-number.ensures.found in
    record {
      ok = IfOk-weaker c.from_str.result (λ t. string_bytes t ≡ codes "<unspecified>")
          (λ name. HasName c.args.map.now c.args.self (chars (string_bytes name)))
          (λ name same text lo file. of_each c.args.self
          (λ n t l. chars (string_bytes name) ≡ file_name n) at c.bounds-lo.ensures.ordered
          (ap chars same ∙ (chars-unspecified ∙ ap file_name (sym c.if-number-eq0.true))) text lo file)
          c.from_str.ensures.ok;
    }

pub returns-else-number-eq0 : goal.returns-else-number-eq0
returns-else-number-eq0 c =
    let number = c.file_of-number.result.0 in
    let at = subst (λ lo. IsFileOf c.args.map.now lo number
    (unwrap_or (option_copied c.file_of-number.result.1) file_0))
    (ap (λ p. p.0) c.bounds-lo.ensures.value) c.file_of-number.ensures.found in
    record {
      ok = IfOk-weaker c.format.result (λ t. string_bytes t ≡ codes "<parsed string " ++ (decimal number ++ codes ">"))
          (λ name. HasName c.args.map.now c.args.self (chars (string_bytes name)))
          (λ name same text lo file. of_each c.args.self
          (λ n t l. chars (string_bytes name) ≡ file_name n) at c.bounds-lo.ensures.ordered
          (ap chars same ∙ chars-parsed_name number c.if-number-eq0.false (omega arith)) text lo file)
          c.format.ensures.ok;
    }

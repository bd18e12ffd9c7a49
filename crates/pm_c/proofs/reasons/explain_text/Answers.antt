use Rattle.std.proofs.Common.{◌≡◌, length, subst, Ok, Err, Option, Result}
use Rattle.std.specs.Prelude.{MatchOption}
use Rattle.std.specs.Str.{chars}
use Rattle.proc_macro2.specs.Files.{Fits, new_map}
use Rattle.explain.specs.Explained.{IsExplained, Parses}
use Rattle.explain.specs.declared.explained.ExplainError.{ExplainError}
use Rattle.explain.specs.declared.explained.ExplainError.TheVariants.{MapFull}
use Rattle.explain.specs.declared.explained.Explained.{Explained}
use Rattle.pm_c.proofs.ReasonLemmas.{explains_answer}
use Rattle.pm_c.proofs.reasons.explain_text.Goals as goal

pub returns-in-Ok-Some : goal.returns-in-Ok-Some
returns-in-Ok-Some c =
    let source = chars c.in-Ok.text.now in
    let holds = subst (λ answer. MatchOption answer (Parses 1 source) (IsExplained 1 source)) c.in-Ok-Some.field-0-is
    c.in-Ok-Some.ensures.answer in
    let clash : (Fits new_map (length source) → ⊥)
    → ◌≡◌ {A = Result (Option Explained) ExplainError} (Ok c.in-Ok-Some.field-0) (Err MapFull)
    = c.in-Ok-Some.ensures.map_full.1 in
    explains_answer c.args.source.now c.in-Ok.text.now c.in-Ok-Some.explained c.explanation_record.result
    c.in-Ok.ensures.cases.0
    c.in-Ok.ensures.cases.1 holds (λ no. let e = clash no in absurd (cc)) c.explanation_record.ensures

use Rattle.std.proofs.Common.{◌∙◌, ◌++◌, ◌∷◌, [], ap, sym}
use Rattle.outline.specs.Outline.{last_of}
use Rattle.outline.proofs.OutlineLemmas.{last_of-two}
use Rattle.outline.proofs.entries.last_of.Goals as goal

pub returns-in-Some-split_last : goal.returns-in-Some-split_last
returns-in-Some-split_last c =
    let front = c.in-Some-split_last.ensures.cases.0 in
    let all = c.in-Some.ensures.cases.0 ∙ ap (λ l. l ++ c.in-Some.last.now ∷ []) front in
    c.span.ensures.value
    ∙ sym (ap last_of all
    ∙ last_of-two c.in-Some-split_last.field-0-1.now c.in-Some-split_last.before.now c.in-Some.last.now)

use Rattle.std.proofs.Common.{◌≡◌, ◌∙◌, sym, ap, subst, Option, Some, None, MatchOption}
use Rattle.pm_stream.specs.declared.stream.Group.{Group}
use Rattle.declarations.proofs.FileLemmas.{last_braces-snoc}
use Rattle.declarations.specs.File.{braces, last_braces}
use Rattle.declarations.proofs.file.last_braces.Goals as goal

pub returns-in-Some : goal.returns-in-Some
returns-in-Some c =
    let same : last_braces c.args.trees.now ≡ braces c.in-Some.tree.now =
    ap last_braces c.in-Some.ensures.cases.0 ∙ last_braces-snoc c.in-Some.field-0-1.now c.in-Some.tree.now in
    subst (λ (o : Option Group). MatchOption c.braces.result (o ≡ None) (λ group. o ≡ Some group.now)) (sym same)
    c.braces.ensures

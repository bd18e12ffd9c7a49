use Rattle.std.proofs.Common.{◌∙◌, ap, sym, Option, ℕ}
use Rattle.proc_macro2.specs.Forest.{Forest}
use Rattle.quoting.proofs.BuilderLemmas.{built_take}
use Rattle.quoting.proofs.InPlaceLemmas.{built_drop}
use Rattle.quoting.proofs.OpenListLemmas.{finish_unchanged, part_of}
use Rattle.quoting.proofs.open_list.OpenList.finish.Goals as goal

pub copy-requires : goal.copy-requires
copy-requires c =
    built_take _ _
    (built_drop c.in-Some.count _ (built_take c.self.inside.done c.self.inside.trees.now c.self.invariant.2))

pub returns-in-None : goal.returns-in-None
returns-in-None c =
    let inside = c.self.inside in
    finish_unchanged _ inside.stream.now inside.done inside.trees.now c.args.self c.clone.result
    (ap (λ (changed : Option (Forest × ℕ)). part_of inside.stream.now changed inside.done inside.trees.now)
    (sym c.in-None.is)
    ∙ c.self.view_is)
    c.self.invariant.3 c.requires c.clone.ensures.cases

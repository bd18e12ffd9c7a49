use Rattle.std.proofs.Common.{ap, sym, subst, ◌∙◌, ◌++◌, ◌∷◌, []}
use Rattle.proc_macro2.specs.Forest.{IsBuilt}
use Rattle.proc_macro2.specs.Trees.{forest}
use Rattle.pm_stream.proofs.TreeLemmas.{forest-push}
use Rattle.quoting.proofs.BuilderLemmas.{built_last}
use Rattle.quoting.proofs.builder.push.Goals as goal

pub returns-in_err-reserve-clause-built : goal.returns-in_err-reserve-clause-built
returns-in_err-reserve-clause-built c =
    subst (λ ts. IsBuilt (forest ts)) (sym c.reserve.ensures.items) c.requires.list

pub returns-clause-ok : goal.returns-clause-ok
returns-clause-ok c =
    ap forest (c.push_reserved.ensures.items ∙ ap (λ items. items ++ c.args.tree ∷ []) c.reserve.ensures.items)
    ∙ forest-push c.args.list.now.items c.args.tree

pub returns-clause-built : goal.returns-clause-built
returns-clause-built c =
    built_last c.args.list.now.items c.push_reserved.new.self.items c.args.tree
    (c.push_reserved.ensures.items ∙ ap (λ items. items ++ c.args.tree ∷ []) c.reserve.ensures.items)
    c.requires.list (c.span.ensures.built c.requires.tree)

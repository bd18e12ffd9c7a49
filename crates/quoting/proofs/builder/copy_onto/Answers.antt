use Rattle.std.proofs.Common.{◌∙◌, ap, sym, subst}
use Rattle.proc_macro2.specs.Forest.{IsBuilt}
use Rattle.proc_macro2.specs.Trees.{forest}
use Rattle.pm_stream.proofs.TreeLemmas.{forest-push}
use Rattle.quoting.proofs.BuilderLemmas.{built_last}
use Rattle.quoting.proofs.builder.copy_onto.Goals as goal

pub returns-in_err-push_copy-clause-built : goal.returns-in_err-push_copy-clause-built
returns-in_err-push_copy-clause-built c =
    subst (λ ts. IsBuilt (forest ts)) (sym c.in_err-push_copy.ensures.err) c.requires.list

pub returns-clause-ok : goal.returns-clause-ok
returns-clause-ok c = ap forest c.in_ok-push_copy.ensures.ok ∙ forest-push c.args.list.now.items c.args.tree.now

pub returns-clause-built : goal.returns-clause-built
returns-clause-built c =
    built_last c.args.list.now.items c.push_copy.new.list.items c.args.tree.now c.in_ok-push_copy.ensures.ok
    c.requires.list (c.span.ensures.built c.requires.tree)

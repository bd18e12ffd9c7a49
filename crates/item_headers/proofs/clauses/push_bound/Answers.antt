use Rattle.std.proofs.Common.{refl, sym, ap, ◌∙◌}
use Rattle.declarations.specs.Param.{param_trees}
use Rattle.declarations.specs.declared.generics.ParamKind.TheVariants as kinds
use Rattle.item_headers.proofs.HeaderLemmas.{bound_is, bound_put}
use Rattle.item_headers.specs.Lists.{lead_of, mark, pushed_trees}
use Rattle.item_headers.specs.declared.lists.Lead.TheVariants as leads
use Rattle.pm_stream.proofs.BuildingLemmas.{joined_nil}
use Rattle.proc_macro2.specs.Forest.{chain}
use Rattle.item_headers.proofs.clauses.push_bound.Goals as goal

pub returns-in-Lifetime : goal.returns-in-Lifetime
returns-in-Lifetime c =
    bound_is c.args.bound.now (param_trees c.args.param.now) kinds.Lifetime c.args.any c.args.any c.args.quote.now
    c.args.quote.now c.in-Lifetime.is (sym (joined_nil c.args.quote.now), refl)

pub returns-in_ok-push_stream-in-Type : goal.returns-in_ok-push_stream-in-Type
returns-in_ok-push_stream-in-Type c =
    bound_is c.args.bound.now (param_trees c.args.param.now) kinds.Type c.args.any _ c.args.quote.now _ c.in-Type.is (
      bound_put c.args.quote.now (lead_of c.args.any leads.Where) (pushed_trees c.args.param.now.name.now) (mark 58)
          c.args.bound.now _ _ _ _ c.in_ok-push_lead-in-Type.ensures c.in_ok-push_trees-in-Type.ensures
          c.in_ok-push_mark-in-Type.ensures
          (c.in_ok-push_stream-in-Type.ensures.ok ∙ ap (chain _) c.in_ok-copy-in-Type.ensures.cases),
      refl,
    )

pub returns-in-Const : goal.returns-in-Const
returns-in-Const c =
    bound_is c.args.bound.now (param_trees c.args.param.now) kinds.Const c.args.any c.args.any c.args.quote.now
    c.args.quote.now c.in-Const.is (sym (joined_nil c.args.quote.now), refl)

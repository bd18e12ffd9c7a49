use Rattle.std.proofs.Common.{◌∙◌, ap, subst}
use Rattle.std.specs.List.{prefix_len}
use Rattle.declarations.specs.Attribute.{AreArgs, after_path, goes_on}
use Rattle.declarations.proofs.AttributeLemmas.{path_stops}
use Rattle.declarations.proofs.attribute.Attribute.args.Goals as goal

pub args_of-requires : goal.args_of-requires
args_of-requires c =
    ap (prefix_len goes_on) c.split_path.ensures.rest ∙ path_stops c.inside_of.result.now

pub returns : goal.returns
returns c =
    subst (λ ts. AreArgs ts c.args_of.result) (c.split_path.ensures.rest ∙ ap after_path c.inside_of.ensures)
    c.args_of.ensures

use Rattle.std.proofs.Common.{◌++◌, ◌∷◌, [], List, ap, ap₂, ◌∙◌}
use Rattle.pm_stream.specs.Trees.{forest}
use Rattle.pm_stream.specs.declared.stream.Group.{Group as Grouped}
use Rattle.pm_stream.specs.declared.stream.TokenTree.{TokenTree}
use Rattle.pm_stream.specs.declared.stream.TokenTree.TheVariants.{Group}
use Rattle.pm_stream.proofs.parse.Parser.push_group.Goals as goal

pub returns : goal.returns
returns c =
    let inside = c.in_ok-stream.ensures.ok ∙ ap forest c.in_ok-inside.ensures.tail in
    c.in_ok-push.ensures.items ∙ ap₂ (λ (ts : List TokenTree) (g : Grouped). ts ++ Group g ∷ [])
    c.in_ok-inside.ensures.items (c.from_parts-group.ensures
    ∙ ap (λ s. record { delimiter = c.args.delimiter; stream = s; span = c.args.span }) inside)

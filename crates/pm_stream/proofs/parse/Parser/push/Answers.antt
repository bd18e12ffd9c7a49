use Rattle.pm_stream.proofs.ParsingLemmas.{adds_tree}
use Rattle.pm_stream.proofs.parse.Parser.push.Goals as goal

pub returns : goal.returns
returns c =
    adds_tree c.args.self.now (record { alloc = c.args.self.now.alloc; trees = c.push.new.self }) c.args.tree
    c.in_ok-push.ensures.items (c.span.ensures.built c.requires)

use Rattle.std.proofs.Common.{◌++◌, [], refl, ap, ◌∙◌}
use Rattle.lexical.specs.declared.piece.PieceKind.TheVariants as kinds
use Rattle.pm_stream.specs.Printed.{space}
use Rattle.pm_stream.proofs.PieceLemmas.{stands_as}
use Rattle.pm_stream.proofs.ReprintLemmas.{prints_one}
use Rattle.pm_stream.proofs.reprinting.PrinterTokenSink.name.Goals as goal

pub returns : goal.returns
returns c = λ to.
    prints_one c.args.self.now (record { text_out = c.write.new.self.text_out; gap = _ }) _ _ c.in_ok-write.ensures.ok
    (ap (λ x. (space c.args.self.now.gap ++ x) ++ []) (c.own_text.ensures c.requires.0.is
    ∙ (stands_as c.requires.0.is (kinds.Name c.args._raw c.args._name) c.requires.1).0))
    refl to.before.events to.takes

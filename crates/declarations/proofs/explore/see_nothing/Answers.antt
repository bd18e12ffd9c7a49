use Rattle.grammars.specs.Grammar.{Nothing}
use Rattle.grammars.proofs.NextWordLemmas as laws
use Rattle.declarations.specs.Reader.{classes_in}
use Rattle.item_tables.specs.declared.class.SignClass.{SignClass}
use Rattle.declarations.specs.rules.Names.{Label, Name}
use Rattle.declarations.specs.rules.Rules.{rules}
use Rattle.declarations.proofs.ExploreLemmas.{nothing_seen}
use Rattle.declarations.proofs.explore.see_nothing.Goals as goal

pub returns : goal.returns
returns c =
    nothing_seen Nothing c.args.trees.now c.seen_nothing.result
    (laws.nothing SignClass Name Label rules (classes_in c.args.trees.now))
    c.seen_nothing.ensures.left c.seen_nothing.ensures.next

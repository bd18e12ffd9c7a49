use Rattle.grammars.specs.Grammar.{Mark}
use Rattle.grammars.proofs.NextWordLemmas as laws
use Rattle.declarations.specs.Reader.{classes_in}
use Rattle.declarations.specs.Syntax.{label_of}
use Rattle.item_tables.specs.declared.class.SignClass.{SignClass}
use Rattle.declarations.specs.rules.Names.{Label, Name}
use Rattle.declarations.specs.rules.Rules.{rules}
use Rattle.declarations.proofs.ExploreLemmas.{nothing_seen}
use Rattle.declarations.proofs.explore.see_mark.Goals as goal

pub returns : goal.returns
returns c =
    nothing_seen (Mark (label_of c.args.label)) c.args.trees.now c.seen_nothing.result
    (laws.mark SignClass Name Label rules (label_of c.args.label) (classes_in c.args.trees.now))
    c.seen_nothing.ensures.left c.seen_nothing.ensures.next

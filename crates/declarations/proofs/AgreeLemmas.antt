-- What it means that the tables take the same steps as the grammar.
use Rattle.std.proofs.Common.{◌≡◌, true, Option, Some, None, List}
use Rattle.grammars.specs.Machine as machine
use Rattle.grammars.proofs.FlatLemmas.{move}
use Rattle.item_tables.specs.Walk.{ends}
use Rattle.declarations.specs.rules.Names.{G}
use Rattle.declarations.specs.rules.Rules.{rules}
use Rattle.item_tables.specs.declared.class.SignClass.{SignClass}
use Rattle.item_tables.specs.declared.walk_state.WalkState.{WalkState}
use Rattle.declarations.proofs.StackLemmas.{left_after, stack_after}

-- if the tables reach this state, their step is that of the grammar
abbrev pub Agrees : Option (List G) → Option WalkState → SignClass → Type 0
Agrees None next class = true ≡ true
Agrees (Some k) next class = left_after next ≡ stack_after (move rules k class)

-- if the tables reach this state, they may end in it exactly if the grammar may
abbrev pub EndsAgree : Option (List G) → WalkState → Type 0
EndsAgree None place = true ≡ true
EndsAgree (Some k) place = ends place ≡ machine.ends k

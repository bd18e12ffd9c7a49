-- In each state of an expression the tables take the steps of the grammar.
use Rattle.std.proofs.Common.{◌≡◌, refl, [], ◌∷◌}
use Rattle.grammars.specs.Machine as machine
use Rattle.grammars.proofs.FlatLemmas.{move}
use Rattle.item_tables.specs.Expression.{spot_ends, spot_step}
use Rattle.item_tables.specs.Walk.{shift_state}
use Rattle.item_tables.specs.declared.class.SignClass.{SignClass}
use Rattle.item_tables.specs.declared.class.SignClass.TheVariants as signs
use Rattle.item_tables.specs.declared.class.Keyword.TheVariants as keywords
use Rattle.item_tables.specs.declared.class.Word.TheVariants as words
use Rattle.item_tables.specs.declared.walk_state.Spot.{Spot}
use Rattle.item_tables.specs.declared.walk_state.Spot.TheVariants as spots
use Rattle.declarations.specs.rules.Rules.{rules}
use Rattle.declarations.proofs.StackLemmas.{left_after, spot_left, stack_after}

pub spot_agrees : (spot : Spot) (c : SignClass)
    → left_after (shift_state 0 (spot_step spot c)) ≡ stack_after (move rules (spot_left spot ∷ []) c)
spot_agrees spots.Expression (signs.Word words.Auto) = refl
spot_agrees _ (signs.Word words.Auto) = refl
spot_agrees _ (signs.Word _) = refl
spot_agrees _ (signs.Keyword keywords.Async) = refl
spot_agrees _ (signs.Keyword _) = refl
spot_agrees _ _ = refl

pub spot_ends_agree : (spot : Spot) → spot_ends spot ≡ machine.ends (spot_left spot ∷ [])
spot_ends_agree spots.Expression = refl
spot_ends_agree _ = refl

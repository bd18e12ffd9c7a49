-- How named rules are read.
use Rattle.std.specs.Prelude.{◌≡◌, ◌≤◌}
use Rattle.declarations.specs.Syntax.{goal_size, grammar_of, name_of, size_of}
use Rattle.declarations.specs.declared.goal_syntax.NamedRule.{NamedRule}
use Rattle.declarations.specs.declared.goal_syntax.NamedRule.TheVariants as named
use Rattle.declarations.specs.declared.syntax.Goal.{Goal}
use Rattle.declarations.specs.declared.syntax.Goal.TheVariants as goals
use Rattle.declarations.specs.rules.Rules.{rules}

-- the goal's rule is the data, which its number covers, or the loop reads it
abbrev pub IsReadBy : Goal → NamedRule → Type 0
IsReadBy goal (named.Data syntax) =
    (grammar_of syntax.now ≡ rules (name_of goal)) × (size_of syntax.now ≤ goal_size goal)
IsReadBy goal named.Call = goal ≡ goals.Call
IsReadBy goal named.UsePath = goal ≡ goals.UsePath

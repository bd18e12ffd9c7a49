use Rattle.std.proofs.Common.{length, suc}
use Rattle.declarations.specs.Syntax.{goal_size, grammar_of, size_of}
use Rattle.declarations.proofs.ExploreLemmas.{Lists, Repeats}
use Rattle.declarations.specs.Explore.{Onward}
use Rattle.declarations.specs.declared.syntax.Goal.TheVariants as goals
use Rattle.declarations.specs.rules.Items.{call, use_path}
use Rattle.declarations.proofs.explore.+explore.Given as goal

abbrev pub decreases-explore : goal.decreases-explore
decreases-explore l = size_of l.syntax.now

abbrev pub decreases-explore_goal : goal.decreases-explore_goal
decreases-explore_goal l = suc (goal_size l.goal)

abbrev pub decreases-explore_call : goal.decreases-explore_call
decreases-explore_call l = goal_size goals.Call

abbrev pub decreases-explore_use_path : goal.decreases-explore_use_path
decreases-explore_use_path l = goal_size goals.UsePath

abbrev pub decreases-explore_list : goal.decreases-explore_list
decreases-explore_list l = suc (size_of l.item.now)

abbrev pub decreases-explore_many : goal.decreases-explore_many
decreases-explore_many l = suc (size_of l.item.now)

-- elements and their commas are read
abbrev pub invariant-explore_list-loop-left : goal.invariant-explore_list-loop-left
invariant-explore_list-loop-left l = Lists (grammar_of l.item) l.trees l.left

abbrev pub decreases-explore_list-loop-left : goal.decreases-explore_list-loop-left
decreases-explore_list-loop-left l = length l.left

-- the rule is read any number of times
abbrev pub invariant-explore_many-loop-seen : goal.invariant-explore_many-loop-seen
invariant-explore_many-loop-seen l = Repeats (grammar_of l.item) l.trees l.seen.left.now l.seen.next

abbrev pub decreases-explore_many-loop-seen : goal.decreases-explore_many-loop-seen
decreases-explore_many-loop-seen l = length l.seen.left.now

-- what is seen from here on is seen from the start
abbrev pub invariant-explore_call-loop-left : goal.invariant-explore_call-loop-left
invariant-explore_call-loop-left l = Onward call l.trees call l.left

abbrev pub decreases-explore_call-loop-left : goal.decreases-explore_call-loop-left
decreases-explore_call-loop-left l = length l.left

abbrev pub invariant-explore_use_path-loop-rest : goal.invariant-explore_use_path-loop-rest
invariant-explore_use_path-loop-rest l = Onward use_path l.trees use_path l.left

abbrev pub decreases-explore_use_path-loop-rest : goal.decreases-explore_use_path-loop-rest
decreases-explore_use_path-loop-rest l = length l.left

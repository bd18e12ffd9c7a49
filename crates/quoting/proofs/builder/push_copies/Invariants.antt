use Rattle.std.proofs.Common.{◌≡◌, ◌≤◌, ◌+◌, length, take, vec_capacity, vec_len}
use Rattle.proc_macro2.specs.Forest.{chain}
use Rattle.proc_macro2.specs.Trees.{forest}
use Rattle.quoting.proofs.builder.push_copies.Given as goal

abbrev pub invariant-loop-tree : goal.invariant-loop-tree
invariant-loop-tree l = record {
  copied : forest l.list.items ≡ chain (forest l.fn.list.items) (forest (take l.tree-index l.trees));
  room : vec_len l.list + length l.trees ≤ vec_capacity l.list + l.tree-index;
}

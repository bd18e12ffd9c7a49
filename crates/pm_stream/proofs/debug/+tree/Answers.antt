use Rattle.std.proofs.Common.{rules, ◌<◌, arith}
use Rattle.pm_stream.proofs.TreeLemmas.{item_size_le}
use Rattle.pm_stream.specs.declared.stream.TokenStream.TheDeep.{size-TokenTree}
use Rattle.pm_stream.proofs.debug.+tree.Goals as goal

pub TokenStreamDebug::fmt-entry-requires : goal.TokenStreamDebug::fmt-entry-requires
TokenStreamDebug::fmt-entry-requires g t c κs within =
    let below : size-TokenTree c.tree-item.result < t =
    omega (
      arith,
      item_size_le c.trees-tree-items.result.now c.loop-tree.tree-index c.tree-item.result _
          (omega arith) c.tree-item.is c.trees-tree-items.ensures.value,
      c.decreases,
    ) in
    search (rules, below, within)

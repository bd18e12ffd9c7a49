use Rattle.std.proofs.lemmas.List.Elements.{All-head, All-rest}
use Rattle.proc_macro2.specs.Files.{Files, Holds}
use Rattle.proc_macro2.specs.TreeSpan.{extent_of}
use Rattle.proc_macro2.specs.declared.TokenTree.{TokenTree}
use Rattle.conformance.proofs.spans.span_lines.Goals as goal

abbrev IsHeld : Files → TokenTree → Type 0
IsHeld map tree = Holds map (extent_of tree)

pub loop-walk-init : goal.loop-walk-init
loop-walk-init c = rw c.walk-walk.ensures c.requires.each

pub end-end-requires : goal.end-end-requires
end-end-requires c =
    let next = rw c.in-Some.is at c.in_ok-tree.ensures.ok in
    rw c.span-span.ensures.value (All-head (IsHeld c.args.map.now) _ _ (rw next at c.loop-walk.invariant))

pub loop-walk-preserved : goal.loop-walk-preserved
loop-walk-preserved c =
    let next = rw c.in-Some.is at c.in_ok-tree.ensures.ok in
    All-rest (IsHeld c.args.map.now) _ _ _ next c.loop-walk.invariant

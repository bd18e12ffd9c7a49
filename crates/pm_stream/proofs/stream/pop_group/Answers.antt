use Rattle.pm_stream.proofs.TakenLemmas.{takes_group, takes_nothing, takes_tree}
use Rattle.pm_stream.proofs.stream.pop_group.Goals as goal

pub loop-last-init : goal.loop-last-init
loop-last-init c = takes_nothing _

pub loop-last-preserved-in-Some-Ident : goal.loop-last-preserved-in-Some-Ident
loop-last-preserved-in-Some-Ident c =
    takes_tree _ _ _ c.pop.result c.in-Some-Ident.field-0 c.loop-last.invariant c.pop.ensures.items c.in-Some-Ident.is

pub returns-in-Some-Group-pop : goal.returns-in-Some-Group-pop
returns-in-Some-Group-pop c =
    takes_group _ _ _ c.pop-in-Some.result c.in-Some-Group-pop.field-0 c.in-Some-Group-pop.group c.loop-last.invariant
    c.pop-in-Some.ensures.items c.in-Some-Group-pop.is c.in-Some-Group-pop.field-0-is

pub loop-last-preserved-in-Some-Punct-pop : goal.loop-last-preserved-in-Some-Punct-pop
loop-last-preserved-in-Some-Punct-pop c =
    takes_tree _ _ _ c.pop-in-Some.result c.in-Some-Punct-pop.field-0 c.loop-last.invariant c.pop-in-Some.ensures.items
    c.in-Some-Punct-pop.is

pub loop-last-preserved : goal.loop-last-preserved
loop-last-preserved c =
    takes_tree _ _ _ c.pop-in-Some.result c.in-Some-Literal-pop.field-0 c.loop-last.invariant
    c.pop-in-Some.ensures.items c.in-Some-Literal-pop.is

pub returns : goal.returns
returns c = c.loop-last.invariant

pub loop-last-preserved-in-Some-Ident-pop : goal.loop-last-preserved-in-Some-Ident-pop
loop-last-preserved-in-Some-Ident-pop c =
    takes_tree _ _ _ c.pop-in-Some.result c.in-Some-Ident-pop.field-0 c.loop-last.invariant c.pop-in-Some.ensures.items
    c.in-Some-Ident-pop.is

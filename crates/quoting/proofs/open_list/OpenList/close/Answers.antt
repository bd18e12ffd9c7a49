use Rattle.std.proofs.Common.{◌∙◌, ◌≡◌, ap, sym, subst, Option, None, ℕ}
use Rattle.proc_macro2.specs.Forest.{Forest}
use Rattle.quoting.specs.Part.{Adds}
use Rattle.quoting.proofs.OpenListLemmas.{first_unchanged, is_unchanged, none_changed, part_of}
use Rattle.quoting.proofs.open_list.OpenList.close.Goals as goal

pub returns-then-is_none : goal.returns-then-is_none
returns-then-is_none c =
    let inside = c.inner.inside in
    let same : inside.changed ≡ None =
    is_unchanged inside.changed c.is_none.result c.is_none.ensures c.if-is_none.true in
    subst (λ f. Adds c.args.self.now f c.keep.new.self)
    (first_unchanged c.args.self.now.left c.in-Some.field-0-1.now c.in-Some.tree.now c.in-Group.group
    c.args.inner.whole c.args.inner.done c.in-Some.ensures c.in-Group.is c.requires.open
    (ap (λ p. p.whole) (sym c.inner.view_is)
    ∙ none_changed inside.stream.now inside.done inside.trees.now c.args.inner
    (ap (λ (changed : Option (Forest × ℕ)). part_of inside.stream.now changed inside.done inside.trees.now)
    (sym same) ∙ c.inner.view_is)
    c.inner.invariant.3 c.requires.all_done))
    c.keep.ensures

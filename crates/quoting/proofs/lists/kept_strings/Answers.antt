use Rattle.std.proofs.Common.{◌∙◌, ℕ, List, [], ap, get_or, refl}
use Rattle.std.specs.Borrow.{Bor}
use Rattle.std.specs.Str.{chars}
use Rattle.proc_macro2.specs.Building.{split}
use Rattle.proc_macro2.specs.Escaped.{string_text}
use Rattle.proc_macro2.specs.declared.TokenTree.TheVariants.{Literal as LiteralTree}
use Rattle.quoting.specs.Items.{One, and_last}
use Rattle.quoting.specs.Values.{plain_literal}
use Rattle.quoting.proofs.ItemLemmas.{each_more}
use Rattle.quoting.proofs.lists.kept_strings.Goals as goal

pub loop-text-preserved : goal.loop-text-preserved
loop-text-preserved c =
    let d : Bor (List ℕ) = record { ref_ptr = (0, 0); now = [] } in
    let i = c.loop-text.text-index in
    c.in_ok-put.ensures.ok
    ∙ (ap (λ l. and_last c.loop-text.values (One (split (LiteralTree l)))) c.in_ok-string.ensures.ok
    ∙ each_more (λ (text : Bor (List ℕ)). One (plain_literal (string_text (chars text.now)))) c.args.texts.now i d
    (get_or c.args.texts.now i d) c.loop-text.values c.loop-text-test.true refl c.loop-text.invariant)

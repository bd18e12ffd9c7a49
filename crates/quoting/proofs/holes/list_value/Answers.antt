use Rattle.std.proofs.Common.{◌∙◌, ℕ, List, sym, ap, Some, None}
use Rattle.std.specs.Borrow.{Bor}
use Rattle.std.specs.Str.{chars}
use Rattle.proc_macro2.specs.Building.{split}
use Rattle.proc_macro2.specs.Escaped.{string_text}
use Rattle.proc_macro2.specs.Leaf.{Name, Text}
use Rattle.proc_macro2.specs.Trees.{alone}
use Rattle.proc_macro2.specs.declared.TokenTree.TheVariants.{Ident as IdentTree, Literal as LiteralTree}
use Rattle.quoting.specs.Given.{looked_up}
use Rattle.quoting.specs.Holes.{value_at}
use Rattle.quoting.specs.Items.{One}
use Rattle.quoting.specs.Values.{plain_literal, value_of}
use Rattle.quoting.proofs.ItemLemmas.{lends_item}
use Rattle.quoting.proofs.holes.list_value.Goals as goal

pub returns-in_err-get-in-Streams : goal.returns-in_err-get-in-Streams
returns-in_err-get-in-Streams c =
    ap looked_up c.from_residual.ensures
    ∙ (lends_item One _ c.args.turn None c.in_err-get-in-Streams.ensures.lookup
    ∙ ap (λ v. value_at c.args.turn (value_of v)) (sym c.in-Streams.is))

pub returns-in_ok-get-in-Streams : goal.returns-in_ok-get-in-Streams
returns-in_ok-get-in-Streams c =
    lends_item One _ c.args.turn (Some c.in_ok-get-in-Streams.field-0) c.in_ok-get-in-Streams.ensures.lookup
    ∙ ap (λ v. value_at c.args.turn (value_of v)) (sym c.in-Streams.is)

pub returns-in_err-get-in-Trees : goal.returns-in_err-get-in-Trees
returns-in_err-get-in-Trees c =
    ap looked_up c.from_residual-in_err-get-in-Trees.ensures
    ∙ (lends_item (λ tree. One (split tree)) _ c.args.turn None c.in_err-get-in-Trees.ensures.lookup
    ∙ ap (λ v. value_at c.args.turn (value_of v)) (sym c.in-Trees.is))

pub returns-in_ok-get-in-Trees : goal.returns-in_ok-get-in-Trees
returns-in_ok-get-in-Trees c =
    lends_item (λ tree. One (split tree)) _ c.args.turn (Some c.in_ok-get-in-Trees.field-0)
    c.in_ok-get-in-Trees.ensures.lookup
    ∙ ap (λ v. value_at c.args.turn (value_of v)) (sym c.in-Trees.is)

pub returns-in_err-get-in-Idents : goal.returns-in_err-get-in-Idents
returns-in_err-get-in-Idents c =
    ap looked_up c.from_residual-in_err-get-in-Idents.ensures
    ∙ (lends_item (λ (ident : Name). One (alone (IdentTree ident))) _ c.args.turn None
    c.in_err-get-in-Idents.ensures.lookup
    ∙ ap (λ v. value_at c.args.turn (value_of v)) (sym c.in-Idents.is))

pub returns-in_ok-get-in-Idents : goal.returns-in_ok-get-in-Idents
returns-in_ok-get-in-Idents c =
    lends_item (λ (ident : Name). One (alone (IdentTree ident))) _ c.args.turn (Some c.in_ok-get-in-Idents.field-0)
    c.in_ok-get-in-Idents.ensures.lookup
    ∙ ap (λ v. value_at c.args.turn (value_of v)) (sym c.in-Idents.is)

pub returns-in_err-get-in-Literals : goal.returns-in_err-get-in-Literals
returns-in_err-get-in-Literals c =
    ap looked_up c.from_residual-in_err-get-in-Literals.ensures
    ∙ (lends_item (λ (literal : Text). One (split (LiteralTree literal))) _ c.args.turn None
    c.in_err-get-in-Literals.ensures.lookup
    ∙ ap (λ v. value_at c.args.turn (value_of v)) (sym c.in-Literals.is))

pub returns-in_ok-get-in-Literals : goal.returns-in_ok-get-in-Literals
returns-in_ok-get-in-Literals c =
    lends_item (λ (literal : Text). One (split (LiteralTree literal))) _ c.args.turn
    (Some c.in_ok-get-in-Literals.field-0) c.in_ok-get-in-Literals.ensures.lookup
    ∙ ap (λ v. value_at c.args.turn (value_of v)) (sym c.in-Literals.is)

pub returns-in_err-get-in-Strings : goal.returns-in_err-get-in-Strings
returns-in_err-get-in-Strings c =
    ap looked_up c.from_residual-in_err-get-in-Strings.ensures
    ∙ (lends_item (λ (text : Bor (List ℕ)). One (plain_literal (string_text (chars text.now)))) _ c.args.turn None
    c.in_err-get-in-Strings.ensures.lookup
    ∙ ap (λ v. value_at c.args.turn (value_of v)) (sym c.in-Strings.is))

pub returns-in_ok-get-in-Strings : goal.returns-in_ok-get-in-Strings
returns-in_ok-get-in-Strings c =
    lends_item (λ (text : Bor (List ℕ)). One (plain_literal (string_text (chars text.now)))) _ c.args.turn
    (Some c.in_ok-get-in-Strings.field-0) c.in_ok-get-in-Strings.ensures.lookup
    ∙ ap (λ v. value_at c.args.turn (value_of v)) (sym c.in-Strings.is)

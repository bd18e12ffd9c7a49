use Rattle.std.proofs.Common.{◌∙◌, ◌≡◌, ◌||◌, ap, refl, sym}
use Rattle.grammars.specs.First.{heads}
use Rattle.grammars.specs.Grammar.{Mark}
use Rattle.item_tables.specs.declared.class.SignClass.TheVariants as signs
use Rattle.declarations.specs.Reader.{classes_in}
use Rattle.declarations.specs.rules.Bodies.{braces, semicolon}
use Rattle.declarations.specs.rules.Names.{Body, one}
use Rattle.declarations.proofs.ReaderLemmas.{first_reads, heads_mark, heads_then, other_reads}
use Rattle.declarations.proofs.item_rest.past_body_end.Goals as goal

pub returns-then-begins : goal.returns-then-begins
returns-then-begins c =
    let cs = classes_in c.args.trees.now in
    let same : heads braces cs ≡ heads (one signs.Braces) cs =
    heads_then (Mark Body) (one signs.Braces) cs ∙ ap (λ b. b || heads (one signs.Braces) cs) (heads_mark Body cs) in
    first_reads braces semicolon c.args.trees.now c.past_braces.result
    (same ∙ (sym c.begins.ensures ∙ c.if-begins.true)) c.past_braces.ensures

pub returns-else-begins : goal.returns-else-begins
returns-else-begins c =
    let cs = classes_in c.args.trees.now in
    let same : heads braces cs ≡ heads (one signs.Braces) cs =
    heads_then (Mark Body) (one signs.Braces) cs ∙ ap (λ b. b || heads (one signs.Braces) cs) (heads_mark Body cs) in
    other_reads braces semicolon c.args.trees.now c.past_semicolon.result
    (same ∙ (sym c.begins.ensures ∙ c.if-begins.false)) refl c.past_semicolon.ensures

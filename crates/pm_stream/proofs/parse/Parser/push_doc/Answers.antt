use Rattle.std.proofs.Common.{[], sym, subst}
use Rattle.std.specs.Str.{chars}
use Rattle.pm_stream.specs.Events.{doc_onto}
use Rattle.pm_stream.specs.Forest.{flat_onto}
use Rattle.pm_stream.specs.Trees.{alone}
use Rattle.pm_stream.specs.declared.stream.TokenTree.TheVariants.{Group}
use Rattle.pm_stream.specs.ParserState.{Adds}
use Rattle.pm_stream.proofs.ReadingLemmas.{on_ok}
use Rattle.pm_stream.proofs.ParsingLemmas.{adds_doc, adds_inner_doc}
use Rattle.pm_stream.proofs.parse.Parser.push_doc.Goals as goal
use Rattle.pm_stream.proofs.parse.Parser.push_doc.Goals.{then-inner+in_ok-push_mark-2, else-inner}

pub returns : goal.returns
returns c =
    let lo = c.args.span.lo in
    let hi = c.args.span.hi in
    let text = chars c.args.text.now in
    on_ok c.push.result (λ k.
    elim c.if-inner.branch [
      | then-inner+in_ok-push_mark-2 w ↦
          subst (λ b. Adds c.args.self.now c.push.new.self (doc_onto lo hi b text [])) (sym w.if-inner.true)
          (adds_inner_doc c.args.self.now c.push_mark.new.self w.push_mark-then-inner.new.self c.push.new.self lo hi
          text _ c.in_ok-push_mark.ensures w.in_ok-push_mark-2.ensures
          (subst (λ p. Adds p c.push.new.self (flat_onto (alone (Group c.in_ok-group.group)) [])) w.self-is k)
          (c.in_ok-group.ensures.ok []))
      | else-inner w ↦
          subst (λ b. Adds c.args.self.now c.push.new.self (doc_onto lo hi b text [])) (sym w.if-inner.false)
          (adds_doc c.args.self.now c.push_mark.new.self c.push.new.self lo hi text
          _ c.in_ok-push_mark.ensures
          (subst (λ p. Adds p c.push.new.self (flat_onto (alone (Group c.in_ok-group.group)) [])) w.self-is k)
          (c.in_ok-group.ensures.ok []))
    ]) c.push.ensures

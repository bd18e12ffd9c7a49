use Rattle.std.proofs.Common.{◌≡◌, [], ◌∷◌, false, sym, ap, ◌∙◌, subst, rules}
use Rattle.std.specs.Str.{chars}
use Rattle.lexical.specs.Token.{Name}
use Rattle.pm_token.specs.Built.{IsBuiltToken}
use Rattle.pm_stream.specs.declared.stream.TokenTree.TheVariants.{Ident, Punct, Literal}
use Rattle.pm_stream.proofs.DocLemmas.{doc_chars, doc_name_built, doc_group_events}
use Rattle.pm_stream.proofs.doc.doc_group.Goals as goal

pub ident-requires : goal.ident-requires
ident-requires c = subst (λ name. IsBuiltToken (Name false name)) (sym doc_chars) doc_name_built

pub returns : goal.returns
returns c = record {
  ok = λ events.
      let items : c.push-3.new.self.items
      ≡ Ident c.in_ok-doc.doc ∷ Punct c.punct-equals.result ∷ Literal c.in_ok-text.text ∷ [] = search rules in
      doc_group_events (chars c.args.text.now) c.in_ok-doc.doc c.punct-equals.result c.in_ok-text.text
      c.push-3.new.self.items c.from_parts.result c.args.span events
      (c.in_ok-doc.ensures.ok ∙ ap (λ name. record { name = name; raw = false; span = c.args.span }) doc_chars)
      c.punct-equals.ensures c.in_ok-text.ensures.ok items
      (c.from_parts.ensures ∙ ap (λ stream. record { delimiter = _; stream = stream; span = c.args.span })
      c.in_ok-stream.ensures.ok);
}

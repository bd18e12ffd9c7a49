use Rattle.std.proofs.Common.{◌∙◌, ap, sym, subst, false}
use Rattle.std.specs.Str.{chars}
use Rattle.std.specs.Array.Iter.{array_into_iter_items, array_steps}
use Rattle.pm_stream.specs.Building.{split}
use Rattle.lexical.specs.Token.{Name}
use Rattle.pm_token.specs.Built.{IsBuiltToken}
use Rattle.declarations.proofs.CompileErrorLemmas.{core_built, core_chars, compile_error_built, compile_error_chars}
use Rattle.declarations.proofs.CompileErrorLemmas.{all_put, built_call, built_braces, drain_gives}
use Rattle.declarations.proofs.message.compile_error.Goals as goal

pub ident-requires : goal.ident-requires
ident-requires c = subst (λ name. IsBuiltToken (Name false name)) (sym core_chars) core_built

pub ident-requires-2 : goal.ident-requires-2
ident-requires-2 c = subst (λ name. IsBuiltToken (Name false name)) (sym compile_error_chars) compile_error_built

pub returns : goal.returns
returns c =
    let span = c.args.span in
    all_put _ array_steps array_into_iter_items split _ _ c.from_trees.result drain_gives (λ it is. is.0)
    (built_call (chars c.args.text.now) span _ _ _ _ _ c.in_ok-core.core c.in_ok-name.name c.set_span.new.self
    c.punct.ensures c.punct-2.ensures
    (c.in_ok-core.ensures.ok ∙ ap (λ n. record { name = n; raw = false; span = span }) core_chars)
    c.punct-3.ensures c.punct-4.ensures
    (c.in_ok-name.ensures.ok ∙ ap (λ n. record { name = n; raw = false; span = span }) compile_error_chars)
    c.punct-5.ensures
    (built_braces (chars c.args.text.now) span c.in_ok-string_literal.field-0 c.in_ok-from_tree.field-0
    c.new-braces.result c.set_span.new.self c.in_ok-string_literal.ensures.ok c.in_ok-from_tree.ensures.ok
    c.new-braces.ensures c.set_span.ensures))
    c.from_trees.ensures.ok

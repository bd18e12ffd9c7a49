use Rattle.std.proofs.Common.{◌≡◌, true, subst, rules}
use Rattle.lexical.specs.Token.{Mark}
use Rattle.pm_token.specs.Leaf.{is_joint}
use Rattle.token_buffer.specs.Reads.{BeginsWith}
use Rattle.token_buffer.proofs.LifetimeLemmas.{lifetime_found}
use Rattle.token_buffer.proofs.cursor.Cursor.lifetime.Goals as goal

pub returns-in-Some-eq39-Joint-default : goal.returns-in-Some-eq39-Joint-default
returns-in-Some-eq39-Joint-default c =
    let mark = c.in-Some-eq39-Joint-default in
    let quote : mark.field-0-0 ≡ 39 = search rules in
    lifetime_found c.args.self mark.name c.ident.result
    (subst (λ m. BeginsWith (Mark m true) c.args.self mark.name) quote
    (subst (λ s. BeginsWith (Mark mark.field-0-0 (is_joint s)) c.args.self mark.name) mark.field-0-1-is mark.ensures))
    c.ident.ensures

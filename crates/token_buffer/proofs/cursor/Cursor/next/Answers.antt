use Rattle.std.proofs.Common.{◌≡◌, false, ◌∷◌, refl, sym, ap, ap₂, ◌∙◌, subst, arith, rules}
use Rattle.lexical.specs.Token.{Name}
use Rattle.pm_stream.specs.Forest as trees
use Rattle.pm_stream.specs.Forest.{leaf, IsBuilt}
use Rattle.pm_stream.proofs.DocLemmas.{doc_chars}
use Rattle.token_buffer.specs.Held.{Holds}
use Rattle.token_buffer.specs.Left.{trees_of}
use Rattle.token_buffer.proofs.ReadLemmas.{after_token, after_group}
use Rattle.token_buffer.proofs.cursor.Cursor.next.Goals as goal

pub invariant_of-result : goal.invariant_of-result
invariant_of-result c =
    let first : c.args.self.entries.now ≡ c.in-Some.entry.now ∷ c.in-Some.entries.now = search rules in
    let after = after_token c.args.self.text.now c.args.self.entries.now _ c.in-Some.entries.now _ _ _
    (first ∙ ap (λ e. e ∷ c.in-Some.entries.now) c.in-Name.is) refl c.args.self.holds c.args.self.built in
    record { holds = after.holds; built = after.built }

pub invariant_of-result-in-Mark : goal.invariant_of-result-in-Mark
invariant_of-result-in-Mark c =
    let first : c.args.self.entries.now ≡ c.in-Some.entry.now ∷ c.in-Some.entries.now = search rules in
    let after = after_token c.args.self.text.now c.args.self.entries.now _ c.in-Some.entries.now _ _ _
    (first ∙ ap (λ e. e ∷ c.in-Some.entries.now) c.in-Mark.is) refl c.args.self.holds c.args.self.built in
    record { holds = after.holds; built = after.built }

pub invariant_of-result-in-Literal : goal.invariant_of-result-in-Literal
invariant_of-result-in-Literal c =
    let first : c.args.self.entries.now ≡ c.in-Some.entry.now ∷ c.in-Some.entries.now = search rules in
    let after = after_token c.args.self.text.now c.args.self.entries.now _ c.in-Some.entries.now _ _ _
    (first ∙ ap (λ e. e ∷ c.in-Some.entries.now) c.in-Literal.is) refl c.args.self.holds c.args.self.built in
    record { holds = after.holds; built = after.built }

pub invariant_of-result-in-DocName : goal.invariant_of-result-in-DocName
invariant_of-result-in-DocName c =
    let first : c.args.self.entries.now ≡ c.in-Some.entry.now ∷ c.in-Some.entries.now = search rules in
    let after = after_token c.args.self.text.now c.args.self.entries.now _ c.in-Some.entries.now _ _ _
    (first ∙ ap (λ e. e ∷ c.in-Some.entries.now) c.in-DocName.is) refl c.args.self.holds c.args.self.built in
    record { holds = after.holds; built = after.built }

pub invariant_of-result-in-DocText : goal.invariant_of-result-in-DocText
invariant_of-result-in-DocText c =
    let first : c.args.self.entries.now ≡ c.in-Some.entry.now ∷ c.in-Some.entries.now = search rules in
    let after = after_token c.args.self.text.now c.args.self.entries.now _ c.in-Some.entries.now _ _ _
    (first ∙ ap (λ e. e ∷ c.in-Some.entries.now) c.in-DocText.is) refl c.args.self.holds c.args.self.built in
    record { holds = after.holds; built = after.built }

pub returns-in-DocName : goal.returns-in-DocName
returns-in-DocName c =
    let first : c.args.self.entries.now ≡ c.in-Some.entry.now ∷ c.in-Some.entries.now = search rules in
    let after = after_token c.args.self.text.now c.args.self.entries.now _ c.in-Some.entries.now _ _ _
    (first ∙ ap (λ e. e ∷ c.in-Some.entries.now) c.in-DocName.is) refl c.args.self.holds c.args.self.built in (
      c.in-DocName.at,
      c.in-DocName.end,
      after.trees
          ∙ ap (λ x. leaf (Name false x) c.in-DocName.at c.in-DocName.end
          (trees_of c.args.self.text.now c.in-Some.entries.now)) (sym doc_chars),
    )

pub split_at-requires : goal.split_at-requires
split_at-requires c =
    let first : c.args.self.entries.now ≡ c.in-Some.entry.now ∷ c.in-Some.entries.now = search rules in
    let group = after_group c.args.self.text.now c.args.self.entries.now c.in-Some.entries.now _ _ _
    (first ∙ ap (λ e. e ∷ c.in-Some.entries.now) c.in-Open.is) c.args.self.holds c.args.self.built in
    omega (arith, group.fits)

pub split_at-requires-in-Open : goal.split_at-requires-in-Open
split_at-requires-in-Open c =
    let first : c.args.self.entries.now ≡ c.in-Some.entry.now ∷ c.in-Some.entries.now = search rules in
    let group = after_group c.args.self.text.now c.args.self.entries.now c.in-Some.entries.now _ _ _
    (first ∙ ap (λ e. e ∷ c.in-Some.entries.now) c.in-Open.is) c.args.self.holds c.args.self.built in
    omega (arith, group.fits)

pub invariant_of-inside : goal.invariant_of-inside
invariant_of-inside c =
    let text = c.args.self.text.now in
    let first : c.args.self.entries.now ≡ c.in-Some.entry.now ∷ c.in-Some.entries.now = search rules in
    let group = after_group c.args.self.text.now c.args.self.entries.now c.in-Some.entries.now _ _ _
    (first ∙ ap (λ e. e ∷ c.in-Some.entries.now) c.in-Open.is) c.args.self.holds c.args.self.built in
    record {
      holds = subst (λ es. Holds text es (trees_of text es)) (sym c.split_at.ensures.front) group.inside;
      built = subst (λ es. ∥ IsBuilt (trees_of text es) ∥₁) (sym c.split_at.ensures.front) group.inside_built;
    }

pub invariant_of-after : goal.invariant_of-after
invariant_of-after c =
    let text = c.args.self.text.now in
    let first : c.args.self.entries.now ≡ c.in-Some.entry.now ∷ c.in-Some.entries.now = search rules in
    let group = after_group c.args.self.text.now c.args.self.entries.now c.in-Some.entries.now _ _ _
    (first ∙ ap (λ e. e ∷ c.in-Some.entries.now) c.in-Open.is) c.args.self.holds c.args.self.built in
    record {
      holds = subst (λ es. Holds text es (trees_of text es)) (sym c.split_at-in-Open.ensures.back) group.after;
      built = subst (λ es. ∥ IsBuilt (trees_of text es) ∥₁) (sym c.split_at-in-Open.ensures.back) group.after_built;
    }

pub returns-in-Open : goal.returns-in-Open
returns-in-Open c =
    let text = c.args.self.text.now in
    let first : c.args.self.entries.now ≡ c.in-Some.entry.now ∷ c.in-Some.entries.now = search rules in
    let group = after_group c.args.self.text.now c.args.self.entries.now c.in-Some.entries.now _ _ _
    (first ∙ ap (λ e. e ∷ c.in-Some.entries.now) c.in-Open.is) c.args.self.holds c.args.self.built in (
      c.in-Open.at,
      group.hi,
      group.trees
          ∙ ap₂ (λ x y. trees.group c.in-Open.delimiter c.in-Open.at group.hi (trees_of text x) (trees_of text y))
          (sym c.split_at.ensures.front) (sym c.split_at-in-Open.ensures.back),
    )

use Rattle.std.proofs.Common.{◌≡◌, ◌≤◌, Some, ◌∷◌, refl, sym, ap, ◌∙◌, arith, rules}
use Rattle.pm_span.specs.Extent.{Extent}
use Rattle.token_buffer.specs.Left.{trees_of}
use Rattle.token_buffer.specs.Reads.{first_extent}
use Rattle.token_buffer.proofs.ReadLemmas.{after_token, after_group, closer_at, group_ordered, leaf_ordered}
use Rattle.token_buffer.proofs.cursor.Cursor.span.Goals as goal

pub bounds-entries-count : goal.bounds-entries-count
bounds-entries-count c =
    let first : c.args.self.entries.now ≡ c.in-Some.entry.now ∷ c.in-Some.entries.now = search rules in
    let group = after_group c.args.self.text.now c.args.self.entries.now c.in-Some.entries.now _ _ _
    (first ∙ ap (λ e. e ∷ c.in-Some.entries.now) c.in-Open.is) c.args.self.holds c.args.self.built in
    omega (arith, group.fits)

pub span_of-requires-in-Open : goal.span_of-requires-in-Open
span_of-requires-in-Open c =
    let first : c.args.self.entries.now ≡ c.in-Some.entry.now ∷ c.in-Some.entries.now = search rules in
    let group = after_group c.args.self.text.now c.args.self.entries.now c.in-Some.entries.now _ _ _
    (first ∙ ap (λ e. e ∷ c.in-Some.entries.now) c.in-Open.is) c.args.self.holds c.args.self.built in
    let end : c.closer_end-end.result ≡ group.hi =
    c.closer_end-end.ensures ∙ closer_at c.args.self.text.now c.in-Open.delimiter group.hi c.in-Open.count
    c.in-Some.entries.now _ group.fits group.closer in
    let ordered : c.in-Open.at ≤ group.hi =
    group_ordered (trees_of c.args.self.text.now c.args.self.entries.now) _ _ c.in-Open.delimiter c.in-Open.at group.hi
    c.args.self.built group.trees in
    omega arith

pub span_of-requires-in-DocName : goal.span_of-requires-in-DocName
span_of-requires-in-DocName c =
    let first : c.args.self.entries.now ≡ c.in-Some.entry.now ∷ c.in-Some.entries.now = search rules in
    let after = after_token c.args.self.text.now c.args.self.entries.now _ c.in-Some.entries.now _ _ _
    (first ∙ ap (λ e. e ∷ c.in-Some.entries.now) c.in-DocName.is) refl c.args.self.holds c.args.self.built in
    leaf_ordered (trees_of c.args.self.text.now c.args.self.entries.now) _ _ c.in-DocName.at c.in-DocName.end
    c.args.self.built after.trees

pub returns-in-Open : goal.returns-in-Open
returns-in-Open c =
    let first : c.args.self.entries.now ≡ c.in-Some.entry.now ∷ c.in-Some.entries.now = search rules in
    let group = after_group c.args.self.text.now c.args.self.entries.now c.in-Some.entries.now _ _ _
    (first ∙ ap (λ e. e ∷ c.in-Some.entries.now) c.in-Open.is) c.args.self.holds c.args.self.built in
    let end : c.closer_end-end.result ≡ group.hi =
    c.closer_end-end.ensures ∙ closer_at c.args.self.text.now c.in-Open.delimiter group.hi c.in-Open.count
    c.in-Some.entries.now _ group.fits group.closer in
    let extent : Extent = record { lo = c.in-Open.at; hi = group.hi } in
    let is : c.span_of-in-Open.result ≡ extent =
    c.span_of-in-Open.ensures ∙ ap (λ n. record { lo = c.in-Open.at; hi = n }) end in
    ap Some is ∙ sym (ap first_extent group.trees)

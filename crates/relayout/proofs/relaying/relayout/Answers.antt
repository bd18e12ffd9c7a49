use Rattle.std.proofs.Common.{◌≡◌, ◌∙◌, ◌++◌, ◌∷◌, [], List, ℕ, refl, sym, ap}
use Rattle.std.specs.Str.{chars}
use Rattle.relayout.proofs.ChoiceLemmas.{relaid_cover}
use Rattle.relayout.proofs.RelaidLemmas.{no_chars, some_chars, string_chars}
use Rattle.lexical.proofs.SpacedLemmas.{rest_utf8, spaced_end}
use Rattle.relayout.proofs.StayLemmas.{stays_all, stays_piece}
use Rattle.relayout.proofs.TokenLemmas.{keeps_tokens}
use Rattle.relayout.proofs.relaying.relayout.Goals as goal

pub loop-piece-preserved : goal.loop-piece-preserved
loop-piece-preserved c =
    let so = c.loop-piece.invariant.1 in (
      c.in_ok-stays-2.ensures.utf8,
      stays_piece _ _ _ _ _ _ _ _ c.loop-piece.walk c.next_after_white-next.result c.next_after_white-next.new.self
          c.in-Some.piece _ _ c.next_after_white-next.ensures c.in-Some.is so
          (c.in_ok-stays-2.ensures.placed so.front
          (so.keeps ∙ ap (λ r. so.front ++ chars r) (sym c.rest-from.ensures.rest)))
          c.is_line-line.ensures,
    )

pub returns-then-not-is_empty-clause-no_piece : goal.returns-then-not-is_empty-clause-no_piece
returns-then-not-is_empty-clause-no_piece c = λ all covers.
    let next = c.next_after_white-next.ensures in
    let some = some_chars c.next_after_white-next.result.rest.now (rest_utf8 c.loop-piece.walk _ _ next)
    (sym c.is_empty.ensures ∙ c.if-not-is_empty.true) in
    let before = c.loop-piece.invariant.1.only all covers in
    let end = (spaced_end c.loop-piece.walk c.next_after_white-next.result c.next_after_white-next.new.self next
    c.in_default.is before.0 before.1).1 in
    let clash : ◌≡◌ {A = List ℕ} (some.0 ∷ some.1) [] = sym some.2 ∙ end in cc

pub returns-in_default-clause-ok : goal.returns-in_default-clause-ok
returns-in_default-clause-ok c =
    let so = c.loop-piece.invariant.1 in
    let end : chars c.next_after_white-next.result.rest.now ≡ [] =
    no_chars c.next_after_white-next.result.rest.now (sym c.is_empty.ensures ∙ c.if-not-is_empty.false) in
    let all = stays_all (chars c.args.text.now) c.args.choices.now c.loop-piece.left.now _ c.loop-piece.line
    (chars c.loop-piece.kept.now) (chars c.in_ok-stays.stays.now) c.loop-piece.walk c.next_after_white-next.result
    c.next_after_white-next.new.self c.loop-piece.out c.push_run.new.out c.push_text.new.self
    c.next_after_white-next.ensures end so
    (c.in_ok-stays.ensures.placed so.front
    (so.keeps ∙ ap (λ r. so.front ++ chars r) (sym c.rest-from.ensures.rest)))
    c.in_ok-push_text.ensures.ok in
    let now = relaid_cover (chars c.args.text.now) c.args.choices.now all.0 all.1 in
    rw (string_chars c.into_string.result c.push_text.new.self c.into_string.ensures, all.2) (record {
      pieces = all.0;
      covers = all.1;
      is = refl;
      pieces_now = now.0;
      covers_now = now.1;
      same = now.2;
      tokens = keeps_tokens (chars c.args.text.now) _ all.0 now.0 all.1 now.1 now.2;
    })

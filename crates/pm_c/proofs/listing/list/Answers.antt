use Rattle.std.proofs.Common.{◌∙◌, ap, arith, inl, length, length-append, rules, string_bytes, subst, sym}
use Rattle.std.specs.List.{All}
use Rattle.std.proofs.lemmas.List.Elements.{All-rest}
use Rattle.std.proofs.lemmas.Option.{MatchOption-at_some}
use Rattle.proc_macro2.specs.InOrder.{in_order}
use Rattle.pm_c.specs.Listing.{records_from}
use Rattle.pm_c.proofs.ListingLemmas.{HasAtMost, length-records, on_error, one_record, one_text, widths_in_order}
use Rattle.pm_c.proofs.listing.list.Goals as goal

pub loop-walk-init : goal.loop-walk-init
loop-walk-init c = (
  search rules,
  search rules,
  subst (All (HasAtMost (length (in_order c.args.stream.now)))) (sym c.walk-walk.ensures)
      (widths_in_order c.args.stream.now),
)

pub loop-walk-preserved : goal.loop-walk-preserved
loop-walk-preserved c =
    let first = MatchOption-at_some _ _ _ c.in-Some.is c.in_ok-tree.ensures.ok in
    let text = c.in_ok-record.ensures.text in (
      one_record _ _ _ _ _ _ _ _ _ first c.in_ok-record.ensures.record (ap length text ∙ length-append _ _)
          c.in_ok-push.ensures.items c.loop-walk.invariant.0,
      one_text _ _ _ _ _ _ first text c.loop-walk.invariant.1,
      All-rest (HasAtMost (length (in_order c.args.stream.now))) _ _ _ first c.loop-walk.invariant.2,
    )

pub returns-clause-too_long : goal.returns-clause-too_long
returns-clause-too_long c =
    on_error c.narrow.result _ _ _ c.narrow.ensures.too_long (λ many. inl (omega (
      arith,
      many,
      c.len.ensures,
      ap length c.loop-walk.invariant.0,
      length-append c.loop-walk.trees.items
          (records_from (length (string_bytes c.loop-walk.text)) c.loop-walk.walk),
      length-records 0 (in_order c.args.stream.now),
    )))

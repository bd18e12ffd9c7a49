use Rattle.std.proofs.Common.{sym, ◌∙◌, subst, IsUtf8, replicate}
use Rattle.std.proofs.lemmas.Str.{IsUtf8-append}
use Rattle.pm_token.specs.declared.symbols.short.TheConstants.{ROOM}
use Rattle.pm_token.proofs.ShortLemmas.{copied_both}
use Rattle.pm_token.proofs.symbols.short.Short.concatenation.Goals as goal

pub invariant_of-result : goal.invariant_of-result
invariant_of-result c =
    let holds = copied_both (replicate ROOM 0) c.args.front.now c.args.back.now _ _
    (c.copy_from_slice.ensures.after ∙ c.as_bytes.ensures.value)
    (c.copy_from_slice-2.ensures.after ∙ c.as_bytes-2.ensures.value) in (
      c.requires,
      ∣ subst IsUtf8 (sym holds.front) (IsUtf8-append _ _ c.utf8.front c.utf8.back) ∣₁,
      holds.rest,
    )

pub returns : goal.returns
returns c = (copied_both (replicate ROOM 0) c.args.front.now c.args.back.now _ _
    (c.copy_from_slice.ensures.after ∙ c.as_bytes.ensures.value)
    (c.copy_from_slice-2.ensures.after ∙ c.as_bytes-2.ensures.value)).front

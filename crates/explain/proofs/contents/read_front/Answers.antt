use Rattle.std.proofs.Common.{◌≡◌, ◌∙◌, MatchOption, [], sym, subst}
use Rattle.std.specs.Str.{chars}
use Rattle.literal_escaper.specs.Kind.{byte_kind, c_kind, string_kind}
use Rattle.explain.specs.Walk.{IsFront}
use Rattle.explain.proofs.ContentLemmas.{front_is, front_none}
use Rattle.explain.proofs.contents.read_front.Goals as goal

pub returns-in_err-range-in-Plain : goal.returns-in_err-range-in-Plain
returns-in_err-range-in-Plain c =
    let text = chars c.args.content.now in
    subst (λ o. MatchOption o (text ≡ []) (IsFront c.args.kind text)) (sym c.from_residual.ensures)
    (front_none string_kind text (sym c.unescape_str.ensures.value ∙ c.in_err-range-in-Plain.ensures.steps.0)
    c.requires)

pub returns-in_ok-range-in-Plain : goal.returns-in_ok-range-in-Plain
returns-in_ok-range-in-Plain c =
    let text = chars c.args.content.now in
    subst (λ k. IsFront k text c.front_of.result) (sym c.in-Plain.is)
    (front_is string_kind text _ _ _ c.front_of.result (sym c.unescape_str.ensures.value ∙
    c.in_ok-range-in-Plain.ensures.steps) c.requires
    c.front_of.ensures.size c.front_of.ensures.error)

pub returns-in_err-range-in-Byte : goal.returns-in_err-range-in-Byte
returns-in_err-range-in-Byte c =
    let text = chars c.args.content.now in
    subst (λ o. MatchOption o (text ≡ []) (IsFront c.args.kind text)) (sym c.from_residual-in_err-range-in-Byte.ensures)
    (front_none byte_kind text (sym c.unescape_byte_str.ensures.value ∙ c.in_err-range-in-Byte.ensures.steps.0)
    c.requires)

pub returns-in_ok-range-in-Byte : goal.returns-in_ok-range-in-Byte
returns-in_ok-range-in-Byte c =
    let text = chars c.args.content.now in
    subst (λ k. IsFront k text c.front_of-in-Byte.result) (sym c.in-Byte.is)
    (front_is byte_kind text _ _ _ c.front_of-in-Byte.result (sym c.unescape_byte_str.ensures.value ∙
    c.in_ok-range-in-Byte.ensures.steps) c.requires
    c.front_of-in-Byte.ensures.size c.front_of-in-Byte.ensures.error)

pub returns-in_err-range-in-C : goal.returns-in_err-range-in-C
returns-in_err-range-in-C c =
    let text = chars c.args.content.now in
    subst (λ o. MatchOption o (text ≡ []) (IsFront c.args.kind text)) (sym c.from_residual-in_err-range-in-C.ensures)
    (front_none c_kind text (sym c.unescape_c_str.ensures.value ∙ c.in_err-range-in-C.ensures.steps.0) c.requires)

pub returns-in_ok-range-in-C : goal.returns-in_ok-range-in-C
returns-in_ok-range-in-C c =
    let text = chars c.args.content.now in
    subst (λ k. IsFront k text c.front_of-in-C.result) (sym c.in-C.is)
    (front_is c_kind text _ _ _ c.front_of-in-C.result (sym c.unescape_c_str.ensures.value ∙
    c.in_ok-range-in-C.ensures.steps) c.requires
    c.front_of-in-C.ensures.size c.front_of-in-C.ensures.error)

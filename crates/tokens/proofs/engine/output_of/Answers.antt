use Rattle.std.proofs.Common.{◌≡◌, ◌∙◌, subst, sym}
use Rattle.std.specs.Str.{chars}
use Rattle.proc_macro2.specs.Files.{new_map, next_lo}
use Rattle.proc_macro2.specs.Parsing.{IsOnlyFault}
use Rattle.tokens.proofs.engine.output_of.Goals as goal

pub refusal_of-requires : goal.refusal_of-requires
refusal_of-requires c =
    let same : c.as_str.result.now ≡ c.as_str-in-Err-Lex.result.now
    = c.as_str.ensures.value ∙ sym c.as_str-in-Err-Lex.ensures.value in
    let only : IsOnlyFault (next_lo new_map) (chars c.as_str.result.now) c.in-Err-Lex.field-0-0.lo
    = rw c.in-Err-Lex.field-0-is at c.in-Err-Lex.ensures.fault.only in
    (subst (λ text. IsOnlyFault (next_lo new_map) (chars text) c.in-Err-Lex.field-0-0.lo) same only).0

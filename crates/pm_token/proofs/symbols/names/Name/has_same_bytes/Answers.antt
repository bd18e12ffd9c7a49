use Rattle.std.proofs.Common.{◌≡◌, ap, ap₂, sym, ◌∙◌}
use Rattle.std.specs.Cmp.{booleans_Decides}
use Rattle.std.specs.Str.{chars}
use Rattle.std.proofs.lemmas.Slice.Eq.{bytes_eq-Decides}
use Rattle.pm_token.specs.Kept.{KeptName}
use Rattle.pm_token.proofs.ShortLemmas.{same_bytes}
use Rattle.pm_token.proofs.symbols.names.Name.has_same_bytes.Goals as goal

pub returns-then-is_raw : goal.returns-then-is_raw
returns-then-is_raw c =
    let bytes = bytes_eq-Decides c.as_bytes.result.now c.as_bytes-then-is_raw.result.now in
    let raw : c.args.self.now.raw ≡ c.args.other.now.raw =
    sym c.is_raw.ensures ∙ ((booleans_Decides _ _).0 c.if-is_raw.true ∙ c.is_raw-2.ensures) in (
      λ yes. ap₂ (λ name raw. record { name = name; raw = raw })
          (sym c.as_bytes.ensures.value
          ∙ (ap chars (bytes.0 (sym c.eq.ensures ∙ yes)) ∙ c.as_bytes-then-is_raw.ensures.value))
          raw,
      λ same. c.eq.ensures ∙ bytes.1 (same_bytes _ _ c.as_bytes.ensures.utf8 c.as_bytes-then-is_raw.ensures.utf8
          (c.as_bytes.ensures.value ∙ (ap (λ (x : KeptName). x.name) same ∙ sym c.as_bytes-then-is_raw.ensures.value))),
    )

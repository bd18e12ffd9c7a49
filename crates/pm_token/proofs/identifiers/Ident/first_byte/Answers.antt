use Rattle.std.proofs.Common.{◌≡◌, ℕ, false, List, [], ◌∷◌, ◌∙◌, ap, arith, get_or, length, refl, sym}
use Rattle.std.specs.Str.{chars}
use Rattle.pm_token.proofs.NameLemmas.{plain_bytes}
use Rattle.pm_token.proofs.identifiers.Ident.first_byte.Goals as goal

none_of : (s : List ℕ) → length s ≡ 0 → 0 ≡ get_or s 0 0
none_of [] none = refl
none_of (byte ∷ s) none = absurd (omega arith)

pub returns-in-Some : goal.returns-in-Some
returns-in-Some c =
    let raw : c.args.self.now.raw ≡ false = sym (ap (λ x. x.raw) c.self.view_is)
    ∙ (sym c.is_raw.ensures ∙ c.if-is_raw.false) in
    let name : c.args.self.now.name ≡ chars c.as_bytes.result.now = sym (ap (λ x. x.name) c.self.view_is)
    ∙ sym c.as_bytes.ensures.value in
    sym (ap (λ bytes. get_or bytes 0 0) (plain_bytes _ _ c.as_bytes.result.now raw name c.as_bytes.ensures.utf8
    ∙ c.in-Some.ensures.cases.0))

pub returns-in-None : goal.returns-in-None
returns-in-None c =
    let raw : c.args.self.now.raw ≡ false = sym (ap (λ x. x.raw) c.self.view_is)
    ∙ (sym c.is_raw.ensures ∙ c.if-is_raw.false) in
    let name : c.args.self.now.name ≡ chars c.as_bytes.result.now = sym (ap (λ x. x.name) c.self.view_is)
    ∙ sym c.as_bytes.ensures.value in
    none_of c.as_bytes.result.now c.in-None.ensures.cases
    ∙ sym (ap (λ bytes. get_or bytes 0 0) (plain_bytes _ _ c.as_bytes.result.now raw name c.as_bytes.ensures.utf8))

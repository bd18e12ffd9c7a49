use Rattle.std.proofs.Common.{◌≡◌, ◌++◌, false, true, codes, ap, sym, ◌∙◌}
use Rattle.std.specs.Cmp.Lexicographic.{bytes_decides}
use Rattle.std.specs.Str.{chars}
use Rattle.std.proofs.lemmas.Bool.Decides.{same_from_decides}
use Rattle.pm_token.proofs.NameLemmas.{plain_is, raw_is, raw_is_not}
use Rattle.pm_token.proofs.SpellingLemmas.{spelled_is}
use Rattle.pm_token.proofs.identifiers.Ident.is_written.Goals as goal

pub returns-then-not-is_raw : goal.returns-then-not-is_raw
returns-then-not-is_raw c =
    let raw : c.args.self.now.raw ≡ false = sym (ap (λ x. x.raw) c.self.view_is)
    ∙ (sym c.is_raw.ensures ∙ c.if-not-is_raw.true) in
    let name : c.args.self.now.name ≡ chars c.as_bytes-name.result.now = sym (ap (λ x. x.name) c.self.view_is)
    ∙ sym c.as_bytes-name.ensures.value in
    let exactly = plain_is _ _ c.as_bytes-name.result.now c.args.text.now c.eq.result raw name
    c.as_bytes-name.ensures.utf8
    c.utf8.text (rw c.as_bytes.ensures.value at c.eq.ensures) in
    let value = same_from_decides _ _ exactly (bytes_decides _ _) in
    rw spelled_is (record { exactly = exactly; value = value; spelled = exactly; computed = value })

pub returns-in-Some : goal.returns-in-Some
returns-in-Some c =
    let raw : c.args.self.now.raw ≡ true = sym (ap (λ x. x.raw) c.self.view_is)
    ∙ (sym c.is_raw.ensures ∙ c.if-not-is_raw.false) in
    let name : c.args.self.now.name ≡ chars c.as_bytes-name.result.now = sym (ap (λ x. x.name) c.self.view_is)
    ∙ sym c.as_bytes-name.ensures.value in
    let stripped = c.in-Some.ensures.cases in
    let split : c.args.text.now ≡ codes "r#" ++ c.in-Some.rest.now = stripped.1.1
    ∙ ap (λ x. codes "r#" ++ x) (sym stripped.2) in
    let exactly = raw_is _ _ c.as_bytes-name.result.now c.args.text.now c.in-Some.rest.now c.eq-in-Some.result raw name
    c.as_bytes-name.ensures.utf8 c.utf8.text split
    (rw c.as_bytes-in-Some.ensures.value at c.eq-in-Some.ensures) in
    let value = same_from_decides _ _ exactly (bytes_decides _ _) in
    rw spelled_is (record { exactly = exactly; value = value; spelled = exactly; computed = value })

pub returns-in-None : goal.returns-in-None
returns-in-None c =
    let raw : c.args.self.now.raw ≡ true = sym (ap (λ x. x.raw) c.self.view_is)
    ∙ (sym c.is_raw.ensures ∙ c.if-not-is_raw.false) in
    let name : c.args.self.now.name ≡ chars c.as_bytes-name.result.now = sym (ap (λ x. x.name) c.self.view_is)
    ∙ sym c.as_bytes-name.ensures.value in
    let exactly = raw_is_not _ _ c.as_bytes-name.result.now c.args.text.now raw name c.as_bytes-name.ensures.utf8
    c.utf8.text
    c.in-None.ensures.cases in
    let value = same_from_decides _ _ exactly (bytes_decides _ _) in
    rw spelled_is (record { exactly = exactly; value = value; spelled = exactly; computed = value })

use Rattle.std.proofs.Common.{◌≡◌, ◌∙◌, Some, ap, bytes_eq, not, subst, sym, string_bytes}
use Rattle.std.specs.HashMap.{get_by_text}
use Rattle.std.specs.Map.{update}
use Rattle.std.specs.Str.{chars, encode_utf8_all}
use Rattle.std.proofs.lemmas.Map.Text.{hash_map_updates_text}
use Rattle.std.proofs.lemmas.Str.{encodes-chars}
use Rattle.rust_check.proofs.NameFormLemmas.{new_report, other_report}
use Rattle.rust_check.proofs.name_forms.NameForms.take.Goals as goal

pub returns-in-Some : goal.returns-in-Some
returns-in-Some c = λ names are.
    let form = c.as_str.ensures.value ∙ c.in_ok-form.ensures in
    other_report c.args.self.now.first names are (chars c.args.name.now) c.in-Some.first.now c.args.name.now c.ne.result
    (sym (c.in-Some.ensures.value ∙ ap (get_by_text c.args.self.now.first) form))
    (sym (encodes-chars c.args.name.now c.utf8.name))
    (c.ne.ensures ∙ ap (λ t. not (bytes_eq t c.args.name.now)) c.as_str-in-Some.ensures.value)

pub returns : goal.returns
returns c = λ names are.
    let form = c.as_str.ensures.value ∙ c.in_ok-form.ensures in
    new_report c.args.self.now.first names are (chars c.args.name.now) c.insert.new.self c.in_ok-name.name
    (sym (c.in_default.ensures.value ∙ ap (get_by_text c.args.self.now.first) form))
    (c.in_ok-name.ensures.ok ∙ sym (encodes-chars c.args.name.now c.utf8.name))
    (λ other. subst (λ t. get_by_text c.insert.new.self (encode_utf8_all other)
    ≡ update bytes_eq (get_by_text c.args.self.now.first) t (Some c.in_ok-name.name) (encode_utf8_all other))
    c.in_ok-form.ensures
    (hash_map_updates_text (string_bytes c.in_ok-form.form) c.args.self.now.first c.insert.new.self
    (Some c.in_ok-name.name) c.in_ok-insert.ensures.updates (encode_utf8_all other)))

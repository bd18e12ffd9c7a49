use Rattle.std.proofs.Common.{sym, ap, subst, ◌++◌, ◌∙◌}
use Rattle.std.proofs.Common.{string_bytes}
use Rattle.std.specs.Str.{IsUtf8}
use Rattle.std.proofs.lemmas.Str.{IsUtf8-string_bytes, IsUtf8-drop}
use Rattle.pm_token.proofs.TextBuilderLemmas.{plain_boundary, plain_pushed}
use Rattle.pm_token.proofs.escapes.TextBuilder.push_plain.Goals as goal

pub split_at-requires : goal.split_at-requires
split_at-requires c =
    plain_boundary c.args.quote c.count_plain-size.result c.args.text.now c.utf8.text
    (rw c.as_bytes.ensures.value at c.count_plain-size.ensures)

pub returns : goal.returns
returns c =
    let size = rw c.as_bytes.ensures.value at c.count_plain-size.ensures in
    let pushed =
    plain_pushed c.args.quote c.count_plain-size.result c.args.text.now c.utf8.text size
    (string_bytes c.self.inside.text)
    (string_bytes c.push_str.new.self) c.split_at.result.1.now (IsUtf8-string_bytes c.self.inside.text)
    (c.in_ok-push_str.ensures.bytes ∙ ap (λ x. string_bytes c.self.inside.text ++ x) c.split_at.ensures.front)
    c.split_at.ensures.back in
    record {
      ok = (pushed.0, pushed.1, pushed.2 ∙ ap (λ old. old ++ pushed.0) c.self.view_is, pushed.3);
      utf8 = subst IsUtf8 (sym c.split_at.ensures.back)
          (IsUtf8-drop c.args.text.now c.count_plain-size.result c.utf8.text
          (plain_boundary c.args.quote c.count_plain-size.result c.args.text.now c.utf8.text size));
    }

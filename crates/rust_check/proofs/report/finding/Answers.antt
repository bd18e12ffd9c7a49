use Rattle.std.proofs.Common.{◌≡◌, ◌∙◌, ◌∷◌, [], append-nil, ap, refl, sym}
use Rattle.std.specs.Str.{chars}
use Rattle.std.proofs.lemmas.Str.{chars-nil, chars_past_char}
use Rattle.rust_check.proofs.report.finding.Goals as goal

pub returns : goal.returns
returns c =
    let here : chars c.args.here.now ≡ c.args.c ∷ [] =
    chars_past_char c.args.here.now [] c.args.c c.utf8.here (c.requires ∙ sym (append-nil _))
    ∙ ap (λ l. c.args.c ∷ l) chars-nil in
    rw (c.name_of_hidden.ensures, c.says_of_hidden.ensures, here, chars-nil) refl

use Rattle.std.proofs.Common.{rules, ◌≡◌, [], sym, ap, ◌∙◌, eqb-true}
use Rattle.std.specs.Str.{chars}
use Rattle.std.proofs.lemmas.Bool.{eqb-false}
use Rattle.std.proofs.lemmas.List.{nil_from_length}
use Rattle.std.proofs.lemmas.Str.{chars-nil}
use Rattle.lexical.proofs.TextLemmas.{bytes_from_no_chars}
use Rattle.pm_stream.proofs.reading.end.Goals as goal

pub returns-then-not-is_empty-clause-stays_open : goal.returns-then-not-is_empty-clause-stays_open
returns-then-not-is_empty-clause-stays_open g c = λ none.
    absurd (eqb-false _ _ (sym c.if-not-is_empty.ensures) (bytes_from_no_chars _ c.utf8.rest none))

pub returns-clause-stuck : goal.returns-clause-stuck
returns-clause-stuck g c = λ more.
    absurd (more (ap chars (nil_from_length c.args.rest.now (eqb-true _ _ (sym c.if-not-is_empty.ensures)))
    ∙ chars-nil))

pub returns-in_default-clause-ok : goal.returns-in_default-clause-ok
returns-in_default-clause-ok g c =
    let done : chars c.args.rest.now ≡ [] =
    ap chars (nil_from_length c.args.rest.now (eqb-true _ _ (sym c.if-not-is_empty.ensures))) ∙ chars-nil in
    let none : c.args.opened.items ≡ [] = search rules in
    (done, none)

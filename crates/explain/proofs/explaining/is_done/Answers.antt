use Rattle.std.proofs.Common.{◌∙◌, ap, sym, eqb-true}
use Rattle.std.specs.Str.{chars}
use Rattle.std.proofs.lemmas.Bool.{eqb-false}
use Rattle.std.proofs.lemmas.List.{nil_from_length}
use Rattle.std.proofs.lemmas.Str.{chars-nil}
use Rattle.lexical.proofs.TextLemmas.{bytes_from_no_chars}
use Rattle.explain.proofs.explaining.is_done.Goals as goal

pub returns-clause-done : goal.returns-clause-done
returns-clause-done c = λ e.
    ap chars (nil_from_length c.args.rest.now (eqb-true _ _ (sym c.is_empty.ensures ∙ e))) ∙ chars-nil

pub returns-clause-more : goal.returns-clause-more
returns-clause-more c = λ e none.
    eqb-false _ _ (sym c.is_empty.ensures ∙ e) (bytes_from_no_chars _ c.utf8.rest none)

use Rattle.std.proofs.Common.{◌∙◌, [], ◌∷◌, map, string_bytes, subst, sym}
use Rattle.std.proofs.KnownBytes.{Appends-nil, Appends-trans}
use Rattle.std.proofs.Math.Nat.{max-zero}
use Rattle.std.specs.Io.KnownBytes.{Appends}
use Rattle.outline.specs.Files.{IsOf, all_lines, outcome_of, worst}
use Rattle.outline.specs.Tags.{lines_text}
use Rattle.outline.proofs.FilesLemmas.{ended_append, max_onto, of_none, of_one}
use Rattle.outline.proofs.files.list_each.Goals as goal

pub loop-path-preserved : goal.loop-path-preserved
loop-path-preserved g c = λ more new rest later.
    let bytes = g.W.Write.contents in
    let outcome = outcome_of c.list_file-listed.result in
    let one : IsOf c.args.form (string_bytes c.path-item.result) outcome =
    subst (λ p. IsOf c.args.form p outcome) c.as_str.ensures.value c.list_file-listed.ensures in
    let here : Appends (bytes c.loop-path.writer) (bytes c.print_all.new.writer) (lines_text outcome.lines) =
    subst (λ xs. Appends (bytes c.loop-path.writer) (bytes c.print_all.new.writer) (lines_text (map string_bytes xs)))
    c.as_slice.ensures.value c.in_ok-print_all.ensures in
    let both = subst (Appends (bytes c.loop-path.writer) new) (ended_append outcome.lines (all_lines more))
    (Appends-trans _ _ _ _ _ here later) in
    let all = c.loop-path.invariant (outcome ∷ more) new
    (of_one c.args.form c.args.paths.now c.loop-path.path-index c.path-item.result outcome more c.loop-path-test.true
    c.path-item.is one rest)
    both in
    (all.0, all.1, all.2, max_onto c.loop-path.worst outcome.status (worst more) _ c.max-worst.ensures ∙ all.3)

pub returns : goal.returns
returns g c =
    let all = c.loop-path.invariant [] (g.W.Write.contents c.loop-path.writer)
    (of_none c.args.form c.args.paths.now c.loop-path.path-index c.loop-path-test.false) (Appends-nil _) in
    (all.0, all.1, all.2, sym (max-zero c.loop-path.worst) ∙ all.3)

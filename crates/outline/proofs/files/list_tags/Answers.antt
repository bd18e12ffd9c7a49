use Rattle.std.proofs.Common.{◌≡◌, ◌∙◌, ◌++◌, [], ◌∷◌, ap, append_assoc, append-nil, map, string_bytes, subst, sym}
use Rattle.std.proofs.Math.Nat.{max-zero}
use Rattle.outline.specs.Files.{IsOf, all_lines, outcome_of, worst}
use Rattle.outline.specs.Tags.{WritesTags}
use Rattle.outline.specs.declared.options.Form.TheVariants.{Ctags}
use Rattle.outline.proofs.FilesLemmas.{max_onto, of_none, of_one, texts_append}
use Rattle.outline.proofs.files.list_tags.Goals as goal

pub loop-path-preserved : goal.loop-path-preserved
loop-path-preserved g c = λ more rest.
    let outcome = outcome_of c.list_file-listed.result in
    let one : IsOf Ctags (string_bytes c.path-item.result) outcome =
    subst (λ p. IsOf Ctags p outcome) c.as_str.ensures.value c.list_file-listed.ensures in
    let all = c.loop-path.invariant (outcome ∷ more)
    (of_one Ctags c.args.paths.now c.loop-path.path-index c.path-item.result outcome more c.loop-path-test.true
    c.path-item.is one rest) in
    let tags = c.loop-path.tags.items in
    let grown : map string_bytes c.append.new.self.items ≡ map string_bytes tags ++ outcome.lines =
    ap (map string_bytes) c.in_ok-append.ensures.items
    ∙ texts_append tags c.list_file-listed.result.lines.items in (
      all.0,
      all.1,
      ap (λ l. l ++ all_lines more) grown
          ∙ (append_assoc (map string_bytes tags) outcome.lines (all_lines more) ∙ all.2),
      max_onto c.loop-path.worst outcome.status (worst more) _ c.max-worst.ensures ∙ all.3,
    )

pub returns : goal.returns
returns g c =
    let bytes = g.W.Write.contents in
    let all = c.loop-path.invariant []
    (of_none Ctags c.args.paths.now c.loop-path.path-index c.loop-path-test.false) in (
      all.0,
      all.1,
      subst (λ ls. WritesTags ls (bytes c.args.writer.now) (bytes c.print_tags.new.writer))
          (sym (append-nil (map string_bytes c.loop-path.tags.items)) ∙ all.2) c.in_ok-print_tags.ensures,
      sym (max-zero c.loop-path.worst) ∙ all.3,
    )

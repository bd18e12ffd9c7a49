use Rattle.std.proofs.Common.{[], ◌∷◌, ◌∙◌, ap}
use Rattle.rust_check.specs.Options.{form_of}
use Rattle.rust_check.specs.Files.{all_counted}
use Rattle.rust_check.proofs.FilesLemmas.{counted_most, report_none, report_one}
use Rattle.rust_check.proofs.files.check_files.Goals as goal

pub loop-path-preserved : goal.loop-path-preserved
loop-path-preserved g c =
    let paths = c.as_slice-path-items.ensures.value in
    let outcome = c.in_ok-outcome.outcome in
    let most = counted_most c.loop-path.tally outcome c.loop-path.path-index
    c.loop-path.invariant.faulty c.loop-path.invariant.unread in
    record {
      faulty = rw c.with-tally.ensures most.0;
      unread = rw c.with-tally.ensures most.1;
      report = λ more new rest.
          let all = c.loop-path.invariant.report (outcome ∷ more) new
          (report_one (form_of c.args.options.now) c.args.options.now.hidden c.args.options.now.paths.items
          c.loop-path.path-index c.path-item.result outcome more _
          (g.W.Write.contents c.check_file.new.writer) new (rw paths at c.loop-path-test.true)
          (rw paths at c.path-item.is)
          (rw (c.in_ok-outcome.ensures, ← c.as_str.ensures.value) c.check_file.ensures) rest) in
          (all.0, all.1, ap (λ tally. all_counted tally more) c.with-tally.ensures ∙ all.2);
    }

pub returns : goal.returns
returns g c =
    c.loop-path.invariant.report [] (g.W.Write.contents c.loop-path.writer)
    (report_none (form_of c.args.options.now) c.args.options.now.hidden c.args.options.now.paths.items
    c.loop-path.path-index _
    (rw c.as_slice-path-items.ensures.value at c.loop-path-test.false))

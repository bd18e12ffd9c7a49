use Rattle.std.proofs.Common.{◌≡◌, ℕ, ◌≤◌, List, Option, drop, map, string_bytes}
use Rattle.rust_check.specs.Options.{form_of}
use Rattle.rust_check.specs.Files.{AllReport, Outcome, all_counted, nothing}
use Rattle.rust_check.proofs.files.check_files.Given as goal

-- the outcomes so far, with any outcomes of the files that are left, are the outcomes of all files
abbrev pub invariant-loop-path : goal.invariant-loop-path
invariant-loop-path g l =
    let bytes = g.W.Write.contents in
    let report = AllReport (form_of l.fn.options) l.fn.options.hidden in
    let paths = l.fn.options.paths.items in
    record {
      faulty : l.tally.faulty ≤ l.path-index;
      unread : l.tally.unread ≤ l.path-index;
      report : (more : List Outcome) (new : Option (List ℕ))
          → report (map string_bytes (drop l.path-index paths)) more (bytes l.writer) new
          → (all : List Outcome) × report (map string_bytes paths) all (bytes l.initial.writer) new
          × (all_counted l.tally more ≡ all_counted nothing all);
    }

use Rattle.std.proofs.Common.{◌≡◌, ◌+◌, ◌-◌, [], length, sym, ap, subst, arith}
use Rattle.pm_span.specs.Files.{positions, next_lo}
use Rattle.pm_span.specs.Consecutive.{AreConsecutive}
use Rattle.pm_span.proofs.FileLemmas.{positions-cons}
use Rattle.pm_span.proofs.ConsecutiveLemmas.{texts_of, last_end}
use Rattle.pm_span.proofs.source_map.SourceMap.last_hi.Goals as goal

pub returns-in-Some : goal.returns-in-Some
returns-in-Some c =
    let files = c.deref.result.now in
    let here = c.in-Some.ensures.item in
    let consecutive = subst (AreConsecutive 1) (sym c.deref.ensures.value) c.self.invariant.consecutive in
    let end = last_end 1 files (length files - 1) c.in-Some.file.now consecutive (omega (arith, here.3.0)) in
    let last = subst (λ file. file.lo + length file.text + 1 ≡ 1 + positions (texts_of files)) (sym here.1) end in
    let value : c.hi.result + 1 ≡ next_lo c.args.self.now =
    omega (
      arith,
      last,
      c.hi.ensures,
      ap (λ xs. positions (texts_of xs)) c.deref.ensures.value,
      ap (λ map. positions map.texts) c.self.view_is,
      positions-cons [] c.args.self.now.texts,
    ) in
    record {
      value = value;
      within = omega (
        arith,
        value,
        c.self.invariant.within,
        ap next_lo c.self.view_is,
        ap (λ map. map.limit) c.self.view_is,
        positions-cons [] (texts_of c.self.inside.files.items),
      );
    }

use Rattle.std.proofs.Common.{◌≡◌, ℕ, List, ◌+◌, ◌∷◌, ◌++◌, [], length, sym, ap, ap₂, ◌∙◌, arith, refl}
use Rattle.std.proofs.lemmas.List.{map-append}
use Rattle.std.proofs.lemmas.Result.{err_from_is_err_and}
use Rattle.pm_span.specs.Files.{Files, positions, next_lo, with_file}
use Rattle.pm_span.specs.Consecutive.{place_of}
use Rattle.pm_span.specs.declared.source_map.FileRange.{FileRange}
use Rattle.pm_span.proofs.FileLemmas.{positions-cons}
use Rattle.pm_span.proofs.ConsecutiveLemmas.{texts_of, AreConsecutive-push, positions-push}
use Rattle.pm_span.proofs.source_map.SourceMap.add_file.Goals.{in-Ok, in-Err}
use Rattle.pm_span.proofs.source_map.SourceMap.add_file.Goals as goal

abbrev at : ℕ → ℕ → FileRange
at lo hi = record { lo = lo; hi = hi }

abbrev files : List (List ℕ) → ℕ → Files
files texts limit = record { texts = texts; limit = limit }

pub invariant_of-self-in-Ok : goal.invariant_of-self-in-Ok
invariant_of-self-in-Ok c =
    let file = c.in_ok-file.file in
    let old = ap next_lo c.self.view_is in
    let begins : file.lo ≡ 1 + positions (texts_of c.self.inside.files.items) =
    omega (
      arith,
      ap (λ f. f.lo) c.in_ok-file.ensures.ok,
      c.last_hi-lo.ensures.value,
      old,
      positions-cons [] (texts_of c.self.inside.files.items),
    ) in
    let place : at (c.last_hi-lo.result + 1) c.hi.result ≡ place_of file =
    ap₂ at (sym (ap (λ f. f.lo) c.in_ok-file.ensures.ok)) c.hi.ensures in
    rw c.in-Ok.ensures.items (rw c.in_ok-push.ensures.items (record {
      consecutive = AreConsecutive-push 1 c.self.inside.files.items file c.self.invariant.consecutive begins;
      within = omega (
        arith,
        c.requires,
        old,
        ap (λ map. map.limit) c.self.view_is,
        positions-cons [] (texts_of c.self.inside.files.items),
        positions-push c.self.inside.files.items file,
        ap (λ f. length f.text) c.in_ok-file.ensures.ok,
      );
      taken = ap₂ (λ places p. places ++ p ∷ []) c.self.invariant.taken place
          ∙ sym (map-append place_of c.self.inside.files.items (file ∷ []));
    }))

pub returns-in_err-file-clause-ok : goal.returns-in_err-file-clause-ok
returns-in_err-file-clause-ok c =
    let p = err_from_is_err_and c.from_residual.result c.from_residual.ensures.1 in rw p.1 tt

pub returns-in_err-file-clause-kept : goal.returns-in_err-file-clause-kept
returns-in_err-file-clause-kept c =
    let p = err_from_is_err_and c.from_residual.result c.from_residual.ensures.1 in rw p.1 refl

pub invariant_of-self : goal.invariant_of-self
invariant_of-self c = rw c.in_err-push.ensures.items c.self.invariant

pub returns-in_err-push-clause-ok : goal.returns-in_err-push-clause-ok
returns-in_err-push-clause-ok c =
    let p = err_from_is_err_and c.from_residual-in_err-push.result c.from_residual-in_err-push.ensures.1 in rw p.1 tt

pub returns-in_err-push-clause-kept : goal.returns-in_err-push-clause-kept
returns-in_err-push-clause-kept c =
    let p = err_from_is_err_and c.from_residual-in_err-push.result c.from_residual-in_err-push.ensures.1 in
    rw p.1 c.self.view_is

pub returns-clause-ok : goal.returns-clause-ok
returns-clause-ok c = elim c.match-push.branch [
  | in-Ok w ↦ rw (w.result-is, w.self-is, w.in-Ok.ensures.items) (
      ap (λ texts. files texts c.self.inside.limit)
      (map-append (λ file. file.text) c.self.inside.files.items (c.in_ok-file.file ∷ []))
      ∙ ap₂ with_file c.self.view_is (ap (λ file. file.text) c.in_ok-file.ensures.ok)
      )
  | in-Err w ↦ rw w.result-is tt
]

pub returns-clause-kept : goal.returns-clause-kept
returns-clause-kept c = elim c.match-push.branch [
  | in-Ok w ↦ rw w.result-is tt
  | in-Err w ↦ rw (w.result-is, w.self-is, w.in-Err.ensures.items) c.self.view_is
]

use Rattle.std.proofs.Common.{◌≡◌, ◌∙◌, ℕ, List, Option, sym, Result, Ok, Err, OnOk, false, string_bytes, codes, ◌++◌}
use Rattle.std.specs.Io.KnownBytes.{Appends}
use Rattle.std.specs.IoError.{error_kind}
use Rattle.messages.specs.Failure.{is_closed}
use Rattle.messages.specs.Message.{message, of_file}
use Rattle.messages.specs.declared.errors.Failure.TheVariants.{Read}
use Rattle.messages.proofs.report.say.Goals as goal

with_reason : {T E : Type 0} (result : Result T E) (old new : Option (List ℕ)) (of : List ℕ → List ℕ) (reason : List ℕ)
    → OnOk result (Appends old new (of reason)) → OnOk result ((reason : List ℕ) × Appends old new (of reason))
with_reason (Ok x) old new of reason h = (reason, h)
with_reason (Err e) old new of reason h = tt

pub returns-in_ok-reason-in-Read : goal.returns-in_ok-reason-in-Read
returns-in_ok-reason-in-Read g c =
    rw c.in-Read.is
    (
    with_reason _ _ _ (λ reason. message c.args.path.now reason (Read c.in-Read.error))
    (string_bytes c.in_ok-reason-in-Read.reason) c.writeln-in-Read.ensures.bytes
    )

pub returns-in_ok-reason-in-Write : goal.returns-in_ok-reason-in-Write
returns-in_ok-reason-in-Write g c =
    let is_open : is_closed (error_kind c.in-Write.error) ≡ false =
    rw c.kind.ensures at (sym c.is_closed.ensures ∙ c.if-is_closed.false) in
    rw (c.in-Write.is, is_open)
    (
    with_reason _ _ _ (λ reason. of_file (codes "standard output") (codes "cannot write: " ++ (reason ++ codes "\n")))
    (string_bytes c.in_ok-reason-in-Write.reason) c.writeln-in-Write.ensures.bytes
    )

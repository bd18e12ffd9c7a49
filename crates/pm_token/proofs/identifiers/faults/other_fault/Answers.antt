use Rattle.std.proofs.Common.{◌≡◌, rules, true}
use Rattle.std.specs.Str.{chars}
use Rattle.pm_token.specs.IdentFault.{is_name}
use Rattle.pm_token.proofs.PlainNameLemmas.{named_fault}
use Rattle.pm_token.proofs.identifiers.faults.other_fault.Goals.{else-raw-via-then-raw+else-is_reserved}
use Rattle.pm_token.proofs.identifiers.faults.other_fault.Goals.{else-raw-via-else-raw}
use Rattle.pm_token.proofs.identifiers.faults.other_fault.Goals as goal

pub returns : goal.returns
returns c =
    let name : is_name (chars c.args.name.now) ≡ true = search rules in
    elim c.else-raw.branch [
      | else-raw-via-then-raw+else-is_reserved w ↦ search (rules, named_fault c.args.raw (chars c.args.name.now) name)
      | else-raw-via-else-raw w ↦ search (rules, named_fault c.args.raw (chars c.args.name.now) name)
    ]

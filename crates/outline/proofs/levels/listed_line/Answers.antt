use Rattle.std.proofs.Common.{option_map, string_bytes}
use Rattle.std.specs.Prelude.{option_copied}
use Rattle.std.proofs.lemmas.Result.{IfOk-weaker}
use Rattle.outline.specs.Outline.{is_listed, entry_of_value}
use Rattle.outline.proofs.LevelLemmas.{one_listed}
use Rattle.outline.proofs.levels.listed_line.Goals as goal

pub returns-then-is_listed : goal.returns-then-is_listed
returns-then-is_listed c = λ text of.
    let entry = c.args.entry.now in
    IfOk-weaker c.entry_line.result _ _ (λ line so.
    one_listed c.args.form c.args.path.now text (is_listed entry.kind (option_copied entry.name)) (entry_of_value entry)
    (option_map string_bytes line) c.if-is_listed.ensures so) (c.entry_line.ensures text of)

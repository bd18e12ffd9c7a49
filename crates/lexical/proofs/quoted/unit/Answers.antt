use Rattle.std.proofs.Common.{◌≡◌, false, codes, refl, ap}
use Rattle.std.specs.Str.{chars}
use Rattle.lexical.specs.Quoted.{escape_or_line_end, is_plain, newline}
use Rattle.lexical.specs.Rule.{Either, Exactly, One, Then}
use Rattle.lexical.specs.Text.{begins_with}
use Rattle.lexical.specs.declared.quoted.StringKind.{StringKind}
use Rattle.lexical.specs.declared.quoted.StringKind.TheVariants as kinds
use Rattle.lexical.proofs.RuleSteps.{either_reads, one_lacks, past_text, text_lacks, then_reads}
use Rattle.lexical.proofs.quoted.unit.Goals as goal

-- a backslash needs an escape in a string of any kind
no_plain : (kind : StringKind) → is_plain kind 92 ≡ false
no_plain kinds.Plain = refl
no_plain kinds.Byte = refl
no_plain kinds.C = refl

pub returns-in-Some : goal.returns-in-Some
returns-in-Some c =
    let kind = c.args.kind in
    let at = c.args.at in
    let after = c.in-Some.escape in
    let split = (past_text (codes "\\") at after c.in-Some.ensures).0 in
    let escape = Then (Exactly (codes "\\")) (escape_or_line_end kind) in
    either_reads (One (is_plain kind)) (Either newline escape) at c.escape_or_line_end.result
    (one_lacks (is_plain kind) 92 (chars at.rest.now) (chars after.rest.now) split (no_plain kind))
    (either_reads newline escape at c.escape_or_line_end.result
    (text_lacks (codes "\r\n") (chars at.rest.now) (ap (begins_with (codes "\r\n")) split))
    (then_reads (Exactly (codes "\\")) (escape_or_line_end kind) at after c.escape_or_line_end.result c.in-Some.ensures
    c.escape_or_line_end.ensures))

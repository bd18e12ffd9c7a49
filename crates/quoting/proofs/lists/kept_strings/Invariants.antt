use Rattle.std.proofs.Common.{◌≡◌, ℕ, List, take}
use Rattle.std.specs.Borrow.{Bor}
use Rattle.std.specs.Str.{chars}
use Rattle.proc_macro2.specs.Escaped.{string_text}
use Rattle.quoting.specs.Items.{One, each_of}
use Rattle.quoting.specs.Values.{plain_literal}
use Rattle.quoting.proofs.lists.kept_strings.Given as goal

abbrev pub invariant-loop-text : goal.invariant-loop-text
invariant-loop-text l =
    l.values
    ≡ each_of (λ (text : Bor (List ℕ)). One (plain_literal (string_text (chars text.now)))) (take l.text-index l.texts)

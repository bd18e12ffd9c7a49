use Rattle.std.proofs.Common.{codes, refl}
use Rattle.std.proofs.lemmas.Str.{chars-IsAscii}
use Rattle.lexical.proofs.TextLemmas.{is_ascii}
use Rattle.same.proofs.words.Words.take_step.Goals as goal

pub returns-in-Name-clause-first : goal.returns-in-Name-clause-first
returns-in-Name-clause-first c =
    let doc = chars-IsAscii (codes "doc") (is_ascii (codes "doc") refl) in
    rw (c.after-self.ensures, c.in-Name.is, doc) (λ here more. refl)

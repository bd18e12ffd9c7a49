use Rattle.lexical.specs.declared.quoted.StringKind.TheVariants as kinds
use Rattle.explain.proofs.LetterLemmas.{no_letter}
use Rattle.explain.proofs.QuoteLemmas.{opens_byte}
use Rattle.explain.proofs.StuckLemmas.{no_literal}
use Rattle.explain.proofs.letters.letter.Goals as goal

pub single-requires-clause-opens : goal.single-requires-clause-opens
single-requires-clause-opens c = opens_byte c.args.at c.in-Some-past-2.inside c.in-Some-past-2.ensures

pub single-requires-clause-none : goal.single-requires-clause-none
single-requires-clause-none c = (no_literal _ c.requires.literal).bytes

pub string-requires-clause-none : goal.string-requires-clause-none
string-requires-clause-none c = (no_literal _ c.requires.literal).strings kinds.Byte

pub string-requires-in-Some-past-clause-none : goal.string-requires-in-Some-past-clause-none
string-requires-in-Some-past-clause-none c = (no_literal _ c.requires.literal).strings kinds.C

pub unreachable-requires : goal.unreachable-requires
unreachable-requires c =
    no_letter _ c.in_default.ensures c.in_default-past.ensures c.in_default-past-2.ensures c.in_default-past-3.ensures
    c.in_default-past-4.ensures c.in_default-past-5.ensures c.in_default-past-6.ensures c.requires.letter
    c.requires.identifier

use Rattle.declarations.proofs.RuleLemmas.{well_formed}
use Rattle.declarations.proofs.SyntaxLemmas.{tables_read}
use Rattle.declarations.proofs.laws.tables_are_the_grammar.Goals as goal

pub returns : goal.returns
returns c = record { well_formed = well_formed; tables = tables_read }

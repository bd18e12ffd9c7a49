use Rattle.literal_escaper.specs.Units.{raw_c_char}
use Rattle.literal_escaper.proofs.WithinLemmas.{raw_within}
use Rattle.literal_escaper.proofs.check_raw.check_raw_c_str.Goals as goal

pub returns-clause-within : goal.returns-clause-within
returns-clause-within c = raw_within raw_c_char c.args.src.now c.new.result c.utf8.src c.new.ensures.rest
    c.new.ensures.end

use Rattle.literal_escaper.specs.Kind.{string_kind}
use Rattle.literal_escaper.proofs.WithinLemmas.{cooked_within}
use Rattle.literal_escaper.proofs.unescape.unescape_str.Goals as goal

pub returns-clause-within : goal.returns-clause-within
returns-clause-within c = cooked_within string_kind c.args.src.now c.new.result c.utf8.src c.new.ensures.rest
    c.new.ensures.end c.new.ensures.warning

use Rattle.std.proofs.Common.{length, refl, ap, ◌∙◌}
use Rattle.std.specs.Str.{chars}
use Rattle.lexical.proofs.CountLemmas.{front_range}
use Rattle.lexical.proofs.FastStringLemmas.{literal_counted, literal_cut}
use Rattle.lexical.proofs.fast_path.count_extent.Goals as goal

pub range-requires-clause-end_boundary : goal.range-requires-clause-end_boundary
range-requires-clause-end_boundary c = literal_cut c.args.text.now c.args.size c.utf8.text c.requires

pub returns : goal.returns
returns c first =
    literal_counted c.args.text.now c.args.size c.utf8.text c.requires first _ refl refl
    (c.char_count.ensures
    ∙ ap (λ t. length (chars t)) (c.range.ensures.value ∙ front_range c.args.text.now c.args.size))

use Rattle.write_getters.proofs.AnswerLemmas.{goes_all, goes_on}
use Rattle.write_getters.proofs.CopiesLemmas.{no_trees}
use Rattle.write_getters.proofs.answer.print_file.Goals as goal

pub loop-left-preserved : goal.loop-left-preserved
loop-left-preserved g c =
    let kind_and_name = c.in_ok-item.ensures.kind_and_name in
    let put = c.in_ok-print_item.ensures in
    goes_on c.in_ok-templates.templates _ c.loop-left.left.now c.in_ok-item.item.trees.now c.in_ok-item.rest.now
    c.in_ok-item.item.kind kind_and_name.0 put.0 _ _ _ c.loop-left.invariant c.in_ok-item.ensures.ok kind_and_name.1
    put.1 put.2

pub returns : goal.returns
returns g c =
    let all = goes_all c.in_ok-templates.templates _ c.loop-left.left.now _ _ c.loop-left.invariant
    (no_trees _ c.loop-left-test.ensures) in
    record {
      templates = c.in_ok-templates.templates;
      is_plain = c.in_ok-templates.ensures.plain;
      is_generic = c.in_ok-templates.ensures.generic;
      inner = _;
      items = _;
      inner_read = c.in_ok-items.ensures.ok;
      written = all.0;
      are_written = all.1;
      appends = all.2;
    }

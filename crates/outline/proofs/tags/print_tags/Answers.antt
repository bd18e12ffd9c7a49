use Rattle.std.proofs.Common.{codes, map, string_bytes, subst}
use Rattle.std.proofs.KnownBytes.{Appends-trans}
use Rattle.std.proofs.lemmas.List.Sorted.{IsPermutation-map}
use Rattle.std.proofs.lemmas.Result.{on_ok_weaker}
use Rattle.std.specs.Io.KnownBytes.{Appends}
use Rattle.outline.specs.Tags.{lines_text}
use Rattle.outline.proofs.TagLemmas.{sorted_bytes}
use Rattle.outline.proofs.tags.print_tags.Goals as goal

pub returns : goal.returns
returns g c =
    let bytes = g.W.Write.contents in
    let sorted = c.sort_unstable.new.self.items in
    on_ok_weaker c.print_all.result
    (λ rest. record {
      sorted = map string_bytes sorted;
      same = IsPermutation-map string_bytes c.args.lines.now.items sorted c.sort_unstable.ensures.permutation;
      in_order = sorted_bytes sorted c.sort_unstable.ensures.sorted;
      written = Appends-trans _ _ _ (codes "!_TAG_FILE_SORTED\t1\t//\n") _ c.in_ok-write_all.ensures.bytes
          (subst (λ xs. Appends (bytes c.write_all.new.self) (bytes c.print_all.new.writer)
          (lines_text (map string_bytes xs))) c.as_slice.ensures.value rest);
    })
    c.print_all.ensures

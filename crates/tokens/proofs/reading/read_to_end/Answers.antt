use Rattle.std.proofs.Common.{rules, ◌≡◌, take, ap, ◌∙◌}
use Rattle.std.proofs.lemmas.List.{with_items_is, places}
use Rattle.tokens.proofs.KnownLemmas.{Consumes-filled}
use Rattle.tokens.proofs.reading.read_to_end.Goals as goal

pub loop-bytes-preserved : goal.loop-bytes-preserved
loop-bytes-preserved g c =
    let items = with_items_is c.make_room.new.bytes c.read_at.new.buffer (search (rules, places)) in
    let front : take c.loop-bytes.filled c.read_at.new.buffer ≡ take c.loop-bytes.filled c.loop-bytes.bytes.items =
    c.read_at.ensures.front ∙ ap (take c.loop-bytes.filled) c.as_mut_slice.ensures.value
    ∙ c.in_ok-make_room.ensures.front in
    record {
      within = search (rules, places);
      consumed = rw items (Consumes-filled _ _ _ _ _ _ _ front c.loop-bytes.invariant.consumed c.in-Ok.ensures.bytes);
      flag = search rules;
    }

use Rattle.explain.proofs.RawLemmas.{bad_raw, raw_body_none, raw_left, raw_more, raw_shorter, raw_start, raw_stop}
use Rattle.explain.proofs.raw_contents.raw_content.Goals as goal

pub loop-after-init : goal.loop-after-init
loop-after-init c = record {
  read = raw_start c.args.kind c.args.hashes.now c.args.body;
  rest = raw_left c.args.kind c.args.hashes.now c.args.body c.args.end c.requires.closed;
}

pub loop-after-smaller : goal.loop-after-smaller
loop-after-smaller c =
    raw_shorter c.args.kind c.args.hashes.now c.loop-after.place c.in-Some.after c.in-Some.ensures

pub loop-after-preserved : goal.loop-after-preserved
loop-after-preserved c =
    let more = raw_more c.args.kind c.args.hashes.now c.args.body c.loop-after.place c.in-Some.after c.args.end
    c.loop-after.invariant.read c.loop-after.invariant.rest c.in-Some.ensures in
    record { read = more.0; rest = more.1 }

pub error_of-requires : goal.error_of-requires
error_of-requires c =
    (raw_stop c.args.kind c.args.hashes.now c.args.body c.loop-after.place c.args.end c.in-Some-advance.after
    c.in-Some-advance.c c.loop-after.invariant.read c.loop-after.invariant.rest
    (raw_body_none c.args.kind c.args.at c.args.inside c.args.quote c.args.body c.requires.letters c.requires.signs.0
    c.requires.opens c.args.hashes.now c.requires.signs.1 c.requires.few c.requires.none)
    c.in_default.ensures c.in-Some-advance.ensures.0).bars

pub returns : goal.returns
returns c =
    bad_raw c.args.kind c.args.at c.args.inside c.args.quote c.args.body c.requires.letters c.requires.signs.0
    c.requires.opens c.args.hashes.now c.requires.signs.1 c.requires.few c.loop-after.place c.in-Some-advance.after
    c.args.end c.in-Some-advance.c c.error_of.result c.loop-after.invariant.read c.requires.closed
    (raw_stop c.args.kind c.args.hashes.now c.args.body c.loop-after.place c.args.end c.in-Some-advance.after
    c.in-Some-advance.c c.loop-after.invariant.read c.loop-after.invariant.rest
    (raw_body_none c.args.kind c.args.at c.args.inside c.args.quote c.args.body c.requires.letters c.requires.signs.0
    c.requires.opens c.args.hashes.now c.requires.signs.1 c.requires.few c.requires.none)
    c.in_default.ensures c.in-Some-advance.ensures.0)
    c.in-Some-advance.ensures.0 c.in-Some-advance.ensures.1 c.error_of.ensures

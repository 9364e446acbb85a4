use Rattle.std.proofs.Common.{arith, ◌∙◌}
use Rattle.std.proofs.lemmas.List.{length-set}
use Rattle.mp_topk.proofs.Through.{is_put, passes, ranked_put, those_put}
use Rattle.mp_topk.proofs.placing.put_found.Goals as goal

pub loop-place-preserved : goal.loop-place-preserved
loop-place-preserved g c = record {
  passed = passes c.loop-place.place c.loop-place.carried c.nearer.result c.later-carried.result c.loop-place.slots
      c.nearer.ensures c.later-carried.ensures
      (omega (arith, c.loop-place-test.true, c.loop-place.invariant.places)) ∙ c.loop-place.invariant.passed;
  places = length-set c.loop-place.slots c.loop-place.place c.nearer.result ∙ c.loop-place.invariant.places;
}

pub returns-clause-those : goal.returns-clause-those
returns-clause-those g c = those_put g.row.K c.args.found c.args.slots.now c.loop-place.slots
    (is_put c.loop-place.place g.row.K c.args.found c.loop-place.carried c.args.slots.now c.loop-place.slots c.requires
    (omega (arith, c.loop-place-test.false, c.loop-place.invariant.places)) c.loop-place.invariant.passed)

pub returns-clause-ranked : goal.returns-clause-ranked
returns-clause-ranked g c = ranked_put g.row.K c.args.found c.args.slots.now c.loop-place.slots c.requires
    (is_put c.loop-place.place g.row.K c.args.found c.loop-place.carried c.args.slots.now c.loop-place.slots c.requires
    (omega (arith, c.loop-place-test.false, c.loop-place.invariant.places)) c.loop-place.invariant.passed)

use Rattle.std.proofs.Common.{◌<◌, ◌∙◌, ap, arith, length}
use Rattle.std.specs.Prelude.{None}
use Rattle.std.proofs.lemmas.List.{get_or_default, length-set}
use Rattle.mp_nums.specs.Near.{nearer_of}
use Rattle.mp_topk.specs.Ranking.{later_of}
use Rattle.mp_topk.proofs.Numbers.{still_ranked, those_are}
use Rattle.mp_topk.proofs.Through.{passes}
use Rattle.mp_topk.proofs.compact_placing.put_through.Goals as goal

pub loop-place-preserved : goal.loop-place-preserved
loop-place-preserved g c =
    let lt : c.loop-place.place < length c.loop-place.slots =
    omega (arith, c.loop-place-test.true, c.loop-place.invariant.places) in
    let here = get_or_default c.loop-place.slots c.loop-place.place _ None lt in
    record {
      passed = passes c.loop-place.place c.loop-place.carried c.earlier.result c.later-carried.result c.loop-place.slots
          (c.earlier.ensures ∙ ap (λ slot. nearer_of slot c.loop-place.carried) here)
          (c.later-carried.ensures ∙ ap (λ slot. later_of slot c.loop-place.carried) here) lt
          ∙ c.loop-place.invariant.passed;
      places = length-set c.loop-place.slots c.loop-place.place c.earlier.result ∙ c.loop-place.invariant.places;
    }

pub returns-clause-those : goal.returns-clause-those
returns-clause-those g c =
    those_are c.loop-place.place g.row.K c.args.found c.loop-place.carried c.args.slots.now c.loop-place.slots
    c.requires (omega (arith, c.loop-place-test.false, c.loop-place.invariant.places)) c.loop-place.invariant.passed

pub returns-clause-ranked : goal.returns-clause-ranked
returns-clause-ranked g c =
    still_ranked c.loop-place.place g.row.K c.args.found c.loop-place.carried c.args.slots.now c.loop-place.slots
    c.requires (omega (arith, c.loop-place-test.false, c.loop-place.invariant.places)) c.loop-place.invariant.passed

use Rattle.std.proofs.Common.{◌<◌, ◌∙◌, ap, arith, length, take}
use Rattle.std.specs.Prelude.{None}
use Rattle.std.proofs.lemmas.List.{get_or_default}
use Rattle.mp_results.specs.Ranks.{put_if_there}
use Rattle.mp_topk.specs.Ranking.{those_in}
use Rattle.mp_topk.proofs.Through.{all_are_put, one_more}
use Rattle.mp_topk.proofs.compact_merging.put_each_compact.Goals as goal

pub loop-place-preserved : goal.loop-place-preserved
loop-place-preserved g c =
    let lt : c.loop-place.place < length c.args.others.now = omega (arith, c.loop-place-test.true) in
    record {
      those = one_more g.row.K c.loop-place.place (those_in c.loop-place.slots) _ c.args.others.now lt
          (c.put_unless_there.ensures.those
          ∙ ap (λ slot. take g.row.K (put_if_there slot (those_in c.loop-place.slots)))
          (get_or_default c.args.others.now c.loop-place.place _ None lt))
          ∙ c.loop-place.invariant.those;
      ranked = c.put_unless_there.ensures.ranked;
    }

pub returns-clause-those : goal.returns-clause-those
returns-clause-those g c = all_are_put g.row.K c.loop-place.place c.loop-place.slots c.args.others.now
    c.loop-place.invariant.ranked (omega (arith, c.loop-place-test.false)) ∙ c.loop-place.invariant.those

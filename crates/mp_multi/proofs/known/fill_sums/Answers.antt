use Rattle.std.proofs.Common.{◌∙◌, arith}
use Rattle.std.proofs.lemmas.Simd.{length-put_chunk}
use Rattle.mp_multi.specs.Skips.{least_at}
use Rattle.mp_multi.proofs.KnownLemmas.{eight_more}
use Rattle.mp_multi.proofs.known.fill_sums.Goals as goal

pub loop-h-preserved : goal.loop-h-preserved
loop-h-preserved g c =
    let before = c.loop-h.invariant in
    let k = c.args.level.now.plan.channels.k in
    record {
      places = length-put_chunk _ _ _ ∙ before.places;
      told = λ r lt. eight_more (least_at k g.row.D c.args.dists.now) c.loop-h.h r c.loop-h.sums c.least_eight.new.sums
          (omega (
            arith,
            before.places,
            c.loop-h-test.true,
            c.div_ceil-h-end.ensures,
            c.requires.few,
            c.requires.eights,
          ))
          c.least_eight.ensures.sums before.told lt;
    }

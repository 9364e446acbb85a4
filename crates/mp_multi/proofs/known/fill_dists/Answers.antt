use Rattle.std.proofs.Common.{◌≡◌, ◌+◌, ◌*◌, ◌^◌, ◌<◌, ◌≤◌, [], ◌∙◌, map, subst, arith}
use Rattle.std.specs.Prelude.{Some}
use Rattle.std.proofs.lemmas.List.{length-set}
use Rattle.mp_defs.specs.Series.{series_of}
use Rattle.mp_results.specs.Multi.{distance_in}
use Rattle.mp_skips.specs.Sums.{number_in}
use Rattle.mp_skips.specs.declared.sums.TheConstants.{MOST_SUM}
use Rattle.mp_multi.proofs.BoundLaws.{channel_distance}
use Rattle.mp_multi.proofs.ChannelLemmas.{set_next}
use Rattle.mp_multi.proofs.KnownLemmas.{own_below}
use Rattle.mp_multi.proofs.known.fill_dists.Goals as goal

pub loop-c-preserved : goal.loop-c-preserved
loop-c-preserved g c =
    let level = c.args.level.now in
    let ch = level.plan.channels in
    let before = c.loop-c.invariant in
    let own = c.fill_distances.new.dists in
    record {
      places = length-set _ _ _ ∙ before.places;
      filled = record {
        each = λ q r d lt few. set_next
            (λ p dists. distance_in ch.m (map series_of ch.list.now) (c.args.row + r) (c.args.column + r) p ≡ Some d
            → number_in dists r ≡ d) [] c.loop-c.dists c.loop-c.c own (omega (arith, before.places))
            (λ p below. before.filled.each p r d below few)
            (λ there. c.fill_distances.ensures.dists r d few
            (channel_distance level.plan level.units _ c.loop-c.c (c.args.row + r) (c.args.column + r)
            (level.are.each c.loop-c.c _ (omega (arith, c.requires.channels))) ∙ there)) q lt;
      };
      small = λ few. record {
        each = λ q r lt below. set_next (λ _ dists. number_in dists r < MOST_SUM) [] c.loop-c.dists c.loop-c.c own
            (omega (arith, before.places)) (λ p before_it. (before.small few).each p r before_it below)
            (own_below ch.m c.args.count g.row.N r own few below
            (λ k there. subst (λ n. number_in own k ≤ n * 2 ^ 48)
            (level.are.each c.loop-c.c c.index-level-c.result (omega (arith, c.requires.channels))).length_is
            (c.fill_distances.ensures.small k there))
            c.fill_distances.ensures.others) q lt;
      };
    }

use Rattle.std.proofs.Common.{◌≡◌, ◌^◌, ◌<◌, ◌∙◌, map, sym, subst, arith}
use Rattle.std.proofs.lemmas.List.{length-set}
use Rattle.std.specs.Prelude.{None, IfSome}
use Rattle.std.specs.Option.{option_map}
use Rattle.mp_defs.specs.Series.{series_of}
use Rattle.mp_results.specs.Multi.{distance_in}
use Rattle.mp_multi.specs.Skips.{least_at}
use Rattle.mp_multi.proofs.BoundLaws.{channel_distance}
use Rattle.mp_multi.proofs.ChannelLemmas.{set_next, value_is}
use Rattle.mp_multi.proofs.KnownLemmas.{value_known}
use Rattle.mp_multi.proofs.SkipLemmas.{told_by, small_by}
use Rattle.mp_multi.proofs.known.value_at.Goals as goal

pub distance_of-requires-clause-dist : goal.distance_of-requires-clause-dist
distance_of-requires-clause-dist g c = λ d there.
    let level = c.args.level.now in
    c.requires.dists c.loop-c.c d (omega arith)
    (sym (channel_distance level.plan level.units _ c.loop-c.c c.args.row c.args.column
    (level.are.each c.loop-c.c _ (omega (arith, c.requires.channels)))) ∙ there)

pub loop-c-preserved : goal.loop-c-preserved
loop-c-preserved g c =
    let level = c.args.level.now in
    let ch = level.plan.channels in
    let before = c.loop-c.invariant in
    record {
      places = length-set _ _ _ ∙ before.places;
      told = λ q lt. set_next
          (λ p dist. option_map (λ d. d.0) dist
          ≡ distance_in ch.m (map series_of ch.list.now) c.args.row c.args.column p) None c.loop-c.known c.loop-c.c
          c.distance_of.result (omega arith) (λ p below. before.told p below)
          (told_by c.distance_of.result _ c.distance_of.ensures.some c.distance_of.ensures.none
          ∙ channel_distance level.plan level.units _ c.loop-c.c c.args.row c.args.column
          (level.are.each c.loop-c.c _ (omega (arith, c.requires.channels)))) q lt;
      small = λ q past lt. set_next (λ _ dist. IfSome dist (λ d. d.0 < 2 ^ 110)) past c.loop-c.known c.loop-c.c
          c.distance_of.result (omega arith) (λ p below. before.small p past below)
          (small_by c.distance_of.result c.distance_of.ensures.small) q lt;
    }

pub returns : goal.returns
returns g c =
    let level = c.args.level.now in
    let ch = level.plan.channels in
    c.least_sum.ensures
    ∙ value_is ch.m ch.k ch.list.now c.args.row c.args.column c.loop-c.known
    (omega (arith, c.loop-c.invariant.places, c.requires.channels, level.are.count))
    (λ q lt. c.loop-c.invariant.told q (omega (arith, lt, c.loop-c.invariant.places, c.loop-c-test.false)))

pub returns-then-are_known : goal.returns-then-are_known
returns-then-are_known g c =
    let level = c.args.level.now in
    let ch = level.plan.channels in
    let least = least_at ch.k g.row.D c.args.dists.now c.args.r in
    let here : c.from.result ≡ least =
    c.from.ensures ∙ subst (λ sum. IfSome sum (λ n. n ≡ least)) c.in-Some.is c.requires.sum in
    sym (value_known ch.m ch.k g.row.D c.args.row c.args.column c.args.r c.from.result ch.list.now c.args.dists.now
    (omega (arith, c.requires.channels, level.are.count)) (omega arith) (c.are_known.ensures c.if-are_known.true) here)

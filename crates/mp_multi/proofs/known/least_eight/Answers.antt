use Rattle.std.proofs.Common.{◌≡◌, ℕ, ◌+◌, ◌-◌, ◌<◌, ◌≤◌, List, [], length, ◌∙◌, ap, arith, rules, take, drop}
use Rattle.std.specs.Prelude.{slice_index_or}
use Rattle.std.specs.Simd.Lanes.{chunk}
use Rattle.std.proofs.lemmas.List.{length-set, get_or_default}
use Rattle.mp_skips.specs.Sums.{number_in}
use Rattle.mp_skips.specs.declared.sums.TheConstants.{MOST_SUM}
use Rattle.mp_multi.proofs.BoundLemmas.{eight_set}
use Rattle.mp_multi.proofs.ChannelLemmas.{set_next}
use Rattle.mp_multi.proofs.KnownLemmas.{lanes_same, loaded, loaded_eight}
use Rattle.mp_multi.proofs.known.least_eight.Goals as goal

pub loop-c-preserved : goal.loop-c-preserved
loop-c-preserved g c =
    let before = c.loop-c.invariant in
    let xs = c.index-dists-c.result in
    let place = c.args.place in
    let n = length xs - place in
    let new = chunk 0 8 (take n (drop place xs)) in
    let all : length xs ≡ g.row.N = search rules in
    let here : xs ≡ slice_index_or c.args.dists.now c.loop-c.c [] =
    c.index-dists-c.is
    ∙ get_or_default c.args.dists.now c.loop-c.c xs [] (omega (arith, c.requires.count, c.loop-c-test.true)) in
    let wide : 8 ≤ n = omega (arith, all, c.requires.place) in
    record {
      places = length-set _ _ _ ∙ before.places;
      lanes = eight_set (λ v. length v ≡ 8) c.loop-c.numbers c.loop-c.c new before.lanes
          (loaded_eight xs n place wide (omega (arith, all, c.requires.place)));
      small = eight_set (λ v. (t : ℕ) → t < 8 → number_in v t < MOST_SUM) c.loop-c.numbers c.loop-c.c new before.small
          (λ t lt. omega (
            arith,
            loaded xs n place t lt wide,
            ap (λ (v : List ℕ). number_in v (place + t)) here,
            c.requires.small.each c.loop-c.c (place + t) c.loop-c-test.true (omega (arith, lt, c.requires.place)),
          ));
      loaded = λ q t lt few. set_next
          (λ p v. number_in v t ≡ number_in (slice_index_or c.args.dists.now p []) (place + t)) [] c.loop-c.numbers
          c.loop-c.c new (omega (arith, before.places, c.loop-c-test.true)) (λ p below. before.loaded p t below few)
          (loaded xs n place t few wide ∙ ap (λ (v : List ℕ). number_in v (place + t)) here) q lt;
    }

pub returns : goal.returns
returns g c = record {
  sums = record {
    count = c.least_sums.ensures.sums.count;
    each = λ t lt. c.least_sums.ensures.sums.each t lt
        ∙ lanes_same c.args.k g.row.D c.args.place t c.loop-c.numbers c.args.dists.now
        (λ q few. c.loop-c.invariant.loaded q t (omega (arith, few, c.loop-c-test.false)) lt);
  };
}

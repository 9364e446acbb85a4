use Rattle.std.proofs.Common.{◌≡◌, ◌^◌, ◌<◌, ◌∙◌, map, arith}
use Rattle.std.proofs.lemmas.List.{length-set, length-replicate}
use Rattle.std.specs.Prelude.{None, IfSome}
use Rattle.std.specs.Option.{option_map}
use Rattle.mp_defs.specs.Series.{series_of}
use Rattle.mp_results.specs.Multi.{distance_in}
use Rattle.mp_multi.proofs.ChannelLemmas.{set_next, told_in, value_is}
use Rattle.mp_multi.proofs.channels.Channels.value.Goals as goal

pub loop-c-init : goal.loop-c-init
loop-c-init g c = record {
  places = length-replicate _ _;
  told = λ i j h q lt. absurd (omega (arith, lt));
  small = λ q past lt. absurd (omega (arith, lt));
}

pub loop-c-preserved : goal.loop-c-preserved
loop-c-preserved g c =
    let self = c.args.self.now in
    record {
      places = length-set _ _ _ ∙ c.loop-c.invariant.places;
      told = λ i j h q lt. set_next
          (λ p dist. option_map (λ d. d.0) dist ≡ distance_in self.m (map series_of self.list.now) i j p) None
          c.loop-c.dists c.loop-c.c c.distance.result (omega arith) (λ p below. c.loop-c.invariant.told i j h p below)
          (told_in self.m self.list.now i j c.loop-c.c c.distance.result
          (c.distance.ensures.value self.m _ i j (h c.loop-c.c _ (omega arith)))) q lt;
      small = λ q past lt. set_next (λ _ dist. IfSome dist (λ d. d.0 < 2 ^ 110)) past c.loop-c.dists c.loop-c.c
          c.distance.result (omega arith) (λ p below. c.loop-c.invariant.small p past below) c.distance.ensures.small q
          lt;
    }

pub least_sum-requires-clause-small : goal.least_sum-requires-clause-small
least_sum-requires-clause-small g c = λ q past lt. c.loop-c.invariant.small q past (omega (arith, lt))

pub returns : goal.returns
returns g c =
    let self = c.args.self.now in
    λ i j h. c.least_sum.ensures
    ∙ value_is self.m self.k self.list.now i j c.loop-c.dists (omega arith)
    (λ q lt. c.loop-c.invariant.told i j h q (omega (arith, lt)))

use Rattle.std.proofs.Common.{◌≡◌, ◌+◌, ◌-◌, ◌∙◌, arith, get_or, refl, subst, sym}
use Rattle.std.proofs.Common.{take}
use Rattle.std.specs.Prelude.{List}
use Rattle.mp_nums.specs.declared.samples.Sample.{Sample}
use Rattle.mp_defs.specs.Series.{series_of}
use Rattle.mp_defs.specs.Profile.{windows_of}
use Rattle.mp_defs.specs.SeriesLaws.{series_are_of_samples}
use Rattle.mp_scans.specs.Offering.{only}
use Rattle.mp_tiles.specs.Scanning.{HasPlaces, IsScanned}
use Rattle.std.proofs.lemmas.List.{take_all}
use Rattle.mp_anytime.specs.Kept.{IsSumAt, is_last_pair}
use Rattle.mp_anytime.specs.Sums.{sum_in}
use Rattle.mp_anytime.proofs.Putting.{done_more, places_put, rest_more}
use Rattle.mp_anytime.proofs.Reading.{last_pair_more, no_last_pair, none_read, then_read}
use Rattle.mp_anytime.proofs.Scans.{still_places}
use Rattle.mp_anytime.proofs.extending.extend_each.Goals as goal

pub loop-k-init : goal.loop-k-init
loop-k-init c =
    let m = c.args.m in
    let a = series_of c.args.samples.now.items in
    let count : windows_of m a ≡ c.args.last + 1 =
    series_are_of_samples.windows_are m c.args.samples.now.items
    ∙ omega (arith, c.requires.within, c.requires.shortest) in
    record {
      done = λ q lt. absurd (omega (arith, lt));
      rest = λ q le lt. refl;
      places = c.requires.sum_places;
      room = refl;
      scanned = no_last_pair c.args.last m a c.args.profile.now
          (subst (λ w. HasPlaces w c.args.profile.now) (sym count) c.requires.places);
      read = none_read _;
    }

pub loop-k-preserved : goal.loop-k-preserved
loop-k-preserved c =
    let m = c.args.m in
    let last = c.args.last in
    let covered = c.args.covered.now in
    let k = c.loop-k.k in
    let a = series_of c.args.samples.now.items in
    let count : windows_of m a ≡ last + 1 =
    series_are_of_samples.windows_are m c.args.samples.now.items
    ∙ omega (arith, c.requires.within, c.requires.shortest) in
    let places = subst (λ w. HasPlaces w c.args.profile.now) (sym count) c.requires.places in
    let here : IsSumAt m a (last - get_or covered k 0) last c.extend-sum.result =
    subst (λ (items : List Sample). IsSumAt m (series_of items) (last - get_or covered k 0) last c.extend-sum.result)
    c.loop-k.invariant.read.items c.extend-sum.ensures.sum in
    let pair : IsScanned (only (last - get_or covered k 0) last) m a c.loop-k.profile c.extend-sum.new.profile =
    subst (λ (items : List Sample). IsScanned (only (last - get_or covered k 0) last) m (series_of items)
    c.loop-k.profile c.extend-sum.new.profile) c.loop-k.invariant.read.items c.extend-sum.ensures.scanned in
    record {
      done = done_more (λ d s. IsSumAt m a (last - d) last s) covered k
          c.extend-sum.result c.loop-k.sums c.set.new.self
          c.requires.distinct (omega arith) c.set.ensures.put c.loop-k.invariant.done here;
      rest = λ q le lt. rest_more covered k c.extend-sum.result q c.args.sums.now c.loop-k.sums c.set.new.self
          c.requires.distinct c.set.ensures.put le lt (c.loop-k.invariant.rest q (omega (arith, le)) lt);
      places = places_put (last + 1) (get_or covered k 0) c.extend-sum.result c.loop-k.sums c.set.new.self
          c.set.ensures.put c.loop-k.invariant.places;
      room = c.set.ensures.room ∙ c.loop-k.invariant.room;
      scanned = last_pair_more covered k (last - get_or covered k 0) last m a c.args.profile.now c.loop-k.profile _
          (omega arith) refl (c.requires.diagonals k 0 (omega arith)).1 count places c.loop-k.invariant.scanned pair;
      read = then_read _ _ _ _ 4 _ (omega arith) c.loop-k.invariant.read c.extend-sum.ensures.read;
    }

pub extend-sum-requires-clause-places : goal.extend-sum-requires-clause-places
extend-sum-requires-clause-places c =
    let m = c.args.m in
    let a = series_of c.args.samples.now.items in
    let count : windows_of m a ≡ c.args.last + 1 =
    series_are_of_samples.windows_are m c.args.samples.now.items
    ∙ omega (arith, c.requires.within, c.requires.shortest) in
    subst (λ w. HasPlaces w c.loop-k.profile) count
    (still_places (is_last_pair (take c.loop-k.k c.args.covered.now) c.args.last) m a c.args.profile.now
    c.loop-k.profile
    (subst (λ w. HasPlaces w c.args.profile.now) (sym count) c.requires.places) c.loop-k.invariant.scanned)

pub returns-clause-scanned : goal.returns-clause-scanned
returns-clause-scanned c =
    let covered = c.args.covered.now in
    subst (λ ds. IsScanned (is_last_pair ds c.args.last) c.args.m (series_of c.args.samples.now.items)
    c.args.profile.now
    c.loop-k.profile) (take_all c.loop-k.k covered (omega arith)) c.loop-k.invariant.scanned

pub extend-sum-requires-clause-sum : goal.extend-sum-requires-clause-sum
extend-sum-requires-clause-sum c =
    let m = c.args.m in
    let last = c.args.last in
    let k = c.loop-k.k in
    let d = get_or c.args.covered.now k 0 in
    let a = series_of c.args.samples.now.items in
    let value : sum_in c.args.sums.now d ≡ c.at.result =
    sym (c.at.ensures ∙ c.loop-k.invariant.rest k (omega arith) (omega arith)) in
    let place : last - 1 - d ≡ last - d - 1 = omega arith in
    subst (λ (items : List Sample). IsSumAt m (series_of items) (last - d - 1) (last - 1) c.at.result)
    (sym c.loop-k.invariant.read.items)
    (subst (λ i. IsSumAt m a i (last - 1) c.at.result) place
    (subst (λ s. IsSumAt m a (last - 1 - d) (last - 1) s) value (c.requires.sums.each k (omega arith))))

pub returns-clause-sums : goal.returns-clause-sums
returns-clause-sums c = record { each = λ q lt. c.loop-k.invariant.done q (omega (arith, lt)) }

use Rattle.std.proofs.Common.{◌-◌, ◌<◌, arith, get_or, length, refl, subst}
use Rattle.std.proofs.lemmas.List.{take_all}
use Rattle.mp_defs.specs.Series.{series_of}
use Rattle.mp_tiles.specs.Scanning.{IsScanned}
use Rattle.mp_anytime.specs.Kept.{is_last_pair}
use Rattle.mp_anytime.proofs.Reading.{last_pair_more, no_last_pair}
use Rattle.mp_anytime.proofs.RowPairs.{last_alone, row_count, row_places}
use Rattle.mp_anytime.proofs.offers.offer_some.Goals as goal

pub loop-k-init : goal.loop-k-init
loop-k-init c =
    let row = c.args.row.now in
    record {
      ready = c.requires.ready;
      scanned = no_last_pair row.last row.m (series_of row.samples.now.items) c.args.profile.now
          (row_places row.m row.samples.now.items row.last c.args.profile.now row.row.shortest row.row.within
          c.requires.ready.places);
    }

pub loop-k-preserved : goal.loop-k-preserved
loop-k-preserved c =
    let row = c.args.row.now in
    let items = row.samples.now.items in
    let listed = c.args.listed.now in
    let k = c.loop-k.k in
    let d = get_or listed k 0 in
    let lt : k < length listed = omega arith in
    let is = c.requires.covered k 0 lt in
    record {
      ready = c.offer_near.ensures.ready;
      scanned = last_pair_more listed k (row.last - d) row.last row.m (series_of items) c.args.profile.now
          c.loop-k.profile c.offer_near.new.profile lt refl is.within
          (row_count row.m items row.last row.row.shortest row.row.within)
          (row_places row.m items row.last c.args.profile.now row.row.shortest row.row.within c.requires.ready.places)
          c.loop-k.invariant.scanned
          (last_alone row.m items row.covered.now row.last d c.loop-k.profile c.offer_near.new.profile row.row.shortest
          row.row.within is.within is.is c.loop-k.invariant.ready.places c.offer_near.ensures.scanned);
    }

pub returns-clause-scanned : goal.returns-clause-scanned
returns-clause-scanned c =
    let row = c.args.row.now in
    subst (λ ds. IsScanned (is_last_pair ds row.last) row.m (series_of row.samples.now.items) c.args.profile.now
    c.loop-k.profile) (take_all c.loop-k.k c.args.listed.now (omega arith)) c.loop-k.invariant.scanned

use Rattle.std.proofs.Common.{◌≡◌, ◌+◌, arith, subst}
use Rattle.mp_defs.specs.Series.{series_of}
use Rattle.mp_tiles.specs.Scanning.{IsScanned}
use Rattle.mp_anytime.specs.Offers.{is_last_from}
use Rattle.mp_anytime.proofs.RowPairs.{none_from, then_from}
use Rattle.mp_anytime.proofs.offers.offer_each.Goals as goal

pub loop-diagonal-init : goal.loop-diagonal-init
loop-diagonal-init c =
    let row = c.args.row.now in
    record {
      ready = c.requires.ready;
      scanned = none_from row.m row.samples.now.items row.covered.now row.last c.args.first c.args.profile.now
          row.row.shortest row.row.within c.requires.ready.places;
    }

pub loop-diagonal-preserved : goal.loop-diagonal-preserved
loop-diagonal-preserved c =
    let row = c.args.row.now in
    record {
      ready = c.offer_near.ensures.ready;
      scanned = then_from row.m row.samples.now.items row.covered.now row.last c.args.first c.loop-diagonal.diagonal
          (c.loop-diagonal.diagonal + 1) c.args.profile.now c.loop-diagonal.profile c.offer_near.new.profile
          row.row.shortest row.row.within (omega arith) (omega arith) c.requires.ready.places
          c.loop-diagonal.invariant.scanned c.offer_near.ensures.scanned;
    }

pub returns-clause-scanned : goal.returns-clause-scanned
returns-clause-scanned c =
    let row = c.args.row.now in
    let all : c.loop-diagonal.diagonal ≡ c.args.end = omega arith in
    subst (λ end. IsScanned (is_last_from row.covered.now row.last c.args.first end) row.m
    (series_of row.samples.now.items) c.args.profile.now c.loop-diagonal.profile) all c.loop-diagonal.invariant.scanned

use Rattle.std.proofs.Common.{◌≡◌, ◌+◌, ◌-◌, ◌*◌, ◌/◌, arith, subst, sym}
use Rattle.mp_defs.specs.Series.{series_of}
use Rattle.mp_tiles.specs.Scanning.{IsScanned}
use Rattle.mp_anytime.specs.Offers.{is_last_from}
use Rattle.mp_anytime.proofs.RowPairs.{none_from, then_from}
use Rattle.mp_anytime.proofs.offers.offer_row.Goals as goal

pub loop-group-init : goal.loop-group-init
loop-group-init c =
    let row = c.args.row.now in
    let here : c.args.first ≡ c.args.first + 0 * 32 = omega arith in
    record {
      ready = c.requires.ready;
      scanned = subst (λ end. IsScanned (is_last_from row.covered.now row.last c.args.first end) row.m
          (series_of row.samples.now.items) c.args.profile.now c.args.profile.now) here
          (none_from row.m row.samples.now.items row.covered.now row.last c.args.first c.args.profile.now
          row.row.shortest row.row.within c.requires.ready.places);
    }

pub loop-group-preserved : goal.loop-group-preserved
loop-group-preserved c =
    let row = c.args.row.now in
    let first = c.args.first in
    let start = first + c.loop-group.group * 32 in
    let next : start + 32 ≡ first + (c.loop-group.group + 1) * 32 = omega arith in
    record {
      ready = c.offer_group.ensures.ready;
      scanned = subst (λ end. IsScanned (is_last_from row.covered.now row.last first end) row.m
          (series_of row.samples.now.items) c.args.profile.now c.offer_group.new.profile) next
          (then_from row.m row.samples.now.items row.covered.now row.last first start (start + 32) c.args.profile.now
          c.loop-group.profile c.offer_group.new.profile row.row.shortest row.row.within (omega arith) (omega arith)
          c.requires.ready.places c.loop-group.invariant.scanned c.offer_group.ensures.scanned);
    }

pub returns-clause-scanned : goal.returns-clause-scanned
returns-clause-scanned c =
    let row = c.args.row.now in
    let first = c.args.first in
    let start = first + c.loop-group.group * 32 in
    let all : c.loop-group.group ≡ (row.last - first) / 32 =
    omega (arith, c.loop-group-test.false, c.loop-group.auto.group-end) in
    let last = subst (λ n. IsScanned (is_last_from row.covered.now row.last (first + n * 32) row.last) row.m
    (series_of row.samples.now.items) c.loop-group.profile c.offer_group-2.new.profile) (sym all)
    c.offer_group-2.ensures.scanned in
    then_from row.m row.samples.now.items row.covered.now row.last first start row.last c.args.profile.now
    c.loop-group.profile c.offer_group-2.new.profile row.row.shortest row.row.within (omega arith)
    (omega (arith, c.requires.order, all)) c.requires.ready.places c.loop-group.invariant.scanned last

use Rattle.std.proofs.Common.{◌+◌, arith}
use Rattle.mp_scans.specs.Blocks.{in_pair}
use Rattle.mp_scans.proofs.LimitLemmas.{kept_stays, columns_on}
use Rattle.mp_scans.proofs.StripLemmas.{scanned_next, first_columns, next_column, taken_column, all_columns}
use Rattle.mp_scans.proofs.pairs.take_row.Goals as goal

pub loop-t-init : goal.loop-t-init
loop-t-init g c =
    let strip = c.args.strip.now in
    let b = strip.block in
    let place = c.args.row.now.place in
    let first = b.column + (place + strip.offset) in
    let best = c.least_lane-nearest.result in
    let is = c.pair_at-first.ensures in
    let next = c.next_clear-t.ensures in
    let known = rw is.row at c.take_pair.ensures.known in
    record {
      within = next.within;
      scanned = columns_on g.met.O.Offers.limits g.met.O.Offers.laws b place (place + strip.offset)
          c.columns_above-above.result (first + best) 0 c.next_clear-t.result _ _ (omega (arith, c.requires.apart))
          (omega arith) (omega (arith, next.within, c.args.row.now.narrow)) c.requires.known.places known.places
          c.columns_above-above.ensures.kept next.set
          (g.met.O.Offers.laws.same _ _ _ _ _ _ _ c.requires.known.places c.take_pair.ensures.scanned
          (λ i j _ _. first_columns (b.row + place) first (first + best) (b.row + c.pair_at-first.result.row)
          (b.column + c.pair_at-first.result.column) i j (omega (arith, is.row)) (omega (arith, is.column))));
      kept = c.columns_above-above.ensures.kept;
      known = known;
    }

pub loop-t-preserved-then-is_other : goal.loop-t-preserved-then-is_other
loop-t-preserved-then-is_other g c =
    let before = c.loop-t.invariant in
    let strip = c.args.strip.now in
    let b = strip.block in
    let place = c.args.row.now.place in
    let first = b.column + (place + strip.offset) in
    let best = c.least_lane-nearest.result in
    let t = c.loop-t.t in
    let next = c.next_clear-next.ensures in
    let one = c.take_pair-then-is_other.ensures in
    let pair = c.pair_at-pair.result in
    let is = c.pair_at-pair.ensures in
    let known = rw is.row at one.known in
    let kept = kept_stays g.met.O.Offers.limits b (in_pair b pair) _ _ place (place + strip.offset)
    c.columns_above-above.result before.known.places one.scanned before.kept in
    record {
      within = next.within;
      scanned = columns_on g.met.O.Offers.limits g.met.O.Offers.laws b place (place + strip.offset)
          c.columns_above-above.result (first + best) (t + 1) c.next_clear-next.result _ _
          (omega (arith, c.requires.apart)) next.behind (omega (arith, next.within, c.args.row.now.narrow))
          c.requires.known.places known.places kept next.set
          (scanned_next g.met.O.Offers.laws b.grid _ _ _ _ _ _ c.requires.known.places before.scanned one.scanned
          (λ i j _ _. next_column (b.row + place) first t (first + best) (b.row + pair.row) (b.column + pair.column)
          i j (omega (arith, is.row)) (omega (arith, is.column))));
      kept = kept;
      known = known;
    }

pub loop-t-preserved : goal.loop-t-preserved
loop-t-preserved g c =
    let before = c.loop-t.invariant in
    let strip = c.args.strip.now in
    let b = strip.block in
    let place = c.args.row.now.place in
    let first = b.column + (place + strip.offset) in
    let best = c.least_lane-nearest.result in
    let next = c.next_clear-next.ensures in
    record {
      within = next.within;
      scanned = columns_on g.met.O.Offers.limits g.met.O.Offers.laws b place (place + strip.offset)
          c.columns_above-above.result (first + best) (c.loop-t.t + 1) c.next_clear-next.result _ _
          (omega (arith, c.requires.apart)) next.behind (omega (arith, next.within, c.args.row.now.narrow))
          c.requires.known.places before.known.places before.kept next.set
          (g.met.O.Offers.laws.same _ _ _ _ _ _ _ c.requires.known.places before.scanned
          (λ i j _ _. taken_column (b.row + place) first c.loop-t.t (first + best) i j
          (omega (arith, c.is_other.ensures.same c.if-is_other.false))));
      kept = before.kept;
      known = before.known;
    }

pub returns-clause-scanned : goal.returns-clause-scanned
returns-clause-scanned g c =
    let b = c.args.strip.now.block in
    let first = b.column + (c.args.row.now.place + c.args.strip.now.offset) in
    g.met.O.Offers.laws.same _ _ _ _ _ _ _ c.requires.known.places c.loop-t.invariant.scanned
    (λ i j _ _. all_columns (b.row + c.args.row.now.place) first c.loop-t.t c.least_lane-nearest.result
    c.args.row.now.width i j (omega (arith, c.least_lane-nearest.ensures))
    (omega (arith, c.loop-t-test.false, c.loop-t.invariant.within)))

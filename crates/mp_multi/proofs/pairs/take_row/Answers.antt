use Rattle.std.proofs.Common.{subst, sym, ◌+◌, ◌-◌, ◌<◌, ◌∙◌, arith, rules}
use Rattle.mp_scans.specs.Offering.{in_row}
use Rattle.mp_multi.specs.Blocks.{channels_of, IsPairOf, in_pair, in_strip, AreLimitsAt}
use Rattle.mp_multi.proofs.BlockPairs.{no_columns, next_column, row_in_strip}
use Rattle.mp_multi.proofs.PairScans.{scan_none, scan_then, scan_same}
use Rattle.mp_multi.proofs.RunLemmas.{lane_at}
use Rattle.mp_multi.proofs.pairs.take_row.Goals as goal

pub loop-t-init : goal.loop-t-init
loop-t-init g c =
    let strip = c.args.strip.now in
    let b = strip.block in
    let ch = b.plan.channels in
    let first = b.column + (c.args.p + strip.offset) in
    record {
      windows = c.requires.windows;
      limits = c.requires.limits;
      kept = c.requires.kept;
      scanned = scan_none ch.m ch.k ch.list.now (in_row (b.row + c.args.p) first (first + 0)) c.args.into.now
          (c.requires.windows ∙ b.all_windows) (λ i j. no_columns (b.row + c.args.p) first i j);
    }

pub take_pair-requires : goal.take_pair-requires
take_pair-requires g c =
    let strip = c.args.strip.now in
    let b = strip.block in
    let t = c.loop-t.t in
    let pair = c.pair_at-pair.result in
    let is = c.pair_at-pair.ensures in
    let small : t < 32 = omega (arith, c.min-width.ensures, strip.narrow) in
    let is_pair : IsPairOf strip pair = record {
      row = omega (arith, is.row, c.requires.row.place);
      first = omega (arith, is.row, is.column);
      last = omega (arith, is.row, is.column, small);
      is_column = omega (arith, is.column, c.min-width.ensures);
      lane = lane_at b.plan.channels.m b.plan.channels.k b.plan.shift (channels_of b.plan) (b.row + c.args.p)
          (b.row + pair.row) (b.column + (c.args.p + strip.offset) + t) (b.column + pair.column) _ _
          (omega (arith, is.row)) (omega (arith, is.column)) is.lane (c.requires.row.of_columns.each t small);
    } in (
      search rules,
      (
        search rules,
        (
          is_pair,
          (
            c.loop-t.invariant.windows,
            (
              subst (λ n. AreLimitsAt strip n c.loop-t.known c.loop-t.into.items) (sym is.row)
                  c.loop-t.invariant.limits,
              c.loop-t.invariant.kept,
            ),
          ),
        ),
      ),
    )

pub loop-t-preserved : goal.loop-t-preserved
loop-t-preserved g c =
    let strip = c.args.strip.now in
    let b = strip.block in
    let ch = b.plan.channels in
    let first = b.column + (c.args.p + strip.offset) in
    let t = c.loop-t.t in
    let pair = c.pair_at-pair.result in
    let is = c.pair_at-pair.ensures in
    record {
      windows = c.take_pair.ensures.windows;
      limits = subst (λ n. AreLimitsAt strip n c.take_pair.new.known c.take_pair.new.into.items) is.row
          c.take_pair.ensures.limits;
      kept = c.take_pair.ensures.kept;
      scanned = scan_then ch.m ch.k ch.list.now (in_row (b.row + c.args.p) first (first + t)) (in_pair b pair)
          (in_row (b.row + c.args.p) first (first + (t + 1))) _ _ _ c.loop-t.invariant.scanned
          c.take_pair.ensures.scanned
          (λ i j _ _. next_column (b.row + c.args.p) first t (b.row + pair.row) (b.column + pair.column) i j
          (omega (arith, is.row)) (omega (arith, is.column)));
    }

pub returns-clause-scanned : goal.returns-clause-scanned
returns-clause-scanned g c =
    let strip = c.args.strip.now in
    let b = strip.block in
    let ch = b.plan.channels in
    let p = c.args.p in
    let first = b.column + (p + strip.offset) in
    scan_same ch.m ch.k ch.list.now (in_row (b.row + p) first (first + c.loop-t.t)) (in_strip strip p (p + 1)) _ _
    c.loop-t.invariant.scanned
    (λ i j _ lt. row_in_strip b.row p (b.column - b.row + strip.offset) strip.width first c.loop-t.t b.windows i j
    (omega (arith, b.order)) (omega (arith, c.min-width.ensures)) (omega (arith, lt, b.all_windows)))

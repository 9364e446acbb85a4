use Rattle.std.proofs.Common.{◌+◌, arith, rules, w32, FitsSigned}
use Rattle.std.proofs.lemmas.Int.{ints}
use Rattle.mp_sums.specs.Residues.{item}
use Rattle.mp_scans.specs.Lanes.{IsAbove}
use Rattle.mp_scans.specs.Limiting.{first_row}
use Rattle.mp_scans.specs.Offering.{only}
use Rattle.mp_multi.proofs.LimitLemmas.{limits_stay, row_anew, column_anew, pair_scanned, quiet_above, row_is_first}
use Rattle.mp_multi.proofs.pairs.take_pair.Goals as goal

pub returns-then-passes : goal.returns-then-passes
returns-then-passes g c =
    let strip = c.args.strip.now in
    let b = strip.block in
    let pair = c.args.pair in
    let is = c.requires.pair in
    let first = first_row strip.offset pair.row in
    let limits = limits_stay b (only (b.row + pair.row) (b.column + pair.column)) c.args.into.now
    c.offer_pair.new.into first c.args.known.now c.requires.windows c.offer_pair.ensures.scanned c.requires.limits in
    record {
      scanned = c.offer_pair.ensures.scanned;
      limits = record {
        rows = row_anew b _ _ pair.row _ (omega (arith, is.row, strip.rows, b.few_rows)) limits.rows
            c.window_limit.ensures;
        columns = column_anew b first _ _ pair.column (b.row + pair.row) _
            (omega (arith, is.row, is.last, strip.rows, b.few_rows, strip.diagonals))
            (omega (arith, row_is_first strip.offset pair.row pair.column is.first is.last)) limits.columns
            c.window_limit-then-passes.ensures;
      };
      windows = c.offer_pair.ensures.windows;
      kept = c.offer_pair.ensures.kept;
    }

pub returns-else-passes : goal.returns-else-passes
returns-else-passes g c =
    let strip = c.args.strip.now in
    let b = strip.block in
    let pair = c.args.pair in
    let is = c.requires.pair in
    let known = c.args.known.now in
    let row : FitsSigned w32 (item known.rows pair.row) = search rules in
    let column : FitsSigned w32 (item known.columns pair.column) = search rules in
    let above : IsAbove (item known.rows pair.row) (item known.columns pair.column) pair.lane = (
      omega (arith, ints, row, c.passes.ensures.row c.if-passes.false),
      omega (arith, ints, column, c.passes.ensures.column c.if-passes.false),
    ) in
    record {
      scanned = pair_scanned b (b.row + pair.row) (b.column + pair.column) c.args.into.now c.requires.windows
          (quiet_above b c.args.into.now.items (b.row + pair.row) (b.column + pair.column) (b.column + pair.row)
          (b.row + first_row strip.offset pair.row pair.column) _ _ (omega (arith, is.first))
          (omega (arith, row_is_first strip.offset pair.row pair.column is.first is.last))
          (c.requires.limits.rows.each pair.row (omega (arith, is.row, strip.rows)))
          (c.requires.limits.columns.each pair.column
          (omega (arith, is.row, is.last, strip.rows, b.few_rows, strip.diagonals)) is.is_column)
          (record { lane = pair.lane; is = is.lane; above = above }));
      limits = c.requires.limits;
      windows = c.requires.windows;
      kept = c.requires.kept;
    }

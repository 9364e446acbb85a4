use Rattle.std.proofs.Common.{◌≡◌, ◌≤◌, map}
use Rattle.std.specs.Prelude.{vec_capacity, vec_len}
use Rattle.std.specs.List.{range_with_len}
use Rattle.mp_defs.specs.Series.{series_of}
use Rattle.mp_results.specs.Pan.{pan_row}
use Rattle.mp_pan.proofs.rows.rows_of.Given as goal

abbrev pub invariant-loop-place : goal.invariant-loop-place
invariant-loop-place l =
    record {
      items : l.rows.items ≡ map (pan_row (series_of l.range.samples.now)) (range_with_len l.range.lo l.place);
      count : vec_len l.rows ≡ l.place;
      room : l.range.count ≤ vec_capacity l.rows;
    }

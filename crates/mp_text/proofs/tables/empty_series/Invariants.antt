use Rattle.std.proofs.Common.{◌≡◌, [], replicate, vec_len}
use Rattle.mp_text.specs.Gathering.{series_in}
use Rattle.mp_text.proofs.tables.empty_series.Given as goal

abbrev pub invariant-loop : goal.invariant-loop
invariant-loop l = record {
  len : vec_len l.series ≡ l.counter;
  empty : series_in l.series ≡ replicate l.counter [];
}

use Rattle.std.proofs.Common.{◌≡◌, ◌∷◌, ◌++◌, [], List, None, length, take, drop, map, vec_len}
use Rattle.csv.specs.Records.{fields_of}
use Rattle.mp_text.specs.Gathering.{column_of, record_fault, series_in}
use Rattle.mp_text.specs.Table.{Fields}
use Rattle.mp_text.specs.SampleText.{reading}
use Rattle.mp_text.proofs.tables.gather.Given as goal

abbrev pub invariant-loop-k : goal.invariant-loop-k
invariant-loop-k l = record {
  len : vec_len l.series ≡ length l.columns;
  fine : record_fault (reading l.width l.scale) l.number (fields_of l.row) (take l.k l.columns) ≡ None;
  series : (rows : List Fields) → series_in l.initial.series ≡ map (column_of (reading l.width l.scale) rows) l.columns
      → series_in l.series
      ≡ map (column_of (reading l.width l.scale) (rows ++ fields_of l.row ∷ [])) (take l.k l.columns)
      ++ map (column_of (reading l.width l.scale) rows) (drop l.k l.columns);
}

use Rattle.std.proofs.Common.{◌≡◌, length, vec_len}
use Rattle.mp_text.specs.Records.{IsBetweenRecords, records_left}
use Rattle.mp_text.specs.Gathering.{series_in}
use Rattle.mp_text.specs.SampleText.{reading}
use Rattle.mp_text.proofs.TableLemmas.{Gathered}
use Rattle.mp_text.proofs.tables.read_rows.Given as goal

abbrev pub invariant-loop-number : goal.invariant-loop-number
invariant-loop-number l = record {
  between : IsBetweenRecords l.reader;
  len : vec_len l.series ≡ length l.columns;
  gathered : Gathered (reading l.width l.scale) l.columns (records_left l.initial.reader)
      (records_left l.reader) l.number
      (series_in l.series);
}

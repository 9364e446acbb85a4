use Rattle.std.proofs.Common.{◌≡◌, ◌∙◌, true, false, [], arith}
use Rattle.csv.specs.Records.{fields_of}
use Rattle.mp_text.specs.Records.{records_left}
use Rattle.mp_text.specs.Gathering.{series_in}
use Rattle.mp_text.specs.SampleText.{reading}
use Rattle.mp_text.proofs.TableLemmas.{found_part, gathered_more, gathered_none, none_part, whole_table}
use Rattle.mp_text.proofs.tables.read_rows.Goals as goal

pub loop-number-init : goal.loop-number-init
loop-number-init c = record {
  between = c.requires.between;
  len = c.in_ok-series.ensures.len;
  gathered =
      gathered_none (reading c.args.width c.args.scale) c.args.columns.now (records_left c.args.reader.now)
      (series_in c.in_ok-series.series)
      c.in_ok-series.ensures.empty;
}

pub loop-number-preserved : goal.loop-number-preserved
loop-number-preserved c =
    let found : c.in_ok-read_record.field-0 ≡ true = grind arith in
    record {
      between = c.in_ok-read_record.ensures.between found;
      len = c.in_ok-gather.ensures.len ∙ c.loop-number.invariant.len;
      gathered =
          gathered_more (reading c.args.width c.args.scale) c.args.columns.now (records_left c.args.reader.now)
          (records_left c.loop-number.reader) (records_left c.read_record.new.reader)
          (fields_of c.read_record.new.row) c.loop-number.number (series_in c.loop-number.series)
          (series_in c.gather.new.series) c.loop-number.invariant.gathered
          (found_part c.in_ok-read_record.field-0 _ _ found c.in_ok-read_record.ensures.next) (omega arith)
          c.in_ok-gather.ensures.fine c.in_ok-gather.ensures.series;
    }

pub returns-then-not-branch-clause-table : goal.returns-then-not-branch-clause-table
returns-then-not-branch-clause-table c =
    let none : c.in_ok-read_record.field-0 ≡ false = grind arith in
    let left : records_left c.loop-number.reader ≡ [] =
    none_part c.in_ok-read_record.field-0 _ _ none c.in_ok-read_record.ensures.next in
    whole_table (reading c.args.width c.args.scale) c.args.columns.now (records_left c.args.reader.now)
    (records_left c.loop-number.reader)
    c.loop-number.number c.loop-number.series.items c.from.result c.loop-number.invariant.gathered
    left c.from.ensures

pub returns-clause-table : goal.returns-clause-table
returns-clause-table c =
    let none : c.in_ok-read_record-2.field-0 ≡ false = grind arith in
    let left : records_left c.loop-number.reader ≡ [] =
    none_part c.in_ok-read_record-2.field-0 _ _ none c.in_ok-read_record-2.ensures.next in
    whole_table (reading c.args.width c.args.scale) c.args.columns.now (records_left c.args.reader.now)
    (records_left c.loop-number.reader)
    c.loop-number.number c.loop-number.series.items c.from-2.result c.loop-number.invariant.gathered left
    c.from-2.ensures

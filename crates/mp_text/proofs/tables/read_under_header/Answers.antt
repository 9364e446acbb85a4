use Rattle.std.proofs.Common.{◌≡◌, ◌∙◌, false, List, Ok, [], drop, ap, sym, arith}
use Rattle.mp_text.specs.Records.{records_left}
use Rattle.mp_text.specs.Gathering.{series_in, gathered_of}
use Rattle.mp_text.specs.Table.{Fields}
use Rattle.mp_text.specs.SampleText.{reading}
use Rattle.mp_text.proofs.TableLemmas.{bundled, none_part, gathered_of-none}
use Rattle.mp_text.proofs.tables.read_under_header.Goals as goal

pub returns-then-not-branch-clause-table : goal.returns-then-not-branch-clause-table
returns-then-not-branch-clause-table c =
    let none : c.in_ok-read_record.field-0 ≡ false = grind arith in
    let empty : records_left c.args.reader.now ≡ [] =
    none_part c.in_ok-read_record.field-0 _ _ none c.in_ok-read_record.ensures.next in
    ap (λ (rows : List Fields). gathered_of (reading c.args.width c.args.scale) c.args.columns.now (drop 1 rows)) empty
    ∙ gathered_of-none (reading c.args.width c.args.scale) c.args.columns.now
    (series_in c.in_ok-series.series) c.in_ok-series.ensures.empty
    ∙ ap Ok (sym (bundled c.in_ok-series.series.items c.from.result c.from.ensures))

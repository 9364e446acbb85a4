use Rattle.std.proofs.Common.{◌≡◌, List, drop, ap}
use Rattle.mp_text.specs.Records.{records_left}
use Rattle.mp_text.specs.Table.{Fields, data_records}
use Rattle.mp_text.specs.SampleText.{reading}
use Rattle.mp_text.proofs.TableBridge.{faults_by, tables_by}
use Rattle.mp_text.proofs.tables.read_table.Goals as goal

pub returns-then-header-clause-table : goal.returns-then-header-clause-table
returns-then-header-clause-table c =
    let left : drop 1 (records_left c.open_records-reader.result) ≡ data_records c.args.header c.args.text.now =
    rw c.if-header.true (ap (λ (rows : List Fields). drop 1 rows) c.open_records-reader.ensures.left) in
    tables_by (reading c.args.width c.args.scale) c.args.columns.now _ _ c.read_under_header.result left
    c.read_under_header.ensures.table

pub returns-then-header-clause-fault : goal.returns-then-header-clause-fault
returns-then-header-clause-fault c =
    let left : drop 1 (records_left c.open_records-reader.result) ≡ data_records c.args.header c.args.text.now =
    rw c.if-header.true (ap (λ (rows : List Fields). drop 1 rows) c.open_records-reader.ensures.left) in
    faults_by (reading c.args.width c.args.scale) c.args.columns.now _ _ c.read_under_header.result left
    c.read_under_header.ensures.fault

pub returns-clause-table : goal.returns-clause-table
returns-clause-table c =
    let left : records_left c.open_records-reader.result ≡ data_records c.args.header c.args.text.now =
    rw c.if-header.false c.open_records-reader.ensures.left in
    tables_by (reading c.args.width c.args.scale) c.args.columns.now _ _ c.read_rows.result left
    c.read_rows.ensures.table

pub returns-clause-fault : goal.returns-clause-fault
returns-clause-fault c =
    let left : records_left c.open_records-reader.result ≡ data_records c.args.header c.args.text.now =
    rw c.if-header.false c.open_records-reader.ensures.left in
    faults_by (reading c.args.width c.args.scale) c.args.columns.now _ _ c.read_rows.result left
    c.read_rows.ensures.fault

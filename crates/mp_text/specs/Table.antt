-- A table: the samples in some columns of the records of a text.
use Rattle.std.specs.Prelude.{◌+◌, ◌==◌, ℕ, ℤ, Bool, List, [], ◌∷◌, drop, length, Option, Some, None, Result, Ok, Err}
use Rattle.std.specs.Prelude.{if◌then◌else◌}
use Rattle.csv.specs.Reading.{default_config, records, strip_bom}
use Rattle.csv.specs.Records.{field_at}
use Rattle.mp_defs.specs.Limits.{max_samples}
use Rattle.mp_defs.specs.Series.{Series}
use Rattle.mp_text.specs.Rows.{Row, onto, columns_of}
use Rattle.mp_text.specs.declared.refusal.SampleFault.{SampleFault}
use Rattle.mp_text.specs.declared.refusal.TableFault.{TableFault}
use Rattle.mp_text.specs.declared.refusal.TableFault.TheVariants as table

-- the fields of a record
abbrev pub Fields : Type 0
Fields = List (List ℕ)

-- the records of a text that are no header
abbrev pub data_records : Bool → List ℕ → List Fields
data_records header text =
    if header then drop 1 (records default_config (strip_bom text)) else records default_config (strip_bom text)

-- why these are no table, with the number of a record, counted from 1, and a column, counted from 0
pub data Fault : Type 0 where
  -- the field is no sample
  BadField : (number column : ℕ) (fault : SampleFault) → Fault
  -- the record has no such field
  NoField : (number column : ℕ) → Fault
  -- there are more records than a series has samples
  TooManyRows : Fault

-- ---- one field

-- how a field is read: as a sample, or its fault
abbrev pub Reader : Type 0
Reader = List ℕ → Result (Option ℤ) SampleFault

abbrev pub judged : ℕ → ℕ → Result (Option ℤ) SampleFault → Result (Option ℤ) Fault
judged number column (Ok sample) = Ok sample
judged number column (Err fault) = Err (BadField number column fault)

-- the sample of a record's field in a column, or its fault
abbrev pub cell_of : Reader → ℕ → ℕ → Option (List ℕ) → Result (Option ℤ) Fault
cell_of read number column None = Err (NoField number column)
cell_of read number column (Some text) = judged number column (read text)

-- ---- records in their order, and in each the columns in theirs

-- the samples of a record in these columns, or its first fault
abbrev pub row_of : Reader → ℕ → Fields → List ℕ → Result Row Fault
row_of read number fields [] = Ok []
row_of read number fields (column ∷ columns) =
    onto (cell_of read number column (field_at fields column)) (row_of read number fields columns)

-- the same of some records, of which the first has this number
abbrev pub rows_of : Reader → List ℕ → ℕ → List Fields → Result (List Row) Fault
rows_of read columns number [] = Ok []
rows_of read columns number (fields ∷ rest) =
    if number == max_samples + 1 then Err TooManyRows
    else onto (row_of read number fields columns) (rows_of read columns (number + 1) rest)

abbrev pub in_columns : ℕ → Result (List Row) Fault → Result (List Series) Fault
in_columns count (Ok rows) = Ok (columns_of count rows)
in_columns count (Err fault) = Err fault

-- a series for each of these columns, or the first fault
abbrev pub table_of : Reader → List ℕ → List Fields → Result (List Series) Fault
table_of read columns rows = in_columns (length columns) (rows_of read columns 1 rows)

-- what a fault of the program tells of the table, nothing where there was no memory
abbrev pub told : TableFault → Option Fault
told (table.Record number column fault) = Some (BadField number column fault)
told (table.NoField number column) = Some (NoField number column)
told table.Rows = Some TooManyRows
told table.Memory = None

-- How a table is gathered: its first fault, and the samples of each column where it has none.
use Rattle.std.specs.Prelude.{◌+◌, ◌==◌, ℕ, ℤ, List, [], ◌∷◌, map, Option, Some, None, Result, Ok, Err, ◌++◌}
use Rattle.std.specs.Prelude.{slice_set, slice_index_or, if◌then◌else◌}
use Rattle.csv.specs.Records.{field_at}
use Rattle.std.specs.declared.vec.Vec.{Vec}
use Rattle.std.specs.declared.alloc.Global.{Global}
use Rattle.mp_nums.specs.declared.samples.Sample.{Sample}
use Rattle.mp_defs.specs.Limits.{max_samples}
use Rattle.mp_defs.specs.Series.{Series, series_of}
use Rattle.mp_text.specs.Table.{Fields, Reader}
use Rattle.mp_text.specs.declared.refusal.SampleFault.{SampleFault}
use Rattle.mp_text.specs.declared.refusal.TableFault.{TableFault}
use Rattle.mp_text.specs.declared.refusal.TableFault.TheVariants as table

-- ---- one field

abbrev pub reading_fault : ℕ → ℕ → Result (Option ℤ) SampleFault → Option TableFault
reading_fault number column (Ok sample) = None
reading_fault number column (Err fault) = Some (table.Record number column fault)

-- the fault of a record's field at a column
abbrev pub cell_fault : Reader → ℕ → ℕ → Option (List ℕ) → Option TableFault
cell_fault read number column None = Some (table.NoField number column)
cell_fault read number column (Some text) = reading_fault number column (read text)

abbrev pub sample_in : Result (Option ℤ) SampleFault → Option ℤ
sample_in (Ok sample) = sample
sample_in (Err fault) = None

-- the sample of a field that has no fault
abbrev pub cell : Reader → Option (List ℕ) → Option ℤ
cell read None = None
cell read (Some text) = sample_in (read text)

-- ---- the first fault, in the order of records and of columns

abbrev pub first_fault : Option TableFault → Option TableFault → Option TableFault
first_fault None later = later
first_fault (Some fault) later = Some fault

abbrev pub record_fault : Reader → ℕ → Fields → List ℕ → Option TableFault
record_fault read number fields [] = None
record_fault read number fields (column ∷ columns) =
    first_fault (cell_fault read number column (field_at fields column)) (record_fault read number fields columns)

-- the first fault of these records, of which the first has this number
abbrev pub table_fault : Reader → List ℕ → ℕ → List Fields → Option TableFault
table_fault read columns number [] = None
table_fault read columns number (fields ∷ rest) =
    if number == max_samples + 1 then Some table.Rows
    else first_fault (record_fault read number fields columns) (table_fault read columns (number + 1) rest)

-- ---- the columns

-- the samples of the records in a column
abbrev pub column_of : Reader → List Fields → ℕ → Series
column_of read rows column = map (λ fields. cell read (field_at fields column)) rows

abbrev pub unless_faulty : Option TableFault → List Series → Result (List Series) TableFault
unless_faulty None columns = Ok columns
unless_faulty (Some fault) columns = Err fault

-- a series for each of these columns, or the first fault
abbrev pub gathered_of : Reader → List ℕ → List Fields → Result (List Series) TableFault
gathered_of read columns rows = unless_faulty (table_fault read columns 1 rows) (map (column_of read rows) columns)

-- ---- series that are gathered

abbrev pub series_in : Vec (Vec Sample Global) Global → List Series
series_in gathered = map (λ series. series_of series.items) gathered.items

-- one sample more at the end of series k
abbrev pub added : List Series → ℕ → Option ℤ → List Series
added series k sample = slice_set series k (slice_index_or series k [] ++ sample ∷ [])

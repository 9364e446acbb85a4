-- What holds of the fault of every table.
use Rattle.std.specs.Prelude.{◌≡◌, ℕ, ℤ, ◌+◌, ◌-◌, ◌<◌, ◌≤◌, List, [], length, slice_index_or, Option, IsOk, Result}
use Rattle.std.specs.Prelude.{Err}
use Rattle.csv.specs.Records.{field_at}
use Rattle.mp_defs.specs.Limits.{max_samples}
use Rattle.mp_text.specs.Table.{Reader, Fault, BadField, NoField, TooManyRows, Fields, cell_of, row_of, table_of}

-- the number of the record with the fault, counted from 1
abbrev pub record_of : Fault → ℕ
record_of (BadField number column fault) = number
record_of (NoField number column) = number
record_of TooManyRows = max_samples + 1

-- each earlier record is good, and the fault is that of this one, or this one is one too many
pub record IsFirstFault (read : Reader) (columns : List ℕ) (records : List Fields) (fault : Fault) : Type 0 where
  pub some : 0 < record_of fault
  pub within : record_of fault ≤ length records
  pub few : record_of fault ≤ max_samples + 1
  pub good_before : (k : ℕ) → k + 1 < record_of fault
      → IsOk (row_of read (k + 1) (slice_index_or records k []) columns)
  pub is_faulty : record_of fault ≤ max_samples
      → row_of read (record_of fault) (slice_index_or records (record_of fault - 1) []) columns ≡ Err fault

-- the sample of a record's field in the column at a place among some, or its fault
abbrev pub cell_at : Reader → ℕ → Fields → List ℕ → ℕ → Result (Option ℤ) Fault
cell_at read number fields columns place =
    cell_of read number (slice_index_or columns place 0) (field_at fields (slice_index_or columns place 0))

-- in each earlier column the record's field is good, and the fault is that of this one
pub record IsFirstBadField (read : Reader) (number : ℕ) (fields : Fields) (columns : List ℕ)
    (fault : Fault) : Type 0 where
  pub place : ℕ
  pub within : place < length columns
  pub good_before : (k : ℕ) → k < place → IsOk (cell_at read number fields columns k)
  pub is_faulty : cell_at read number fields columns place ≡ Err fault

pub record TableFaultsAreTheFirst : Type 0 where
  pub of_records : (read : Reader) (columns : List ℕ) (records : List Fields) (fault : Fault)
      → table_of read columns records ≡ Err fault
      → IsFirstFault read columns records fault
  pub of_fields : (read : Reader) (number : ℕ) (fields : Fields) (columns : List ℕ) (fault : Fault)
      → row_of read number fields columns ≡ Err fault
      → IsFirstBadField read number fields columns fault

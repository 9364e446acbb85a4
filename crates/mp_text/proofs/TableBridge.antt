-- The table is what is gathered of it, and its fault is the first that is met.
use Rattle.std.proofs.Common.{◌≡◌, ℕ, ◌+◌, Bool, true, false, List, [], ◌∷◌, ◌++◌, length, get_or, map, refl, sym, ap}
use Rattle.std.proofs.Common.{◌∙◌, arith, append_assoc, Option, Some, None, Result, Ok, Err, ◌==◌, ◌≢◌, if◌then◌else◌}
use Rattle.std.specs.Prelude.{ℤ, IfOk}
use Rattle.std.specs.Result.{IfErr}
use Rattle.std.specs.List.{range_with_len}
use Rattle.std.proofs.lemmas.List.{map-append, length-map}
use Rattle.std.proofs.Math.Seq.{get_or-append_seam}
use Rattle.csv.specs.Records.{field_at}
use Rattle.mp_defs.specs.Limits.{max_samples}
use Rattle.mp_nums.specs.declared.samples.Sample.{Sample}
use Rattle.mp_defs.specs.Series.{Series, series_of}
use Rattle.mp_text.specs.declared.refusal.SampleFault.{SampleFault}
use Rattle.mp_text.specs.declared.refusal.TableFault.{TableFault}
use Rattle.mp_text.specs.declared.refusal.TableFault.TheVariants as table
use Rattle.mp_text.specs.Rows.{Row, onto, column_at, columns_of}
use Rattle.mp_text.specs.Table.{Fault, BadField, NoField, TooManyRows, Fields, Reader, judged, cell_of, row_of}
use Rattle.mp_text.specs.Table.{rows_of, in_columns, table_of, told}
use Rattle.mp_text.specs.Gathering.{cell, cell_fault, column_of, first_fault, gathered_of, reading_fault, record_fault}
use Rattle.mp_text.specs.Gathering.{sample_in, table_fault, unless_faulty}

-- the fault of a table, of which want of memory is none
seen : TableFault → Fault
seen (table.Record number column fault) = BadField number column fault
seen (table.NoField number column) = NoField number column
seen table.Rows = TooManyRows
seen table.Memory = TooManyRows

by_fault : {A : Type 0} → Option TableFault → A → Result A Fault
by_fault None x = Ok x
by_fault (Some fault) x = Err (seen fault)

-- ---- one field

judged_by : (number column : ℕ) (r : Result (Option ℤ) SampleFault)
    → judged number column r ≡ by_fault (reading_fault number column r) (sample_in r)
unfolding seen by_fault
judged_by number column (Ok sample) = refl
judged_by number column (Err fault) = refl

cell_by : (read : Reader) (number column : ℕ) (field : Option (List ℕ))
    → cell_of read number column field ≡ by_fault (cell_fault read number column field) (cell read field)
unfolding seen by_fault
cell_by read number column None = refl
cell_by read number column (Some text) = judged_by number column (read text)

-- ---- one record

onto_by : {A : Type 0} (one : Option TableFault) (x : A) (others : Option TableFault) (xs : List A)
    → onto (by_fault one x) (by_fault others xs) ≡ by_fault (first_fault one others) (x ∷ xs)
unfolding by_fault
onto_by None x None xs = refl
onto_by None x (Some fault) xs = refl
onto_by (Some fault) x others xs = refl

-- the samples of a record's fields, where none has a fault
cells : Reader → List ℕ → Fields → Row
cells read columns fields = map (λ column. cell read (field_at fields column)) columns

row_by : (read : Reader) (number : ℕ) (fields : Fields) (columns : List ℕ)
    → row_of read number fields columns
    ≡ by_fault (record_fault read number fields columns) (cells read columns fields)
unfolding by_fault cells
row_by read number fields [] = refl
row_by read number fields (column ∷ columns) =
    rw (cell_by read number column (field_at fields column), row_by read number fields columns)
    (onto_by (cell_fault read number column (field_at fields column)) (cell read (field_at fields column))
    (record_fault read number fields columns) (cells read columns fields))

-- ---- records in turn

past_by : (read : Reader) (columns : List ℕ) (number : ℕ) (fields : Fields) (rest : List Fields) (past : Bool)
    → rows_of read columns (number + 1) rest
    ≡ by_fault (table_fault read columns (number + 1) rest) (map (cells read columns) rest)
    → (if past then Err TooManyRows
    else onto (row_of read number fields columns) (rows_of read columns (number + 1) rest))
    ≡ by_fault (if past then Some table.Rows
    else first_fault (record_fault read number fields columns) (table_fault read columns (number + 1) rest))
    (cells read columns fields ∷ map (cells read columns) rest)
unfolding seen by_fault
past_by read columns number fields rest true later = refl
past_by read columns number fields rest false later =
    rw (row_by read number fields columns, later)
    (onto_by (record_fault read number fields columns) (cells read columns fields)
    (table_fault read columns (number + 1) rest) (map (cells read columns) rest))

rows_by : (read : Reader) (columns : List ℕ) (number : ℕ) (records : List Fields)
    → rows_of read columns number records
    ≡ by_fault (table_fault read columns number records) (map (cells read columns) records)
unfolding by_fault
rows_by read columns number [] = refl
rows_by read columns number (fields ∷ rest) =
    past_by read columns number fields rest (number == max_samples + 1) (rows_by read columns (number + 1) rest)

-- ---- columns

at_seam : (read : Reader) (front : List ℕ) (column : ℕ) (columns : List ℕ) (records : List Fields)
    → column_at (map (cells read (front ++ column ∷ columns)) records) (length front) ≡ column_of read records column
unfolding cells
at_seam read front column columns [] = refl
at_seam read front column columns (fields ∷ records) =
    let f : ℕ → Option ℤ = λ c. cell read (field_at fields c) in
    let here : get_or (map f (front ++ column ∷ columns)) (length front) None ≡ f column =
    ap (λ xs. get_or xs (length front) None) (map-append f front (column ∷ columns))
    ∙ (ap (λ n. get_or (map f front ++ f column ∷ map f columns) n None) (sym (length-map front f))
    ∙ get_or-append_seam (map f front) (f column) (map f columns) None) in
    ap (λ (x : Option ℤ). x ∷ column_at (map (cells read (front ++ column ∷ columns)) records) (length front)) here
    ∙ ap (λ (xs : Series). f column ∷ xs) (at_seam read front column columns records)

from_seam : (read : Reader) (front columns : List ℕ) (records : List Fields)
    → map (column_at (map (cells read (front ++ columns)) records)) (range_with_len (length front) (length columns))
    ≡ map (column_of read records) columns
from_seam read front [] records = refl
from_seam read front (column ∷ columns) records =
    let more : (front ++ column ∷ []) ++ columns ≡ front ++ column ∷ columns =
    append_assoc front (column ∷ []) columns in
    let next : length (front ++ column ∷ []) ≡ length front + 1 = length_more front column in
    let rest = from_seam read (front ++ column ∷ []) columns records in
    ap (λ (x : Series).
    x ∷ map (column_at (map (cells read (front ++ column ∷ columns)) records))
    (range_with_len (length front + 1) (length columns)))
    (at_seam read front column columns records)
    ∙ ap (λ (xs : List Series). column_of read records column ∷ xs)
    (ap (λ (cs : List ℕ).
    map (column_at (map (cells read cs) records)) (range_with_len (length front + 1) (length columns)))
    (sym more)
    ∙ (ap (λ (n : ℕ).
    map (column_at (map (cells read ((front ++ column ∷ []) ++ columns)) records))
    (range_with_len n (length columns)))
    (sym next)
    ∙ rest))
  where
    length_more : (xs : List ℕ) (x : ℕ) → length (xs ++ x ∷ []) ≡ length xs + 1
    length_more [] x = refl
    length_more (y ∷ xs) x = let e = length_more xs x in omega arith

columns_by : (read : Reader) (columns : List ℕ) (records : List Fields)
    → columns_of (length columns) (map (cells read columns) records) ≡ map (column_of read records) columns
columns_by read columns records = from_seam read [] columns records

-- ---- the whole table

made_by : (read : Reader) (columns : List ℕ) (records : List Fields) (fault : Option TableFault)
    → in_columns (length columns) (by_fault fault (map (cells read columns) records))
    ≡ by_fault fault (map (column_of read records) columns)
unfolding by_fault
made_by read columns records None = ap Ok (columns_by read columns records)
made_by read columns records (Some fault) = refl

whole_by : (read : Reader) (columns : List ℕ) (records : List Fields)
    → table_of read columns records
    ≡ by_fault (table_fault read columns 1 records) (map (column_of read records) columns)
whole_by read columns records =
    rw (rows_by read columns 1 records) (made_by read columns records (table_fault read columns 1 records))

gathered_by : (fault : Option TableFault) (columns : List Series) (found : List Series)
    → unless_faulty fault columns ≡ Ok found → by_fault fault columns ≡ Ok found
unfolding by_fault
gathered_by None columns found h = let same : columns ≡ found = cc in ap Ok same
gathered_by (Some fault) columns found h = absurd (cc h)

-- what was gathered is the table
table_gathered : (read : Reader) (columns : List ℕ) (records : List Fields) (found : List Series)
    → gathered_of read columns records ≡ Ok found
    → table_of read columns records ≡ Ok found
table_gathered read columns records found h =
    whole_by read columns records
    ∙ gathered_by (table_fault read columns 1 records) (map (column_of read records) columns) found h

seen_as : (met : TableFault) (why : Fault) → told met ≡ Some why → seen met ≡ why
unfolding seen
seen_as (table.Record number column fault) why is = cc
seen_as (table.NoField number column) why is = cc
seen_as table.Rows why is = cc
seen_as table.Memory why is = absurd (cc is)

fault_by : (fault : Option TableFault) (columns : List Series) (met : TableFault) (why : Fault)
    → unless_faulty fault columns ≡ Err met → told met ≡ Some why
    → by_fault fault columns ≡ Err why
unfolding by_fault
fault_by None columns met why h is = absurd (cc h)
fault_by (Some fault) columns met why h is =
    let same : fault ≡ met = cc in ap (λ f. Err (seen f)) same ∙ ap Err (seen_as met why is)

-- the fault that was met is that of the table
table_faulty : (read : Reader) (columns : List ℕ) (records : List Fields) (met : TableFault) (why : Fault)
    → gathered_of read columns records ≡ Err met
    → told met ≡ Some why → table_of read columns records ≡ Err why
table_faulty read columns records met why h is =
    whole_by read columns records
    ∙ fault_by (table_fault read columns 1 records) (map (column_of read records) columns) met why h is

-- ---- by the outcome of a call that gathers

pub tables_by : (read : Reader) (columns : List ℕ) (rows records : List Fields)
    (r : Result (List (List Sample)) TableFault)
    → rows ≡ records
    → IfOk r (λ bundle. gathered_of read columns rows ≡ Ok (map series_of bundle))
    → IfOk r (λ bundle. table_of read columns records ≡ Ok (map series_of bundle))
tables_by read columns rows records (Ok bundle) same h =
    table_gathered read columns records (map series_of bundle) (ap (gathered_of read columns) (sym same) ∙ h)
tables_by read columns rows records (Err fault) same h = tt

-- want of memory tells nothing
not_memory : (met : TableFault) (why : Fault) → told met ≡ Some why → met ≡ table.Memory → ⊥
not_memory met why is memory = let none : told met ≡ None = ap told memory in cc

pub faults_by : (read : Reader) (columns : List ℕ) (rows records : List Fields)
    (r : Result (List (List Sample)) TableFault)
    → rows ≡ records
    → IfErr r (λ met. met ≢ table.Memory → gathered_of read columns rows ≡ Err met)
    → IfErr r (λ met. (why : Fault) → told met ≡ Some why → table_of read columns records ≡ Err why)
faults_by read columns rows records (Ok bundle) same h = tt
faults_by read columns rows records (Err met) same h = λ why is.
    table_faulty read columns records met why
    (ap (gathered_of read columns) (sym same) ∙ h (not_memory met why is)) is

-- The fault of a table is the first one.
use Rattle.std.proofs.Common.{◌≡◌, ℕ, zero, suc, ◌+◌, ◌-◌, ◌<◌, ◌≤◌, ◌==◌, Bool, true, false, List, [], ◌∷◌, length}
use Rattle.std.proofs.Common.{refl, ap, ◌∙◌, sym, arith}
use Rattle.std.specs.Prelude.{ℤ, Option, Some, None, Result, Ok, Err, IsOk, slice_index_or, if◌then◌else◌}
use Rattle.std.proofs.lemmas.Bool.Decides.{nat_tests}
use Rattle.csv.specs.Records.{field_at}
use Rattle.mp_defs.specs.Limits.{max_samples}
use Rattle.mp_text.specs.declared.refusal.SampleFault.{SampleFault}
use Rattle.mp_text.specs.Rows.{Row, onto}
use Rattle.mp_text.specs.Table.{Reader, Fault, BadField, NoField, TooManyRows, Fields, judged, cell_of, row_of}
use Rattle.mp_text.specs.Table.{rows_of, in_columns}
use Rattle.mp_text.specs.TableLaws.{record_of, IsFirstBadField, TableFaultsAreTheFirst}

-- ---- fields

abbrev cell_in : Reader → ℕ → Fields → ℕ → Result (Option ℤ) Fault
cell_in read number fields column = cell_of read number column (field_at fields column)

field_here : (read : Reader) (number : ℕ) (fields : Fields) (column : ℕ) (columns : List ℕ) (fault : Fault)
    → cell_in read number fields column ≡ Err fault
    → IsFirstBadField read number fields (column ∷ columns) fault
field_here read number fields column columns fault bad =
    record { place = 0; within = omega arith; good_before = λ k lt. absurd (omega (arith, lt)); is_faulty = bad }

field_later : (read : Reader) (number : ℕ) (fields : Fields) (column : ℕ) (columns : List ℕ) (fault : Fault)
    → IsOk (cell_in read number fields column)
    → IsFirstBadField read number fields columns fault → IsFirstBadField read number fields (column ∷ columns) fault
field_later read number fields column columns fault good first = record {
  place = suc first.place;
  within = omega (arith, first.within);
  good_before = λ k.
      elim k as (λ (j : ℕ).
      j < suc first.place → IsOk (cell_in read number fields (slice_index_or (column ∷ columns) j 0))) [
        | zero ↦ λ lt. good
        | suc j ↦ λ lt. first.good_before j (omega (arith, lt))
      ];
  is_faulty = first.is_faulty;
}

fields_by : (read : Reader) (number : ℕ) (fields : Fields) (column : ℕ) (columns : List ℕ) (fault : Fault)
    (one : Result (Option ℤ) Fault) (others : Result Row Fault)
    → cell_in read number fields column ≡ one → row_of read number fields columns ≡ others
    → (row_of read number fields columns ≡ Err fault → IsFirstBadField read number fields columns fault)
    → onto one others ≡ Err fault → IsFirstBadField read number fields (column ∷ columns) fault
fields_by read number fields column columns fault (Err met) others is rest later h =
    let same : met ≡ fault = cc in field_here read number fields column columns fault (is ∙ ap Err same)
fields_by read number fields column columns fault (Ok x) (Err met) is rest later h =
    field_later read number fields column columns fault (rw is refl) (later (rest ∙ h))
fields_by read number fields column columns fault (Ok x) (Ok xs) is rest later h = cc

first_field : (read : Reader) (number : ℕ) (fields : Fields) (columns : List ℕ) (fault : Fault)
    → row_of read number fields columns ≡ Err fault
    → IsFirstBadField read number fields columns fault
first_field read number fields [] fault h = cc
first_field read number fields (column ∷ columns) fault h =
    fields_by read number fields column columns fault (cell_in read number fields column)
    (row_of read number fields columns) refl refl (first_field read number fields columns fault) h

-- ---- a record's fault has its number

judged_number : (number column : ℕ) (r : Result (Option ℤ) SampleFault) (fault : Fault)
    → judged number column r ≡ Err fault → record_of fault ≡ number
judged_number number column (Ok sample) fault h = absurd (cc h)
judged_number number column (Err met) fault h =
    let same : BadField number column met ≡ fault = cc in ap record_of (sym same)

cell_number : (read : Reader) (number column : ℕ) (field : Option (List ℕ)) (fault : Fault)
    → cell_of read number column field ≡ Err fault → record_of fault ≡ number
cell_number read number column None fault h = let same : NoField number column ≡ fault = cc in ap record_of (sym same)
cell_number read number column (Some text) fault h = judged_number number column (read text) fault h

row_number : (read : Reader) (number : ℕ) (fields : Fields) (columns : List ℕ) (fault : Fault)
    → row_of read number fields columns ≡ Err fault → record_of fault ≡ number
row_number read number fields columns fault h =
    let first = first_field read number fields columns fault h in
    let column = slice_index_or columns first.place 0 in
    cell_number read number column (field_at fields column) fault first.is_faulty

-- ---- records, of which the first has this number

record IsFirstFrom (read : Reader) (columns : List ℕ) (start : ℕ) (records : List Fields) (fault : Fault) : Type 0 where
  some : start ≤ record_of fault
  within : record_of fault < start + length records
  few : record_of fault ≤ max_samples + 1
  good_before : (k : ℕ) → start + k < record_of fault
      → IsOk (row_of read (start + k) (slice_index_or records k []) columns)
  is_faulty : record_of fault ≤ max_samples
      → row_of read (record_of fault) (slice_index_or records (record_of fault - start) []) columns ≡ Err fault

here : (read : Reader) (columns : List ℕ) (start : ℕ) (fields : Fields) (rest : List Fields) (fault : Fault)
    → record_of fault ≡ start → start ≤ max_samples + 1
    → (start ≤ max_samples → row_of read start fields columns ≡ Err fault)
    → IsFirstFrom read columns start (fields ∷ rest) fault
here read columns start fields rest fault named few bad = record {
  some = omega (arith, named);
  within = omega (arith, named);
  few = omega (arith, named, few);
  good_before = λ k lt. absurd (omega (arith, named, lt));
  is_faulty = λ most.
      let at : record_of fault - start ≡ 0 = omega (arith, named) in
      rw at (ap (λ (n : ℕ). row_of read n fields columns) named ∙ bad (omega (arith, named, most)));
}

later_from : (read : Reader) (columns : List ℕ) (start : ℕ) (fields : Fields) (rest : List Fields) (fault : Fault)
    → IsOk (row_of read start fields columns)
    → IsFirstFrom read columns (start + 1) rest fault → IsFirstFrom read columns start (fields ∷ rest) fault
later_from read columns start fields rest fault good first =
    let at : record_of fault - start ≡ suc (record_of fault - (start + 1)) = omega (arith, first.some) in
    record {
      some = omega (arith, first.some);
      within = omega (arith, first.within);
      few = first.few;
      good_before = λ k.
          elim k as (λ (j : ℕ).
          start + j < record_of fault
          → IsOk (row_of read (start + j) (slice_index_or (fields ∷ rest) j []) columns)) [
            | zero ↦ λ lt. let e : start + zero ≡ start = omega arith in rw e good
            | suc j ↦
                λ lt. let e : start + suc j ≡ start + 1 + j = omega arith in
                rw e (first.good_before j (omega (arith, lt)))
          ];
      is_faulty = λ most. rw at (first.is_faulty most);
    }

records_by : (read : Reader) (columns : List ℕ) (start : ℕ) (fields : Fields) (rest : List Fields) (fault : Fault)
    (one : Result Row Fault) (others : Result (List Row) Fault)
    → row_of read start fields columns ≡ one → rows_of read columns (start + 1) rest ≡ others → start ≤ max_samples
    → (rows_of read columns (start + 1) rest ≡ Err fault → IsFirstFrom read columns (start + 1) rest fault)
    → onto one others ≡ Err fault → IsFirstFrom read columns start (fields ∷ rest) fault
records_by read columns start fields rest fault (Err met) others is more most later h =
    let same : met ≡ fault = cc in
    let bad : row_of read start fields columns ≡ Err fault = is ∙ ap Err same in
    here read columns start fields rest fault (row_number read start fields columns fault bad)
    (omega (arith, most)) (λ _. bad)
records_by read columns start fields rest fault (Ok row) (Err met) is more most later h =
    later_from read columns start fields rest fault (rw is refl) (later (more ∙ h))
records_by read columns start fields rest fault (Ok row) (Ok rows) is more most later h = cc

past_by : (read : Reader) (columns : List ℕ) (start : ℕ) (fields : Fields) (rest : List Fields)
    (fault : Fault) (past : Bool) → start == max_samples + 1 ≡ past
    → start ≤ max_samples + 1
    → (start ≤ max_samples → rows_of read columns (start + 1) rest ≡ Err fault
    → IsFirstFrom read columns (start + 1) rest fault)
    → (if past then Err TooManyRows
    else onto (row_of read start fields columns) (rows_of read columns (start + 1) rest))
    ≡ Err fault
    → IsFirstFrom read columns start (fields ∷ rest) fault
past_by read columns start fields rest fault true test few later h =
    let is : start ≡ max_samples + 1 = grind (arith, nat_tests) in
    let same : TooManyRows ≡ fault = cc in
    here read columns start fields rest fault (ap record_of (sym same) ∙ sym is) few
    (λ most. absurd (omega (arith, is, most)))
past_by read columns start fields rest fault false test few later h =
    let most : start ≤ max_samples = grind (arith, nat_tests) in
    records_by read columns start fields rest fault (row_of read start fields columns)
    (rows_of read columns (start + 1) rest) refl refl most (later most) h

first_from : (read : Reader) (columns : List ℕ) (start : ℕ) (records : List Fields) (fault : Fault)
    → start ≤ max_samples + 1
    → rows_of read columns start records ≡ Err fault → IsFirstFrom read columns start records fault
first_from read columns start [] fault few h = cc
first_from read columns start (fields ∷ rest) fault few h =
    past_by read columns start fields rest fault (start == max_samples + 1) refl few
    (λ most. first_from read columns (start + 1) rest fault (omega (arith, most))) h

rows_faulty : (count : ℕ) (r : Result (List Row) Fault) (fault : Fault) → in_columns count r ≡ Err fault → r ≡ Err fault
rows_faulty count (Ok rows) fault h = absurd (cc h)
rows_faulty count (Err met) fault h = let same : met ≡ fault = cc in ap Err same

pub first_faults : TableFaultsAreTheFirst
first_faults = record {
  of_records = λ read columns records fault h.
      let first =
      first_from read columns 1 records fault (omega arith)
      (rows_faulty (length columns) (rows_of read columns 1 records) fault h) in
      record {
        some = omega (arith, first.some);
        within = omega (arith, first.within);
        few = first.few;
        good_before = λ k lt. let e : k + 1 ≡ 1 + k = omega arith in rw e (first.good_before k (omega (arith, lt)));
        is_faulty = first.is_faulty;
      };
  of_fields = first_field;
}

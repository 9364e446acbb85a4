-- Series that are gathered record by record.
use Rattle.std.proofs.Common.{◌≡◌, ℕ, ◌+◌, ◌<◌, ◌≤◌, List, [], ◌∷◌, ◌++◌, length, get_or, set, take, drop, map, refl}
use Rattle.std.proofs.Common.{sym, ap, ◌∙◌, arith, append_assoc, Vec, Option, Some, None, Result, Ok, Err, OnOk, Bool}
use Rattle.std.proofs.Common.{false, true, replicate, ◌==◌}
use Rattle.std.specs.declared.alloc.Global.{Global}
use Rattle.std.proofs.lemmas.List.{map-set, get_or-map, map-append, take_more, drop_more, take-append-drop, length-map}
use Rattle.std.proofs.lemmas.List.{length-take-le, append-nil}
use Rattle.std.specs.Result.{is_err, IfErr, IsErrAnd}
use Rattle.std.specs.Bool.{MatchBool}
use Rattle.std.proofs.lemmas.Bool.Decides.{nat_tests}
use Rattle.std.proofs.Math.Seq.{get_or-append_seam, set-append_seam}
use Rattle.mp_text.specs.declared.refusal.TableFault.{TableFault}
use Rattle.mp_nums.specs.declared.samples.Sample.{Sample}
use Rattle.mp_defs.specs.Series.{Series, reading_of, series_of}
use Rattle.mp_defs.specs.Limits.{max_samples}
use Rattle.std.proofs.lemmas.Simd.{map-map}
use Rattle.mp_text.specs.Gathering.{added, cell, cell_fault, column_of, first_fault, record_fault, table_fault}
use Rattle.mp_text.specs.Gathering.{gathered_of, unless_faulty}
use Rattle.mp_text.specs.Table.{Fields, Reader}
use Rattle.csv.specs.Records.{field_at}

pub added-pushed : (gathered : List (Vec Sample Global)) (k : ℕ) (old new : Vec Sample Global) (sample : Sample)
    → k < length gathered → old ≡ get_or gathered k old → new.items ≡ old.items ++ sample ∷ []
    → map (λ series. series_of series.items) (set gathered k new)
    ≡ added (map (λ series. series_of series.items) gathered) k (reading_of sample)
added-pushed gathered k old new sample within is items =
    let f : Vec Sample Global → Series = λ series. series_of series.items in
    let before : get_or (map f gathered) k [] ≡ f old = get_or-map f gathered k old [] within ∙ ap f (sym is) in
    let after : f new ≡ f old ++ reading_of sample ∷ [] =
    ap (map reading_of) items ∙ map-append reading_of old.items (sample ∷ []) in
    map-set f gathered k new
    ∙ ap (λ v. set (map f gathered) k v) (after ∙ ap (λ v. v ++ reading_of sample ∷ []) (sym before))

-- ---- faults

first_fault-assoc : (a b c : Option TableFault) → first_fault (first_fault a b) c ≡ first_fault a (first_fault b c)
first_fault-assoc None b c = refl
first_fault-assoc (Some e) b c = refl

record_fault-append : (read : Reader) (number : ℕ) (fields : Fields) (xs ys : List ℕ)
    → record_fault read number fields (xs ++ ys)
    ≡ first_fault (record_fault read number fields xs) (record_fault read number fields ys)
record_fault-append read number fields [] ys = refl
record_fault-append read number fields (x ∷ xs) ys =
    ap (first_fault (cell_fault read number x (field_at fields x))) (record_fault-append read number fields xs ys)
    ∙ sym (first_fault-assoc (cell_fault read number x (field_at fields x)) (record_fault read number fields xs)
    (record_fault read number fields ys))

pub fine_more : (read : Reader) (number : ℕ) (fields : Fields) (columns : List ℕ) (k : ℕ) → k < length columns
    → record_fault read number fields (take k columns) ≡ None
    → cell_fault read number (get_or columns k 0) (field_at fields (get_or columns k 0)) ≡ None
    → record_fault read number fields (take (k + 1) columns) ≡ None
fine_more read number fields columns k within fine cell_fine =
    rw (take_more columns k 0 within, record_fault-append, fine, cell_fine) refl

pub fault_at : (read : Reader) (number : ℕ) (fields : Fields) (columns : List ℕ) (k : ℕ) (fault : TableFault)
    → k < length columns
    → record_fault read number fields (take k columns) ≡ None
    → cell_fault read number (get_or columns k 0) (field_at fields (get_or columns k 0)) ≡ Some fault
    → record_fault read number fields columns ≡ Some fault
fault_at read number fields columns k fault within fine faulty =
    let whole : take k columns ++ get_or columns k 0 ∷ drop (k + 1) columns ≡ columns =
    ap (λ (rest : List ℕ). take k columns ++ rest) (sym (drop_more columns k 0 within)) ∙ take-append-drop k columns in
    let parts : record_fault read number fields (take k columns ++ get_or columns k 0 ∷ drop (k + 1) columns)
    ≡ Some fault =
    record_fault-append read number fields (take k columns) (get_or columns k 0 ∷ drop (k + 1) columns)
    ∙ ap (λ (o : Option TableFault).
    first_fault o (record_fault read number fields (get_or columns k 0 ∷ drop (k + 1) columns))) fine
    ∙ ap (λ (o : Option TableFault). first_fault o (record_fault read number fields (drop (k + 1) columns))) faulty in
    ap (record_fault read number fields) (sym whole) ∙ parts

-- ---- one record more

column_of-more : (read : Reader) (rows : List Fields) (fields : Fields) (column : ℕ)
    → column_of read (rows ++ fields ∷ []) column
    ≡ column_of read rows column ++ cell read (field_at fields column) ∷ []
column_of-more read rows fields column = map-append (λ (f : Fields). cell read (field_at f column)) rows (fields ∷ [])

-- a sample more in the series at k
pub series_more : (read : Reader) (rows : List Fields) (fields : Fields) (columns : List ℕ) (k : ℕ)
    (series : List Series)
    → k < length columns
    → series
    ≡ map (column_of read (rows ++ fields ∷ [])) (take k columns) ++ map (column_of read rows) (drop k columns)
    → added series k (cell read (field_at fields (get_or columns k 0)))
    ≡ map (column_of read (rows ++ fields ∷ [])) (take (k + 1) columns)
    ++ map (column_of read rows) (drop (k + 1) columns)
series_more read rows fields columns k series within is =
    let column = get_or columns k 0 in
    let new : ℕ → Series = column_of read (rows ++ fields ∷ []) in
    let old : ℕ → Series = column_of read rows in
    let front : List Series = map new (take k columns) in
    let back : List Series = map old (drop (k + 1) columns) in
    let long : length front ≡ k = length-map (take k columns) new ∙ length-take-le k columns (omega arith) in
    let split : series ≡ front ++ old column ∷ back =
    is ∙ ap (λ (rest : List ℕ). front ++ map old rest) (drop_more columns k 0 within) in
    let at : get_or (front ++ old column ∷ back) k [] ≡ old column =
    ap (λ (n : ℕ). get_or (front ++ old column ∷ back) n []) (sym long)
    ∙ get_or-append_seam front (old column) back [] in
    let put : (value : Series) → set (front ++ old column ∷ back) k value ≡ front ++ value ∷ back = λ (value : Series).
    ap (λ (n : ℕ). set (front ++ old column ∷ back) n value) (sym long)
    ∙ set-append_seam front (old column) back value in
    let grown : added (front ++ old column ∷ back) k (cell read (field_at fields column))
    ≡ front ++ new column ∷ back =
    ap (λ (v : Series). set (front ++ old column ∷ back) k (v ++ cell read (field_at fields column) ∷ [])) at
    ∙ put (old column ++ cell read (field_at fields column) ∷ [])
    ∙ ap (λ (v : Series). front ++ v ∷ back) (sym (column_of-more read rows fields column)) in
    let taken : map new (take (k + 1) columns) ≡ front ++ new column ∷ [] =
    ap (map new) (take_more columns k 0 within) ∙ map-append new (take k columns) (column ∷ []) in
    ap (λ (ss : List Series). added ss k (cell read (field_at fields column))) split
    ∙ grown
    ∙ sym (append_assoc front (new column ∷ []) back)
    ∙ ap (λ (f : List Series). f ++ back) (sym taken)

pub err_part : {T E : Type 0} → (r : Result T E) (Q P : E → Type 0) → IsErrAnd r Q → ((e : E) → Q e → P e) → IfErr r P
err_part (Ok x) Q P is all = absurd is
err_part (Err e) Q P is all = all e is

pub ok_part : {T E : Type 0} → (r : Result T E) (P : Type 0) → is_err r ≡ false → OnOk r P → P
ok_part (Ok x) P h p = p
ok_part (Err e) P h p = absurd (cc h)

-- ---- records in turn

pub table_fault-fine : (read : Reader) (number : ℕ) (columns : List ℕ) (fields : Fields) (rest : List Fields)
    → number ≤ max_samples → record_fault read number fields columns ≡ None
    → table_fault read columns number (fields ∷ rest) ≡ table_fault read columns (number + 1) rest
table_fault-fine read number columns fields rest few fine =
    let below : number == max_samples + 1 ≡ false = grind (arith, nat_tests) in
    rw (below, fine) refl

-- what was gathered of some records, whose first fault is known so far
pub record Gathered (read : Reader) (columns : List ℕ) (all left : List Fields) (number : ℕ)
    (series : List Series) : Type 0 where
  pub done : List Fields
  pub whole : all ≡ done ++ left
  pub series_is : series ≡ map (column_of read done) columns
  pub faults : table_fault read columns 1 all ≡ table_fault read columns number left

pub gathered_none : (read : Reader) (columns : List ℕ) (all : List Fields) (series : List Series)
    → series ≡ replicate (length columns) [] → Gathered read columns all all 1 series
gathered_none read columns all series is =
    record { done = []; whole = refl; series_is = is ∙ none columns; faults = refl }
  where
    none : (cs : List ℕ) → replicate (length cs) [] ≡ map (column_of read []) cs
    none [] = refl
    none (c ∷ cs) = ap (λ (ss : List Series). [] ∷ ss) (none cs)

pub gathered_more : (read : Reader) (columns : List ℕ) (all left rest : List Fields) (fields : Fields) (number : ℕ)
    (series grown : List Series) → Gathered read columns all left number series
    → left ≡ fields ∷ rest → number ≤ max_samples → record_fault read number fields columns ≡ None
    → ((rows : List Fields) → series ≡ map (column_of read rows) columns
    → grown ≡ map (column_of read (rows ++ fields ∷ [])) columns)
    → Gathered read columns all rest (number + 1) grown
gathered_more read columns all left rest fields number series grown g is few fine more = record {
  done = g.done ++ fields ∷ [];
  whole = g.whole ∙ ap (λ (rows : List Fields). g.done ++ rows) is ∙ sym (append_assoc g.done (fields ∷ []) rest);
  series_is = more g.done g.series_is;
  faults =
      g.faults ∙ ap (table_fault read columns number) is ∙ table_fault-fine read number columns fields rest few fine;
}

pub gathered_all : (read : Reader) (columns : List ℕ) (all left : List Fields) (number : ℕ) (series : List Series)
    → Gathered read columns all left number series
    → left ≡ [] → gathered_of read columns all ≡ Ok series
gathered_all read columns all left number series g none =
    let fine : table_fault read columns 1 all ≡ None = g.faults ∙ ap (table_fault read columns number) none in
    let done : all ≡ g.done = g.whole ∙ ap (λ (rows : List Fields). g.done ++ rows) none ∙ append-nil g.done in
    ap (λ (o : Option TableFault). unless_faulty o (map (column_of read all) columns)) fine
    ∙ ap Ok (ap (λ (rows : List Fields). map (column_of read rows) columns) done ∙ sym g.series_is)

-- the bundle of these series
pub bundled : (gathered : List (Vec Sample Global)) (bundle : List (List Sample))
    → bundle ≡ map (λ series. series.items) gathered
    → map series_of bundle ≡ map (λ series. series_of series.items) gathered
bundled gathered bundle is = ap (map series_of) is ∙ map-map series_of (λ series. series.items) gathered

pub found_part : (b : Bool) (P Q : Type 0) → b ≡ true → MatchBool b P Q → P
found_part true P Q h p = p
found_part false P Q h p = absurd (cc h)

pub none_part : (b : Bool) (P Q : Type 0) → b ≡ false → MatchBool b P Q → Q
none_part true P Q h p = absurd (cc h)
none_part false P Q h p = p

-- a table of no record
pub gathered_of-none : (read : Reader) (columns : List ℕ) (series : List Series)
    → series ≡ replicate (length columns) []
    → gathered_of read columns [] ≡ Ok series
gathered_of-none read columns series is =
    gathered_all read columns [] [] 1 series (gathered_none read columns [] series is) refl

-- the bundle of what was gathered of all records
pub whole_table : (read : Reader) (columns : List ℕ) (all left : List Fields) (number : ℕ)
    (gathered : List (Vec Sample Global)) (bundle : List (List Sample))
    → Gathered read columns all left number (map (λ series. series_of series.items) gathered) → left ≡ []
    → bundle ≡ map (λ series. series.items) gathered
    → gathered_of read columns all ≡ Ok (map series_of bundle)
whole_table read columns all left number gathered bundle g none is =
    gathered_all read columns all left number (map (λ series. series_of series.items) gathered) g none
    ∙ ap Ok (sym (bundled gathered bundle is))

-- Items that are gone over one by one, and what an append of them prepares.
use Rattle.std.proofs.Common.{◌≡◌, ℕ, ℤ, zero, suc, ◌+◌, ◌<◌, ◌≤◌, ◌==◌, Bool, true, false, List, [], ◌∷◌, ◌++◌, Vec}
use Rattle.std.proofs.Common.{length, map, get_or, set, replicate, refl, ap, ◌∙◌, sym, arith, subst, append_assoc}
use Rattle.std.proofs.Common.{length-append, slice_index_or}
use Rattle.std.specs.declared.alloc.Global.{Global}
use Rattle.std.specs.Prelude.{All, Option, Some, None, Result, Ok, Err, IfErr, IsOk, is_ok, if◌then◌else◌}
use Rattle.std.specs.List.{range_with_len}
use Rattle.std.proofs.lemmas.Bool.Decides.{nat_tests}
use Rattle.std.proofs.lemmas.List.{get_or-map, length-map, map-append, map-set}
use Rattle.std.proofs.lemmas.List.Elements.{All-nil, All-cons, All-head, All-tail}
use Rattle.std.proofs.lemmas.List.FromFn.{fill_by_all, length-map-range_with_len}
use Rattle.std.proofs.lemmas.List.Splits.{length-slice_split}
use Rattle.std.proofs.lemmas.List.Sums.{count_by-le-length}
use Rattle.std.proofs.lemmas.Simd.{map-map}
use Rattle.mp_nums.specs.declared.widths.Width.{Width}
use Rattle.mp_bytes.specs.Values.{is_comma, values_in}
use Rattle.mp_defs.specs.Series.{Series, reading_of, series_of}
use Rattle.mp_nums.specs.declared.samples.Sample.{Sample}
use Rattle.mp_text.specs.Rows.{Row, column_at, columns_of, onto}
use Rattle.mp_text.specs.declared.refusal.SampleFault.{SampleFault}
use Rattle.mp_replies.specs.AppendCommand.{append_conditions, bad_in, item_of, items_of, most_samples, read_items}
use Rattle.mp_replies.specs.AppendCommand.{row_with, rows_in, samples_of, value_of}
use Rattle.mp_replies.specs.Command.{AppendReport}
use Rattle.mp_replies.specs.Change as change
use Rattle.mp_replies.specs.Change.{extended, grown as added_to}
use Rattle.mp_replies.specs.Command as asked
use Rattle.mp_replies.specs.Conditions.{first_cause}
use Rattle.mp_replies.specs.Line.{Asks}
use Rattle.mp_replies.specs.State.{Files, State, Store, Closed, Open, Kept, Lazy, channels_at, channels_in}
use Rattle.mp_replies.specs.State.{samples_in, store_at}
use Rattle.mp_stores.specs.Stores.{lists_in}
use Rattle.mp_requests.specs.declared.answers.Answer.TheVariants.{Accepted}
use Rattle.mp_requests.specs.declared.reports.Report.TheVariants as report
use Rattle.mp_commands.specs.declared.prepared.Prepared.{Prepared}
use Rattle.mp_commands.specs.Preparing.{IsPrepared, changed_by}
use Rattle.mp_commands.proofs.OpenLemmas.{channels_put, open_within}
use Rattle.mp_commands.proofs.StepLemmas.{prepared_accepted}

-- ---- the values of one item

-- so many values were gone over, each spells a sample, and the others are left
pub record AreSpelled (width : Width) (scale : ℕ) (all left : List (List ℕ)) (count : ℕ) : Type 0 where
  pub same : is_ok (samples_of width scale all) ≡ is_ok (samples_of width scale left)
  pub counted : count + length left ≡ length all

-- an item has one value more than commas
pub values_within : (item : List ℕ) → length (values_in item) ≤ length item + 1
values_within item = omega (arith, length-slice_split is_comma item, count_by-le-length is_comma item)

-- ---- the items of a line

-- so many items were gone over, each is good, and the others are left
pub record AreGood (width : Width) (scale channels : ℕ) (all left : List (List ℕ)) (count : ℕ) : Type 0 where
  pub same : bad_in (read_items width scale channels all) ≡ bad_in (items_of width scale channels (count + 1) left)
  pub counted : count + length left ≡ length all

-- ---- the samples of the items

-- Some of the items were read, each of which is good, and the others are left. The series are the columns of the rows.
pub record AreRead (width : Width) (scale channels : ℕ) (all left : List (List ℕ)) (series : List Series) : Type 0 where
  pub number : ℕ
  pub done : List Row
  pub rest : List Row
  pub left_are : items_of width scale channels number left ≡ Ok rest
  pub all_are : rows_in (read_items width scale channels all) ≡ done ++ rest
  pub series_are : series ≡ columns_of channels done

pub rows_of_good : (r : Result (List Row) ℕ) → bad_in r ≡ None → r ≡ Ok (rows_in r)
rows_of_good (Ok rows) h = refl
rows_of_good (Err bad) h = absurd (cc h)

pub record AreJoined {A E : Type 0} (one : Result A E) (others : Result (List A) E) (xs : List A) : Type 0 where
  pub first : A
  pub rest : List A
  pub first_is : one ≡ Ok first
  pub rest_are : others ≡ Ok rest
  pub whole : xs ≡ first ∷ rest

pub joined_by : {A E : Type 0} (one : Result A E) (others : Result (List A) E) (xs : List A) → onto one others ≡ Ok xs
    → AreJoined one others xs
joined_by (Ok x) (Ok more) xs h =
    let same : x ∷ more ≡ xs = cc in
    record { first = x; rest = more; first_is = refl; rest_are = refl; whole = sym same }
joined_by (Ok x) (Err e) xs h = absurd (cc h)
joined_by (Err e) others xs h = absurd (cc h)

item_good_by : (a b : ℕ) (fits : Bool) (r : Result Row SampleFault) (row : Row)
    → (if fits then row_with a r else Err a) ≡ Ok row → (if fits then row_with b r else Err b) ≡ Ok row
item_good_by a b true (Ok got) row h = h
item_good_by a b fits r row h = absurd (cc h)

-- the number of a good item doesn't matter
renumbered : (width : Width) (scale channels a b : ℕ) (item : List ℕ) (row : Row) → item_of width scale channels a item ≡ Ok row
    → item_of width scale channels b item ≡ Ok row
renumbered width scale channels a b item row h =
    item_good_by a b (length (values_in item) == channels) (samples_of width scale (values_in item)) row h

columns_more : (rows : List Row) (row : Row) (ks : List ℕ)
    → extended (map (column_at rows) ks) (map (column_at (row ∷ [])) ks) ≡ map (column_at (rows ++ row ∷ [])) ks
columns_more rows row [] = refl
columns_more rows row (k ∷ ks) =
    ap (λ (column : Series). column ∷ extended (map (column_at rows) ks) (map (column_at (row ∷ [])) ks))
    (sym (map-append (λ (values : Row). slice_index_or values k None) rows (row ∷ [])))
    ∙ ap (λ (columns : List Series). column_at (rows ++ row ∷ []) k ∷ columns) (columns_more rows row ks)

-- the next item was read
module _ {width : Width} {scale channels : ℕ} {all : List (List ℕ)} {item : List ℕ} {left others : List (List ℕ)} {series : List Series}
    (read : AreRead width scale channels all left series) (is : left ≡ item ∷ others) where
  next_item : AreJoined (item_of width scale channels read.number item) (items_of width scale channels (read.number + 1) others)
      read.rest
  next_item = joined_by _ _ read.rest (sym (ap (items_of width scale channels read.number) is) ∙ read.left_are)

  next_row : item_of width scale channels 0 item ≡ Ok next_item.first
  next_row = renumbered width scale channels read.number 0 item next_item.first next_item.first_is

  pub next_good : is_ok (item_of width scale channels 0 item) ≡ true
  next_good = ap is_ok next_row

  pub read_more : {grown : List Series}
      → ((row : Row) → item_of width scale channels 0 item ≡ Ok row
      → grown ≡ extended series (columns_of channels (row ∷ [])))
      → AreRead width scale channels all others grown
  read_more more = record {
    number = read.number + 1;
    done = read.done ++ next_item.first ∷ [];
    rest = next_item.rest;
    left_are = next_item.rest_are;
    all_are =
        read.all_are
        ∙ (ap (λ (rows : List Row). read.done ++ rows) next_item.whole
        ∙ sym (append_assoc read.done (next_item.first ∷ []) next_item.rest));
    series_are = more next_item.first next_row
        ∙ (ap (λ (columns : List Series). extended columns (columns_of channels (next_item.first ∷ []))) read.series_are
        ∙ columns_more read.done next_item.first (range_with_len 0 channels));
  }

nothing_left : (width : Width) (scale channels number : ℕ) (rest : List Row) → items_of width scale channels number [] ≡ Ok rest → rest ≡ []
nothing_left width scale channels number [] h = refl
nothing_left width scale channels number (row ∷ rest) h = absurd (cc h)

-- ---- the samples of one item

-- the samples of a row behind the lists from the k-th on, one behind each
pub spread : ℕ → List Series → Row → List Series
spread zero series row = extended series (map (λ sample. sample ∷ []) row)
spread (suc k) [] row = []
spread (suc k) (samples ∷ series) row = samples ∷ spread k series row

spread_one : (k : ℕ) (series : List Series) (sample : Option ℤ) (row : Row)
    → spread k series (sample ∷ row) ≡ spread (suc k) (set series k (get_or series k [] ++ sample ∷ [])) row
unfolding spread
spread_one zero [] sample row = refl
spread_one zero (samples ∷ series) sample row = refl
spread_one (suc k) [] sample row = refl
spread_one (suc k) (samples ∷ series) sample row =
    ap (λ (others : List Series). samples ∷ others) (spread_one k series sample row)

spread_none : (k : ℕ) (series : List Series) → spread k series [] ≡ series
unfolding spread
spread_none zero [] = refl
spread_none zero (samples ∷ series) = refl
spread_none (suc k) [] = refl
spread_none (suc k) (samples ∷ series) = ap (λ (others : List Series). samples ∷ others) (spread_none k series)

-- The samples of an item are put behind the lists before the k-th, and the values for the other lists are left.
pub record AreSpread (width : Width) (scale : ℕ) (all left : List (List ℕ)) (k : ℕ) (before series : List Series) : Type 0 where
  pub row : Row
  pub rest : Row
  pub all_are : samples_of width scale all ≡ Ok row
  pub left_are : samples_of width scale left ≡ Ok rest
  pub grown : spread k series rest ≡ spread 0 before row

-- what is spelled is read
ok_by_spelling : (r : Result Sample SampleFault) (spelled : Result (Option ℤ) SampleFault) (x : Option ℤ)
    → spelled ≡ Ok x → IfErr r (λ fault. spelled ≡ Err fault) → IsOk r
ok_by_spelling (Ok sample) spelled x is faulty = refl
ok_by_spelling (Err fault) spelled x is faulty = absurd (cc (sym faulty ∙ is))

-- the next value spells a sample
module _ {width : Width} {scale : ℕ} {all : List (List ℕ)} {value : List ℕ} {left others : List (List ℕ)} {k : ℕ}
    {before series : List Series} (s : AreSpread width scale all left k before series) (is : left ≡ value ∷ others) where
  next_spelled : AreJoined (value_of width scale value) (samples_of width scale others) s.rest
  next_spelled = joined_by _ _ s.rest (sym (ap (samples_of width scale) is) ∙ s.left_are)

  pub next_read : (r : Result Sample SampleFault) → IfErr r (λ fault. value_of width scale value ≡ Err fault) → IsOk r
  next_read r faulty = ok_by_spelling r (value_of width scale value) next_spelled.first next_spelled.first_is faulty

  pub spread_more : {at next : ℕ} {grown : List Series} (sample : Option ℤ) → at ≡ k → next ≡ k + 1
      → value_of width scale value ≡ Ok sample → grown ≡ set series at (get_or series at [] ++ sample ∷ [])
      → AreSpread width scale all others next before grown
  spread_more {next = next} {grown = grown} sample here more read pushed =
      let joined = next_spelled in
      let first : Ok joined.first ≡ Ok sample = sym joined.first_is ∙ read in
      let rest : sample ∷ joined.rest ≡ s.rest = cc (joined.whole, first) in
      let step : next ≡ suc k = omega (arith, more) in
      record {
        row = s.row;
        rest = joined.rest;
        all_are = s.all_are;
        left_are = joined.rest_are;
        grown = ap (λ (n : ℕ). spread n grown joined.rest) step
            ∙ (ap (λ (now : List Series). spread (suc k) now joined.rest)
            (pushed ∙ ap (λ (n : ℕ). set series n (get_or series n [] ++ sample ∷ [])) here)
            ∙ (sym (spread_one k series sample joined.rest)
            ∙ (ap (spread k series) rest ∙ s.grown)));
      }

-- one more sample in the k-th list
pub series_pushed : (added : List (Vec Sample Global)) (k : ℕ) (none new : Vec Sample Global) (sample : Sample)
    → k < length added → new.items ≡ (get_or added k none).items ++ sample ∷ []
    → map series_of (lists_in (set added k new))
    ≡ set (map series_of (lists_in added)) k (get_or (map series_of (lists_in added)) k [] ++ reading_of sample ∷ [])
series_pushed added k none new sample within items =
    let series = map series_of (lists_in added) in
    let before : get_or series k [] ≡ series_of (get_or added k none).items =
    ap (λ (ss : List Series). get_or ss k []) (map-map series_of (λ samples. samples.items) added)
    ∙ get_or-map (λ samples. series_of samples.items) added k none [] within in
    ap (map series_of) (map-set (λ samples. samples.items) added k new)
    ∙ (map-set series_of (lists_in added) k new.items
    ∙ ap (set series k)
    (ap series_of items
    ∙ (map-append reading_of (get_or added k none).items (sample ∷ [])
    ∙ ap (λ (s : Series). s ++ reading_of sample ∷ []) (sym before))))

row_spelled : (number : ℕ) (fits : Bool) (r : Result Row SampleFault) (row : Row)
    → (if fits then row_with number r else Err number) ≡ Ok row → r ≡ Ok row
row_spelled number true (Ok other) row h = cc
row_spelled number fits r row h = absurd (cc h)

item_spelled : (width : Width) (scale channels number : ℕ) (item : List ℕ) (row : Row) → item_of width scale channels number item ≡ Ok row
    → samples_of width scale (values_in item) ≡ Ok row
item_spelled width scale channels number item row h =
    row_spelled number (length (values_in item) == channels) (samples_of width scale (values_in item)) row h

good_row : (r : Result Row ℕ) → is_ok r ≡ true → (row : Row) × (r ≡ Ok row)
good_row (Ok row) h = (row, refl)
good_row (Err bad) h = absurd (cc h)

pub spread_begun : (width : Width) (scale channels k : ℕ) (item : List ℕ) (left : List (List ℕ)) (before : List Series)
    → is_ok (item_of width scale channels 0 item) ≡ true → left ≡ values_in item → k ≡ 0
    → AreSpread width scale (values_in item) left k before before
spread_begun width scale channels k item left before good is first =
    let row = good_row (item_of width scale channels 0 item) good in
    let spelled = item_spelled width scale channels 0 item row.0 row.1 in
    record {
      row = row.0;
      rest = row.0;
      all_are = spelled;
      left_are = ap (samples_of width scale) is ∙ spelled;
      grown = ap (λ (n : ℕ). spread n before row.0) first;
    }

fits_by : (a b number : ℕ) (fits : Bool) (r : Result Row SampleFault) (row : Row) → a == b ≡ fits
    → (if fits then row_with number r else Err number) ≡ Ok row → a ≡ b
fits_by a b number true r row is h = grind (arith, nat_tests)
fits_by a b number false r row is h = absurd (cc h)

-- a good item has a value for each channel
item_fits : (width : Width) (scale channels : ℕ) (item : List ℕ) (row : Row) → item_of width scale channels 0 item ≡ Ok row
    → length (values_in item) ≡ channels
item_fits width scale channels item row h =
    fits_by (length (values_in item)) channels 0 (length (values_in item) == channels)
    (samples_of width scale (values_in item)) row refl h

pub good_fits : (width : Width) (scale channels : ℕ) (item : List ℕ) → is_ok (item_of width scale channels 0 item) ≡ true
    → length (values_in item) ≡ channels
good_fits width scale channels item good =
    let row = good_row (item_of width scale channels 0 item) good in item_fits width scale channels item row.0 row.1

row_long : (width : Width) (scale : ℕ) (values : List (List ℕ)) (row : Row) → samples_of width scale values ≡ Ok row
    → length row ≡ length values
row_long width scale [] [] h = refl
row_long width scale [] (sample ∷ row) h = absurd (cc h)
row_long width scale (value ∷ values) row h =
    let joined = joined_by (value_of width scale value) (samples_of width scale values) row h in
    let others = row_long width scale values joined.rest joined.rest_are in
    omega (arith, ap length joined.whole, others)

-- a row is cut into columns of one sample
row_columns : (channels : ℕ) (row : Row) → length row ≡ channels
    → map (λ sample. sample ∷ []) row ≡ columns_of channels (row ∷ [])
row_columns channels row long =
    let single : Option ℤ → Series = λ sample. sample ∷ [] in
    fill_by_all (column_at (row ∷ [])) (map single row) channels [] (length-map row single ∙ long)
    (λ k within. get_or-map single row k None [] (omega (arith, long, within)))

pub spread_all : (width : Width) (scale channels k : ℕ) (item : List ℕ) (left : List (List ℕ)) (before series : List Series) (row : Row)
    → AreSpread width scale (values_in item) left k before series → left ≡ [] → item_of width scale channels 0 item ≡ Ok row
    → series ≡ extended before (columns_of channels (row ∷ []))
unfolding spread
spread_all width scale channels k item left before series row s is good =
    let spelled = item_spelled width scale channels 0 item row good in
    let ends : Ok [] ≡ Ok s.rest = sym (ap (samples_of width scale) is) ∙ s.left_are in
    let whole : Ok s.row ≡ Ok row = sym s.all_are ∙ spelled in
    let none : s.rest ≡ [] = cc in
    let same : s.row ≡ row = cc in
    let long = row_long width scale (values_in item) row spelled ∙ item_fits width scale channels item row good in
    sym (spread_none k series)
    ∙ (ap (spread k series) (sym none)
    ∙ (s.grown ∙ (ap (spread 0 before) same ∙ ap (extended before) (row_columns channels row long))))

pub no_columns : (first channels : ℕ)
    → map series_of (replicate channels []) ≡ map (column_at []) (range_with_len first channels)
no_columns first zero = refl
no_columns first (suc channels) = ap (λ (columns : List Series). [] ∷ columns) (no_columns (first + 1) channels)

-- ---- as many samples for each channel

pub same_lengths : (added : List (List Sample)) (columns : List Series) (count : ℕ) → map series_of added ≡ columns
    → All (λ column. length column ≡ count) columns → All (λ samples. length samples ≡ count) added
same_lengths [] columns count is all = All-nil (λ (samples : List Sample). length samples ≡ count)
same_lengths (samples ∷ added) [] count is all = absurd (cc is)
same_lengths (samples ∷ added) (column ∷ columns) count is all =
    let here : series_of samples ≡ column = cc in
    let there : map series_of added ≡ columns = cc in
    All-cons (λ (s : List Sample). length s ≡ count) samples added
    (sym (length-map samples reading_of)
    ∙ (ap length here ∙ All-head (λ (c : Series). length c ≡ count) column columns all))
    (same_lengths added columns count there (All-tail (λ (c : Series). length c ≡ count) column columns all))

pub even_columns : (rows : List Row) (ks : List ℕ)
    → All (λ column. length column ≡ length rows) (map (column_at rows) ks)
even_columns rows [] = All-nil (λ (column : Series). length column ≡ length rows)
even_columns rows (k ∷ ks) =
    All-cons (λ (column : Series). length column ≡ length rows) (column_at rows k) (map (column_at rows) ks)
    (length-map rows (λ (row : Row). slice_index_or row k None)) (even_columns rows ks)

rows_long : (width : Width) (scale channels number : ℕ) (items : List (List ℕ)) (rows : List Row)
    → items_of width scale channels number items ≡ Ok rows → length rows ≡ length items
rows_long width scale channels number [] rows h = ap length (nothing_left width scale channels number rows h)
rows_long width scale channels number (item ∷ items) rows h =
    let joined = joined_by (item_of width scale channels number item) (items_of width scale channels (number + 1) items) rows h in
    let others = rows_long width scale channels (number + 1) items joined.rest joined.rest_are in
    omega (arith, ap length joined.whole, others)

-- a row for each item
good_rows : (width : Width) (scale channels : ℕ) (items : List (List ℕ)) → bad_in (read_items width scale channels items) ≡ None
    → length (rows_in (read_items width scale channels items)) ≡ length items
good_rows width scale channels items good =
    rows_long width scale channels 1 items (rows_in (read_items width scale channels items))
    (rows_of_good (read_items width scale channels items) good)

pub added_long : (channels : ℕ) (rows : List Row) (added : List (List Sample))
    → map series_of added ≡ columns_of channels rows → length added ≡ channels
added_long channels rows added is =
    sym (length-map added series_of) ∙ (ap length is ∙ length-map-range_with_len (column_at rows) 0 channels)

pub added_even : (width : Width) (scale channels : ℕ) (items : List (List ℕ)) (added : List (List Sample))
    → bad_in (read_items width scale channels items) ≡ None
    → map series_of added ≡ columns_of channels (rows_in (read_items width scale channels items))
    → All (λ samples. length samples ≡ length items) added
added_even width scale channels items added good is =
    let rows = rows_in (read_items width scale channels items) in
    same_lengths added (columns_of channels rows) (length items) is
    (subst (λ (n : ℕ). All (λ column. length column ≡ n) (columns_of channels rows))
    (good_rows width scale channels items good) (even_columns rows (range_with_len 0 channels)))

-- ---- what is prepared

samples_added : (channels : List Series) (rows : List Row) (count : ℕ) → length channels ≡ count → 0 < count
    → samples_in (extended channels (columns_of count rows)) ≡ samples_in channels + length rows
samples_added [] rows count long some = absurd (omega (arith, long, some))
samples_added (channel ∷ channels) rows zero long some = absurd (omega (arith, some))
samples_added (channel ∷ channels) rows (suc count) long some =
    length-append channel (column_at rows 0)
    ∙ ap (λ (n : ℕ). length channel + n) (length-map rows (λ (values : Row). slice_index_or values 0 None))

-- behind an append a slot has a sample more for each row
samples_grown : (store : Store) (rows : List Row) (count : ℕ) → length (channels_in store) ≡ count → 0 < count
    → samples_in (channels_in (added_to store (columns_of count rows))) ≡ samples_in (channels_in store) + length rows
samples_grown Closed rows count long some = absurd (omega (arith, long, some))
samples_grown (Open channels) rows count long some = samples_added channels rows count long some
samples_grown (Kept keep series) rows zero long some = absurd (omega (arith, some))
samples_grown (Kept keep series) rows (suc count) long some =
    length-append series (column_at rows 0)
    ∙ ap (λ (n : ℕ). length series + n) (length-map rows (λ (values : Row). slice_index_or values 0 None))
samples_grown (Lazy series covered) rows zero long some = absurd (omega (arith, some))
samples_grown (Lazy series covered) rows (suc count) long some =
    length-append series (column_at rows 0)
    ∙ ap (λ (n : ℕ). length series + n) (length-map rows (λ (values : Row). slice_index_or values 0 None))

pub appended : (state : State) (slot : ℕ) (items : List (List ℕ)) (files : Files) (added : List (List Sample))
    (samples : ℕ) (prepared : Prepared) → 0 < length (channels_at state.stores slot)
    → first_cause (append_conditions state.mode.width state.scale state.stores slot items) ≡ None
    → bad_in (read_items state.mode.width state.scale (length (channels_at state.stores slot)) items) ≡ None
    → map series_of added
    ≡ columns_of (length (channels_at state.stores slot))
    (rows_in (read_items state.mode.width state.scale (length (channels_at state.stores slot)) items))
    → samples ≡ samples_in (channels_at state.stores slot) + length items
    → prepared.answer ≡ Accepted (report.Append samples)
    → changed_by prepared.change ≡ change.AddSamples slot (map series_of added)
    → IsPrepared state files (Asks (asked.Append slot items)) prepared
appended state slot items files added samples prepared some fine good is long answer put =
    let stores = state.stores in
    let channels = channels_at stores slot in
    let rows = rows_in (read_items state.mode.width state.scale (length channels) items) in
    let columns = columns_of (length channels) rows in
    let behind : samples_in (channels_at (change.changed state.window stores (change.AddSamples slot columns)) slot) ≡ samples =
    ap samples_in (channels_put stores slot (added_to (store_at stores slot) columns) (open_within stores slot _ fine))
    ∙ (samples_grown (store_at stores slot) rows (length channels) refl some
    ∙ (ap (λ (n : ℕ). samples_in channels + n) (good_rows state.mode.width state.scale (length channels) items good) ∙ sym long)) in
    prepared_accepted state files (asked.Append slot items) (report.Append samples) prepared fine refl answer
    (ap AppendReport (sym behind))
    (put ∙ ap (change.AddSamples slot) is)

-- ---- the room

pub most_few : (keep : Option ℕ) → most_samples keep ≤ 4294967296
most_few None = omega arith
most_few (Some keep) = omega arith

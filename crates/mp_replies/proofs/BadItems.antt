-- The first bad item of a line.
use Rattle.std.proofs.Common.{◌≡◌, ℕ, zero, suc, ◌+◌, ◌-◌, ◌<◌, ◌≤◌, ◌==◌, Bool, true, false, List, [], ◌∷◌, length}
use Rattle.std.proofs.Common.{map, refl, ap, ◌∙◌, sym, arith}
use Rattle.std.specs.Prelude.{Result, Ok, Err, IsOk, slice_index_or, if◌then◌else◌}
use Rattle.std.proofs.lemmas.List.Elements.{All-cons, All-nil}
use Rattle.mp_nums.specs.declared.widths.Width.{Width}
use Rattle.mp_bytes.specs.Values.{values_in}
use Rattle.mp_text.specs.Rows.{Row, onto}
use Rattle.mp_text.specs.declared.refusal.SampleFault.{SampleFault}
use Rattle.mp_replies.specs.AppendCommand.{row_with, samples_of, item_of, items_of}
use Rattle.mp_replies.specs.Laws.{AreSpelled, BadItemsAreTheFirst}

-- ---- one item

row_faulty : (number bad : ℕ) (r : Result Row SampleFault) → row_with number r ≡ Err bad → bad ≡ number
row_faulty number bad (Ok row) h = absurd (cc h)
row_faulty number bad (Err fault) h = let same : number ≡ bad = cc in sym same

item_faulty_by : (number bad : ℕ) (fits : Bool) (r : Result Row SampleFault)
    → (if fits then row_with number r else Err number) ≡ Err bad → bad ≡ number
item_faulty_by number bad true r h = row_faulty number bad r h
item_faulty_by number bad false r h = let same : number ≡ bad = cc in sym same

-- a bad item is named by its own number
item_faulty : (width : Width) (scale channels number bad : ℕ) (item : List ℕ) → item_of width scale channels number item ≡ Err bad
    → bad ≡ number
item_faulty width scale channels number bad item h =
    item_faulty_by number bad (length (values_in item) == channels) (samples_of width scale (values_in item)) h

row_good : (a b : ℕ) (r : Result Row SampleFault) (row : Row) → row_with a r ≡ Ok row → row_with b r ≡ Ok row
row_good a b (Ok row) other h = h
row_good a b (Err fault) other h = absurd (cc h)

item_good_by : (a b : ℕ) (fits : Bool) (r : Result Row SampleFault) (row : Row)
    → (if fits then row_with a r else Err a) ≡ Ok row
    → (if fits then row_with b r else Err b) ≡ Ok row
item_good_by a b true r row h = row_good a b r row h
item_good_by a b false r row h = absurd (cc h)

-- the number of a good item doesn't matter
pub item_good : (width : Width) (scale channels a b : ℕ) (item : List ℕ) (row : Row) → item_of width scale channels a item ≡ Ok row
    → item_of width scale channels b item ≡ Ok row
item_good width scale channels a b item row h =
    item_good_by a b (length (values_in item) == channels) (samples_of width scale (values_in item)) row h

-- ---- the first bad one, of items of which the first has this number

record IsFirstBadFrom (width : Width) (scale channels start : ℕ) (items : List (List ℕ)) (bad : ℕ) : Type 0 where
  some : start ≤ bad
  within : bad < start + length items
  is_bad : item_of width scale channels bad (slice_index_or items (bad - start) []) ≡ Err bad
  good_before : (k : ℕ) → start + k < bad → IsOk (item_of width scale channels (start + k) (slice_index_or items k []))

here : (width : Width) (scale channels start : ℕ) (item : List ℕ) (items : List (List ℕ))
    → item_of width scale channels start item ≡ Err start
    → IsFirstBadFrom width scale channels start (item ∷ items) start
here width scale channels start item items bad =
    let at : start - start ≡ 0 = omega arith in
    record {
      some = omega arith;
      within = omega arith;
      is_bad = rw at bad;
      good_before = λ k lt. absurd (omega (arith, lt));
    }

later_bad : (width : Width) (scale channels start : ℕ) (item : List ℕ) (row : Row) (items : List (List ℕ)) (bad : ℕ)
    → item_of width scale channels start item ≡ Ok row
    → IsFirstBadFrom width scale channels (start + 1) items bad → IsFirstBadFrom width scale channels start (item ∷ items) bad
later_bad width scale channels start item row items bad good first =
    let at : bad - start ≡ suc (bad - (start + 1)) = omega (arith, first.some) in
    record {
      some = omega (arith, first.some);
      within = omega (arith, first.within);
      is_bad = rw at first.is_bad;
      good_before = λ k.
          elim k as (λ (j : ℕ).
          start + j < bad → IsOk (item_of width scale channels (start + j) (slice_index_or (item ∷ items) j []))) [
            | zero ↦ λ lt. let e : start + zero ≡ start = omega arith in rw (e, good) refl
            | suc j ↦
                λ lt. let e : start + suc j ≡ start + 1 + j = omega arith in
                rw e (first.good_before j (omega (arith, lt)))
          ];
    }

first_by : (width : Width) (scale channels start : ℕ) (item : List ℕ) (items : List (List ℕ)) (bad : ℕ) (one : Result Row ℕ)
    (others : Result (List Row) ℕ)
    → item_of width scale channels start item ≡ one → items_of width scale channels (start + 1) items ≡ others
    → (items_of width scale channels (start + 1) items ≡ Err bad → IsFirstBadFrom width scale channels (start + 1) items bad)
    → onto one others ≡ Err bad → IsFirstBadFrom width scale channels start (item ∷ items) bad
first_by width scale channels start item items bad (Err other) others is rest later h =
    let same : other ≡ bad = cc in
    let named : bad ≡ start = item_faulty width scale channels start bad item (is ∙ ap Err same) in
    rw named (here width scale channels start item items (is ∙ ap Err (same ∙ named)))
first_by width scale channels start item items bad (Ok row) (Err other) is rest later h =
    later_bad width scale channels start item row items bad is (later (rest ∙ h))
first_by width scale channels start item items bad (Ok row) (Ok rows) is rest later h = cc

first_bad : (width : Width) (scale channels start : ℕ) (items : List (List ℕ)) (bad : ℕ) → items_of width scale channels start items ≡ Err bad
    → IsFirstBadFrom width scale channels start items bad
first_bad width scale channels start [] bad h = cc
first_bad width scale channels start (item ∷ items) bad h =
    first_by width scale channels start item items bad (item_of width scale channels start item)
    (items_of width scale channels (start + 1) items) refl refl (first_bad width scale channels (start + 1) items bad) h

-- ---- items that are all good

spelled_by : (width : Width) (scale channels start : ℕ) (item : List ℕ) (items : List (List ℕ)) (rows : List Row) (one : Result Row ℕ)
    (others : Result (List Row) ℕ)
    → item_of width scale channels start item ≡ one → items_of width scale channels (start + 1) items ≡ others
    → ((rest : List Row) → items_of width scale channels (start + 1) items ≡ Ok rest → AreSpelled width scale channels items rest)
    → onto one others ≡ Ok rows → AreSpelled width scale channels (item ∷ items) rows
spelled_by width scale channels start item items rows (Err bad) others is rest later h = cc
spelled_by width scale channels start item items rows (Ok row) (Err bad) is rest later h = cc
spelled_by width scale channels start item items rows (Ok row) (Ok more) is rest later h =
    let spelled = later more rest in
    let whole : row ∷ more ≡ rows = cc in
    let good : item_of width scale channels 0 item ≡ Ok row = item_good width scale channels start 0 item row is in
    record {
      all_good = All-cons (λ i. IsOk (item_of width scale channels 0 i)) item items (rw good refl) spelled.all_good;
      rows_are = ap (map Ok) (sym whole)
          ∙ (ap (λ (r : Result Row ℕ). r ∷ map Ok more) (sym good)
          ∙ ap (λ (rs : List (Result Row ℕ)). item_of width scale channels 0 item ∷ rs) spelled.rows_are);
    }

pub spelled : (width : Width) (scale channels start : ℕ) (items : List (List ℕ)) (rows : List Row)
    → items_of width scale channels start items ≡ Ok rows
    → AreSpelled width scale channels items rows
spelled width scale channels start [] rows h =
    let none : [] ≡ rows = cc in
    record { all_good = All-nil (λ i. IsOk (item_of width scale channels 0 i)); rows_are = ap (map Ok) (sym none) }
spelled width scale channels start (item ∷ items) rows h =
    spelled_by width scale channels start item items rows (item_of width scale channels start item)
    (items_of width scale channels (start + 1) items) refl refl (spelled width scale channels (start + 1) items) h

pub bad_items : BadItemsAreTheFirst
bad_items = record {
  bad = λ width scale channels items number h.
      let first = first_bad width scale channels 1 items number h in
      record {
        some = omega (arith, first.some);
        within = omega (arith, first.within);
        is_bad = first.is_bad;
        good_before = λ k lt. let e : k + 1 ≡ 1 + k = omega arith in rw e (first.good_before k (omega (arith, lt)));
      };
  good = λ width scale channels items rows h. spelled width scale channels 1 items rows h;
}

-- What stands at the places of a part of a column, and of a column that has a part.
use Rattle.std.proofs.Common.{◌≡◌, ℕ, zero, suc, ◌+◌, ◌-◌, ◌<◌, ◌≤◌, ◌⊎◌, inl, inr, length, get_or, take, drop}
use Rattle.std.proofs.Common.{sym, ap, ◌∙◌, arith, length-take, length-drop}
use Rattle.std.specs.Prelude.{Option, None, nat_le, if◌then◌else◌}
use Rattle.std.proofs.Math.ListN.{get_or-eq_default}
use Rattle.std.proofs.lemmas.Bool.Decides.{nat_tests}
use Rattle.std.proofs.lemmas.List.{ext_get_or, get_or-take, get_or-drop}
use Rattle.std.proofs.lemmas.List.FromFn.{get_or-map-range_with_len, length-map-range_with_len, fill_by_all}
use Rattle.std.proofs.lemmas.Simd.{length-zip2, get_or-zip2}
use Rattle.mp_nums.specs.declared.nearest.Near.{Near}
use Rattle.mp_nums.specs.Near.{nearer_of}
use Rattle.mp_nums.specs.NearLaws.{nearer_commutes, nearer_associates, nearer_repeats}
use Rattle.mp_partial.specs.Values.{Column, merged_column}
use Rattle.mp_partial.specs.MergeLaws.{zip_commutes, zip_associates}
use Rattle.mp_partial.specs.Patching.{slots_from, placed}

pub either_below : (k i : ℕ) → (k < i) ⊎ (i ≤ k)
either_below zero zero = inr (omega arith)
either_below zero (suc i) = inl (omega arith)
either_below (suc k) zero = inr (omega arith)
either_below (suc k) (suc i) = elim (either_below k i) [ inl lt ↦ inl (omega arith) | inr le ↦ inr (omega arith) ]

-- ---- a part of a column

pub length_slots_from : (column : Column) (first count : ℕ) → length (slots_from column first count) ≡ count
length_slots_from column first count = length-map-range_with_len (λ k. get_or column (first + k) None) 0 count

pub at_slots_from : (column : Column) (first count k : ℕ) → k < count
    → get_or (slots_from column first count) k None ≡ get_or column (first + k) None
at_slots_from column first count k lt =
    get_or-map-range_with_len (λ j. get_or column (first + j) None) 0 count k k None lt (omega arith)

pub are_slots_from : (slots column : Column) (first count : ℕ) → length slots ≡ count
    → ((k : ℕ) → k < count → get_or slots k None ≡ get_or column (first + k) None)
    → slots ≡ slots_from column first count
are_slots_from slots column first count l h =
    fill_by_all (λ k. get_or column (first + k) None) slots count None l h

-- the part as it is cut out
pub part_is : (slots column : Column) (first count n : ℕ) → slots ≡ column → n ≡ count → first + count ≤ length column
    → take n (drop first slots) ≡ slots_from column first count
part_is slots column first count n e f within =
    ap (λ xs. take n (drop first xs)) e ∙ are_slots_from (take n (drop first column)) column first count
    (omega (arith, length-take {A = Option Near}, length-drop {A = Option Near}))
    (λ k lt. get_or-take n (drop first column) k None (omega arith) ∙ get_or-drop first column k None)

-- ---- a column that has a part

pub length_placed : (size first : ℕ) (slots : Column) → length (placed size first slots) ≡ size
length_placed size first slots =
    length-map-range_with_len (λ k. if nat_le first k then get_or slots (k - first) None else None) 0 size

at_placed : (size first k : ℕ) (slots : Column) → k < size
    → get_or (placed size first slots) k None ≡ (if nat_le first k then get_or slots (k - first) None else None)
at_placed size first k slots lt =
    get_or-map-range_with_len (λ j. if nat_le first j then get_or slots (j - first) None else None) 0 size k k None lt
    (omega arith)

by_order : (first k : ℕ) (slot : Option Near) → first ≤ k → (if nat_le first k then slot else None) ≡ slot
by_order first k slot le = grind (arith, nat_tests)

by_other_order : (first k : ℕ) (slot : Option Near) → k < first → (if nat_le first k then slot else None) ≡ None
by_other_order first k slot lt = grind (arith, nat_tests)

pub placed_within : (size first k : ℕ) (slots : Column) → k < size → first ≤ k
    → get_or (placed size first slots) k None ≡ get_or slots (k - first) None
placed_within size first k slots lt le =
    at_placed size first k slots lt ∙ by_order first k (get_or slots (k - first) None) le

pub placed_before : (size first k : ℕ) (slots : Column) → k < size → k < first
    → get_or (placed size first slots) k None ≡ None
placed_before size first k slots lt before =
    at_placed size first k slots lt ∙ by_other_order first k (get_or slots (k - first) None) before

pub placed_behind : (size first k : ℕ) (slots : Column) → k < size → first + length slots ≤ k
    → get_or (placed size first slots) k None ≡ None
placed_behind size first k slots lt behind =
    placed_within size first k slots lt (omega arith) ∙ get_or-eq_default slots None (omega arith)

-- ---- merges

-- the lesser of two and two is the lesser of the lesser
pub crossed : (a b c d : Column) → merged_column (merged_column a b) (merged_column c d)
    ≡ merged_column (merged_column a c) (merged_column b d)
crossed a b c d =
    associates a b (merged_column c d)
    ∙ ap (merged_column a) (sym (associates b c d) ∙ ap (λ column. merged_column column d) (commutes b c)
    ∙ associates c b d)
    ∙ sym (associates a c (merged_column b d))
  where
    associates : (a b c : Column) → merged_column (merged_column a b) c ≡ merged_column a (merged_column b c)
    associates a b c = zip_associates nearer_of nearer_associates a b c

    commutes : (a b : Column) → merged_column a b ≡ merged_column b a
    commutes a b = zip_commutes nearer_of nearer_commutes a b

-- ---- a column and what was found from a part of it

merged_parts : (column found : Column) (first count k : ℕ) → k < count
    → get_or (merged_column (slots_from column first count) (slots_from found first count)) k None
    ≡ nearer_of (get_or column (first + k) None) (get_or found (first + k) None)
merged_parts column found first count k lt =
    get_or-zip2 nearer_of (slots_from column first count) (slots_from found first count) k None None None
    (omega (arith, lt, length_slots_from column first count)) (omega (arith, lt, length_slots_from found first count))
    ∙ ap (λ slot. nearer_of slot (get_or (slots_from found first count) k None)) (at_slots_from column first count k lt)
    ∙ ap (nearer_of (get_or column (first + k) None)) (at_slots_from found first count k lt)

twice : (a b : Option Near) → nearer_of a (nearer_of a b) ≡ nearer_of a b
twice a b = sym (nearer_associates a a b) ∙ ap (λ x. nearer_of x b) (nearer_repeats a)

-- where nothing is found elsewhere, the column takes from the part just what was found
pub part_taken : (column found : Column) (first count : ℕ) → length found ≡ length column
    → first + count ≤ length column
    → ((k : ℕ) → k < length column → (k < first) ⊎ (first + count ≤ k) → get_or found k None ≡ None)
    → merged_column column (placed (length column) first
    (merged_column (slots_from column first count) (slots_from found first count))) ≡ merged_column column found
part_taken column found first count l within none =
    let size : ℕ = length column in
    let part : Column = merged_column (slots_from column first count) (slots_from found first count) in
    let part_long : length part ≡ count =
    length-zip2 nearer_of (slots_from column first count) (slots_from found first count)
    (length_slots_from column first count ∙ sym (length_slots_from found first count))
    ∙ length_slots_from column first count in
    let long : length (merged_column column (placed size first part)) ≡ size =
    length-zip2 nearer_of column (placed size first part) (sym (length_placed size first part)) in
    ext_get_or None (merged_column column (placed size first part)) (merged_column column found)
    (long ∙ sym (length-zip2 nearer_of column found (sym l)))
    (λ k lt. let below : k < size = omega (arith, lt, long) in
    get_or-zip2 nearer_of column (placed size first part) k None None None below
    (omega (arith, below, length_placed size first part))
    ∙ elim (either_below k first) [
      | inl before ↦ ap (nearer_of (get_or column k None))
          (placed_before size first k part below before ∙ sym (none k below (inl before)))
      | inr le ↦ elim (either_below k (first + count)) [
        | inl inside ↦
            let back : first + (k - first) ≡ k = omega arith in
            ap (nearer_of (get_or column k None))
            (placed_within size first k part below le
            ∙ merged_parts column found first count (k - first) (omega arith)
            ∙ ap (λ n. nearer_of (get_or column n None) (get_or found n None)) back)
            ∙ twice (get_or column k None) (get_or found k None)
        | inr behind ↦ ap (nearer_of (get_or column k None))
            (placed_behind size first k part below (omega (arith, part_long, behind))
            ∙ sym (none k below (inr behind)))
      ]
    ]
    ∙ sym (get_or-zip2 nearer_of column found k None None None below (omega (arith, below, l))))

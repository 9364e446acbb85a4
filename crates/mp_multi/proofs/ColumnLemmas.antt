-- Columns of windows of least value, by the pairs that are compared.
use Rattle.std.proofs.Common.{◌≡◌, ◌≢◌, ℕ, zero, suc, ◌+◌, ◌<◌, inl, inr, length, get_or, set, Bool, true, false, refl}
use Rattle.std.proofs.Common.{sym, ap}
use Rattle.std.proofs.Common.{◌∙◌, arith, subst}
use Rattle.std.specs.Prelude.{Option, Some, None, ◌||◌, if◌then◌else◌, ⊤}
use Rattle.std.specs.List.{range_with_len}
use Rattle.std.proofs.lemmas.Bool.{cases_eq}
use Rattle.std.proofs.lemmas.Bool.Decides.{nat_tests}
use Rattle.std.proofs.lemmas.List.{ext_get_or, length-set, length-replicate, get_or-set_same, get_or-set_other}
use Rattle.std.proofs.lemmas.List.{get_or-replicate}
use Rattle.std.proofs.lemmas.Simd.{zip2-map, length-zip2, get_or-zip2}
use Rattle.mp_nums.specs.declared.nearest.Near.{Near}
use Rattle.mp_nums.specs.Near.{nearer_of}
use Rattle.mp_nums.specs.NearLaws.{nearer_associates, nearer_commutes, nearer_repeats, nearer_with_none}
use Rattle.mp_defs.specs.Least.{near, at_distance, candidate}
use Rattle.mp_defs.specs.LeastLaws.{near_same, near_both, near_none, near_one, grows_by_one_candidate}
use Rattle.mp_defs.specs.Profile.{column}
use Rattle.mp_defs.specs.ColumnLaws.{columns_have_places}
use Rattle.mp_partial.specs.Values.{Column, empty_column, merged_column}
use Rattle.mp_partial.specs.MergeLaws.{zip_associates, zip_commutes, zip_unit_first}
use Rattle.mp_partial.specs.Offers.{offers_are_merges}
use Rattle.mp_scans.specs.Offering.{only}
use Rattle.mp_scans.specs.Slots.{Covers}
use Rattle.mp_tiles.specs.Scanning.{taken}
use Rattle.mp_tiles.specs.TakenLaws.{taken_nothing, covers_more}
use Rattle.mp_multi.specs.Among.{least_column}

-- ---- by which pairs there are

column_same : (f g : ℕ → Option Near) (w : ℕ) → ((i : ℕ) → i < w → f i ≡ g i) → column f w ≡ column g w
column_same f g w h =
    ext_get_or None (column f w) (column g w)
    (columns_have_places.count f w ∙ sym (columns_have_places.count g w))
    (λ i lt. let below : i < w = subst (λ n. i < n) (columns_have_places.count f w) lt in
    columns_have_places.at_place f w i below ∙ h i below ∙ sym (columns_have_places.at_place g w i below))

pub least_places : (p : ℕ → ℕ → Bool) (value : ℕ → ℕ → Option ℕ) (w : ℕ) → length (least_column p value w) ≡ w
least_places p value w = columns_have_places.count (λ i. near (candidate (p i) (value i)) w) w

pub least_same : (p q : ℕ → ℕ → Bool) (value : ℕ → ℕ → Option ℕ) (w : ℕ)
    → ((i j : ℕ) → i < w → j < w → p i j ≡ q i j) → least_column p value w ≡ least_column q value w
least_same p q value w same =
    column_same (λ i. near (candidate (p i) (value i)) w) (λ i. near (candidate (q i) (value i)) w) w
    (λ i lt. near_same (candidate (p i) (value i)) (candidate (q i) (value i)) w
    (λ j below. ap (λ t. if t then at_distance j (value i j) else None) (same i j lt below)))

either_candidate : (p q : Bool) (x : Option Near)
    → (if p || q then x else None) ≡ nearer_of (if p then x else None) (if q then x else None)
either_candidate true true x = sym (nearer_repeats x)
either_candidate true false x = sym (nearer_with_none x).1
either_candidate false q x = refl

pub least_either : (p q : ℕ → ℕ → Bool) (value : ℕ → ℕ → Option ℕ) (w : ℕ)
    → least_column (λ i j. p i j || q i j) value w ≡ merged_column (least_column p value w) (least_column q value w)
least_either p q value w =
    let one : ℕ → Option Near = λ i. near (candidate (p i) (value i)) w in
    let other : ℕ → Option Near = λ i. near (candidate (q i) (value i)) w in
    column_same (λ i. near (candidate (λ j. p i j || q i j) (value i)) w) (λ i. nearer_of (one i) (other i)) w
    (λ i lt. near_same (candidate (λ j. p i j || q i j) (value i))
    (λ j. nearer_of (candidate (p i) (value i) j) (candidate (q i) (value i) j)) w
    (λ j below. either_candidate (p i j) (q i j) (at_distance j (value i j)))
    ∙ near_both (candidate (p i) (value i)) (candidate (q i) (value i)) w)
    ∙ sym (zip2-map nearer_of one other (range_with_len 0 w))

column_of_none : (w : ℕ) → column (λ _. None) w ≡ empty_column w
column_of_none w =
    ext_get_or None (column (λ _. None) w) (empty_column w)
    (columns_have_places.count (λ _. None) w ∙ sym (length-replicate w None))
    (λ i lt. let below : i < w = subst (λ n. i < n) (columns_have_places.count (λ _. None) w) lt in
    columns_have_places.at_place (λ _. None) w i below ∙ sym (get_or-replicate w i None None below))

pub least_none : (p : ℕ → ℕ → Bool) (value : ℕ → ℕ → Option ℕ) (w : ℕ)
    → ((i j : ℕ) → i < w → j < w → p i j ≡ false) → least_column p value w ≡ empty_column w
least_none p value w none =
    column_same (λ i. near (candidate (p i) (value i)) w) (λ _. None) w
    (λ i lt. near_none (candidate (p i) (value i)) w
    (λ j below. ap (λ t. if t then at_distance j (value i j) else None) (none i j lt below)))
    ∙ column_of_none w

-- ---- one pair

no_other_column : (i j c : ℕ) → c ≢ j → only i j i c ≡ false
no_other_column i j c ne = grind (arith, nat_tests)

no_other_row : (i j r c : ℕ) → r ≢ i → only i j r c ≡ false
no_other_row i j r c ne = grind (arith, nat_tests)

pair_is : (i j : ℕ) → only i j i j ≡ true
pair_is i j = grind (arith, nat_tests)

-- what the pair gives window r
given : (i j : ℕ) (value : ℕ → ℕ → Option ℕ) (w r : ℕ) → Option Near
given i j value w r = near (candidate (only i j r) (value r)) w

at_row : (i j : ℕ) (value : ℕ → ℕ → Option ℕ) (w : ℕ) → j < w → given i j value w i ≡ at_distance j (value i j)
unfolding given
at_row i j value w lt =
    near_one (candidate (only i j i) (value i)) j w lt
    (λ c below ne. ap (λ t. if t then at_distance c (value i c) else None) (no_other_column i j c ne))
    ∙ ap (λ t. if t then at_distance j (value i j) else None) (pair_is i j)

at_other_row : (i j : ℕ) (value : ℕ → ℕ → Option ℕ) (w r : ℕ) → r ≢ i → given i j value w r ≡ None
unfolding given
at_other_row i j value w r ne =
    near_none (candidate (only i j r) (value r)) w
    (λ c below. ap (λ t. if t then at_distance c (value r c) else None) (no_other_row i j r c ne))

at_place : (i j : ℕ) (value : ℕ → ℕ → Option ℕ) (w r : ℕ) → r < w
    → get_or (least_column (only i j) value w) r None ≡ given i j value w r
unfolding given
at_place i j value w r lt = columns_have_places.at_place (λ i'. near (candidate (only i j i') (value i')) w) w r lt

-- window i takes window j, and no other takes anything
alone : (i j : ℕ) (value : ℕ → ℕ → Option ℕ) (w : ℕ) → i < w → j < w
    → least_column (only i j) value w ≡ taken (empty_column w) i (at_distance j (value i j))
alone i j value w lt lt' =
    let slot : Option Near = nearer_of (get_or (empty_column w) i None) (at_distance j (value i j)) in
    let long : length (empty_column w) ≡ w = length-replicate w None in
    ext_get_or None (least_column (only i j) value w) (set (empty_column w) i slot)
    (least_places (only i j) value w ∙ sym (length-set (empty_column w) i slot ∙ long))
    (λ r within. let below : r < w = omega (arith, within, least_places (only i j) value w) in
    at_place i j value w r below ∙ elim (cases_eq r i) [
      | inl same ↦
          ap (given i j value w) same ∙ at_row i j value w lt'
          ∙ sym (ap (λ n. get_or (set (empty_column w) i slot) n None) same
          ∙ get_or-set_same (empty_column w) i slot None (omega (arith, lt, long))
          ∙ ap (λ s. nearer_of s (at_distance j (value i j))) (get_or-replicate w i None None lt))
      | inr other ↦
          at_other_row i j value w r other
          ∙ sym (get_or-set_other (empty_column w) i r slot None other ∙ get_or-replicate w r None None below)
    ])

merged_with_empty : (old : Column) → merged_column old (empty_column (length old)) ≡ old
merged_with_empty old =
    zip_commutes nearer_of nearer_commutes old (empty_column (length old))
    ∙ zip_unit_first nearer_of (λ _. ⊤) None (λ a _. nearer_commutes None a ∙ (nearer_with_none a).1) (length old) old
    refl (λ _ _ _. tt)

-- what is taken is merged
taken_is_merged : (old : Column) (i : ℕ) (found : Option Near) → i < length old
    → taken old i found ≡ merged_column old (taken (empty_column (length old)) i found)
taken_is_merged old i None lt =
    taken_nothing old i
    ∙ sym (ap (merged_column old) (taken_nothing (empty_column (length old)) i) ∙ merged_with_empty old)
taken_is_merged old i (Some found) lt = offers_are_merges old i found lt

-- ---- slots that take what pairs give

abbrev pub Takes : (ℕ → ℕ → Bool) → (ℕ → ℕ → Option ℕ) → ℕ → Column → Column → Type 0
Takes p value w old new = new ≡ merged_column old (least_column p value w)

pub takes_places : (p : ℕ → ℕ → Bool) (value : ℕ → ℕ → Option ℕ) (w : ℕ) (old new : Column) → length old ≡ w
    → Takes p value w old new → length new ≡ w
takes_places p value w old new long h =
    ap length h ∙ length-zip2 nearer_of old (least_column p value w) (long ∙ sym (least_places p value w)) ∙ long

pub takes_same : (p q : ℕ → ℕ → Bool) (value : ℕ → ℕ → Option ℕ) (w : ℕ) (old new : Column) → Takes p value w old new
    → ((i j : ℕ) → i < w → j < w → p i j ≡ q i j) → Takes q value w old new
takes_same p q value w old new h same = h ∙ ap (merged_column old) (least_same p q value w same)

pub takes_none : (p : ℕ → ℕ → Bool) (value : ℕ → ℕ → Option ℕ) (w : ℕ) (old : Column) → length old ≡ w
    → ((i j : ℕ) → i < w → j < w → p i j ≡ false) → Takes p value w old old
takes_none p value w old long none =
    sym (ap (merged_column old) (least_none p value w none ∙ ap empty_column (sym long)) ∙ merged_with_empty old)

pub takes_then : (p q : ℕ → ℕ → Bool) (value : ℕ → ℕ → Option ℕ) (w : ℕ) (old mid new : Column)
    → Takes p value w old mid → Takes q value w mid new → Takes (λ i j. p i j || q i j) value w old new
takes_then p q value w old mid new h k =
    k ∙ ap (λ c. merged_column c (least_column q value w)) h
    ∙ zip_associates nearer_of nearer_associates old (least_column p value w) (least_column q value w)
    ∙ ap (merged_column old) (sym (least_either p q value w))

pub takes_one : (i j : ℕ) (value : ℕ → ℕ → Option ℕ) (w : ℕ) (old new : Column) (v : Option ℕ) → length old ≡ w
    → i < w → j < w → v ≡ value i j → new ≡ taken old i (at_distance j v) → Takes (only i j) value w old new
takes_one i j value w old new v long lt lt' is e =
    e ∙ ap (λ x. taken old i (at_distance j x)) is
    ∙ taken_is_merged old i (at_distance j (value i j)) (omega (arith, long, lt))
    ∙ ap (λ n. merged_column old (taken (empty_column n) i (at_distance j (value i j)))) long
    ∙ ap (merged_column old) (sym (alone i j value w lt lt'))

-- ---- pairs that give nothing

near_quiet : (slot : Option Near) (c : ℕ → Option Near) (n : ℕ) → ((j : ℕ) → j < n → nearer_of slot (c j) ≡ slot)
    → nearer_of slot (near c n) ≡ slot
near_quiet slot c zero h = ap (nearer_of slot) (grows_by_one_candidate.no_candidates c) ∙ (nearer_with_none slot).1
near_quiet slot c (suc n) h =
    let one : n + 1 ≡ suc n = omega arith in
    subst (λ k. nearer_of slot (near c k) ≡ slot) one
    (ap (nearer_of slot) (grows_by_one_candidate.one_more c n) ∙ sym (nearer_associates slot (near c n) (c n))
    ∙ ap (λ s. nearer_of s (c n)) (near_quiet slot c n (λ j lt. h j (omega (arith, lt)))) ∙ h n (omega arith))

by_test : (t : Bool) (j : ℕ) (value : Option ℕ) (slot : Option Near)
    → ((v : ℕ) → t ≡ true → value ≡ Some v → Covers slot j v)
    → nearer_of slot (if t then at_distance j value else None) ≡ slot
by_test true j None slot h = (nearer_with_none slot).1
by_test true j (Some v) slot h = h v refl refl
by_test false j value slot h = (nearer_with_none slot).1

at_taken : (p : ℕ → ℕ → Bool) (value : ℕ → ℕ → Option ℕ) (w : ℕ) (old : Column) (i : ℕ) → length old ≡ w → i < w
    → get_or (merged_column old (least_column p value w)) i None
    ≡ nearer_of (get_or old i None) (near (candidate (p i) (value i)) w)
at_taken p value w old i long lt =
    get_or-zip2 nearer_of old (least_column p value w) i None None None (omega (arith, lt, long))
    (omega (arith, lt, least_places p value w))
    ∙ ap (nearer_of (get_or old i None))
    (columns_have_places.at_place (λ i'. near (candidate (p i') (value i')) w) w i lt)

pub takes_quiet : (p : ℕ → ℕ → Bool) (value : ℕ → ℕ → Option ℕ) (w : ℕ) (old : Column) → length old ≡ w
    → ((i j v : ℕ) → i < w → j < w → p i j ≡ true → value i j ≡ Some v → Covers (get_or old i None) j v)
    → Takes p value w old old
takes_quiet p value w old long h =
    let new : Column = merged_column old (least_column p value w) in
    ext_get_or None old new
    (sym (length-zip2 nearer_of old (least_column p value w) (long ∙ sym (least_places p value w))))
    (λ i lt. let below : i < w = omega (arith, lt, long) in
    sym (at_taken p value w old i long below
    ∙ near_quiet (get_or old i None) (candidate (p i) (value i)) w
    (λ j small. by_test (p i j) j (value i j) (get_or old i None) (λ v is found. h i j v below small is found))))

-- what gives a slot nothing still does, whatever it takes
pub takes_covers : (p : ℕ → ℕ → Bool) (value : ℕ → ℕ → Option ℕ) (w : ℕ) (old new : Column) (i j v : ℕ)
    → length old ≡ w → i < w → Takes p value w old new → Covers (get_or old i None) j v → Covers (get_or new i None) j v
takes_covers p value w old new i j v long lt h covers =
    subst (λ s. Covers s j v)
    (sym (ap (λ (c : Column). get_or c i None) h ∙ at_taken p value w old i long lt))
    (covers_more (get_or old i None) (near (candidate (p i) (value i)) w) j v covers)

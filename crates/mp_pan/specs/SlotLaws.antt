-- What stands in the slots at one of the lengths.
use Rattle.std.proofs.Common.{◌≡◌, ◌≢◌, ℕ, zero, suc, ◌+◌, ◌*◌, ◌<◌, ◌≤◌, length, get_or, refl, sym, ap, ◌∙◌, arith}
use Rattle.std.specs.Prelude.{Option, None, slice_set}
use Rattle.std.proofs.lemmas.Bool.{cases_eq}
use Rattle.std.proofs.Common.{inl, inr}
use Rattle.std.proofs.lemmas.List.{ext_get_or, get_or-set_same, get_or-set_other, length-set}
use Rattle.mp_nums.specs.declared.nearest.Near.{Near}
use Rattle.mp_nums.specs.Near.{nearer_of}
use Rattle.mp_defs.specs.Series.{Series}
use Rattle.mp_defs.specs.Least.{at_distance}
use Rattle.mp_defs.specs.ColumnLaws.{columns_have_places}
use Rattle.mp_partial.specs.Values.{Column}
use Rattle.mp_tiles.specs.Scanning.{taken}
use Rattle.mp_pan.specs.Spans.{all_put, column_at, distance_apart, pair_put}

pub length_at : (w k : ℕ) (slots : Column) → length (column_at w k slots) ≡ w
length_at w k slots = columns_have_places.count (λ i. get_or slots (4 * i + k) None) w

pub at_place : (w k : ℕ) (slots : Column) (i : ℕ) → i < w
    → get_or (column_at w k slots) i None ≡ get_or slots (4 * i + k) None
at_place w k slots i lt = columns_have_places.at_place (λ n. get_or slots (4 * n + k) None) w i lt

-- what is put into a slot is put at its window's place
pub put_at_same : (w k i : ℕ) (slots : Column) (x : Option Near) → i < w → 4 * i + k < length slots → k < 4
    → column_at w k (slice_set slots (4 * i + k) x) ≡ slice_set (column_at w k slots) i x
put_at_same w k i slots x lt within few =
    let new = slice_set slots (4 * i + k) x in
    ext_get_or None (column_at w k new) (slice_set (column_at w k slots) i x)
    (length_at w k new ∙ sym (length-set (column_at w k slots) i x ∙ length_at w k slots))
    (λ n below. let here : n < w = omega (arith, below, length_at w k new) in elim (cases_eq n i) [
      | inl same ↦
          at_place w k new n here
          ∙ ap (λ t. get_or new (4 * t + k) None) same
          ∙ get_or-set_same slots (4 * i + k) x None within
          ∙ sym (get_or-set_same (column_at w k slots) i x None (omega (arith, lt, length_at w k slots)))
          ∙ ap (λ t. get_or (slice_set (column_at w k slots) i x) t None) (sym same)
      | inr ne ↦
          at_place w k new n here
          ∙ get_or-set_other slots (4 * i + k) (4 * n + k) x None (λ e. ne (omega (arith, e)))
          ∙ sym (get_or-set_other (column_at w k slots) i n x None ne ∙ at_place w k slots n here)
    ])

-- and at no other length
pub put_at_other : (w k l i : ℕ) (slots : Column) (x : Option Near) → k ≢ l → k < 4 → l < 4
    → column_at w l (slice_set slots (4 * i + k) x) ≡ column_at w l slots
put_at_other w k l i slots x ne few few' =
    let new = slice_set slots (4 * i + k) x in
    ext_get_or None (column_at w l new) (column_at w l slots) (length_at w l new ∙ sym (length_at w l slots))
    (λ n below. let here : n < w = omega (arith, below, length_at w l new) in
    at_place w l new n here
    ∙ get_or-set_other slots (4 * i + k) (4 * n + l) x None (λ e. ne (omega (arith, e, few, few')))
    ∙ sym (at_place w l slots n here))

pub taken_at_same : (w k i : ℕ) (slots : Column) (x : Option Near) → i < w → 4 * i + k < length slots → k < 4
    → column_at w k (taken slots (4 * i + k) x) ≡ taken (column_at w k slots) i x
taken_at_same w k i slots x lt within few =
    put_at_same w k i slots (nearer_of (get_or slots (4 * i + k) None) x) lt within few
    ∙ ap (λ s. slice_set (column_at w k slots) i (nearer_of s x)) (sym (at_place w k slots i lt))

pub length_put : (k i j : ℕ) (d : Option ℕ) (slots : Column) → length (pair_put k i j d slots) ≡ length slots
length_put k i j d slots =
    let mid = taken slots (4 * i + k) (at_distance j d) in
    length-set mid (4 * j + k) (nearer_of (get_or mid (4 * j + k) None) (at_distance i d))
    ∙ length-set slots (4 * i + k) (nearer_of (get_or slots (4 * i + k) None) (at_distance j d))

-- a pair at its length
pub pair_at_same : (w k i j : ℕ) (d : Option ℕ) (slots : Column) → i < j → j < w
    → 4 * w ≤ length slots → k < 4
    → column_at w k (pair_put k i j d slots)
    ≡ taken (taken (column_at w k slots) i (at_distance j d)) j (at_distance i d)
pair_at_same w k i j d slots order lt long few =
    let mid = taken slots (4 * i + k) (at_distance j d) in
    let same : length mid ≡ length slots =
    length-set slots (4 * i + k) (nearer_of (get_or slots (4 * i + k) None) (at_distance j d)) in
    taken_at_same w k j mid (at_distance i d) lt (omega (arith, lt, long, few, same)) few
    ∙ ap (λ c. taken c j (at_distance i d))
    (taken_at_same w k i slots (at_distance j d) (omega (arith, order, lt)) (omega (arith, order, lt, long, few)) few)

pub pair_at_other : (w k l i j : ℕ) (d : Option ℕ) (slots : Column) → k ≢ l → k < 4 → l < 4
    → column_at w l (pair_put k i j d slots) ≡ column_at w l slots
pair_at_other w k l i j d slots ne few few' =
    let mid = taken slots (4 * i + k) (at_distance j d) in
    put_at_other w k l j mid (nearer_of (get_or mid (4 * j + k) None) (at_distance i d)) ne few few'
    ∙ put_at_other w k l i slots (nearer_of (get_or slots (4 * i + k) None) (at_distance j d)) ne few few'

-- ---- a pair at all lengths

pub length_all : (n m : ℕ) (a : Series) (i j : ℕ) (slots : Column)
    → length (all_put n m a i j slots) ≡ length slots
unfolding all_put
length_all zero m a i j slots = refl
length_all (suc n) m a i j slots =
    length_put n i j (distance_apart (m + n) a i j) (all_put n m a i j slots) ∙ length_all n m a i j slots

-- a later length leaves it as it was
pub all_before : (w n k m : ℕ) (a : Series) (i j : ℕ) (slots : Column) → n ≤ k → k < 4
    → column_at w k (all_put n m a i j slots) ≡ column_at w k slots
unfolding all_put
all_before w zero k m a i j slots le few = refl
all_before w (suc n) k m a i j slots le few =
    pair_at_other w n k i j (distance_apart (m + n) a i j) (all_put n m a i j slots) (λ e. omega (arith, e, le))
    (omega (arith, le, few)) few
    ∙ all_before w n k m a i j slots (omega (arith, le)) few

pub all_at : (w n k m : ℕ) (a : Series) (i j : ℕ) (slots : Column) → k < n → n ≤ 4 → i < j → j < w
    → 4 * w ≤ length slots
    → column_at w k (all_put n m a i j slots)
    ≡ taken (taken (column_at w k slots) i (at_distance j (distance_apart (m + k) a i j))) j
    (at_distance i (distance_apart (m + k) a i j))
unfolding all_put
all_at w zero k m a i j slots lt few order within long = absurd (omega (arith, lt))
all_at w (suc n) k m a i j slots lt few order within long = elim (cases_eq n k) [
  | inl same ↦
      let before = all_put n m a i j slots in
      let same_length = length_all n m a i j slots in
      ap (λ t. column_at w k (pair_put t i j (distance_apart (m + t) a i j) before)) same
      ∙ pair_at_same w k i j (distance_apart (m + k) a i j) before order within
      (omega (arith, long, same_length)) (omega (arith, lt, few))
      ∙ ap (λ c. taken (taken c i (at_distance j (distance_apart (m + k) a i j))) j
      (at_distance i (distance_apart (m + k) a i j)))
      (all_before w n k m a i j slots (omega (arith, same)) (omega (arith, lt, few)))
  | inr ne ↦
      pair_at_other w n k i j (distance_apart (m + n) a i j) (all_put n m a i j slots) ne (omega (arith, few))
      (omega (arith, lt, few))
      ∙ all_at w n k m a i j slots (omega (arith, lt, ne)) (omega (arith, few)) order within long
]

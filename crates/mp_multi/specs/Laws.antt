-- What a value and an entry are, in the subject's own words.
use Rattle.std.specs.Prelude.{◌≡◌, ℕ, zero, suc, ◌+◌, ◌<◌, ◌≤◌, ◌⊎◌, Bool, true, if◌then◌else◌, List}
use Rattle.std.specs.Prelude.{MatchOption, Option, Some, None}
use Rattle.mp_nums.specs.declared.nearest.Near.{Near}
use Rattle.mp_defs.specs.Series.{Series}
use Rattle.mp_defs.specs.Window.{is_allowed}
use Rattle.mp_defs.specs.Distance.{plus}
use Rattle.mp_results.specs.Rising.{rising, sum_of_first}
use Rattle.mp_results.specs.Multi.{windows_in, pair_value, multi_entry}

-- ---- choices of places

-- how many of the first n places are chosen
abbrev pub count_chosen : (ℕ → Bool) → ℕ → ℕ
count_chosen chosen zero = 0
count_chosen chosen (suc n) = count_chosen chosen n + (if chosen n then 1 else 0)

-- the sum of the numbers there, none where one of the chosen places has none
abbrev pub sum_chosen : (ℕ → Bool) → (ℕ → Option ℕ) → ℕ → Option ℕ
sum_chosen chosen f zero = Some 0
sum_chosen chosen f (suc n) = if chosen n then plus (sum_chosen chosen f n) (f n) else sum_chosen chosen f n

-- s is the sum of k of the numbers of the first n places, and no k of them sum to less
pub record IsLeastSum (f : ℕ → Option ℕ) (n k s : ℕ) : Type 0 where
  pub by_choice : (chosen : ℕ → Bool) × (count_chosen chosen n ≡ k) × (sum_chosen chosen f n ≡ Some s)
  pub none_less : (chosen : ℕ → Bool) (t : ℕ) → count_chosen chosen n ≡ k → sum_chosen chosen f n ≡ Some t → s ≤ t

-- no k of the numbers can be chosen
abbrev pub HasFewer : (ℕ → Option ℕ) → ℕ → ℕ → Type 0
HasFewer f n k = (chosen : ℕ → Bool) → count_chosen chosen n ≡ k → sum_chosen chosen f n ≡ None

abbrev pub SumIsLeast : Type 0
SumIsLeast = (f : ℕ → Option ℕ) (n k : ℕ)
    → MatchOption (sum_of_first k (rising f n)) (HasFewer f n k) (IsLeastSum f n k)

-- ---- entries

-- window found is allowed, and no allowed window has a lesser value, or the same and a smaller start
pub record IsNearestByValue (m k : ℕ) (channels : List Series) (i : ℕ) (found : Near) : Type 0 where
  pub window : found.index < windows_in m channels
  pub allowed : is_allowed m i found.index ≡ true
  pub value_is : pair_value m k channels i found.index ≡ Some found.dist.0
  pub none_nearer : (j v : ℕ) → j < windows_in m channels → is_allowed m i j ≡ true
      → pair_value m k channels i j ≡ Some v
      → (found.dist.0 < v) ⊎ ((found.dist.0 ≡ v) × (found.index ≤ j))

-- there is none only where no allowed window has a value
abbrev pub EntryIsNearest : Type 0
EntryIsNearest = (m k : ℕ) (channels : List Series) (i : ℕ) → MatchOption (multi_entry m k channels i)
    ((j : ℕ) → j < windows_in m channels → is_allowed m i j ≡ true → pair_value m k channels i j ≡ None)
    (IsNearestByValue m k channels i)

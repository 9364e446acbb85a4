-- A list without its first items: what lies at a place lay so many places on.
use Rattle.std.proofs.Common.{◌≡◌, ℕ, zero, suc, ◌+◌, ◌≤◌, List, [], ◌∷◌, ◌++◌, length, get_or, drop}
use Rattle.std.proofs.Common.{refl, sym, ap, ◌∙◌, arith, subst}
use Rattle.std.specs.Prelude.{ℤ, pos, None, slice_get}
use Rattle.std.proofs.lemmas.List.{drop-append-le, drop-map, get_or-drop}
use Rattle.mp_nums.specs.declared.samples.Sample.{Sample}
use Rattle.mp_defs.specs.Series.{Series, number_at, present, reading_of, series_of}
use Rattle.mp_defs.specs.Window.{is_free}
use Rattle.mp_defs.specs.DistanceLaws.{grows_by_one_sample}
use Rattle.mp_series.specs.Samples.{number_in, numbers_in}
use Rattle.mp_stream.specs.Rows.{square_at, sum_at}
use Rattle.mp_stream.proofs.SumLemmas.{sum_none, sum_more}

-- ---- numbers

square_behind : (k : ℕ) (xs : List ℤ) (i j i' j' : ℕ) → i' ≡ k + i → j' ≡ k + j
    → square_at (drop k xs) i j ≡ square_at xs i' j'
square_behind k xs i j i' j' e f =
    let here : get_or (drop k xs) i (pos 0) ≡ get_or xs i' (pos 0) =
    get_or-drop k xs i (pos 0) ∙ ap (λ n. get_or xs n (pos 0)) (sym e) in
    let there : get_or (drop k xs) j (pos 0) ≡ get_or xs j' (pos 0) =
    get_or-drop k xs j (pos 0) ∙ ap (λ n. get_or xs n (pos 0)) (sym f) in
    rw (here, there) refl

pub sum_behind : (k : ℕ) (xs : List ℤ) (m i j : ℕ) → sum_at (drop k xs) m i j ≡ sum_at xs m (k + i) (k + j)
sum_behind k xs zero i j = sum_none (drop k xs) i j ∙ sym (sum_none xs (k + i) (k + j))
sum_behind k xs (suc m) i j =
    let one : m + 1 ≡ suc m = omega arith in
    subst (λ n. sum_at (drop k xs) n i j ≡ sum_at xs n (k + i) (k + j)) one
    (rw (
      sum_more (drop k xs) m i j,
      sum_more xs m (k + i) (k + j),
      sum_behind k xs m i j,
      square_behind k xs (i + m) (j + m) (k + i + m) (k + j + m) (omega arith) (omega arith),
    ) refl)

pub numbers_behind : (k : ℕ) (items : List Sample) → numbers_in (drop k items) ≡ drop k (numbers_in items)
numbers_behind k items = sym (drop-map number_in k items)

-- ---- samples

pub series_behind : (k : ℕ) (items : List Sample) → series_of (drop k items) ≡ drop k (series_of items)
series_behind k items = sym (drop-map reading_of k items)

get_none : {X : Type 0} (i : ℕ) → slice_get {X = X} [] i ≡ None
get_none zero = refl
get_none (suc i) = refl

get_behind : {X : Type 0} (k : ℕ) (xs : List X) (i j : ℕ) → j ≡ k + i → slice_get (drop k xs) i ≡ slice_get xs j
get_behind zero xs i j e = let same : i ≡ j = omega (arith, e) in ap (slice_get xs) same
get_behind {X} (suc k) [] i j e = get_none {X = X} i ∙ sym (get_none {X = X} j)
get_behind (suc k) (x ∷ xs) i zero e = absurd (omega (arith, e))
get_behind (suc k) (x ∷ xs) i (suc j) e = get_behind k xs i j (omega (arith, e))

number_behind : (k : ℕ) (a : Series) (i j : ℕ) → j ≡ k + i → number_at (drop k a) i ≡ number_at a j
number_behind k a i j e = ap present (get_behind k a i j e)

pub free_behind : (k : ℕ) (m : ℕ) (a : Series) (i : ℕ) → is_free m (drop k a) i ≡ is_free m a (k + i)
free_behind k zero a i =
    grows_by_one_sample.free_at_first (drop k a) i ∙ sym (grows_by_one_sample.free_at_first a (k + i))
free_behind k (suc m) a i =
    let one : m + 1 ≡ suc m = omega arith in
    subst (λ n. is_free n (drop k a) i ≡ is_free n a (k + i)) one
    (rw (
      grows_by_one_sample.one_more_free m (drop k a) i,
      grows_by_one_sample.one_more_free m a (k + i),
      free_behind k m a i,
      number_behind k a (i + m) (k + i + m) (omega arith),
    ) refl)

-- ---- the first ones of a longer list

pub dropped_behind : {X : Type 0} (k : ℕ) (xs : List X) (x : X) → k ≤ length xs
    → drop k (xs ++ x ∷ []) ≡ drop k xs ++ x ∷ []
dropped_behind k xs x le = drop-append-le k xs (x ∷ []) le

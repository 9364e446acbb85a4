-- Two windows of a series that move on: what goes and what comes in, and when they have a distance.
use Rattle.std.proofs.Common.{◌≡◌, ℕ, zero, suc, ◌+◌, ◌≤◌, ◌⊎◌, inl, inr, refl, sym, ap, ◌∙◌, arith, add-one, List}
use Rattle.std.proofs.Common.{subst}
use Rattle.std.specs.Prelude.{ℤ, Option, Some, None, is_some, slice_index_or}
use Rattle.std.specs.Option.{option_map}
use Rattle.mp_nums.specs.declared.samples.Sample.{Sample}
use Rattle.mp_nums.specs.declared.samples.Sample.TheVariants.{Missing}
use Rattle.mp_defs.specs.Series.{Series, reading_of, series_of, number_at}
use Rattle.mp_defs.specs.SeriesLaws.{series_are_of_samples}
use Rattle.mp_defs.specs.Distance.{squared_difference, square_between, plus, distance}
use Rattle.mp_defs.specs.DistanceLaws.{grows_by_one_sample}
use Rattle.mp_results.specs.Slide.{square}
use Rattle.mp_sums.specs.declared.distances.Grid.{Grid}
use Rattle.mp_sums.specs.Grids.{IsSumIn}
use Rattle.mp_sums.specs.Sums.{filled, numbers_of, square_sum, IsSum}
use Rattle.mp_sums.specs.SumLaws.{sum_of_none, sum_more}
use Rattle.mp_multi.specs.declared.running.Running.{Running}
use Rattle.mp_multi.specs.Missing.{missing_between, count_missing}
use Rattle.mp_multi.specs.Running.{IsRunning}

-- ---- one sample

pub there_at : (samples : List Sample) (place : ℕ) (read : Sample) → read ≡ slice_index_or samples place Missing
    → is_some (reading_of read) ≡ is_some (number_at (series_of samples) place)
there_at samples place read e =
    ap (λ s. is_some (reading_of s)) e ∙ ap is_some (sym (series_are_of_samples.numbers samples place))

pub one_at_most : (x y : Option ℤ) → missing_between x y ≤ 1
one_at_most None y = omega arith
one_at_most (Some x) None = omega arith
one_at_most (Some x) (Some y) = omega arith

-- ---- how many are missing

pub count_none : (a : Series) (i j : ℕ) → count_missing 0 a i j ≡ 0
unfolding count_missing
count_none a i j = refl

count_suc : (m : ℕ) (a : Series) (i j : ℕ)
    → count_missing (suc m) a i j ≡ count_missing m a i j + missing_between (number_at a (i + m)) (number_at a (j + m))
unfolding count_missing
count_suc m a i j = refl

pub count_more : (m : ℕ) (a : Series) (i j : ℕ)
    → count_missing (m + 1) a i j ≡ count_missing m a i j + missing_between (number_at a (i + m)) (number_at a (j + m))
unfolding count_missing
count_more m a i j = rw add-one refl

pub count_few : (m : ℕ) (a : Series) (i j : ℕ) → count_missing m a i j ≤ m
count_few zero a i j = omega (arith, count_none a i j)
count_few (suc m) a i j =
    omega (
      arith,
      count_suc m a i j,
      count_few m a i j,
      one_at_most (number_at a (i + m)) (number_at a (j + m)),
    )

missing_there : (a : Series) (i i' j j' : ℕ) → i ≡ i' → j ≡ j'
    → missing_between (number_at a i) (number_at a j) ≡ missing_between (number_at a i') (number_at a j')
missing_there a i i' j j' e f =
    ap (λ n. missing_between (number_at a n) (number_at a j)) e
    ∙ ap (λ n. missing_between (number_at a i') (number_at a n)) f

-- one place on, without what goes
count_behind : (m : ℕ) (a : Series) (i j : ℕ)
    → count_missing m a (i + 1) (j + 1) + missing_between (number_at a i) (number_at a j)
    ≡ count_missing (suc m) a i j
count_behind zero a i j =
    omega (
      arith,
      count_none a (i + 1) (j + 1),
      count_suc zero a i j,
      count_none a i j,
      missing_there a (i + 0) i (j + 0) j (omega arith) (omega arith),
    )
count_behind (suc m) a i j =
    omega (
      arith,
      count_suc m a (i + 1) (j + 1),
      count_suc (suc m) a i j,
      count_behind m a i j,
      missing_there a (i + 1 + m) (i + suc m) (j + 1 + m) (j + suc m) (omega arith) (omega arith),
    )

pub count_moved_on : (m : ℕ) (a : Series) (i j : ℕ)
    → count_missing m a (i + 1) (j + 1) + missing_between (number_at a i) (number_at a j)
    ≡ count_missing m a i j + missing_between (number_at a (i + m)) (number_at a (j + m))
count_moved_on m a i j = count_behind m a i j ∙ count_suc m a i j

-- ---- the sum

pub sum_in_grid : (grid : Grid) (samples : List Sample) (m i j sum : ℕ) → grid.rows.now ≡ samples
    → grid.columns.now ≡ samples → grid.m ≡ m → IsSumIn grid i j sum
    → IsSum m (numbers_of (series_of samples)) i (numbers_of (series_of samples)) j sum
sum_in_grid grid samples m i j sum rows columns long h =
    subst (λ n. IsSum n (numbers_of (series_of samples)) i (numbers_of (series_of samples)) j sum) long
    (subst (λ xs. IsSum grid.m (numbers_of (series_of xs)) i (numbers_of (series_of samples)) j sum) rows
    (subst (λ ys. IsSum grid.m (numbers_of (series_of grid.rows.now)) i (numbers_of (series_of ys)) j sum) columns h))

-- ---- when there is a distance

one_square : (sum : ℕ) (x y : Option ℤ) → missing_between x y ≡ 0
    → plus (Some sum) (square_between x y) ≡ Some (sum + squared_difference (filled x) (filled y))
one_square sum None y e = absurd (omega (arith, e))
one_square sum (Some x) None e = absurd (omega (arith, e))
one_square sum (Some x) (Some y) e = refl

no_square : (d : Option ℕ) (x y : Option ℤ) → 1 ≤ missing_between x y → plus d (square_between x y) ≡ None
no_square None x y le = refl
no_square (Some d) None y le = refl
no_square (Some d) (Some x) None le = refl
no_square (Some d) (Some x) (Some y) le = absurd (omega (arith, le))

has_distance : (m : ℕ) (a : Series) (i j : ℕ) → count_missing m a i j ≡ 0
    → distance m a i a j ≡ Some (square_sum m (numbers_of a) i (numbers_of a) j)
has_distance zero a i j e =
    grows_by_one_sample.no_samples a i a j ∙ ap Some (sym (sum_of_none (numbers_of a) i (numbers_of a) j))
has_distance (suc m) a i j e =
    let one : m + 1 ≡ suc m = omega arith in
    let x = number_at a (i + m) in
    let y = number_at a (j + m) in
    let before : count_missing m a i j ≡ 0 = omega (arith, e, count_suc m a i j) in
    let last : missing_between x y ≡ 0 = omega (arith, e, count_suc m a i j) in
    subst (λ n. distance n a i a j ≡ Some (square_sum n (numbers_of a) i (numbers_of a) j)) one
    (grows_by_one_sample.one_more m a i a j
    ∙ ap (λ d. plus d (square_between x y)) (has_distance m a i j before)
    ∙ one_square (square_sum m (numbers_of a) i (numbers_of a) j) x y last
    ∙ ap Some (sym (sum_more m (numbers_of a) i (numbers_of a) j)))

has_none : (m : ℕ) (a : Series) (i j : ℕ) → 1 ≤ count_missing m a i j → distance m a i a j ≡ None
has_none zero a i j le = absurd (omega (arith, le, count_none a i j))
has_none (suc m) a i j le =
    let one : m + 1 ≡ suc m = omega arith in
    let x = number_at a (i + m) in
    let y = number_at a (j + m) in
    subst (λ n. distance n a i a j ≡ None) one
    (grows_by_one_sample.one_more m a i a j ∙ elim (none_or_some (count_missing m a i j)) [
      | inl none ↦ no_square (distance m a i a j) x y (omega (arith, le, count_suc m a i j, none))
      | inr some ↦ ap (λ d. plus d (square_between x y)) (has_none m a i j some)
    ])
  where
    none_or_some : (n : ℕ) → (n ≡ 0) ⊎ (1 ≤ n)
    none_or_some n = grind arith

pub distance_found : (m : ℕ) (a : Series) (i j : ℕ) (running : Running) → IsRunning m a i j running
    → running.missing ≡ 0 → Some (square running.sum) ≡ option_map square (distance m a i a j)
distance_found m a i j running h e =
    ap (λ s. Some (square s)) h.sum.sum_is
    ∙ sym (ap (option_map square) (has_distance m a i j (sym h.missing ∙ e)))

pub distance_missing : (m : ℕ) (a : Series) (i j : ℕ) (running : Running) → IsRunning m a i j running
    → 1 ≤ running.missing → None ≡ option_map square (distance m a i a j)
distance_missing m a i j running h le =
    sym (ap (option_map square) (has_none m a i j (omega (arith, le, h.missing))))

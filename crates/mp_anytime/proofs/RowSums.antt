-- Sums of the last pairs, moved one place on in 64 bits.
use Rattle.std.proofs.Common.{◌≡◌, ℕ, ◌+◌, ◌-◌, ◌*◌, ◌^◌, ◌<◌, ◌≤◌, List, length}
use Rattle.std.proofs.Common.{get_or, take, drop, ap, ◌∙◌}
use Rattle.std.proofs.Common.{arith, subst, sym}
use Rattle.std.specs.Prelude.{ℤ, pos}
use Rattle.std.proofs.lemmas.List.{length-map, length-take, length-drop, get_or-take, get_or-drop}
use Rattle.std.proofs.lemmas.Nat.{mul-le}
use Rattle.mp_nums.specs.declared.samples.Sample.{Sample}
use Rattle.mp_defs.specs.Series.{Series, series_of}
use Rattle.mp_defs.specs.Distance.{squared_difference}
use Rattle.mp_series.specs.Samples.{number_in, numbers_in}
use Rattle.mp_sums.specs.Sums.{numbers_of, square_sum}
use Rattle.mp_sums.specs.Residues.{item}
use Rattle.mp_sums.specs.Ranges.{AreWithin, IsInRange}
use Rattle.mp_sums.specs.declared.ranges.Range.{Range}
use Rattle.mp_sums.specs.RangeLaws.{squares_in_range, sums_in_range}
use Rattle.mp_sums.specs.SumLaws.{is_sum_at, is_sum_moved_on, leaves_within}
use Rattle.mp_anytime.specs.Kept.{IsSumAt}
use Rattle.mp_anytime.specs.Offers.{IsMovedSum}
use Rattle.mp_anytime.specs.Sums.{AreClose, IsMoved, LieClose, square_behind}
use Rattle.mp_anytime.proofs.Distances.{number_same}

-- the square of two numbers at the same place of lists within a range
pub near_square : (xs ys : List ℤ) (k : ℕ) (x y : ℤ) (range : Range) → AreWithin range xs → AreWithin range ys
    → k < length xs → length ys ≡ length xs → x ≡ item xs k → y ≡ item ys k
    → squared_difference x y ≤ squared_difference range.greatest range.least
near_square xs ys k x y range within others lt same e f =
    squares_in_range range x y (subst (IsInRange range) (sym e) (within k lt))
    (subst (IsInRange range) (sym f) (others k (omega (arith, lt, same))))

-- where the sum of some of them has 63 bits, one has 62
pub square_fits : (count most square : ℕ) → 2 ≤ count → count * most < 2 ^ 63 → square ≤ most → square < 2 ^ 62
square_fits count most square some fits le =
    let twice : 2 * most ≤ count * most = mul-le 2 most count most some (omega arith) in
    omega (arith, twice, fits, le)

-- a part of numbers within a range lies within it
pub within_part : (range : Range) (xs : List ℤ) (first count : ℕ) (part : List ℤ) → AreWithin range xs
    → first + count ≤ length xs → part ≡ take count (drop first xs) → AreWithin range part
within_part range xs first count part within some e k lt =
    let short : k < count =
    omega (arith, lt, ap length e, length-take count (drop first xs), length-drop first xs, some) in
    let same : item part k ≡ item xs (first + k) =
    ap (λ (l : List ℤ). item l k) e ∙ get_or-take count (drop first xs) k (pos 0) short
    ∙ get_or-drop first xs k (pos 0) in
    subst (IsInRange range) (sym same) (within (first + k) (omega (arith, short, some)))

-- so many numbers of a series from a place on
record IsPart (items : List Sample) (first count : ℕ) (part : List ℤ) : Type 0 where
  long : length part ≡ count
  each : (k : ℕ) → k < count → item part k ≡ numbers_of (series_of items) (first + k)

part_of : (items : List Sample) (first count : ℕ) (part : List ℤ) → first + count ≤ length items
    → part ≡ take count (drop first (numbers_in items)) → IsPart items first count part
part_of items first count part within e =
    let all = length-map items number_in in
    record {
      long = omega (
        arith,
        ap length e,
        length-take count (drop first (numbers_in items)),
        length-drop first (numbers_in items),
        all,
        within,
      );
      each = λ k lt.
          ap (λ (l : List ℤ). get_or l k (pos 0)) e
          ∙ get_or-take count (drop first (numbers_in items)) k (pos 0) lt
          ∙ get_or-drop first (numbers_in items) k (pos 0)
          ∙ number_same items (first + k);
    }

pub part_long : (items : List Sample) (first count : ℕ) (part : List ℤ) → first + count ≤ length items
    → part ≡ take count (drop first (numbers_in items)) → length part ≡ count
part_long items first count part within e = (part_of items first count part within e).long

-- each number of a series lies in the range of all
in_range : (items : List Sample) (range : Range) (k : ℕ) → AreWithin range (numbers_in items) → k < length items
    → IsInRange range (numbers_of (series_of items) k)
in_range items range k within lt =
    subst (IsInRange range) (number_same items k) (within k (omega (arith, lt, length-map items number_in)))

close_square : (m : ℕ) (items : List Sample) (i j : ℕ) → 2 ≤ m → LieClose m (numbers_in items)
    → i < length items
    → j < length items
    → squared_difference (numbers_of (series_of items) i) (numbers_of (series_of items) j) < 2 ^ 62
close_square m items i j some close lt lt' =
    let range = close.range in
    square_fits m (squared_difference range.greatest range.least) _ some close.fits
    (squares_in_range range (numbers_of (series_of items) i) (numbers_of (series_of items) j)
    (in_range items range i close.within lt) (in_range items range j close.within lt'))

pub close_numbers : (m : ℕ) (items : List Sample) (i j : ℕ) (x y : ℤ) → 2 ≤ m → LieClose m (numbers_in items)
    → i < length items → j < length items → x ≡ numbers_of (series_of items) i → y ≡ numbers_of (series_of items) j
    → squared_difference x y < 2 ^ 62
close_numbers m items i j x y some close lt lt' e f =
    subst (λ z. squared_difference z y < 2 ^ 62) (sym e)
    (subst (λ z. squared_difference (numbers_of (series_of items) i) z < 2 ^ 62) (sym f)
    (close_square m items i j some close lt lt'))

-- the square of the last number of a part and of one before it
part_square : (items : List Sample) (first count d : ℕ) (part : List ℤ) → IsPart items first count part
    → d < count
    → square_behind part d
    ≡ squared_difference (numbers_of (series_of items) (first + (count - 1 - d)))
    (numbers_of (series_of items) (first + (count - 1)))
part_square items first count d part is lt =
    ap (λ n. squared_difference (item part (n - 1 - d)) (item part (n - 1))) is.long
    ∙ ap (λ z. squared_difference z (item part (count - 1))) (is.each (count - 1 - d) (omega (arith, lt)))
    ∙ ap (squared_difference (numbers_of (series_of items) (first + (count - 1 - d))))
    (is.each (count - 1) (omega (arith, lt)))

pub close_part : (m : ℕ) (items : List Sample) (first count : ℕ) (part : List ℤ) → 2 ≤ m
    → LieClose m (numbers_in items) → first + count ≤ length items
    → part ≡ take count (drop first (numbers_in items)) → AreClose part
close_part m items first count part some close within e d lt =
    let is = part_of items first count part within e in
    let less : d < count = omega (arith, lt, is.long) in
    let small = close_square m items (first + (count - 1 - d)) (first + (count - 1)) some close
    (omega (arith, within, less)) (omega (arith, within, less)) in
    omega (arith, small, part_square items first count d part is less)

pub small_sum : (m : ℕ) (items : List Sample) (i j sum : ℕ) → LieClose m (numbers_in items) → i + m ≤ length items
    → j + m ≤ length items
    → IsSumAt m (series_of items) i j sum → sum < 2 ^ 63
small_sum m items i j sum close within within' h =
    let x = numbers_of (series_of items) in
    let small : square_sum m x i x j < 2 ^ 63 = sums_in_range m m 63 close.range x i x j (omega arith) close.fits
    (λ k lt. in_range items close.range (i + k) close.within (omega (arith, lt, within)))
    (λ k lt. in_range items close.range (j + k) close.within (omega (arith, lt, within'))) in
    omega (arith, small, h.sum_is)

-- 64 bits hold the sum
pub no_upper : (m : ℕ) (items : List Sample) (i j upper lower : ℕ) → LieClose m (numbers_in items)
    → i + m ≤ length items → j + m ≤ length items → IsSumAt m (series_of items) i j (upper * 2 ^ 64 + lower)
    → upper ≡ 0
no_upper m items i j upper lower close within within' h =
    omega (arith, small_sum m items i j (upper * 2 ^ 64 + lower) close within within' h)

square_there : (a : Series) (i i' j j' : ℕ) → i ≡ i' → j ≡ j'
    → squared_difference (numbers_of a i) (numbers_of a j) ≡ squared_difference (numbers_of a i') (numbers_of a j')
square_there a i i' j j' e f =
    ap (λ n. squared_difference (numbers_of a n) (numbers_of a j)) e
    ∙ ap (λ n. squared_difference (numbers_of a i') (numbers_of a n)) f

pub sum_moved : (m : ℕ) (items : List Sample) (last d : ℕ) (enters leaves : List ℤ) (upper lower moved : ℕ)
    → 2 ≤ m
    → d < last → last + m ≡ length items → enters ≡ take last (drop m (numbers_in items))
    → leaves ≡ take last (drop 0 (numbers_in items)) → LieClose m (numbers_in items)
    → IsMoved (square_behind enters d) (square_behind leaves d) lower moved
    → IsSumAt m (series_of items) (last - 1 - d) (last - 1) (upper * 2 ^ 64 + lower)
    → IsMovedSum m items last d upper moved
sum_moved m items last d enters leaves upper lower moved some lt within e f close step h =
    let a = series_of items in
    let x = numbers_of a in
    let i = last - 1 - d in
    let j = last - 1 in
    let sum = upper * 2 ^ 64 + lower in
    let below : sum < 2 ^ 63 =
    small_sum m items i j sum close (omega (arith, within, lt)) (omega (arith, within, lt)) h in
    let none : upper ≡ 0 = omega (arith, below) in
    let in_part = part_of items m last enters (omega (arith, within)) e in
    let out_part = part_of items 0 last leaves (omega (arith, within)) f in
    let entering : square_behind enters d ≡ squared_difference (x (i + m)) (x (j + m)) =
    part_square items m last d enters in_part lt
    ∙ square_there a (m + (last - 1 - d)) (i + m) (m + (last - 1)) (j + m) (omega arith) (omega arith) in
    let leaving : square_behind leaves d ≡ squared_difference (x i) (x j) =
    part_square items 0 last d leaves out_part lt
    ∙ square_there a (0 + (last - 1 - d)) i (0 + (last - 1)) j (omega arith) (omega arith) in
    let small : square_behind enters d < 2 ^ 62 =
    close_part m items m last enters some close (omega (arith, within)) e d (omega (arith, lt, in_part.long)) in
    let covers : square_behind leaves d ≤ sum + square_behind enters d =
    leaves_within m x i x j sum (square_behind enters d) (square_behind leaves d) h entering leaving in
    let made : moved ≡ lower + square_behind enters d - square_behind leaves d =
    step.exact (omega (arith, below, small)) (omega (arith, covers, none)) in
    let next : IsSumAt m a (i + 1) (j + 1) (sum + square_behind enters d - square_behind leaves d) =
    is_sum_moved_on m x i x j sum (square_behind enters d) (square_behind leaves d) h entering
    (omega (arith, small)) leaving in
    let value : sum + square_behind enters d - square_behind leaves d ≡ upper * 2 ^ 64 + moved =
    omega (arith, none, made) in
    let here : IsSumAt m a (last - d) last (upper * 2 ^ 64 + moved) =
    subst (λ s. IsSumAt m a (last - d) last s) value
    (is_sum_at m x (i + 1) (last - d) x (j + 1) last (sum + square_behind enters d - square_behind leaves d)
    (omega (arith, lt)) (omega (arith, lt)) next) in
    record {
      sum = here;
      narrow = omega (arith, none);
      small = small_sum m items (last - d) last (upper * 2 ^ 64 + moved) close (omega (arith, within, lt))
          (omega (arith, within)) here;
    }

-- the sum of the pair before, moved by the numbers that enter both windows and leave them
pub sum_stepped : (m : ℕ) (items : List Sample) (last d upper lower moved : ℕ) (enters leaves ahead behind : ℤ)
    → 2 ≤ m → d < last → last + m ≡ length items → LieClose m (numbers_in items)
    → enters ≡ numbers_of (series_of items) (last - d - 1 + m)
    → leaves ≡ numbers_of (series_of items) (last - d - 1)
    → ahead ≡ numbers_of (series_of items) (last - 1 + m) → behind ≡ numbers_of (series_of items) (last - 1)
    → IsMoved (squared_difference enters ahead) (squared_difference leaves behind) lower moved
    → IsSumAt m (series_of items) (last - 1 - d) (last - 1) (upper * 2 ^ 64 + lower)
    → IsSumAt m (series_of items) (last - d) last moved
sum_stepped m items last d upper lower moved enters leaves ahead behind some lt within close e f e' f' step h =
    let a = series_of items in
    let x = numbers_of a in
    let i = last - 1 - d in
    let j = last - 1 in
    let enter = squared_difference enters ahead in
    let leave = squared_difference leaves behind in
    let none : upper ≡ 0 =
    no_upper m items i j upper lower close (omega (arith, within, lt)) (omega (arith, within, lt)) h in
    let below = small_sum m items i j (upper * 2 ^ 64 + lower) close (omega (arith, within, lt))
    (omega (arith, within, lt)) h in
    let sum : IsSumAt m a i j lower = subst (IsSumAt m a i j) (omega (arith, none)) h in
    let entering : enter ≡ squared_difference (x (i + m)) (x (j + m)) =
    ap (λ z. squared_difference z ahead) (e ∙ ap x (omega arith)) ∙ ap (squared_difference (x (i + m))) e' in
    let leaving : leave ≡ squared_difference (x i) (x j) =
    ap (λ z. squared_difference z behind) (f ∙ ap x (omega arith)) ∙ ap (squared_difference (x i)) f' in
    let small : enter < 2 ^ 62 =
    close_numbers m items (last - d - 1 + m) (last - 1 + m) enters ahead some close (omega (arith, within, lt))
    (omega (arith, within, lt)) e e' in
    let covers : leave ≤ lower + enter = leaves_within m x i x j lower enter leave sum entering leaving in
    let made : moved ≡ lower + enter - leave = step.exact (omega (arith, below, none, small)) covers in
    let next : IsSumAt m a (i + 1) (j + 1) (lower + enter - leave) =
    is_sum_moved_on m x i x j lower enter leave sum entering (omega (arith, small)) leaving in
    subst (λ s. IsSumAt m a (last - d) last s) (sym made)
    (is_sum_at m x (i + 1) (last - d) x (j + 1) last (lower + enter - leave) (omega (arith, lt)) (omega (arith, lt))
    next)

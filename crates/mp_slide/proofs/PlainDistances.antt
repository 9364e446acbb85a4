-- The distance of plain numbers is the distance of samples.
use Rattle.std.proofs.Common.{◌≡◌, ℕ, zero, suc, ◌+◌, ◌<◌, ◌≤◌, Bool, true, false, cond, List, ◌∷◌}
use Rattle.std.proofs.Common.{length, get_or, take, drop, map, pos, refl, sym, ap, ◌∙◌, subst, arith}
use Rattle.std.specs.Prelude.{Option, Some, None, ℤ, ◌==◌}
use Rattle.std.specs.List.{range_with_len}
use Rattle.std.specs.Option.{option_map}
use Rattle.std.proofs.lemmas.Bool.{false≢true}
use Rattle.std.proofs.lemmas.Bool.Decides.{nat_tests}
use Rattle.std.specs.List.{AllWithin}
use Rattle.std.proofs.lemmas.List.{length-map, get_or-take, get_or-drop}
use Rattle.std.proofs.Math.ListN.{get_or-map}
use Rattle.mp_nums.specs.declared.nearest.Sq.{Sq}
use Rattle.mp_nums.specs.declared.samples.Sample.{Sample}
use Rattle.mp_nums.specs.declared.samples.Sample.TheVariants.{Missing, Value}
use Rattle.mp_defs.specs.Series.{Series, reading_of, series_of, number_at}
use Rattle.mp_defs.specs.Window.{windows}
use Rattle.mp_defs.specs.Distance.{squared_difference, square_between, plus, distance}
use Rattle.mp_defs.specs.Profile.{windows_of}
use Rattle.mp_results.specs.Slide.{square, distances_of}
use Rattle.mp_sums.specs.Sums.{filled}
use Rattle.mp_sums.specs.Lists.{list_sum}
use Rattle.mp_sums.specs.Residues.{item}
use Rattle.mp_sums.specs.SumLaws.{sum_of_none, sum_suc}
use Rattle.mp_slide.specs.Plain.{plain_numbers, gap, gaps_before, AreGaps, plain_distance}
use Rattle.mp_slide.proofs.PlainNumbers.{number_at_place, gaps_more}

distance_none : (a : Series) (i : ℕ) (b : Series) (j : ℕ) → distance 0 a i b j ≡ Some 0
unfolding distance
distance_none a i b j = refl

distance_more : (m : ℕ) (a : Series) (i : ℕ) (b : Series) (j : ℕ)
    → distance (suc m) a i b j ≡ plus (distance m a i b j) (square_between (number_at a (i + m)) (number_at b (j + m)))
unfolding distance
distance_more m a i b j = refl

-- the squared difference of the numbers at a place
abbrev square_at : List ℤ → List ℤ → ℕ → ℕ
square_at xs ys k = squared_difference (item xs k) (item ys k)

sum_one_more : (xs ys : List ℤ) (n : ℕ)
    → list_sum (suc n) xs 0 ys 0 ≡ list_sum n xs 0 ys 0 + square_at xs ys (0 + n)
sum_one_more xs ys n = sum_suc n (item xs) 0 (item ys) 0

gaps_one_more : (a : Series) (i n : ℕ) → gaps_before a (i + suc n) ≡ gaps_before a (i + n) + gap (number_at a (i + n))
gaps_one_more a i n =
    let next : i + suc n ≡ i + n + 1 = omega arith in
    ap (gaps_before a) next ∙ gaps_more a (i + n)

gaps_rise : (a : Series) (i n : ℕ) → gaps_before a i ≤ gaps_before a (i + n)
gaps_rise a i zero = let same : i + 0 ≡ i = omega arith in subst (λ k. gaps_before a i ≤ gaps_before a k) (sym same)
    (omega arith)
gaps_rise a i (suc n) = omega (arith, gaps_rise a i n, gaps_one_more a i n)

-- a sum, where two counts are the same
abbrev counted : ℕ → ℕ → ℕ → Option ℕ
counted x y sum = cond (x == y) (Some sum) None

there_more : (x y sum square : ℕ) → plus (counted x y sum) (Some square) ≡ counted x y (sum + square)
there_more x y sum square = by_test (x == y)
  where
    by_test : (b : Bool) → plus (cond b (Some sum) None) (Some square) ≡ cond b (Some (sum + square)) None
    by_test true = refl
    by_test false = refl

plus_none : (x : Option ℕ) → plus x None ≡ None
plus_none None = refl
plus_none (Some x) = refl

gone : (x y sum : ℕ) → x < y → counted x y sum ≡ None
gone x y sum lt = let test : (x == y) ≡ false = grind (arith, nat_tests) in ap (λ b. cond b (Some sum) None) test

counted_same : (x y sum : ℕ) → x ≡ y → counted x y sum ≡ Some sum
counted_same x y sum e = let test : (x == y) ≡ true = grind (arith, nat_tests) in ap (λ b. cond b (Some sum) None) test

squared : (x y sum : ℕ) → cond (x == y) (Some (square sum)) None ≡ option_map square (counted x y sum)
squared x y sum = by_test (x == y)
  where
    by_test : (b : Bool) → cond b (Some (square sum)) None ≡ option_map square (cond b (Some sum) None)
    by_test true = refl
    by_test false = refl

-- the next number of both, of which the first is there
next_number : (a : Series) (i n x sum : ℕ) (p : ℤ) (here : Option ℤ) → number_at a (i + n) ≡ here
    → gaps_before a i ≤ gaps_before a (i + n)
    → x ≡ gaps_before a i → (q : ℤ) → ((z : ℤ) → here ≡ Some z → q ≡ z)
    → plus (counted x (gaps_before a (i + n)) sum) (square_between (Some p) here) ≡ counted x
    (gaps_before a (i + suc n)) (sum + squared_difference p q)
next_number a i n x sum p None e rise f q g =
    let one : gap (number_at a (i + n)) ≡ 1 = ap gap e in
    let more : gaps_before a (i + suc n) ≡ gaps_before a (i + n) + 1 = omega (arith, gaps_one_more a i n, one) in
    plus_none (counted x (gaps_before a (i + n)) sum)
    ∙ sym (gone x (gaps_before a (i + suc n)) (sum + squared_difference p q) (omega arith))
next_number a i n x sum p (Some z) e rise f q g =
    let none : gap (number_at a (i + n)) ≡ 0 = ap gap e in
    let same : gaps_before a (i + n) ≡ gaps_before a (i + suc n) = omega (arith, gaps_one_more a i n, none) in
    ap (λ w. plus (counted x (gaps_before a (i + n)) sum) (Some (squared_difference p w))) (sym (g z refl))
    ∙ there_more x (gaps_before a (i + n)) sum (squared_difference p q)
    ∙ ap (λ y. counted x y (sum + squared_difference p q)) same

-- ---- samples

-- a number of the plain ones, which have 0 in place of a missing one
plain_at : (samples : List Sample) (k : ℕ)
    → get_or (plain_numbers samples) k (pos 0) ≡ filled (number_at (series_of samples) k)
plain_at samples k =
    get_or-map (λ sample. filled (reading_of sample)) samples k Missing
    ∙ ap filled (sym (number_at_place samples k))

filled_is : (here : Option ℤ) (z : ℤ) → here ≡ Some z → filled here ≡ z
filled_is None z e = cc
filled_is (Some x) z e = cc

-- no sample is missing
abbrev pub AreThere : List Sample → Type 0
AreThere samples = (k : ℕ) → k < length samples → (z : ℤ) × (reading_of (get_or samples k Missing) ≡ Some z)

number_there : (samples : List Sample) → AreThere samples → (k : ℕ) → k < length samples
    → number_at (series_of samples) k ≡ Some (get_or (plain_numbers samples) k (pos 0))
number_there samples there k lt =
    let found = there k lt in
    let here = number_at_place samples k ∙ found.1 in
    here ∙ ap Some (sym (plain_at samples k ∙ filled_is (number_at (series_of samples) k) found.0 here))

window_at : (xs : List ℤ) (m i k : ℕ) → k < m → get_or (take m (drop i xs)) k (pos 0) ≡ get_or xs (i + k) (pos 0)
window_at xs m i k lt = get_or-take m (drop i xs) k (pos 0) lt ∙ get_or-drop i xs k (pos 0)

module _ (pattern series : List Sample) (there : AreThere pattern) (i : ℕ) where
  abbrev plain_pattern : List ℤ
  plain_pattern = plain_numbers pattern

  abbrev plain_series : List ℤ
  plain_series = plain_numbers series

  abbrev window : List ℤ
  window = take (length pattern) (drop i plain_series)

  -- the first n samples of both
  distance_so_far : (n : ℕ) → n ≤ length pattern
      → distance n (series_of pattern) 0 (series_of series) i
      ≡ counted (gaps_before (series_of series) i) (gaps_before (series_of series) (i + n))
      (list_sum n plain_pattern 0 window 0)
  distance_so_far zero le =
      let same : gaps_before (series_of series) i ≡ gaps_before (series_of series) (i + 0) =
      (let none : i ≡ i + 0 = omega arith in ap (gaps_before (series_of series)) none) in
      distance_none (series_of pattern) 0 (series_of series) i
      ∙ ap Some (sym (sum_of_none (item plain_pattern) 0 (item window) 0))
      ∙ sym (counted_same (gaps_before (series_of series) i) (gaps_before (series_of series) (i + 0))
      (list_sum 0 plain_pattern 0 window 0) same)
  distance_so_far (suc n) le =
      let p = get_or plain_pattern n (pos 0) in
      let first : number_at (series_of pattern) (0 + n) ≡ Some p =
      (let zero_more : 0 + n ≡ n = omega arith in ap (number_at (series_of pattern)) zero_more
      ∙ number_there pattern there n (omega arith)) in
      let second = window_at plain_series (length pattern) i n (omega arith) ∙ plain_at series (i + n) in
      let square : square_at plain_pattern window (0 + n) ≡ squared_difference p (get_or window n (pos 0)) =
      (let zero_more : 0 + n ≡ n = omega arith in ap (square_at plain_pattern window) zero_more) in
      distance_more n (series_of pattern) 0 (series_of series) i
      ∙ ap (λ d. plus d (square_between (number_at (series_of pattern) (0 + n))
      (number_at (series_of series) (i + n)))) (distance_so_far n (omega arith))
      ∙ ap (λ o. plus (counted (gaps_before (series_of series) i) (gaps_before (series_of series) (i + n))
      (list_sum n plain_pattern 0 window 0)) (square_between o (number_at (series_of series) (i + n)))) first
      ∙ next_number (series_of series) i n (gaps_before (series_of series) i) (list_sum n plain_pattern 0 window 0) p
      (number_at (series_of series) (i + n)) refl
      (gaps_rise (series_of series) i n) refl (get_or window n (pos 0))
      (λ z e. second ∙ filled_is (number_at (series_of series) (i + n)) z e)
      ∙ ap (counted (gaps_before (series_of series) i) (gaps_before (series_of series) (i + suc n)))
      (ap (λ s. list_sum n plain_pattern 0 window 0 + s) (sym square) ∙ sym (sum_one_more plain_pattern window n))

  plain_is : (gaps : List ℕ) → AreGaps (series_of series) gaps → i + length pattern ≤ length series
      → plain_distance plain_pattern plain_series gaps i ≡ option_map square
      (distance (length (series_of pattern)) (series_of pattern) 0 (series_of series) i)
  plain_is gaps h within =
      let m = length pattern in
      let long : length plain_pattern ≡ m = length-map pattern (λ sample. filled (reading_of sample)) in
      let same : length (series_of pattern) ≡ m = length-map pattern reading_of in
      let places : length gaps ≡ length series + 1 = h.places ∙ ap (λ n. n + 1) (length-map series reading_of) in
      let before = h.counts i (omega arith) in
      let after = h.counts (i + m) (omega arith) in
      ap (λ n. plain_by n) long
      ∙ (λ k. cond (before k == after k) (Some (square (list_sum m plain_pattern 0 window 0))) None)
      ∙ squared (gaps_before (series_of series) i) (gaps_before (series_of series) (i + m))
      (list_sum m plain_pattern 0 window 0)
      ∙ ap (option_map square) (sym (distance_so_far m (omega arith)))
      ∙ ap (λ n. option_map square (distance n (series_of pattern) 0 (series_of series) i)) (sym same)
    where
      plain_by : ℕ → Option Sq
      plain_by n = cond (get_or gaps i 0 == get_or gaps (i + n) 0)
          (Some (square (list_sum n plain_pattern 0 (take n (drop i plain_series)) 0))) None

same_on_range : (f g : ℕ → Option Sq) (a n : ℕ) → ((i : ℕ) → a ≤ i → i < a + n → f i ≡ g i)
    → map f (range_with_len a n) ≡ map g (range_with_len a n)
same_on_range f g a zero h = refl
same_on_range f g a (suc n) h =
    (λ k. h a (omega arith) (omega arith) k ∷ same_on_range f g (a + 1) n
    (λ i low high. h i (omega arith) (omega arith)) k)

-- the list of all windows
pub plain_distances : (pattern series : List Sample) (xs ys : List ℤ) (gaps : List ℕ) (count : ℕ) → AreThere pattern
    → xs ≡ plain_numbers pattern → ys ≡ plain_numbers series → AreGaps (series_of series) gaps
    → count ≡ windows (length series) (length pattern)
    → map (plain_distance xs ys gaps) (range_with_len 0 count) ≡ distances_of (series_of pattern) (series_of series)
plain_distances pattern series xs ys gaps count there e f h number =
    let same : length (series_of pattern) ≡ length pattern = length-map pattern reading_of in
    let long : length (series_of series) ≡ length series = length-map series reading_of in
    let all : count ≡ windows_of (length (series_of pattern)) (series_of series) = number
    ∙ ap (λ n. windows n (length pattern)) (sym long) ∙ ap (windows (length (series_of series))) (sym same) in
    (λ k. map (plain_distance (e k) (f k) gaps) (range_with_len 0 count))
    ∙ same_on_range (plain_distance (plain_numbers pattern) (plain_numbers series) gaps)
    (λ i. option_map square (distance (length (series_of pattern)) (series_of pattern) 0 (series_of series) i)) 0 count
    (λ i low high. plain_is pattern series there i gaps h (omega arith))
    ∙ ap (λ n. map (λ i. option_map square
    (distance (length (series_of pattern)) (series_of pattern) 0 (series_of series) i)) (range_with_len 0 n)) all

-- what a search for a missing sample that found none says
pub all_there : (samples : List Sample) (eq : Sample → Sample → Bool) → eq Missing Missing ≡ true
    → AllWithin (λ y. eq y Missing ≡ false) samples 0 (length samples) → AreThere samples
all_there samples eq same none k lt = by_sample (get_or samples k Missing) refl
  where
    by_sample : (s : Sample) → get_or samples k Missing ≡ s → (z : ℤ) × (reading_of (get_or samples k Missing) ≡ Some z)
    by_sample Missing e = absurd (false≢true (sym (none k Missing (omega arith) lt) ∙ ap (λ t. eq t Missing) e ∙ same))
    by_sample (Value z) e = (z, ap reading_of e)

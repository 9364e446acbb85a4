-- Sums that move on by one sample, rounded down.
use Rattle.std.proofs.Common.{◌≡◌, ℕ, zero, suc, ◌+◌, ◌-◌, ◌*◌, ◌/◌, ◌%◌, ◌^◌, ◌<◌, ◌≤◌, inl, inr, List, length, set}
use Rattle.std.proofs.Common.{refl, sym, ap, ◌∙◌, arith}
use Rattle.std.proofs.Common.{subst}
use Rattle.std.specs.Prelude.{ℤ}
use Rattle.std.proofs.Math.Nat.{add-mul, mul-add}
use Rattle.std.proofs.lemmas.Nat.{mul-le, div-add-mod', mod_below, div_below, le-div, leading_length, shl_whole}
use Rattle.std.proofs.lemmas.Nat.{pow_pos}
use Rattle.std.proofs.lemmas.Bool.Decides.{nat_tests}
use Rattle.std.proofs.Math.Nat.{pow-le-pow_right}
use Rattle.std.specs.Prelude.{Bool, true, false, nat_le}
use Rattle.std.specs.Int.{w64, leading_zeros}
use Rattle.std.proofs.lemmas.Bool.{cases_lt, cases_eq}
use Rattle.std.proofs.lemmas.List.{get_or-set_same, get_or-set_other, get_or_past}
use Rattle.mp_nums.specs.declared.samples.Sample.{Sample}
use Rattle.mp_nums.specs.declared.samples.Sample.TheVariants.{Missing}
use Rattle.mp_defs.specs.Series.{Series, series_of, reading_of}
use Rattle.mp_defs.specs.SeriesLaws.{series_are_of_samples}
use Rattle.mp_skips.specs.Totals.{total, sum_from, level, raised}
use Rattle.mp_skips.specs.Bounds.{IsFloor}
use Rattle.mp_skips.specs.Sums.{number_in, AreNumbers, AreFloors, IsGroup, AreGroups}
use Rattle.mp_skips.specs.Slack.{IsSlack}
use Rattle.mp_skips.specs.Fills.{AreLevels}
use Rattle.mp_skips.specs.declared.sums.TheConstants.{MOST_GRAINS}
use Rattle.mp_skips.proofs.TotalLemmas.{total_zero, total_more, total_suc, total_same, total_parts, total_first}

pub total_bound : (f : ℕ → ℕ) (range n : ℕ) → ((t : ℕ) → f t ≤ range) → total f n ≤ n * range
total_bound f range zero h = rw (total_zero f) (omega arith)
total_bound f range (suc n) h = rw (total_suc f n) (omega (arith, total_bound f range n h, h n, add-mul n 1 range))

pub one_number : (f : ℕ → ℕ) → total f 1 ≡ f 0
one_number f =
    let e : 0 + 1 ≡ 1 = refl in
    subst (λ n. total f n ≡ f 0) e (total_more f 0 ∙ ap (λ n. n + f 0) (total_zero f) ∙ omega arith)

-- one number more, and one less
pub sum_on : (f : ℕ → ℕ) (p s : ℕ) → sum_from f s (p + 1) + f p ≡ sum_from f s p + f (p + s)
sum_on f p s =
    let same = total_same (λ t. f (p + (1 + t))) (λ u. f (p + 1 + u)) s (λ t lt. ap f (omega arith)) in
    let parts : total (λ u. f (p + u)) (1 + s) ≡ total (λ u. f (p + u)) 1 + total (λ t. f (p + (1 + t))) s =
    total_parts (λ u. f (p + u)) 1 s in
    let turn : total (λ u. f (p + u)) (1 + s) ≡ total (λ u. f (p + u)) (s + 1) =
    ap (total (λ u. f (p + u))) (omega arith) in
    let here : f (p + 0) ≡ f p = ap f (omega arith) in
    omega (arith, same, parts, turn, here, one_number (λ u. f (p + u)), total_more (λ u. f (p + u)) s)

pub first_in : (f : ℕ → ℕ) (p s : ℕ) → 1 ≤ s → f p ≤ sum_from f s p
first_in f p s le =
    let here : f (p + 0) ≡ f p = ap f (omega arith) in
    omega (arith, here, one_number (λ u. f (p + u)), total_first (λ u. f (p + u)) 1 s le)

pub sum_from_small : (low : ℤ) (range : ℕ) (a : Series) (s p : ℕ) → AreLevels low range a
    → sum_from (level low a) s p ≤ s * range
sum_from_small low range a s p h = total_bound (λ u. level low a (p + u)) range s (λ t. h.each (p + t))

pub sum_fits : (low : ℤ) (range : ℕ) (a : Series) (s p : ℕ) → AreLevels low range a → s ≤ 64 → range < 2 ^ 50
    → sum_from (level low a) s p ≤ 64 * 2 ^ 50
sum_fits low range a s p h few lt =
    omega (arith, sum_from_small low range a s p h, mul-le s range 64 (2 ^ 50) few (omega (arith, lt)))

pub sum_more : (f : ℕ → ℕ) (t sum next : ℕ) → sum ≡ sum_from f t 0 → next ≡ f t → sum + next ≡ sum_from f (t + 1) 0
sum_more f t sum next is e =
    let here : f (0 + t) ≡ f t = ap f (omega arith) in
    omega (arith, is, e, here, total_more (λ u. f (0 + u)) t)

below_it : (q p : ℕ) → q < p + 1 → (q ≡ p → ⊥) → q < p
below_it q p less n = elim (cases_lt q p) [ inl lt ↦ lt | inr le ↦ absurd (n (omega arith)) ]

-- past the last sample
level_past : (low : ℤ) (samples : List Sample) (p : ℕ) → length samples ≤ p → level low (series_of samples) p ≡ 0
level_past low samples p le =
    ap (raised low) (series_are_of_samples.numbers samples p)
    ∙ ap (λ x. raised low (reading_of x)) (get_or_past samples p Missing le)

pub levels_next : (low : ℤ) (step : ℕ) (a : Series) (levels : List ℕ) (p z number : ℕ)
    → ((k : ℕ) → k < p → IsFloor step (level low a k) (number_in levels k)) → z ≡ level low a p
    → IsFloor step z number → p < length levels
    → (k : ℕ) → k < p + 1 → IsFloor step (level low a k) (number_in (set levels p number) k)
levels_next low step a levels p z number h is floor lt k less = elim (cases_eq k p) [
  | inl e ↦ subst (λ q. IsFloor step (level low a q) (number_in (set levels p number) q)) (sym e)
      (subst (IsFloor step (level low a p)) (sym (get_or-set_same levels p number 0 lt))
      (subst (λ v. IsFloor step v number) is floor))
  | inr n ↦ subst (IsFloor step (level low a k)) (sym (get_or-set_other levels p k number 0 n))
      (h k (below_it k p less n))
]

no_steps : (step : ℕ) → 1 ≤ step → IsFloor step 0 0
no_steps step some = record { below = omega arith; above = omega (arith, some) }

pub levels_all : (low : ℤ) (step : ℕ) (samples : List Sample) (levels : List ℕ) (n : ℕ) → 1 ≤ step
    → ((k : ℕ) → k < n → IsFloor step (level low (series_of samples) k) (number_in levels k)) → length levels ≤ n
    → length samples ≤ length levels → AreNumbers low step (series_of samples) levels
levels_all low step samples levels n some h past room = record {
  each = λ p. elim (cases_lt p n) [
    | inl lt ↦ h p lt
    | inr le ↦ subst (λ z. IsFloor step z (number_in levels p))
        (sym (level_past low samples p (omega (arith, room, past, le))))
        (subst (IsFloor step 0) (sym (get_or_past levels p 0 (omega (arith, past, le)))) (no_steps step some))
  ];
}

-- ---- rounding down

pub is_floor : (grain z : ℕ) → 1 ≤ grain → IsFloor grain z (z / grain)
is_floor grain z some = record {
  below = omega (arith, div-add-mod' z grain);
  above = omega (arith, div-add-mod' z grain, mod_below z grain some);
}

pub is_floor_by : (grain by z : ℕ) → by ≡ grain → 1 ≤ grain → IsFloor grain z (z / by)
is_floor_by grain by z e some = subst (λ n. IsFloor grain z (z / n)) (sym e) (is_floor grain z some)

pub floor_small_by : (grain by z : ℕ) → by ≡ grain → z < MOST_GRAINS * grain → 1 ≤ grain → z / by < MOST_GRAINS
floor_small_by grain by z e lt some =
    subst (λ n. z / n < MOST_GRAINS) (sym e) (div_below z grain MOST_GRAINS some lt)

pub floor_next : (low : ℤ) (s grain : ℕ) (a : Series) (floors : List ℕ) (p sum floor : ℕ)
    → AreFloors low s grain a floors p → sum ≡ sum_from (level low a) s p → IsFloor grain sum floor
    → p < length floors → AreFloors low s grain a (set floors p floor) (p + 1)
floor_next low s grain a floors p sum floor h is here lt = record {
  each = λ q less. elim (cases_eq q p) [
    | inl e ↦ subst (λ z. IsFloor grain (sum_from (level low a) s z) (number_in (set floors p floor) z)) (sym e)
        (subst (IsFloor grain (sum_from (level low a) s p)) (sym (get_or-set_same floors p floor 0 lt))
        (subst (λ z. IsFloor grain z floor) is here))
    | inr n ↦ subst (IsFloor grain (sum_from (level low a) s q)) (sym (get_or-set_other floors p q floor 0 n))
        (h.each q (below_it q p less n))
  ];
}

pub small_next : (numbers : List ℕ) (p number most : ℕ) → ((k : ℕ) → k < p → number_in numbers k < most)
    → number < most → p < length numbers → (k : ℕ) → k < p + 1 → number_in (set numbers p number) k < most
small_next numbers p number most h here lt k less = elim (cases_eq k p) [
  | inl e ↦ subst (λ z. number_in (set numbers p number) z < most) (sym e)
      (omega (arith, get_or-set_same numbers p number 0 lt, here))
  | inr n ↦ omega (arith, get_or-set_other numbers p k number 0 n, h k (below_it k p less n))
]

pub small_up_next : (numbers : List ℕ) (p number most : ℕ) → ((k : ℕ) → k < p → number_in numbers k ≤ most)
    → number ≤ most → p < length numbers → (k : ℕ) → k < p + 1 → number_in (set numbers p number) k ≤ most
small_up_next numbers p number most h here lt k less = elim (cases_eq k p) [
  | inl e ↦ subst (λ z. number_in (set numbers p number) z ≤ most) (sym e)
      (omega (arith, get_or-set_same numbers p number 0 lt, here))
  | inr n ↦ omega (arith, get_or-set_other numbers p k number 0 n, h k (below_it k p less n))
]

-- past the last one stands 0
pub small_up_all : (numbers : List ℕ) (n most : ℕ) → ((k : ℕ) → k < n → number_in numbers k ≤ most)
    → length numbers ≤ n → (k : ℕ) → number_in numbers k ≤ most
small_up_all numbers n most h past k = elim (cases_lt k n) [
  | inl lt ↦ h k lt
  | inr le ↦ omega (arith, get_or_past numbers k 0 (omega (arith, past, le)))
]

pub small_all : (numbers : List ℕ) (n most : ℕ) → ((k : ℕ) → k < n → number_in numbers k < most)
    → length numbers ≤ n → 0 < most → (k : ℕ) → number_in numbers k < most
small_all numbers n most h past some k = elim (cases_lt k n) [
  | inl lt ↦ h k lt
  | inr le ↦ omega (arith, get_or_past numbers k 0 (omega (arith, past, le)), some)
]

-- ---- units

pub units_few : (most by : ℕ) → by ≡ MOST_GRAINS → most < 2 ^ 55 → most / by < 2 ^ 31
units_few most by e lt =
    subst (λ n. most / n < 2 ^ 31) (sym e) (div_below most MOST_GRAINS (2 ^ 31) (omega arith) (omega (arith, lt)))

-- how many bits a number has
bits_few : (b : Bool) (m n : ℕ) → nat_le 32 m ≡ b → n < 2 ^ 31 → 2 ^ m ≤ 2 * n + 1 → m ≤ 31
bits_few true m n e lt le =
    let long : 32 ≤ m = grind (arith, nat_tests) in
    let more : 2 ^ 32 ≤ 2 ^ m = pow-le-pow_right (omega arith) long in
    absurd (omega (arith, more, lt, le))
bits_few false m n e lt le = grind (arith, nat_tests)

-- how many these are
abbrev pub bits_of : ℕ → ℕ
bits_of n = 64 - leading_zeros w64 n

pub bits_short : (n : ℕ) → n < 2 ^ 31 → bits_of n ≤ 31
bits_short n lt =
    let bits = leading_length 64 n (omega (arith, lt)) in
    omega (arith, bits.1, bits_few (nat_le 32 bits.0) bits.0 n refl lt bits.3)

pub bits_hold : (n : ℕ) → n < 2 ^ 31 → n < 2 ^ bits_of n
bits_hold n lt =
    let bits = leading_length 64 n (omega (arith, lt)) in
    let same : bits.0 ≡ bits_of n = omega (arith, bits.1) in
    subst (λ k. n < 2 ^ k) same bits.2

pub one_shifted : (shift : ℕ) → shift ≤ 31 → (1 * 2 ^ shift) % 2 ^ 32 ≡ 2 ^ shift
one_shifted shift le = shl_whole 1 1 shift 32 (omega arith) (omega (arith, le)) ∙ omega arith

pub some_power : (size shift : ℕ) → size ≡ 2 ^ shift → 1 ≤ size
some_power size shift is = omega (arith, is, pow_pos shift)

-- numbers up to the given one have fewer units than all
pub unit_fits : (most by size : ℕ) → by ≡ MOST_GRAINS → most / by < size → most < MOST_GRAINS * size
unit_fits most by size e lt =
    let here : most / MOST_GRAINS < size = subst (λ n. most / n < size) e lt in
    omega (
      arith,
      div-add-mod' most MOST_GRAINS,
      mod_below most MOST_GRAINS (omega arith),
      mul-le MOST_GRAINS (most / MOST_GRAINS + 1) MOST_GRAINS size (omega arith) (omega (arith, here)),
      mul-add MOST_GRAINS (most / MOST_GRAINS) 1,
    )

pub some_terms : (m count : ℕ) → 1 ≤ count → count ≤ m → 1 ≤ m / count
some_terms m count some le = le-div 1 m count (omega (arith, some)) (omega (arith, le))

pub terms_fit : (m count : ℕ) → 1 ≤ count → count ≤ m → (m / count - 1 + 1) * count ≤ m
terms_fit m count some le =
    let e : m / count - 1 + 1 ≡ m / count = omega (arith, some_terms m count some le) in
    rw e (omega (arith, div-add-mod' m count))

-- ---- groups

times : (a b g : ℕ) → a ≤ b → a * g ≤ b * g
times a b g le = mul-le a g b g le (omega arith)

lower_by : (grain slack least p z : ℕ) → IsSlack grain slack → slack ≤ 1 → IsFloor grain z p → least ≤ p
    → 1 ≤ least - slack → (least - slack) * grain + grain ≤ z + 1
lower_by grain zero least p z enough few f le some =
    let e : least - 0 ≡ least = omega arith in
    rw e (omega (arith, times least p grain le, f.below, enough.enough))
lower_by grain (suc slack) least p z enough few f le some =
    let e : least - suc slack + 1 ≡ least = omega (arith, few, some) in
    let whole : (least - suc slack + 1) * grain ≡ least * grain = ap (λ n. n * grain) e in
    omega (arith, whole, add-mul (least - suc slack) 1 grain, times least p grain le, f.below)

upper_by : (grain slack greatest p z : ℕ) → IsSlack grain slack → IsFloor grain z p → p ≤ greatest
    → z ≤ (greatest + slack) * grain
upper_by grain slack greatest p z enough f le =
    omega (arith, add-mul greatest slack grain, times p greatest grain le, f.above, enough.enough)

group_by : (low : ℤ) (s grain : ℕ) (a : Series) (floors : List ℕ) (slack g least greatest : ℕ)
    → IsSlack grain slack → slack ≤ 1 → AreFloors low s grain a floors (length floors) → 8 * g + 8 ≤ length floors
    → ((u : ℕ) → u < 8 → least ≤ number_in floors (8 * g + u))
    → ((u : ℕ) → u < 8 → number_in floors (8 * g + u) ≤ greatest)
    → IsGroup low s grain a g (least - slack) (greatest + slack)
group_by low s grain a floors slack g least greatest enough few h room lower upper = record {
  lower = λ u lt some. lower_by grain slack least (number_in floors (8 * g + u))
      (sum_from (level low a) s (8 * g + u)) enough few (h.each (8 * g + u) (omega (arith, lt, room)))
      (lower u lt) some;
  upper = λ u lt. upper_by grain slack greatest (number_in floors (8 * g + u))
      (sum_from (level low a) s (8 * g + u)) enough (h.each (8 * g + u) (omega (arith, lt, room))) (upper u lt);
  order = omega (arith, lower 0 (omega arith), upper 0 (omega arith));
}

pub is_group : (low : ℤ) (s grain : ℕ) (a : Series) (floors : List ℕ) (slack g least greatest lower upper : ℕ)
    → lower ≡ least - slack → upper ≡ greatest + slack → IsSlack grain slack → slack ≤ 1
    → AreFloors low s grain a floors (length floors) → 8 * g + 8 ≤ length floors
    → ((u : ℕ) → u < 8 → least ≤ number_in floors (8 * g + u))
    → ((u : ℕ) → u < 8 → number_in floors (8 * g + u) ≤ greatest)
    → IsGroup low s grain a g lower upper
is_group low s grain a floors slack g least greatest lower upper e f enough few h room below above =
    subst (λ n. IsGroup low s grain a g n upper) (sym e)
    (subst (IsGroup low s grain a g (least - slack)) (sym f)
    (group_by low s grain a floors slack g least greatest enough few h room below above))

pub group_next : (low : ℤ) (s grain : ℕ) (a : Series) (least greatest : List ℕ) (g lower upper : ℕ)
    → AreGroups low s grain a least greatest g → IsGroup low s grain a g lower upper → g < length least
    → g < length greatest → AreGroups low s grain a (set least g lower) (set greatest g upper) (g + 1)
group_next low s grain a least greatest g lower upper h here lt less = record {
  each = λ q below. elim (cases_eq q g) [
    | inl e ↦ subst (λ z. IsGroup low s grain a z (number_in (set least g lower) z)
        (number_in (set greatest g upper) z))
        (sym e)
        (subst (λ v. IsGroup low s grain a g v (number_in (set greatest g upper) g))
        (sym (get_or-set_same least g lower 0 lt))
        (subst (IsGroup low s grain a g lower) (sym (get_or-set_same greatest g upper 0 less)) here))
    | inr n ↦
        subst (λ v. IsGroup low s grain a q v (number_in (set greatest g upper) q))
        (sym (get_or-set_other least g q lower 0 n))
        (subst (IsGroup low s grain a q (number_in least q)) (sym (get_or-set_other greatest g q upper 0 n))
        (h.each q (below_it q g below n)))
  ];
}

-- Slots in one number each: of two numbers the lesser stands for the window that comes first.
use Rattle.std.proofs.Common.{◌≡◌, ℕ, ◌+◌, ◌-◌, ◌*◌, ◌/◌, ◌%◌, ◌^◌, ◌<◌, ◌≤◌, inl, inr, true, false, sym, ap, ◌∙◌}
use Rattle.std.proofs.Common.{arith}
use Rattle.std.specs.Prelude.{Option, Some, None, ◌==◌, nat_lt, if◌then◌else◌}
use Rattle.std.proofs.lemmas.Bool.{cases_lt}
use Rattle.std.proofs.lemmas.Bool.Decides.{nat_tests}
use Rattle.std.proofs.lemmas.Nat.{div-add-mod', div-mul-add, mod-mul-add, mod_below}
use Rattle.mp_nums.specs.declared.nearest.Near.{Near}
use Rattle.mp_nums.specs.Near.{comes_before, nearer_of}
use Rattle.mp_nums.specs.NearLaws.{nearer_with_none}
use Rattle.mp_series.specs.declared.limits.TheConstants.{MAX_SAMPLES}
use Rattle.mp_defs.specs.Least.{near_at}
use Rattle.mp_tiles.specs.Compact.{slot_before, slot_by, slot_of_word}
use Rattle.mp_tiles.specs.declared.compact.TheConstants.{NO_WINDOW}

no_test : (n : ℕ) → n < NO_WINDOW → (n == NO_WINDOW) ≡ false
no_test n lt = grind (arith, nat_tests)

none_test : (n : ℕ) → NO_WINDOW ≤ n → n ≤ NO_WINDOW → (n == NO_WINDOW) ≡ true
none_test n ge le = grind (arith, nat_tests)

some_by : (n : ℕ) → n < NO_WINDOW → slot_by n ≡ Some (near_at (n % MAX_SAMPLES) (n / MAX_SAMPLES))
some_by n lt = ap (λ b. if b then None else Some (near_at (n % MAX_SAMPLES) (n / MAX_SAMPLES))) (no_test n lt)

none_by : (n : ℕ) → NO_WINDOW ≤ n → n ≤ NO_WINDOW → slot_by n ≡ None
none_by n ge le = ap (λ b. if b then None else Some (near_at (n % MAX_SAMPLES) (n / MAX_SAMPLES))) (none_test n ge le)

-- a window whose start and distance are small enough
pub packed : (near : Near) (n : ℕ) → near.index < MAX_SAMPLES → near.dist.0 + 1 < 2 ^ 110
    → n ≡ near.dist.0 * MAX_SAMPLES + near.index → slot_by n ≡ Some near
packed near n start small e =
    some_by n (omega (arith, e, start, small))
    ∙ ap (λ k. Some (near_at (k % MAX_SAMPLES) (k / MAX_SAMPLES))) e
    ∙ ap (λ i. Some (near_at i ((near.dist.0 * MAX_SAMPLES + near.index) / MAX_SAMPLES)))
    (mod-mul-add near.dist.0 MAX_SAMPLES near.index start)
    ∙ ap (λ d. Some (near_at near.index d)) (div-mul-add near.dist.0 MAX_SAMPLES near.index start)

no_word_test : (n : ℕ) → n < 18446744073709551615 → (n == 18446744073709551615) ≡ false
no_word_test n lt = grind (arith, nat_tests)

-- one whose distance is small enough for a word
pub word_tells : (near : Near) (n : ℕ) → near.index < MAX_SAMPLES → near.dist.0 < 2 ^ 46 - 1
    → n ≡ near.dist.0 * MAX_SAMPLES + near.index → slot_of_word n ≡ Some near
word_tells near n start short e =
    ap (λ b. if b then None else slot_by n) (no_word_test n (omega (arith, e, start, short)))
    ∙ packed near n start (omega (arith, short)) e

first_test : (d s e t : ℕ) → s < 262144 → t < 262144 → d * 262144 + s < e * 262144 + t
    → comes_before (near_at s d) (near_at t e) ≡ true
first_test d s e t small small' lt = grind (arith, nat_tests)

behind_test : (d s e t : ℕ) → s < 262144 → t < 262144 → e * 262144 + t ≤ d * 262144 + s
    → comes_before (near_at s d) (near_at t e) ≡ false
behind_test d s e t small small' le = grind (arith, nat_tests)

-- both parts of a number
parts : (n : ℕ) → n / 262144 * 262144 + n % 262144 ≡ n
parts n = div-add-mod' n 262144

start_small : (n : ℕ) → n % 262144 < 262144
start_small n = mod_below n 262144 (omega arith)

-- the lesser of two numbers
pub lesser_first : (n k : ℕ) → n < k → k ≤ NO_WINDOW → nearer_of (slot_by k) (slot_by n) ≡ slot_by n
lesser_first n k lt le = elim (cases_lt k NO_WINDOW) [
  | inl less ↦
      let near : Near = near_at (n % MAX_SAMPLES) (n / MAX_SAMPLES) in
      let other : Near = near_at (k % MAX_SAMPLES) (k / MAX_SAMPLES) in
      ap (λ s. nearer_of s (slot_by n)) (some_by k less)
      ∙ ap (nearer_of (Some other)) (some_by n (omega (arith, lt, le)))
      ∙ ap (λ b. if b then Some near else Some other)
      (first_test (n / 262144) (n % 262144) (k / 262144) (k % 262144) (start_small n) (start_small k)
      (omega (arith, parts n, parts k, lt)))
      ∙ sym (some_by n (omega (arith, lt, le)))
  | inr more ↦ ap (λ s. nearer_of s (slot_by n)) (none_by k more le)
]

-- the greater one
pub greater_behind : (n k : ℕ) → k ≤ n → n ≤ NO_WINDOW → nearer_of (slot_by k) (slot_by n) ≡ slot_by k
greater_behind n k le most = elim (cases_lt n NO_WINDOW) [
  | inl less ↦
      let near : Near = near_at (n % MAX_SAMPLES) (n / MAX_SAMPLES) in
      let other : Near = near_at (k % MAX_SAMPLES) (k / MAX_SAMPLES) in
      ap (λ s. nearer_of s (slot_by n)) (some_by k (omega (arith, le, less)))
      ∙ ap (nearer_of (Some other)) (some_by n less)
      ∙ ap (λ b. if b then Some near else Some other)
      (behind_test (n / 262144) (n % 262144) (k / 262144) (k % 262144) (start_small n) (start_small k)
      (omega (arith, parts n, parts k, le)))
      ∙ sym (some_by k (omega (arith, le, less)))
  | inr more ↦ ap (nearer_of (slot_by k)) (none_by n more most) ∙ (nearer_with_none (slot_by k)).1
]

-- a slot whose number is the lesser
pub before_by : (n k : ℕ) (s t : Option Near) → slot_by n ≡ s → slot_by k ≡ t → k ≤ NO_WINDOW → nat_lt n k ≡ true
    → nearer_of t s ≡ s
before_by n k s t e f small is =
    let lt : n < k = grind (arith, nat_tests) in
    ap (λ x. nearer_of x s) (sym f) ∙ ap (nearer_of (slot_by k)) (sym e) ∙ lesser_first n k lt small ∙ e

-- a slot whose number isn't
pub behind_by : (n k : ℕ) (s t : Option Near) → slot_by n ≡ s → slot_by k ≡ t → n ≤ NO_WINDOW → nat_lt n k ≡ false
    → nearer_of t s ≡ t
behind_by n k s t e f small is =
    let le : k ≤ n = grind (arith, nat_tests) in
    ap (λ x. nearer_of x s) (sym f) ∙ ap (nearer_of (slot_by k)) (sym e) ∙ greater_behind n k le small ∙ f

-- which of two numbers is the lesser tells which slot comes before
order_of : (n k : ℕ) → n ≤ NO_WINDOW → k ≤ NO_WINDOW → nat_lt n k ≡ slot_before (slot_by n) (slot_by k)
order_of n k most most' = elim (cases_lt n NO_WINDOW) [
  | inl less ↦
      let near : Near = near_at (n % MAX_SAMPLES) (n / MAX_SAMPLES) in
      elim (cases_lt k NO_WINDOW) [
        | inl less' ↦
            let other : Near = near_at (k % MAX_SAMPLES) (k / MAX_SAMPLES) in
            tests_agree n k (n / 262144) (n % 262144) (k / 262144) (k % 262144) (start_small n) (start_small k)
            (parts n) (parts k)
            ∙ sym (ap (slot_before (Some near)) (some_by k less'))
            ∙ sym (ap (λ s. slot_before s (slot_by k)) (some_by n less))
        | inr more ↦ less_test n k (omega (arith, less, more))
            ∙ sym (ap (slot_before (Some near)) (none_by k more most'))
            ∙ sym (ap (λ s. slot_before s (slot_by k)) (some_by n less))
      ]
  | inr more ↦ not_less_test n k (omega (arith, more, most'))
      ∙ sym (ap (λ s. slot_before s (slot_by k)) (none_by n more most))
]
  where
    less_test : (n k : ℕ) → n < k → nat_lt n k ≡ true
    less_test n k lt = grind (arith, nat_tests)

    not_less_test : (n k : ℕ) → k ≤ n → nat_lt n k ≡ false
    not_less_test n k le = grind (arith, nat_tests)

    tests_agree : (n k d s e t : ℕ) → s < 262144 → t < 262144 → d * 262144 + s ≡ n → e * 262144 + t ≡ k
        → nat_lt n k ≡ comes_before (near_at s d) (near_at t e)
    tests_agree n k d s e t small small' here there = elim (cases_lt n k) [
      | inl lt ↦ less_test n k lt ∙ sym (first_test d s e t small small' (omega (arith, here, there, lt)))
      | inr le ↦ not_less_test n k le ∙ sym (behind_test d s e t small small' (omega (arith, here, there, le)))
    ]

pub order_by : (n k : ℕ) (s t : Option Near) → slot_by n ≡ s → slot_by k ≡ t → n ≤ NO_WINDOW → k ≤ NO_WINDOW
    → nat_lt n k ≡ slot_before s t
order_by n k s t e f most most' = order_of n k most most' ∙ ap (slot_before (slot_by n)) f
    ∙ ap (λ x. slot_before x t) e

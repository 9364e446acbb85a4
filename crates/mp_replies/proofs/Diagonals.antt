-- The few diagonals that a short series has, among all by their reversals.
use Rattle.std.proofs.Common.{◌≡◌, ℕ, zero, suc, ◌+◌, ◌*◌, ◌/◌, ◌%◌, ◌^◌, ◌≤◌, Bool, true, false, List, [], ◌∷◌, ◌++◌}
use Rattle.std.proofs.Common.{refl, sym, ap, ◌∙◌, arith, append-nil, cond, map}
use Rattle.std.proofs.Math.Nat.{pow-suc}
use Rattle.std.proofs.Math.Bool.{not}
use Rattle.std.specs.Prelude.{◌&&◌, nat_lt, filter}
use Rattle.std.specs.List.{range_with_len}
use Rattle.std.proofs.lemmas.Bool.Decides.{nat_tests}
use Rattle.std.proofs.lemmas.List.FromFn.{filter_of_map_range_with_len_more}
use Rattle.mp_defs.specs.Window.{excl}
use Rattle.mp_results.specs.Reversal.{reversed, numbers}
use Rattle.mp_results.specs.Covering.{by_reversal, is_covered, is_uncovered, uncovered}

-- ---- one digit less

even_reversed : (digits n : ℕ) → reversed (suc digits) (n + n) ≡ reversed digits n
unfolding reversed
even_reversed digits n =
    let digit : (n + n) % 2 ≡ 0 = omega arith in
    let half : (n + n) / 2 ≡ n = omega arith in
    ap (λ (b : ℕ). b * 2 ^ digits + reversed digits ((n + n) / 2)) digit
    ∙ (ap (λ (k : ℕ). 0 * 2 ^ digits + reversed digits k) half ∙ omega arith)

odd_reversed : (digits n : ℕ) → 2 ^ digits ≤ reversed (suc digits) (n + n + 1)
unfolding reversed
odd_reversed digits n =
    let digit : (n + n + 1) % 2 ≡ 1 = omega arith in
    let first : (n + n + 1) % 2 * 2 ^ digits ≡ 1 * 2 ^ digits = ap (λ (b : ℕ). b * 2 ^ digits) digit in
    omega (arith, first)

-- a test that passes no number with one digit more
abbrev PassesFew : (ℕ → Bool) → ℕ → Type 0
PassesFew test digits = (x : ℕ) → 2 ^ digits ≤ x → test x ≡ false

fewer_digits : (test : ℕ → Bool) (digits n : ℕ) → PassesFew test digits
    → filter test (map (reversed (suc digits)) (range_with_len 0 (n + n)))
    ≡ filter test (map (reversed digits) (range_with_len 0 n))
fewer_digits test digits zero few = refl
fewer_digits test digits (suc n) few =
    let longer = reversed (suc digits) in
    let twice : suc n + suc n ≡ n + n + 1 + 1 = omega arith in
    let more : suc n ≡ n + 1 = omega arith in
    let odd : cond (test (longer (n + n + 1))) (longer (n + n + 1) ∷ []) [] ≡ [] =
    ap (λ (b : Bool). cond b (longer (n + n + 1) ∷ []) []) (few (longer (n + n + 1)) (odd_reversed digits n)) in
    let even : cond (test (longer (n + n))) (longer (n + n) ∷ []) []
    ≡ cond (test (reversed digits n)) (reversed digits n ∷ []) [] =
    ap (λ (x : ℕ). cond (test x) (x ∷ []) []) (even_reversed digits n) in
    ap (λ (k : ℕ). filter test (map longer (range_with_len 0 k))) twice
    ∙ (filter_of_map_range_with_len_more test longer 0 (n + n + 1) (n + n + 1) (omega arith)
    ∙ (ap (λ (s : List ℕ). filter test (map longer (range_with_len 0 (n + n + 1))) ++ s) odd
    ∙ (append-nil (filter test (map longer (range_with_len 0 (n + n + 1))))
    ∙ (filter_of_map_range_with_len_more test longer 0 (n + n) (n + n) (omega arith)
    ∙ (ap (λ (s : List ℕ). filter test (map longer (range_with_len 0 (n + n))) ++ s) even
    ∙ (ap (λ (s : List ℕ). s ++ cond (test (reversed digits n)) (reversed digits n ∷ []) [])
    (fewer_digits test digits n few)
    ∙ (sym (filter_of_map_range_with_len_more test (reversed digits) 0 n n (omega arith))
    ∙ ap (λ (k : ℕ). filter test (map (reversed digits) (range_with_len 0 k))) (sym more))))))))

-- ---- all others

few_pass : (test : ℕ → Bool) (more digits : ℕ) → PassesFew test digits → PassesFew test (more + digits)
few_pass test zero digits few x far =
    let same : 2 ^ (0 + digits) ≡ 2 ^ digits = ap (λ (k : ℕ). 2 ^ k) (omega arith) in few x (omega (arith, far, same))
few_pass test (suc more) digits few x far =
    let halves : 2 ^ suc (more + digits) ≡ 2 * 2 ^ (more + digits) = omega (arith, pow-suc 2 (more + digits)) in
    let same : 2 ^ (suc more + digits) ≡ 2 ^ suc (more + digits) = ap (λ (k : ℕ). 2 ^ k) (omega arith) in
    few_pass test more digits few x (omega (arith, far, halves, same))

few_digits : (test : ℕ → Bool) (more digits : ℕ) → PassesFew test digits
    → filter test (map (reversed (more + digits)) (range_with_len 0 (2 ^ (more + digits))))
    ≡ filter test (map (reversed digits) (range_with_len 0 (2 ^ digits)))
few_digits test zero digits few =
    ap (λ (k : ℕ). filter test (map (reversed k) (range_with_len 0 (2 ^ k)))) (omega arith)
few_digits test (suc more) digits few =
    let same : suc more + digits ≡ suc (more + digits) = omega arith in
    let halves : 2 ^ suc (more + digits) ≡ 2 ^ (more + digits) + 2 ^ (more + digits) =
    omega (arith, pow-suc 2 (more + digits)) in
    ap (λ (k : ℕ). filter test (map (reversed k) (range_with_len 0 (2 ^ k)))) same
    ∙ (ap (λ (n : ℕ). filter test (map (reversed (suc (more + digits))) (range_with_len 0 n))) halves
    ∙ (fewer_digits test (more + digits) (2 ^ (more + digits)) (few_pass test more digits few)
    ∙ few_digits test more digits few))

few_by_reversal : (test : ℕ → Bool) (n more digits : ℕ) → more + digits ≡ 18 → n ≡ 2 ^ (more + digits)
    → PassesFew test digits
    → filter test (by_reversal n) ≡ filter test (map (reversed digits) (range_with_len 0 (2 ^ digits)))
unfolding by_reversal
few_by_reversal test n more digits all is few =
    ap (λ (k : ℕ). filter test (map (reversed k) (range_with_len 0 n))) (sym all)
    ∙ (ap (λ (k : ℕ). filter test (map (reversed (more + digits)) (range_with_len 0 k))) is
    ∙ few_digits test more digits few)

-- ---- diagonals

none_far : (zone covered : Bool) (within : Bool) → within ≡ false → ((zone && within) && not covered) ≡ false
none_far true covered within h = ap (λ (b : Bool). b && not covered) h
none_far false covered within h = refl

far_from : (m w digits : ℕ) (covered : List ℕ) → w ≤ 2 ^ digits → PassesFew (is_uncovered m w covered) digits
far_from m w digits covered few x far =
    none_far (nat_lt (excl m) x) (is_covered covered x) (nat_lt x w) (grind (arith, nat_tests))

-- of at most eight windows, by the three last digits of the diagonals' numbers
pub few_uncovered : (m w : ℕ) (covered : List ℕ) → w ≤ 8
    → uncovered m w covered ≡ filter (is_uncovered m w covered) (map (reversed 3) (range_with_len 0 8))
few_uncovered m w covered few =
    few_by_reversal (is_uncovered m w covered) numbers 15 3 refl refl (far_from m w 3 covered few)

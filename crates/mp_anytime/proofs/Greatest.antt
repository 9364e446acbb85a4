-- The greatest of successive numbers.
use Rattle.std.proofs.Common.{◌≡◌, ℕ, ◌+◌, ◌*◌, ◌/◌, ◌%◌, ◌<◌, ◌≤◌, inl, inr, List}
use Rattle.std.proofs.Common.{length, set, take, drop}
use Rattle.std.proofs.Common.{sym, ap, ◌∙◌, arith, subst, length-drop, ℤ, pos, replicate}
use Rattle.std.specs.Prelude.{◌≤ℤ◌}
use Rattle.std.proofs.lemmas.Bool.{cases_eq}
use Rattle.std.proofs.lemmas.Int.{ints}
use Rattle.std.proofs.lemmas.Nat.{div-add-mod'}
use Rattle.std.proofs.lemmas.List.{get_or-take, get_or-drop, get_or-set_same, get_or-set_other, length-set, length-take}
use Rattle.std.proofs.lemmas.List.{ext_get_or, get_or-replicate, length-replicate}
use Rattle.mp_sums.specs.Residues.{item}
use Rattle.mp_anytime.specs.Bounds.{AreGreatest}

then_at_most : (x y z : ℤ) → x ≤ℤ y → y ≤ℤ z → x ≤ℤ z
then_at_most x y z le le' = omega (arith, ints, le, le')

-- a number is put, which the block's doesn't exceed
pub greatest_put : (numbers blocks : List ℤ) (place : ℕ) (number most : ℤ) → AreGreatest numbers blocks
    → place < length numbers → number ≤ℤ most → item blocks (place / 32) ≤ℤ most
    → AreGreatest (set numbers place number) (set blocks (place / 32) most)
greatest_put numbers blocks place number most h lt here there = record {
  places = omega (arith, h.places, length-set numbers place number, length-set blocks (place / 32) most);
  each = λ k within. elim (cases_eq k place) [
    | inl same ↦
        subst (λ q. item (set numbers place number) q ≤ℤ item (set blocks (place / 32) most) (q / 32)) (sym same)
        (subst (λ z. z ≤ℤ item (set blocks (place / 32) most) (place / 32))
        (sym (get_or-set_same numbers place number (pos 0) lt))
        (subst (λ z. number ≤ℤ z) (sym (get_or-set_same blocks (place / 32) most (pos 0) block)) here))
    | inr other ↦
        subst (λ z. z ≤ℤ item (set blocks (place / 32) most) (k / 32))
        (sym (get_or-set_other numbers place k number (pos 0) other))
        (of_block k (omega (arith, within, length-set numbers place number)))
  ];
}
  where
    block : place / 32 < length blocks
    block = omega (arith, lt, h.places)

    of_block : (k : ℕ) → k < length numbers → item numbers k ≤ℤ item (set blocks (place / 32) most) (k / 32)
    of_block k within = elim (cases_eq (k / 32) (place / 32)) [
      | inl same ↦
          subst (λ q. item numbers k ≤ℤ item (set blocks (place / 32) most) q) (sym same)
          (subst (λ z. item numbers k ≤ℤ z) (sym (get_or-set_same blocks (place / 32) most (pos 0) block))
          (then_at_most (item numbers k) (item blocks (place / 32)) most
          (subst (λ q. item numbers k ≤ℤ item blocks q) same (h.each k within)) there))
      | inr other ↦
          subst (λ z. item numbers k ≤ℤ z)
          (sym (get_or-set_other blocks (place / 32) (k / 32) most (pos 0) other)) (h.each k within)
    ]

-- the number of a block is found anew
pub greatest_found : (numbers blocks : List ℤ) (block n : ℕ) (most : ℤ) → AreGreatest numbers blocks
    → block < length blocks
    → ((k : ℕ) → k < length (take n (drop (32 * block) numbers))
    → item (take n (drop (32 * block) numbers)) k ≤ℤ most)
    → ((k : ℕ) → k < length numbers → k < 32 * block + 32 → k < 32 * block + n)
    → AreGreatest numbers (set blocks block most)
greatest_found numbers blocks block n most h lt all long = record {
  places = omega (arith, h.places, length-set blocks block most);
  each = λ k within. elim (cases_eq (k / 32) block) [
    | inl same ↦
        let place : k ≡ 32 * block + k % 32 = omega (arith, same, div-add-mod' k 32) in
        let near : k % 32 < n = omega (arith, place, long k within (omega (arith, place))) in
        subst (λ q. item numbers k ≤ℤ item (set blocks block most) q) (sym same)
        (subst (λ z. item numbers k ≤ℤ z) (sym (get_or-set_same blocks block most (pos 0) lt))
        (subst (λ z. z ≤ℤ most)
        (get_or-take n (drop (32 * block) numbers) (k % 32) (pos 0) near
        ∙ get_or-drop (32 * block) numbers (k % 32) (pos 0) ∙ ap (item numbers) (sym place))
        (all (k % 32)
        (omega (
          arith,
          near,
          place,
          within,
          length-take n (drop (32 * block) numbers),
          length-drop (32 * block) numbers,
        )))))
    | inr other ↦
        subst (λ z. item numbers k ≤ℤ z) (sym (get_or-set_other blocks block (k / 32) most (pos 0) other))
        (h.each k within)
  ];
}

-- successive numbers lie in the block of the first or in that of the last
pub greatest_of_both : (numbers blocks : List ℤ) (place : ℕ) (most : ℤ) → AreGreatest numbers blocks
    → place + 32 ≤ length numbers → item blocks (place / 32) ≤ℤ most
    → item blocks ((place + 31) / 32) ≤ℤ most
    → (k : ℕ) → k < 32 → item numbers (place + k) ≤ℤ most
greatest_of_both numbers blocks place most h within first last k lt = elim (cases_eq ((place + k) / 32) (place / 32)) [
  | inl same ↦
      then_at_most (item numbers (place + k)) (item blocks (place / 32)) most
      (subst (λ q. item numbers (place + k) ≤ℤ item blocks q) same
      (h.each (place + k) (omega (arith, within, lt)))) first
  | inr other ↦
      let same : (place + k) / 32 ≡ (place + 31) / 32 = omega (arith, lt, other) in
      then_at_most (item numbers (place + k)) (item blocks ((place + 31) / 32)) most
      (subst (λ q. item numbers (place + k) ≤ℤ item blocks q) same
      (h.each (place + k) (omega (arith, within, lt)))) last
]

-- one number more
pub greatest_more : (numbers : List ℤ) (k : ℕ) (old now : ℤ)
    → ((q : ℕ) → q < k → item numbers q ≤ℤ old)
    → item numbers k ≤ℤ now → old ≤ℤ now → (q : ℕ) → q < k + 1 → item numbers q ≤ℤ now
greatest_more numbers k old now before here le q lt = elim (cases_eq q k) [
  | inl same ↦ subst (λ n. item numbers n ≤ℤ now) (sym same) here
  | inr other ↦ then_at_most (item numbers q) old now (before q (omega (arith, lt, other))) le
]

-- ---- numbers that are all the greatest

pub always_more : (numbers : List ℤ) (place : ℕ) → ((q : ℕ) → q < place → item numbers q ≡ pos 2147483647)
    → place < length numbers → (q : ℕ) → q < place + 1
    → item (set numbers place (pos 2147483647)) q ≡ pos 2147483647
always_more numbers place done within q lt = elim (cases_eq q place) [
  | inl same ↦ ap (item (set numbers place (pos 2147483647))) same
      ∙ get_or-set_same numbers place (pos 2147483647) (pos 0) within
  | inr other ↦ get_or-set_other numbers place q (pos 2147483647) (pos 0) other ∙ done q (omega (arith, lt, other))
]

pub all_always : (numbers : List ℤ) (n : ℕ) → length numbers ≡ n
    → ((q : ℕ) → q < n → item numbers q ≡ pos 2147483647) → numbers ≡ replicate n (pos 2147483647)
all_always numbers n long all =
    ext_get_or (pos 0) numbers (replicate n (pos 2147483647))
    (long ∙ sym (length-replicate {A = ℤ} n (pos 2147483647)))
    (λ k lt. all k (omega (arith, lt, long))
    ∙ sym (get_or-replicate n k (pos 2147483647) (pos 0) (omega (arith, lt, long))))

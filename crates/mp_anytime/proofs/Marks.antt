-- Marks of places, bit by bit.
use Rattle.std.proofs.Common.{◌≡◌, ◌≢◌, ℕ, ◌+◌, ◌*◌, ◌/◌, ◌%◌, ◌<◌, ◌≤◌, inl, inr, List, length, get_or, set}
use Rattle.std.proofs.Common.{◌-◌, Bool, false, sym, ap, ◌∙◌, arith, take, drop}
use Rattle.std.specs.Prelude.{◌==◌}
use Rattle.std.specs.Int.{bit_at}
use Rattle.std.specs.List.{range_with_len}
use Rattle.std.proofs.lemmas.Bool.{cases_eq, cases_lt}
use Rattle.std.proofs.lemmas.Bool.Decides.{nat_tests}
use Rattle.std.proofs.lemmas.List.{ext_get_or, get_or_past, get_or-drop, get_or-set_same, get_or-set_other, get_or-take}
use Rattle.std.proofs.lemmas.List.{length-map, length-set}
use Rattle.std.proofs.lemmas.List.FromFn.{get_or-map-range_with_len, length-range_with_len}
use Rattle.std.proofs.lemmas.Nat.{div-add-mod'}
use Rattle.std.proofs.lemmas.Nat.Bits.{bit_at-zero}
use Rattle.mp_anytime.specs.Bits.{is_set, marks_in}

pub all_places : (words : List ℕ) → length (marks_in words) ≡ 64 * length words
all_places words =
    length-map (range_with_len 0 (64 * length words)) (is_set words)
    ∙ length-range_with_len 0 (64 * length words)

pub mark_at : (words : List ℕ) (place : ℕ) → place < 64 * length words
    → get_or (marks_in words) place false ≡ is_set words place
mark_at words place lt =
    get_or-map-range_with_len (is_set words) 0 (64 * length words) place place false lt (omega arith)

not_set : (n : ℕ) → n ≡ 0 → (n == 1) ≡ false
not_set n e = grind (arith, nat_tests)

-- a word without bits
pub none_at : (words : List ℕ) (place : ℕ) → get_or words (place / 64) 0 ≡ 0
    → get_or (marks_in words) place false ≡ false
none_at words place none = elim (cases_lt place (64 * length words)) [
  | inl lt ↦
      mark_at words place lt
      ∙ not_set (bit_at (get_or words (place / 64) 0) (place % 64))
      (ap (λ w. bit_at w (place % 64)) none ∙ bit_at-zero (place % 64))
  | inr past ↦ get_or_past (marks_in words) place false (omega (arith, past, all_places words))
]

-- a place is marked, or not any more
pub mark_set : (words : List ℕ) (place word : ℕ) (now : Bool) → place < 64 * length words
    → (bit_at word (place % 64) == 1) ≡ now
    → ((k : ℕ) → k < 64 → k ≢ place % 64 → bit_at word k ≡ bit_at (get_or words (place / 64) 0) k)
    → marks_in (set words (place / 64) word) ≡ set (marks_in words) place now
mark_set words place word now lt is other =
    ext_get_or false (marks_in (set words (place / 64) word)) (set (marks_in words) place now)
    (all_places (set words (place / 64) word) ∙ ap (λ n. 64 * n) (length-set words (place / 64) word)
    ∙ sym (all_places words) ∙ sym (length-set (marks_in words) place now))
    (λ k within. each k (omega (
      arith,
      within,
      all_places (set words (place / 64) word),
      length-set words (place / 64) word,
    )))
  where
    new : List ℕ
    new = set words (place / 64) word

    here : place / 64 < length words
    here = omega (arith, lt)

    left : (k : ℕ) → k ≢ place → is_set new k ≡ is_set words k
    left k apart = elim (cases_eq (k / 64) (place / 64)) [
      | inl same ↦
          let bit : k % 64 ≢ place % 64 =
          λ e. apart (omega (arith, same, e, div-add-mod' k 64, div-add-mod' place 64)) in
          ap (λ w. bit_at w (k % 64) == 1)
          (ap (λ q. get_or new q 0) same ∙ get_or-set_same words (place / 64) word 0 here)
          ∙ ap (λ b. b == 1) (other (k % 64) (omega arith) bit)
          ∙ ap (λ q. bit_at (get_or words q 0) (k % 64) == 1) (sym same)
      | inr away ↦
          ap (λ w. bit_at w (k % 64) == 1) (get_or-set_other words (place / 64) (k / 64) word 0 away)
    ]

    each : (k : ℕ) → k < 64 * length words
        → get_or (marks_in new) k false ≡ get_or (set (marks_in words) place now) k false
    each k within =
        mark_at new k (omega (arith, within, length-set words (place / 64) word))
        ∙ elim (cases_eq k place) [
          | inl same ↦
              ap (is_set new) same
              ∙ ap (λ w. bit_at w (place % 64) == 1) (get_or-set_same words (place / 64) word 0 here) ∙ is
              ∙ sym (ap (λ q. get_or (set (marks_in words) place now) q false) same
              ∙ get_or-set_same (marks_in words) place now false (omega (arith, lt, all_places words)))
          | inr apart ↦
              left k apart
              ∙ sym (get_or-set_other (marks_in words) place k now false apart ∙ mark_at words k within)
        ]

-- some words, none of which has a bit
pub none_among : (words : List ℕ) (first count place n : ℕ) → n ≡ count
    → ((k : ℕ) → k < count → get_or (take n (drop first words)) k 0 ≡ 0)
    → 64 * first ≤ place → place < 64 * (first + count) → get_or (marks_in words) place false ≡ false
none_among words first count place n e none behind before =
    none_at words place
    (ap (λ q. get_or words q 0) (back first place behind)
    ∙ sym (get_or-take n (drop first words) (place / 64 - first) 0 (omega (arith, e, behind, before))
    ∙ get_or-drop first words (place / 64 - first) 0)
    ∙ none (place / 64 - first) (omega (arith, behind, before)))
  where
    back : (first place : ℕ) → 64 * first ≤ place → place / 64 ≡ first + (place / 64 - first)
    back first place le = omega (arith, le)

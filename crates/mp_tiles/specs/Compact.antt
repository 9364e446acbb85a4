-- Slots by one number each.
use Rattle.std.specs.Prelude.{◌≡◌, ℕ, ◌+◌, ◌*◌, ◌/◌, ◌%◌, ◌<◌, ◌==◌, List, length, slice_index_or, Option, Some, None}
use Rattle.std.specs.Prelude.{if◌then◌else◌, ◌⊎◌, Bool, true, false, ℤ, pos}
use Rattle.std.proofs.Common.{arith, inl, inr, sym, ap, ◌∙◌}
use Rattle.std.proofs.lemmas.Bool.{cases_eq}
use Rattle.std.proofs.lemmas.Bool.Decides.{nat_tests}
use Rattle.std.proofs.lemmas.Nat.{div-add-mod'}
use Rattle.mp_nums.specs.declared.nearest.Near.{Near}
use Rattle.mp_nums.specs.Near.{comes_before}
use Rattle.mp_series.specs.declared.limits.TheConstants.{MAX_SAMPLES}
use Rattle.mp_defs.specs.Least.{near_at}
use Rattle.mp_sums.specs.Residues.{item, limit_within}
use Rattle.mp_tiles.specs.declared.compact.TheConstants.{NO_WINDOW}

-- a window by its distance times the most samples, and its start, or none
abbrev pub slot_by : ℕ → Option Near
slot_by n = if n == NO_WINDOW then None else Some (near_at (n % MAX_SAMPLES) (n / MAX_SAMPLES))

-- a slot by a word, of which the greatest one is none
abbrev pub slot_of_word : ℕ → Option Near
slot_of_word word = if word == 18446744073709551615 then None else slot_by word

-- a word that tells a slot, or nothing
abbrev pub IsWordOf : Option Near → ℕ → Type 0
IsWordOf slot word = (slot_of_word word ≡ None) ⊎ (slot_of_word word ≡ slot)

-- the number of a slot
abbrev pub number_of : Option Near → ℕ
number_of None = NO_WINDOW
number_of (Some near) = near.dist.0 * MAX_SAMPLES + near.index

-- each number is that of its slot
pub number_back : (n : ℕ) → number_of (slot_by n) ≡ n
number_back n = elim (cases_eq n NO_WINDOW) [
  | inl same ↦ ap number_of (by_test true (grind (arith, nat_tests, same))) ∙ sym same
  | inr other ↦ ap number_of (by_test false (grind (arith, nat_tests, other))) ∙ div-add-mod' n MAX_SAMPLES
]
  where
    by_test : (t : Bool) → (n == NO_WINDOW) ≡ t
        → slot_by n ≡ if t then None else Some (near_at (n % MAX_SAMPLES) (n / MAX_SAMPLES))
    by_test t e = ap (λ b. if b then None else Some (near_at (n % MAX_SAMPLES) (n / MAX_SAMPLES))) e

-- whether a slot comes before another one, where none comes after all
abbrev pub slot_before : Option Near → Option Near → Bool
slot_before None b = false
slot_before (Some a) None = true
slot_before (Some a) (Some b) = comes_before a b

-- the greatest residue of windows of m samples, rounded so, that are as near as what stands in a slot
abbrev pub slot_bound : ℕ → ℕ → Option Near → ℤ
slot_bound m shift None = pos 2147483647
slot_bound m shift (Some near) = limit_within m shift near.dist.0

-- these are the bounds of slots
pub record AreBounds (m shift : ℕ) (slots : List (Option Near)) (bounds : List ℤ) : Type 0 where
  pub places : length bounds ≡ length slots
  pub each : (k : ℕ) → k < length slots → item bounds k ≡ slot_bound m shift (slice_index_or slots k None)

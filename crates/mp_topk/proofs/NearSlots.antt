-- Slots whose windows words tell.
use Rattle.std.proofs.Common.{◌≡◌, ℕ, zero, suc, ◌+◌, ◌*◌, ◌<◌, ◌≤◌, List, [], ◌∷◌, ◌++◌, length, get_or, take, refl}
use Rattle.std.proofs.Common.{sym, ap}
use Rattle.std.proofs.Common.{◌∙◌, arith}
use Rattle.std.specs.Prelude.{Option, Some, None, slice_index}
use Rattle.std.proofs.Math.Seq.{take-suc}
use Rattle.mp_nums.specs.declared.nearest.Near.{Near}
use Rattle.mp_tiles.specs.Compact.{slot_of_word}
use Rattle.mp_topk.specs.Ranking.{those_in}
use Rattle.mp_topk.specs.Words.{nears, nears_of, with_slot}
use lib.ListN.{get_elem?}
use mathlib.Core.Option.{some, some-injective, some-ne-none}

-- the word that was read there
pub word_read : (words : List ℕ) (at word : ℕ) → get_elem? words at ≡ some word → slice_index words at ≡ word
word_read [] at word e = absurd (some-ne-none word (sym e))
word_read (x ∷ words) zero word e = some-injective x word e
word_read (x ∷ words) (suc at) word e = word_read words at word e

first_slot : (slot : Option Near) (slots : List (Option Near))
    → those_in (slot ∷ slots) ≡ with_slot slot (those_in slots)
unfolding those_in
first_slot None slots = refl
first_slot (Some near) slots = refl

-- slots that words side by side tell have their windows
pub slots_near : (words : List ℕ) (at : ℕ) (slots : List (Option Near))
    → ((r : ℕ) → r < length slots → get_or slots r None ≡ slot_of_word (slice_index words (at + r)))
    → those_in slots ≡ nears words at (length slots)
unfolding those_in
slots_near words at [] same = refl
slots_near words at (slot ∷ slots) same =
    let here : slot ≡ slot_of_word (slice_index words at) =
    same 0 (omega arith) ∙ ap (λ p. slot_of_word (slice_index words p)) (omega arith) in
    first_slot slot slots ∙ ap (λ s. with_slot s (those_in slots)) here
    ∙ ap (with_slot (slot_of_word (slice_index words at))) (slots_near words (at + 1) slots (λ r lt.
    same (suc r) (omega (arith, lt)) ∙ ap (λ p. slot_of_word (slice_index words p)) (omega arith)))

first_places : (words : List ℕ) (k : ℕ) (whole : List (List Near)) (n : ℕ) → n ≤ length whole
    → ((place : ℕ) → place < length whole → nears words (place * k) k ≡ get_or whole place [])
    → nears_of words k n ≡ take n whole
first_places words k whole zero le same = refl
first_places words k whole (suc n) le same =
    ap (λ xs. xs ++ (nears words (n * k) k ∷ [])) (first_places words k whole n (omega (arith, le)) same)
    ∙ ap (λ x. take n whole ++ (x ∷ [])) (same n (omega (arith, le))) ∙ sym (take-suc whole n [] (omega (arith, le)))

take_whole : (lists : List (List Near)) → take (length lists) lists ≡ lists
take_whole [] = refl
take_whole (list ∷ lists) = ap (λ xs. list ∷ xs) (take_whole lists)

-- words that tell each place's windows tell those of all places
pub places_near : (words : List ℕ) (k n : ℕ) (whole : List (List Near)) → n ≡ length whole
    → ((place : ℕ) → place < length whole → nears words (place * k) k ≡ get_or whole place [])
    → nears_of words k n ≡ whole
places_near words k n whole is same =
    ap (nears_of words k) is ∙ first_places words k whole (length whole) (omega arith) same ∙ take_whole whole

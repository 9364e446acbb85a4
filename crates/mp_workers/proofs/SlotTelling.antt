-- What words tell of places of which all is told.
use Rattle.std.proofs.Common.{◌≡◌, ℕ, ◌+◌, ◌<◌, [], ◌∷◌, length, get_or, inl, inr, refl, sym, ap, subst, ◌∙◌, arith}
use Rattle.std.specs.Prelude.{Option, Some, None}
use Rattle.mp_nums.specs.declared.nearest.Near.{Near}
use Rattle.mp_nums.specs.Near.{nearer_of}
use Rattle.mp_nums.specs.NearLaws.{nearer_associates, nearer_with_none}
use Rattle.mp_tiles.specs.Compact.{slot_of_word}
use Rattle.mp_workers.specs.Entries.{EntriesState, IsAtMost, IsWithin, Told, count_of, left_of, right_of, whole_of}
use Rattle.mp_workers.specs.Tellers.{IsNoLater, IsTold, IsWholeTold}
use Rattle.mp_workers.proofs.Entering.{left_at, right_at, whole_count}
use Rattle.mp_workers.proofs.Knowing.{words_in_order}

no_later_both : (a b c : Option Near) → IsNoLater a b → IsNoLater b c → IsNoLater a c
no_later_both a b c h k =
    ap (λ x. nearer_of x c) (sym h) ∙ nearer_associates a b c ∙ ap (nearer_of a) k ∙ h

-- a word that is at most what is told tells what comes no later
told_word : (word place : ℕ) (told : Told) (near : Near) → IsAtMost word place told → IsTold told place near
    → IsNoLater (slot_of_word word) (Some near)
told_word word place [] near most is = absurd is
told_word word place (fact ∷ rest) near most (inl is) =
    no_later_both (slot_of_word word) (slot_of_word fact.1) (Some near)
    (words_in_order word fact.1 (most.0 is.0) is.1.0) is.1.1
told_word word place (fact ∷ rest) near most (inr later) = told_word word place rest near most.1 later

-- and where it is within the whole, it tells what stands there
pub word_tells : (word place : ℕ) (told : Told) (slot : Option Near) → IsAtMost word place told → IsWithin word slot
    → ((near : Near) → slot ≡ Some near → IsTold told place near) → slot_of_word word ≡ slot
word_tells word place told None most within h = sym (nearer_with_none (slot_of_word word)).1 ∙ within
word_tells word place told (Some near) most within h =
    sym (told_word word place told near most (h near refl)) ∙ within

-- all stays told
pub still_whole : (s : EntriesState) (old new : Told) (place word : ℕ) → (place, word) ∷ old ≡ new
    → IsWholeTold s old → IsWholeTold s new
still_whole s old new place word more h = λ p near e.
    subst (λ (told : Told). IsTold told p near) more (inr (h p near e))

-- ---- places of both sides

pub left_there : (s : EntriesState) (place count : ℕ) → place < count → count ≡ count_of s
    → place < length (whole_of s)
left_there s place count lt is = omega (arith, lt, is, whole_count s)

pub right_there : (s : EntriesState) (place count : ℕ) → place < count → count ≡ count_of s
    → count + place < length (whole_of s)
right_there s place count lt is = omega (arith, lt, is, whole_count s)

pub left_slot : (s : EntriesState) (place count : ℕ) → place < count → count ≡ count_of s
    → get_or (whole_of s) place None ≡ get_or (left_of s) place None
left_slot s place count lt is = left_at s place (omega (arith, lt, is))

pub right_slot : (s : EntriesState) (place count : ℕ) → count ≡ count_of s
    → get_or (whole_of s) (count + place) None ≡ get_or (right_of s) place None
right_slot s place count is = ap (λ n. get_or (whole_of s) (n + place) None) is ∙ right_at s place

-- What words of a place tell that are in order.
use Rattle.std.proofs.Common.{◌≡◌, ℕ, zero, suc, ◌+◌, ◌*◌, ◌/◌, ◌%◌, ◌<◌, ◌≤◌, ◌⊎◌, List, [], ◌∷◌, length}
use Rattle.std.proofs.Common.{Bool, true, inl, inr, refl, sym, ap, subst, ◌∙◌, arith}
use Rattle.std.specs.Prelude.{◌≢◌, Option, Some, None, slice_index, if◌then◌else◌, ◌&&◌}
use Rattle.std.proofs.lemmas.Bool.{cases_lt, cases_eq}
use Rattle.std.proofs.lemmas.Bool.Decides.{nat_tests}
use Rattle.std.proofs.lemmas.Nat.{div-add-mod', mod_below}
use Rattle.mp_nums.specs.declared.nearest.Near.{Near}
use Rattle.mp_nums.specs.Near.{comes_before}
use Rattle.mp_defs.specs.Least.{near_at}
use Rattle.mp_tiles.specs.Compact.{slot_of_word}
use Rattle.mp_topk.specs.Laws.{StandsIn}
use Rattle.mp_topk.specs.Ranking.{is_rising, precedes}
use Rattle.mp_topk.specs.Sharing.{no_word}
use Rattle.mp_topk.specs.Words.{nears, with_slot}
use Rattle.mp_topk.proofs.Standing.{before_count}

-- ---- words in their order

parts : (n : ℕ) → n / 262144 * 262144 + n % 262144 ≡ n
parts n = div-add-mod' n 262144

start_small : (n : ℕ) → n % 262144 < 262144
start_small n = mod_below n 262144 (omega arith)

-- the window that a word tells which isn't the greatest
abbrev pub near_of : ℕ → Near
near_of n = near_at (n % 262144) (n / 262144)

pub some_word : (n : ℕ) → n < 18446744073709551615 → slot_of_word n ≡ Some (near_of n)
some_word n lt = grind (arith, nat_tests)

pub no_near : (n : ℕ) → 18446744073709551615 ≤ n → n ≤ 18446744073709551615 → slot_of_word n ≡ None
no_near n le most =
    let last : n ≡ 18446744073709551615 = omega (arith, le, most) in
    by_test n last
  where
    by_test : (w : ℕ) → w ≡ 18446744073709551615 → slot_of_word w ≡ None
    by_test w e = ap slot_of_word e

pub words_in_order : (v w : ℕ) → v < w → comes_before (near_of v) (near_of w) ≡ true
words_in_order v w lt =
    by (v / 262144) (v % 262144) (w / 262144) (w % 262144)
    (first (v / 262144) (v % 262144) (w / 262144) (w % 262144) (start_small v) (start_small w)
    (omega (arith, parts v, parts w, lt)))
  where
    first : (d i e j : ℕ) → i < 262144 → j < 262144 → d * 262144 + i < e * 262144 + j
        → (d < e) ⊎ ((d ≡ e) × (i < j))
    first d i e j a b lt = elim (cases_lt d e) [
      | inl less ↦ inl less
      | inr more ↦ inr (omega (arith, a, b, lt, more), omega (arith, a, b, lt, more))
    ]

    by : (d i e j : ℕ) → (d < e) ⊎ ((d ≡ e) × (i < j)) → comes_before (near_at i d) (near_at j e) ≡ true
    by d i e j (inl less) = grind (arith, nat_tests)
    by d i e j (inr same) =
        let a = same.0 in
        let b = same.1 in
        grind (arith, nat_tests, a, b)

-- ---- the windows that words side by side tell

-- of two words that follow each other the first is the lesser one, or the second tells no window
abbrev pub Rises : List ℕ → ℕ → ℕ → Type 0
Rises words at n =
    (i : ℕ) → i + 1 < n → (slice_index words (at + i) < slice_index words (at + (i + 1)))
    ⊎ (no_word ≤ slice_index words (at + (i + 1)))

-- words that fit 64 bits
abbrev pub Fit : List ℕ → Type 0
Fit words = (n : ℕ) → slice_index words n ≤ 18446744073709551615

pub later_rise : (words : List ℕ) (at n : ℕ) → Rises words at (suc n) → Rises words (at + 1) n
later_rise words at n h i lt =
    subst (λ (p : ℕ). (slice_index words p < slice_index words (at + 1 + (i + 1)))
    ⊎ (no_word ≤ slice_index words (at + 1 + (i + 1)))) first
    (subst (λ (p : ℕ). (slice_index words (at + (i + 1)) < slice_index words p) ⊎ (no_word ≤ slice_index words p))
    second (h (i + 1) (omega (arith, lt))))
  where
    first : at + (i + 1) ≡ at + 1 + i
    first = omega arith

    second : at + (i + 1 + 1) ≡ at + 1 + (i + 1)
    second = omega arith

-- behind a word that tells no window none does
none_behind_none : (words : List ℕ) (at n : ℕ) → Fit words → Rises words at n
    → no_word ≤ slice_index words at → nears words at n ≡ []
none_behind_none words at zero fit h le = refl
none_behind_none words at (suc zero) fit h le =
    ap (λ s. with_slot s []) (no_near (slice_index words at) le (fit at))
none_behind_none words at (suc (suc n)) fit h le =
    let next : no_word ≤ slice_index words (at + 1) = elim (h 0 (omega arith)) [
      | inl less ↦ omega (arith, le, here less)
      | inr none ↦ none
    ] in
    ap (λ s. with_slot s (nears words (at + 1) (suc n))) (no_near (slice_index words at) le (fit at))
    ∙ none_behind_none words (at + 1) (suc n) fit (later_rise words at (suc n) h) next
  where
    here : slice_index words (at + 0) < slice_index words (at + 1)
        → slice_index words at < slice_index words (at + 1)
    here less = subst (λ (p : ℕ). slice_index words p < slice_index words (at + 1)) (omega arith) less

-- what a list tells that begins with a word, or with none
nears_by : (words : List ℕ) (at n : ℕ) (x : ℕ) → slice_index words at ≡ x → x < no_word
    → nears words at (suc n) ≡ near_of x ∷ nears words (at + 1) n
nears_by words at n x e lt =
    ap (λ w. with_slot (slot_of_word w) (nears words (at + 1) n)) e
    ∙ ap (λ s. with_slot s (nears words (at + 1) n)) (some_word x lt)

at_first : (words : List ℕ) (at : ℕ) → slice_index words (at + 0) ≡ slice_index words at
at_first words at = ap (slice_index words) (omega arith)

-- the words that tell windows stand first, in their order
head_rises : (words : List ℕ) (at n x : ℕ) → Fit words → Rises words at (suc n) → slice_index words at ≡ x
    → x < no_word → precedes (near_of x) (nears words (at + 1) n) ≡ true
unfolding precedes
head_rises words at zero x fit h e lt = refl
head_rises words at (suc n) x fit h e lt = elim (cases_lt (slice_index words (at + 1)) no_word) [
  | inl some ↦ subst (λ list. precedes (near_of x) list ≡ true)
      (sym (nears_by words (at + 1) n (slice_index words (at + 1)) refl some))
      (words_in_order x (slice_index words (at + 1)) (less some (h 0 (omega arith))))
  | inr none ↦ subst (λ list. precedes (near_of x) list ≡ true)
      (sym (none_behind_none words (at + 1) (suc n) fit (later_rise words at (suc n) h) none)) refl
]
  where
    less : slice_index words (at + 1) < no_word
        → (slice_index words (at + 0) < slice_index words (at + (0 + 1)))
        ⊎ (no_word ≤ slice_index words (at + (0 + 1))) → x < slice_index words (at + 1)
    less some (inl lower) = omega (arith, lower, e, at_first words at)
    less some (inr none) = absurd (omega (arith, some, none))

both_are : (s t : Bool) → s ≡ true → t ≡ true → (s && t) ≡ true
both_are s t e f = cc (e, f)

pub nears_rise : (words : List ℕ) (at n : ℕ) → Fit words → Rises words at n → is_rising (nears words at n) ≡ true
unfolding is_rising
nears_rise words at zero fit h = refl
nears_rise words at (suc n) fit h = elim (cases_lt (slice_index words at) no_word) [
  | inl some ↦ subst (λ list. is_rising list ≡ true) (sym (nears_by words at n (slice_index words at) refl some))
      (both_are (precedes (near_of (slice_index words at)) (nears words (at + 1) n))
      (is_rising (nears words (at + 1) n))
      (head_rises words at n (slice_index words at) fit h refl some)
      (nears_rise words (at + 1) n fit (later_rise words at n h)))
  | inr none ↦ subst (λ list. is_rising list ≡ true) (sym (none_behind_none words at (suc n) fit h none)) refl
]

pub nears_few : (words : List ℕ) (at n : ℕ) → length (nears words at n) ≤ n
nears_few words at zero = omega arith
nears_few words at (suc n) = by (slot_of_word (slice_index words at)) (nears_few words (at + 1) n)
  where
    by : (s : Option Near) → length (nears words (at + 1) n) ≤ n
        → length (with_slot s (nears words (at + 1) n)) ≤ suc n
    by None le = omega (arith, le)
    by (Some near) le = omega (arith, le)

-- ---- which windows these are

also_there : (s : Option Near) (near : Near) (list : List Near) → StandsIn near list
    → StandsIn near (with_slot s list)
unfolding StandsIn
also_there None near list there = there
also_there (Some first) near list there = inr there

first_there : (s : Option Near) (near : Near) (list : List Near) → s ≡ Some near → StandsIn near (with_slot s list)
unfolding StandsIn
first_there s near list e = subst (λ t. StandsIn near (with_slot t list)) (sym e) (inl refl)

pub stands_at : (words : List ℕ) (at n i : ℕ) (near : Near) → i < n
    → slot_of_word (slice_index words (at + i)) ≡ Some near → StandsIn near (nears words at n)
stands_at words at zero i near lt e = absurd (omega (arith, lt))
stands_at words at (suc n) zero near lt e =
    first_there (slot_of_word (slice_index words at)) near (nears words (at + 1) n)
    (ap slot_of_word (sym (at_first words at)) ∙ e)
stands_at words at (suc n) (suc i) near lt e =
    also_there (slot_of_word (slice_index words at)) near (nears words (at + 1) n)
    (stands_at words (at + 1) n i near (omega (arith, lt)) (ap (λ p. slot_of_word (slice_index words p)) same ∙ e))
  where
    same : at + 1 + i ≡ at + suc i
    same = omega arith

-- some word tells a window that stands there
abbrev pub IsToldBy : List ℕ → ℕ → ℕ → Near → Type 0
IsToldBy words at n near = (i : ℕ) × (i < n) × (slot_of_word (slice_index words (at + i)) ≡ Some near)

pub from_word : (words : List ℕ) (at n : ℕ) (near : Near) → StandsIn near (nears words at n)
    → IsToldBy words at n near
unfolding StandsIn
from_word words at zero near there = absurd there
from_word words at (suc n) near there =
    by (slot_of_word (slice_index words at)) refl there (λ later. from_word words (at + 1) n near later)
  where
    next : IsToldBy words (at + 1) n near → IsToldBy words at (suc n) near
    next found =
        let same : at + suc found.0 ≡ at + 1 + found.0 = omega arith in
        (suc found.0, omega (arith, found.1), ap (λ p. slot_of_word (slice_index words p)) same ∙ found.2)

    by : (s : Option Near) → slot_of_word (slice_index words at) ≡ s
        → StandsIn near (with_slot s (nears words (at + 1) n))
        → (StandsIn near (nears words (at + 1) n) → IsToldBy words (at + 1) n near) → IsToldBy words at (suc n) near
    by None e st rest = next (rest st)
    by (Some first) e (inl same) rest =
        (0, omega arith, ap slot_of_word (at_first words at) ∙ e ∙ ap Some (sym same))
    by (Some first) e (inr later) rest = next (rest later)

-- where all words tell windows that come before x, so many come before it
pub all_before : (words : List ℕ) (at n : ℕ) (x : Near)
    → ((i : ℕ) → i < n → (y : Near) × (slot_of_word (slice_index words (at + i)) ≡ Some y)
    × (comes_before y x ≡ true)) → n ≤ before_count x (nears words at n)
all_before words at zero x h = omega arith
all_before words at (suc n) x h =
    let first = h 0 (omega arith) in
    let slot : slot_of_word (slice_index words at) ≡ Some first.0 =
    ap slot_of_word (sym (at_first words at)) ∙ first.1 in
    let rest : n ≤ before_count x (nears words (at + 1) n) = all_before words (at + 1) n x (λ i lt. later i (h (suc i)
    (omega (arith, lt)))) in
    let one : before_count x (with_slot (slot_of_word (slice_index words at)) (nears words (at + 1) n))
    ≡ 1 + before_count x (nears words (at + 1) n) =
    ap (λ s. before_count x (with_slot s (nears words (at + 1) n))) slot
    ∙ ap (λ b. (if b then 1 else 0) + before_count x (nears words (at + 1) n)) first.2 in
    omega (arith, rest, one)
  where
    later : (i : ℕ) → ((y : Near) × (slot_of_word (slice_index words (at + suc i)) ≡ Some y)
        × (comes_before y x ≡ true))
        → (y : Near) × (slot_of_word (slice_index words (at + 1 + i)) ≡ Some y) × (comes_before y x ≡ true)
    later i found =
        let same : at + 1 + i ≡ at + suc i = omega arith in
        (found.0, ap (λ p. slot_of_word (slice_index words p)) same ∙ found.1, found.2)

-- where the last word tells a window, all words before it are no greater
pub below_last : (words : List ℕ) (at n : ℕ) → Rises words at (suc n) → slice_index words (at + n) < no_word
    → (i : ℕ) → i ≤ n → slice_index words (at + i) ≤ slice_index words (at + n)
below_last words at zero h some i le =
    let same : i ≡ 0 = omega (arith, le) in
    subst (λ (j : ℕ). slice_index words (at + j) ≤ slice_index words (at + 0)) (sym same) (omega arith)
below_last words at (suc n) h some i le =
    let less : slice_index words (at + n) < slice_index words (at + suc n) = lower (h n (omega arith)) in
    elim (cases_eq i (suc n)) [
      | inl same ↦ subst (λ (j : ℕ). slice_index words (at + j) ≤ slice_index words (at + suc n)) (sym same)
          (omega arith)
      | inr other ↦
          let before = below_last words at n (λ j lt. h j (omega (arith, lt))) (omega (arith, less, some)) i
          (apart other) in
          omega (arith, before, less)
    ]
  where
    one_more : n + 1 ≡ suc n
    one_more = omega arith

    lower : (slice_index words (at + n) < slice_index words (at + (n + 1)))
        ⊎ (no_word ≤ slice_index words (at + (n + 1))) → slice_index words (at + n) < slice_index words (at + suc n)
    lower (inl less) = subst (λ (m : ℕ). slice_index words (at + n) < slice_index words (at + m)) one_more less
    lower (inr none) =
        let at_next : no_word ≤ slice_index words (at + suc n) =
        subst (λ (m : ℕ). no_word ≤ slice_index words (at + m)) one_more none in
        absurd (omega (arith, at_next, some))

    apart : i ≢ suc n → i ≤ n
    apart ne = omega (arith, ne, le)

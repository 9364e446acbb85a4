-- What slots have: of profiles by any test of pairs, of merged slots and of those with numbers alone.
use Rattle.std.proofs.Common.{◌≡◌, ℕ, ◌<◌, [], ◌∷◌, length, get_or, refl, sym, ap, ◌∙◌, arith}
use Rattle.std.proofs.Common.{subst, Bool}
use Rattle.std.proofs.Common.{true, false}
use Rattle.std.specs.Prelude.{Option, Some, None, IfSome, ◌&&◌, nat_lt, if◌then◌else◌}
use Rattle.std.proofs.lemmas.Bool.Decides.{nat_tests}
use Rattle.std.proofs.Math.ListN.{get_or-map}
use Rattle.std.proofs.lemmas.List.{ext_get_or, length-map}
use Rattle.std.proofs.lemmas.Simd.{length-zip2, get_or-zip2}
use Rattle.mp_nums.specs.declared.nearest.Near.{Near}
use Rattle.mp_nums.specs.Near.{comes_before, nearer_of}
use Rattle.mp_nums.specs.NearLaws.{nearer_associates, nearer_repeats, nearer_with_none}
use Rattle.mp_defs.specs.Series.{Series}
use Rattle.mp_defs.specs.Profile.{windows_of, profile, left_entry, right_entry}
use Rattle.mp_defs.specs.Laws.{IsNearest}
use Rattle.mp_defs.specs.NearestLaws.{entries_are_nearest}
use Rattle.mp_defs.specs.ColumnLaws.{columns_have_places}
use Rattle.mp_partial.specs.Profiled.{Profiled}
use Rattle.mp_partial.specs.Values.{Column, merged_column}
use Rattle.mp_anytime.specs.Scanning.{AreEach, AreEarlier, AreLater}
use Rattle.mp_anytime.specs.Bounds.{both_sides, kept_sides, numbered, numbered_column, numbered_slots}

-- ---- of a profile

earlier_slot : (may : ℕ → ℕ → Bool) (m : ℕ) (a : Series) (k : ℕ) (slot : Option Near)
    → IsNearest m (λ j. may k j && nat_lt j k) a k a slot → IfSome slot (λ near. near.index < k)
earlier_slot may m a k None h = tt
earlier_slot may m a k (Some near) h = before (may k near.index) near.index h.may_be
  where
    before : (t : Bool) (j : ℕ) → (t && nat_lt j k) ≡ true → j < k
    before t j e = grind (arith, nat_tests)

later_slot : (may : ℕ → ℕ → Bool) (m : ℕ) (a : Series) (k : ℕ) (slot : Option Near)
    → IsNearest m (λ j. may k j && nat_lt k j) a k a slot
    → IfSome slot (λ near. (k < near.index) × (near.index < windows_of m a))
later_slot may m a k None h = tt
later_slot may m a k (Some near) h = (behind (may k near.index) near.index h.may_be, h.window)
  where
    behind : (t : Bool) (j : ℕ) → (t && nat_lt k j) ≡ true → k < j
    behind t j e = grind (arith, nat_tests)

pub left_is_earlier : (may : ℕ → ℕ → Bool) (m : ℕ) (a : Series) → AreEarlier (profile may m a).left
left_is_earlier may m a =
    let long = columns_have_places.count (left_entry may m a) (windows_of m a) in
    record {
      each = λ k lt.
          subst (λ s. IfSome s (λ near. near.index < k))
          (sym (columns_have_places.at_place (left_entry may m a) (windows_of m a) k (omega (arith, lt, long))))
          (earlier_slot may m a k (left_entry may m a k) (entries_are_nearest.left may m a k));
    }

pub right_is_later : (may : ℕ → ℕ → Bool) (m : ℕ) (a : Series)
    → AreLater (windows_of m a) (profile may m a).right
right_is_later may m a =
    let long = columns_have_places.count (right_entry may m a) (windows_of m a) in
    record {
      each = λ k lt.
          subst (λ s. IfSome s (λ near. (k < near.index) × (near.index < windows_of m a)))
          (sym (columns_have_places.at_place (right_entry may m a) (windows_of m a) k (omega (arith, lt, long))))
          (later_slot may m a k (right_entry may m a k) (entries_are_nearest.right may m a k));
    }

-- ---- of merged slots

either_slot : (P : Near → Type 0) (s t : Option Near) → IfSome s P → IfSome t P → IfSome (nearer_of s t) P
either_slot P None t h g = subst (λ x. IfSome x P) (sym (nearer_with_none t).0) g
either_slot P (Some a) None h g = subst (λ x. IfSome x P) (sym (nearer_with_none (Some a)).1) h
either_slot P (Some a) (Some b) h g = pick (comes_before b a)
  where
    pick : (t : Bool) → IfSome (if t then Some b else Some a) P
    pick true = g
    pick false = h

pub each_merged : (P : ℕ → Near → Type 0) (a b : Column) → length b ≡ length a → AreEach P a → AreEach P b
    → AreEach P (merged_column a b)
each_merged P a b same h g =
    let long = length-zip2 nearer_of a b (sym same) in
    record {
      each = λ k lt.
          subst (λ s. IfSome s (P k))
          (sym (get_or-zip2 nearer_of a b k None None None (omega (arith, lt, long)) (omega (arith, lt, long, same))))
          (either_slot (P k) (get_or a k None) (get_or b k None) (h.each k (omega (arith, lt, long)))
          (g.each k (omega (arith, lt, long, same))));
    }

-- ---- of slots with numbers

numbered_slot : (fits : Near → Bool) (P : Near → Type 0) (s : Option Near) → IfSome s P → IfSome (numbered fits s) P
numbered_slot fits P None h = tt
numbered_slot fits P (Some near) h = pick (fits near)
  where
    pick : (t : Bool) → IfSome (if t then Some near else None) P
    pick true = h
    pick false = tt

pub each_numbered : (fits : Near → Bool) (P : ℕ → Near → Type 0) (a : Column) → AreEach P a
    → AreEach P (numbered_slots fits a)
each_numbered fits P a h =
    let long = length-map a (numbered fits) in
    record {
      each = λ k lt.
          subst (λ s. IfSome s (P k)) (sym (get_or-map (numbered fits) a k None))
          (numbered_slot fits (P k) (get_or a k None) (h.each k (omega (arith, lt, long))));
    }

-- a slot takes nothing of what it has itself
again : (fits : Near → Bool) (s y : Option Near) → nearer_of s (nearer_of (numbered fits s) y) ≡ nearer_of s y
again fits None y = ap (nearer_of None) (nearer_with_none y).0
again fits (Some near) y = by_test (fits near)
  where
    by_test : (t : Bool)
        → nearer_of (Some near) (nearer_of (if t then Some near else None) y) ≡ nearer_of (Some near) y
    by_test true = sym (nearer_associates (Some near) (Some near) y)
        ∙ ap (λ s. nearer_of s y) (nearer_repeats (Some near))
    by_test false = ap (nearer_of (Some near)) (nearer_with_none y).0

pub merged_again : (fits : Near → Bool) (a x : Column)
    → merged_column a (merged_column (numbered_slots fits a) x) ≡ merged_column a x
merged_again fits [] x = refl
merged_again fits (s ∷ ss) [] = refl
merged_again fits (s ∷ ss) (y ∷ ys) = cc (again fits s y, merged_again fits ss ys)

-- ---- both sides of what is kept

numbered_is : (fits : Near → Bool) (n : ℕ) (xs : Column) → length xs ≡ n
    → numbered_column fits n xs ≡ numbered_slots fits xs
numbered_is fits n xs long =
    let count = columns_have_places.count (λ k. numbered fits (get_or xs k None)) n in
    ext_get_or None (numbered_column fits n xs) (numbered_slots fits xs)
    (count ∙ sym (length-map xs (numbered fits) ∙ long))
    (λ k lt. columns_have_places.at_place (λ q. numbered fits (get_or xs q None)) n k (omega (arith, lt, count))
    ∙ sym (get_or-map (numbered fits) xs k None))

pub kept_is : (fits : Near → Bool) (p : Profiled) → length p.left ≡ length p.all → length p.right ≡ length p.all
    → kept_sides fits p ≡ both_sides (numbered_slots fits p.left) (numbered_slots fits p.right) 0
kept_is fits p left right =
    ap (λ (c : Column). both_sides c (numbered_column fits (length p.all) p.right) 0)
    (numbered_is fits (length p.all) p.left left)
    ∙ ap (λ (c : Column). both_sides (numbered_slots fits p.left) c 0) (numbered_is fits (length p.all) p.right right)

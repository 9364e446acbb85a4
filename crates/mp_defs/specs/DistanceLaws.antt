-- Why the laws of distances hold: one sample more, and what follows by induction.
use Rattle.std.proofs.Common.{◌≡◌, ℕ, zero, suc, ◌+◌, Bool, true, false, refl, arith, add-one, ap, ◌∙◌, rules}
use Rattle.std.specs.Prelude.{Option, Some, None, IsTrue, IsSome, is_some, ◌&&◌, ◌↔◌, ℤ, ◌-ℤ◌, unsigned_abs}
use Rattle.std.proofs.lemmas.Int.{ints}
use Rattle.mp_defs.specs.Series.{Series, number_at}
use Rattle.mp_defs.specs.Window.{is_free}
use Rattle.mp_defs.specs.Distance.{squared_difference, square_between, plus, distance}
use Rattle.mp_defs.specs.Laws.{GrowsByOneSample, DistanceIsOfFreeWindows, DistanceIsSymmetric}

pub grows_by_one_sample : GrowsByOneSample
unfolding distance is_free
grows_by_one_sample = record {
  no_samples = λ a i b j. refl;
  one_more = λ m a i b j. rw add-one refl;
  free_at_first = λ a i. refl;
  one_more_free = λ m a i. rw add-one refl;
}

-- ---- a distance is of free windows

some_square : (x y : Option ℤ) → is_some (square_between x y) ≡ (is_some x && is_some y)
some_square None y = refl
some_square (Some x) None = refl
some_square (Some x) (Some y) = refl

some_plus : (a b : Option ℕ) → is_some (plus a b) ≡ (is_some a && is_some b)
some_plus None b = refl
some_plus (Some a) None = refl
some_plus (Some a) (Some b) = refl

and_pairs : (p q x y : Bool) → ((p && q) && (x && y)) ≡ ((p && x) && (q && y))
and_pairs true true x y = refl
and_pairs true false true y = refl
and_pairs true false false y = refl
and_pairs false q x y = refl

-- the test that both windows are free
distance_is_some : (m : ℕ) (a : Series) (i : ℕ) (b : Series) (j : ℕ)
    → is_some (distance m a i b j) ≡ (is_free m a i && is_free m b j)
unfolding distance is_free
distance_is_some zero a i b j = refl
distance_is_some (suc m) a i b j =
    some_plus (distance m a i b j) (square_between (number_at a (i + m)) (number_at b (j + m)))
    ∙ rw (distance_is_some m a i b j, some_square (number_at a (i + m)) (number_at b (j + m)))
    (and_pairs (is_free m a i) (is_free m b j) (is_some (number_at a (i + m))) (is_some (number_at b (j + m))))

some_test : (d : Option ℕ) (p q : Bool) → is_some d ≡ (p && q) → IsSome d ↔ (IsTrue p × IsTrue q)
some_test d p q e = grind (arith, rules)

pub of_free_windows : DistanceIsOfFreeWindows
of_free_windows m a i b j = some_test _ _ _ (distance_is_some m a i b j)

-- ---- a distance is the same from either window

gap_same : (x y : ℤ) → squared_difference x y ≡ squared_difference y x
gap_same x y = let e : unsigned_abs (x -ℤ y) ≡ unsigned_abs (y -ℤ x) = omega (arith, ints) in rw e refl

square_same : (x y : Option ℤ) → square_between x y ≡ square_between y x
square_same None None = refl
square_same None (Some y) = refl
square_same (Some x) None = refl
square_same (Some x) (Some y) = ap Some (gap_same x y)

pub symmetric : DistanceIsSymmetric
unfolding distance
symmetric zero a i b j = refl
symmetric (suc m) a i b j =
    rw (symmetric m a i b j, square_same (number_at a (i + m)) (number_at b (j + m))) refl

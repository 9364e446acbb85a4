-- What is known of windows at a greater length from a shorter one.
use Rattle.std.proofs.Common.{◌≡◌, ℕ, zero, suc, ◌+◌, ◌-◌, ◌<◌, ◌≤◌, [], ◌∷◌, length, Bool, true, false}
use Rattle.std.proofs.Common.{refl, sym, ap, ◌∙◌}
use Rattle.std.proofs.Common.{arith, subst, inl, inr}
use Rattle.std.specs.Prelude.{Option, Some, None, IsSome, IsTrue, is_some, ◌&&◌}
use Rattle.std.proofs.Math.Nat.{div-mul-le_self}
use Rattle.std.proofs.lemmas.Bool.{cases_eq}
use Rattle.std.proofs.lemmas.Nat.{le-div}
use Rattle.mp_defs.specs.Series.{Series, number_at}
use Rattle.mp_defs.specs.Window.{excl, is_free}
use Rattle.mp_defs.specs.Distance.{distance, plus, square_between}
use Rattle.mp_defs.specs.DistanceLaws.{grows_by_one_sample, of_free_windows}
use Rattle.mp_defs.specs.Profile.{windows_of}

-- ---- a window that lacks no sample

first_true : (s t : Bool) → (s && t) ≡ true → s ≡ true
first_true true t e = refl
first_true false t e = e

last_true : (s t : Bool) → (s && t) ≡ true → t ≡ true
last_true true t e = e
last_true false t e = absurd (cc)

-- has each of its samples
pub free_there : (m : ℕ) (a : Series) (i t : ℕ) → is_free m a i ≡ true → t < m
    → is_some (number_at a (i + t)) ≡ true
unfolding is_free
free_there zero a i t e lt = absurd (omega (arith, lt))
free_there (suc m) a i t e lt = one m t lt (free_there m a i t (first_true (is_free m a i) _ e))
    (last_true (is_free m a i) (is_some (number_at a (i + m))) e)
  where
    one : (m t : ℕ) → t < suc m → (t < m → is_some (number_at a (i + t)) ≡ true)
        → is_some (number_at a (i + m)) ≡ true → is_some (number_at a (i + t)) ≡ true
    one m t lt h last = elim (cases_eq t m) [
      | inl same ↦ ap (λ n. is_some (number_at a (i + n))) same ∙ last
      | inr ne ↦ h (omega (arith, lt, ne))
    ]

some_within : (a : Series) (n : ℕ) → is_some (number_at a n) ≡ true → n < length a
some_within [] n e = absurd (cc)
some_within (x ∷ a) zero e = omega arith
some_within (x ∷ a) (suc n) e = let lt = some_within a n e in omega (arith, lt)

-- lies within the series
pub free_within : (m : ℕ) (a : Series) (i : ℕ) → 1 ≤ m → is_free m a i ≡ true → i < windows_of m a
free_within m a i some e =
    let last = some_within a (i + (m - 1)) (free_there m a i (m - 1) e (omega (arith, some))) in
    omega (arith, last, some)

-- ---- distances

free_true : (t : Bool) → IsTrue t → t ≡ true
free_true true h = refl
free_true false h = absurd (cc)

some_is : (d : Option ℕ) (n : ℕ) → d ≡ Some n → IsSome d
some_is d n e = ap is_some e

-- a window that has a distance lacks no sample
pub distance_free : (m : ℕ) (a : Series) (i : ℕ) (b : Series) (j d : ℕ) → distance m a i b j ≡ Some d
    → is_free m a i ≡ true
distance_free m a i b j d e = free_true (is_free m a i) ((of_free_windows m a i b j).0 (some_is _ d e)).0

-- what two windows have at the lesser of two lengths: a distance that is no greater
pub record IsShorter (m : ℕ) (a : Series) (i : ℕ) (b : Series) (j d : ℕ) : Type 0 where
  pub shorter : ℕ
  pub is : distance m a i b j ≡ Some shorter
  pub less : shorter ≤ d

plus_more : (x y : Option ℕ) (d : ℕ) → plus x y ≡ Some d → (e : ℕ) × (x ≡ Some e) × (e ≤ d)
plus_more None y d e = absurd (cc)
plus_more (Some x) None d e = absurd (cc)
plus_more (Some x) (Some y) d e = (x, refl, (let f : x + y ≡ d = cc in omega (arith, f)))

pub shorter : (m k : ℕ) (a : Series) (i : ℕ) (b : Series) (j d : ℕ) → distance (m + k) a i b j ≡ Some d
    → IsShorter m a i b j d
shorter m zero a i b j d e = record {
  shorter = d;
  is = subst (λ n. distance n a i b j ≡ Some d) (omega arith) e;
  less = omega arith;
}
shorter m (suc k) a i b j d e =
    let same : m + suc k ≡ m + k + 1 = omega arith in
    let (c, is, le) = plus_more (distance (m + k) a i b j)
    (square_between (number_at a (i + (m + k))) (number_at b (j + (m + k)))) d
    (sym (grows_by_one_sample.one_more (m + k) a i b j) ∙ ap (λ n. distance n a i b j) (sym same) ∙ e) in
    let h = shorter m k a i b j c is in
    record { shorter = h.shorter; is = h.is; less = omega (arith, h.less, le) }

-- at a greater length windows are no nearer
pub no_nearer : (m k : ℕ) (a : Series) (i j d more : ℕ) → distance m a i a j ≡ Some d
    → distance (m + k) a i a j ≡ Some more → d ≤ more
no_nearer m k a i j d more is found =
    let h = shorter m k a i a j more found in
    let same : h.shorter ≡ d = one h.shorter d (sym h.is ∙ is) in omega (arith, same, h.less)
  where
    one : (x y : ℕ) → Some x ≡ Some y → x ≡ y
    one x y e = cc

-- ---- zones

-- windows that lie apart at a length lie apart at a shorter one
pub still_apart : (m k : ℕ) → excl m ≤ excl (m + k)
still_apart m k = le-div (excl m) (m + k + 3) 4 (omega arith) (omega (arith, div-mul-le_self (m + 3) 4))

-- ---- one square more

pub next_distance : (m k : ℕ) (a : Series) (i j : ℕ) (dist square result : Option ℕ)
    → square ≡ square_between (number_at a (i + (m + k))) (number_at a (j + (m + k)))
    → result ≡ plus dist square
    → dist ≡ distance (m + k) a i a j → result ≡ distance (m + (k + 1)) a i a j
next_distance m k a i j dist square result is e h =
    let same : m + k + 1 ≡ m + (k + 1) = omega arith in
    e ∙ ap (λ d. plus d square) h ∙ ap (plus (distance (m + k) a i a j)) is
    ∙ sym (grows_by_one_sample.one_more (m + k) a i a j) ∙ ap (λ n. distance n a i a j) same

-- Which windows have distances.
use Rattle.std.proofs.Common.{◌≡◌, ℕ, zero, suc, ◌+◌, ◌<◌, ◌≤◌, List, length, get_or, Bool, true, false, refl, sym, ap}
use Rattle.std.proofs.Common.{◌∙◌}
use Rattle.std.proofs.Common.{arith, inl, inr, is_some, subst}
use Rattle.std.proofs.lemmas.Bool.{and_from, and_parts, cases_eq}
use Rattle.std.specs.Prelude.{Option, Some, None, ◌&&◌, ◌↔◌, IsSome, IsTrue}
use Rattle.mp_nums.specs.declared.samples.Sample.{Sample}
use Rattle.mp_defs.specs.Series.{Series, number_at, series_of}
use Rattle.mp_defs.specs.Window.{is_free}
use Rattle.mp_defs.specs.Distance.{distance}
use Rattle.mp_defs.specs.DistanceLaws.{of_free_windows}
use Rattle.mp_defs.specs.Profile.{windows_of}
use Rattle.mp_anytime.specs.Scanning.{AreFree}

by_both : (x : Option ℕ) (f g : Bool) → IsSome x ↔ (IsTrue f × IsTrue g) → (f && g) ≡ true → IsSome x
by_both x true true h e = h.1 (refl, refl)
by_both x true false h e = absurd (cc)
by_both x false g h e = absurd (cc)

by_either : (x : Option ℕ) (f g : Bool) → IsSome x ↔ (IsTrue f × IsTrue g) → (f && g) ≡ false → x ≡ None
by_either None f g h e = refl
by_either (Some d) true true h e = absurd (cc)
by_either (Some d) true false h e = let both = h.0 refl in absurd (clash both.1)
  where
    clash : false ≡ true → ⊥
    clash e = cc
by_either (Some d) false g h e = let both = h.0 refl in absurd (clash both.0)
  where
    clash : false ≡ true → ⊥
    clash e = cc

marks_are : (m : ℕ) (a : Series) (free : List Bool) (i j : ℕ) → AreFree m a free → i < windows_of m a
    → j < windows_of m a → (get_or free i false && get_or free j false) ≡ (is_free m a i && is_free m a j)
marks_are m a free i j are lt lt' =
    ap (λ t. t && get_or free j false) (are.each i lt) ∙ ap (λ t. is_free m a i && t) (are.each j lt')

-- windows that lack no sample have one
pub some_distance : (m : ℕ) (a : Series) (free : List Bool) (i j : ℕ) → AreFree m a free → i < windows_of m a
    → j < windows_of m a → (get_or free i false && get_or free j false) ≡ true → IsSome (distance m a i a j)
some_distance m a free i j are lt lt' e =
    by_both (distance m a i a j) (is_free m a i) (is_free m a j) (of_free_windows m a i a j)
    (sym (marks_are m a free i j are lt lt') ∙ e)

-- and others none
pub no_distance : (m : ℕ) (a : Series) (free : List Bool) (i j : ℕ) → AreFree m a free → i < windows_of m a
    → j < windows_of m a → (get_or free i false && get_or free j false) ≡ false → distance m a i a j ≡ None
no_distance m a free i j are lt lt' e =
    by_either (distance m a i a j) (is_free m a i) (is_free m a j) (of_free_windows m a i a j)
    (sym (marks_are m a free i j are lt lt') ∙ e)

-- a number that is the distance where there is one
pub is_distance : (x : Option ℕ) (dist : ℕ) → IsSome x → ((d : ℕ) → x ≡ Some d → dist ≡ d)
    → x ≡ Some dist
is_distance None dist is h = absurd (cc)
is_distance (Some d) dist is h = ap Some (sym (h d refl))

-- rows and columns are of one series
pub in_one : (m i j : ℕ) (rows columns : List Sample) (x : Option ℕ) → columns ≡ rows
    → distance m (series_of rows) i (series_of rows) j ≡ x
    → distance m (series_of rows) i (series_of columns) j ≡ x
in_one m i j rows columns x e h =
    subst (λ (xs : List Sample). distance m (series_of rows) i (series_of xs) j ≡ x) (sym e) h

-- ---- where no sample is missing

all_there : (n : ℕ) (a : Series) (i : ℕ) → is_free n a i ≡ true → (k : ℕ) → k < n
    → is_some (number_at a (i + k)) ≡ true
unfolding is_free
all_there zero a i e k lt = absurd (omega (arith, lt))
all_there (suc n) a i e k lt = elim (cases_eq k n) [
  | inl last ↦ subst (λ q. is_some (number_at a (i + q)) ≡ true) (sym last)
      (and_parts (is_free n a i) (is_some (number_at a (i + n))) e).1
  | inr before ↦
      all_there n a i (and_parts (is_free n a i) (is_some (number_at a (i + n))) e).0 k (omega (arith, lt, before))
]

free_where : (m : ℕ) (a : Series) (i : ℕ) → ((k : ℕ) → k < m → is_some (number_at a (i + k)) ≡ true)
    → is_free m a i ≡ true
unfolding is_free
free_where zero a i there = refl
free_where (suc m) a i there =
    and_from (is_free m a i) (is_some (number_at a (i + m))) (free_where m a i (λ k lt. there k (omega (arith, lt))))
    (there m (omega arith))

-- all windows are free
pub all_free : (n m : ℕ) (a : Series) (free : List Bool) → is_free n a 0 ≡ true → length free ≡ windows_of m a
    → ((i : ℕ) → i < windows_of m a → i + m ≤ n) → ((i : ℕ) → i < length free → get_or free i false ≡ true)
    → AreFree m a free
all_free n m a free whole places within marked = record {
  places = places;
  each = λ i lt.
      marked i (omega (arith, lt, places))
      ∙ sym (free_where m a i (λ k small.
      subst (λ q. is_some (number_at a q) ≡ true) (omega arith)
      (all_there n a 0 whole (i + k) (omega (arith, small, within i lt)))));
}

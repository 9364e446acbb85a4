-- Why columns have their places, and what a column of nearest windows is by which windows may be chosen.
use Rattle.std.proofs.Common.{◌≡◌, ℕ, ◌<◌, arith, ◌∙◌, sym, subst}
use Rattle.std.specs.Prelude.{Option, None, ◌||◌, replicate}
use Rattle.std.specs.List.{range_with_len}
use Rattle.std.proofs.lemmas.List.{ext_get_or, get_or-replicate, length-replicate}
use Rattle.std.proofs.lemmas.List.FromFn.{length-map-range_with_len, get_or-map-range_with_len}
use Rattle.std.proofs.lemmas.Simd.{zip2-map}
use Rattle.mp_nums.specs.declared.nearest.Near.{Near}
use Rattle.mp_nums.specs.Near.{nearer_of}
use Rattle.mp_defs.specs.Profile.{windows_of, nearest, column}
use Rattle.mp_defs.specs.Laws.{ColumnsHavePlaces, ColumnsByChoice}
use Rattle.mp_defs.specs.NearestLaws.{nearest_by_choice}

pub columns_have_places : ColumnsHavePlaces
columns_have_places = record {
  count = λ f w. length-map-range_with_len f 0 w;
  at_place = λ f w i lt. get_or-map-range_with_len f 0 w i i None lt (omega arith);
}

column_same : (f g : ℕ → Option Near) (w : ℕ) → ((i : ℕ) → i < w → f i ≡ g i) → column f w ≡ column g w
column_same f g w h =
    ext_get_or None (column f w) (column g w)
    (columns_have_places.count f w ∙ sym (columns_have_places.count g w))
    (λ k lt. let below : k < w = subst (λ n. k < n) (columns_have_places.count f w) lt in
    columns_have_places.at_place f w k below ∙ h k below ∙ sym (columns_have_places.at_place g w k below))

pub columns_by_choice : ColumnsByChoice
columns_by_choice = record {
  either = λ m p q a b.
      column_same (λ i. nearest m (λ j. p i j || q i j) a i b)
      (λ i. nearer_of (nearest m (p i) a i b) (nearest m (q i) a i b)) (windows_of m a)
      (λ i lt. nearest_by_choice.either m (p i) (q i) a i b)
      ∙ sym (zip2-map nearer_of (λ i. nearest m (p i) a i b) (λ i. nearest m (q i) a i b)
      (range_with_len 0 (windows_of m a)));
  same = λ m p q a b h.
      column_same (λ i. nearest m (p i) a i b) (λ i. nearest m (q i) a i b) (windows_of m a)
      (λ i lt. nearest_by_choice.same m (p i) (q i) a i b (λ j below. h i j lt below));
  none = λ m p a b h.
      column_same (λ i. nearest m (p i) a i b) (λ _. None) (windows_of m a)
      (λ i lt. nearest_by_choice.none m (p i) a i b (λ j below. h i j lt below)) ∙ column_of_none (windows_of m a);
}
  where
    column_of_none : (w : ℕ) → column (λ _. None) w ≡ replicate w None
    column_of_none w =
        ext_get_or None (column (λ _. None) w) (replicate w None)
        (columns_have_places.count (λ _. None) w ∙ sym (length-replicate w None))
        (λ k lt. let below : k < w = subst (λ n. k < n) (columns_have_places.count (λ _. None) w) lt in
        columns_have_places.at_place (λ _. None) w k below ∙ sym (get_or-replicate w k None None below))

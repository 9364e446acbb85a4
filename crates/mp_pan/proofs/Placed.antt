-- Why a scan at the least length makes the profiles of all lengths.
use Rattle.std.proofs.Common.{◌≡◌, ℕ, zero, suc, ◌+◌, ◌*◌, ◌<◌, ◌≤◌, List, [], ◌∷◌, length, get_or, Bool, true, false}
use Rattle.std.proofs.Common.{refl, sym, ap, ◌∙◌, arith, inl, inr, subst}
use Rattle.std.specs.Prelude.{Option, Some, None, filter_map, ◌&&◌, ◌||◌, nat_lt}
use Rattle.std.specs.Int.{abs_diff}
use Rattle.std.specs.List.{enumerate_from}
use Rattle.std.proofs.Math.ListN.{get_or-eq_default}
use Rattle.std.proofs.lemmas.Bool.Decides.{nat_tests}
use Rattle.mp_nums.specs.declared.finds.Discord.{Discord}
use Rattle.mp_nums.specs.declared.nearest.Near.{Near}
use Rattle.mp_nums.specs.NearLaws.{nearer_with_none}
use Rattle.mp_nums.specs.Near.{nearer_of}
use Rattle.mp_nums.specs.declared.samples.Sample.{Sample}
use Rattle.mp_defs.specs.Series.{Series, series_of}
use Rattle.mp_defs.specs.SeriesLaws.{series_are_of_samples}
use Rattle.mp_defs.specs.Window.{excl, is_allowed, windows}
use Rattle.mp_defs.specs.Profile.{entry, matrix_profile, nearest_column, windows_of}
use Rattle.mp_defs.specs.ColumnLaws.{columns_by_choice, columns_have_places}
use Rattle.mp_partial.specs.Values.{Column, empty_column}
use Rattle.mp_partial.specs.PatchingLaws.{either_below}
use Rattle.mp_results.specs.Discords.{discord_at, with_entry}
use Rattle.mp_scans.specs.Offering.{in_block}
use Rattle.mp_tiles.specs.Among.{either_way}
use Rattle.mp_tiles.specs.TakenLaws.{at_taken_from}
use Rattle.mp_pan.specs.Longer.{still_apart}
use Rattle.mp_pan.specs.SlotLaws.{at_place, length_at}
use Rattle.mp_pan.specs.Spans.{AreTakenAt, column_at, pairs_at}

-- ---- the windows with an entry

kept : (i : ℕ) (x y : Option Near) (xs ys : List (ℕ × Option Near)) → x ≡ y
    → filter_map discord_at xs ≡ filter_map discord_at ys
    → filter_map discord_at ((i, x) ∷ xs) ≡ filter_map discord_at ((i, y) ∷ ys)
kept i x y xs ys e f = ap (λ z. filter_map discord_at ((i, z) ∷ xs)) e ∙ same y
  where
    same : (z : Option Near) → filter_map discord_at ((i, z) ∷ xs) ≡ filter_map discord_at ((i, z) ∷ ys)
    same None = f
    same (Some near) = let one : Discord = record { start = i; near = near } in ap (λ ds. one ∷ ds) f

passed : (i : ℕ) (y : Option Near) (xs ys : List (ℕ × Option Near)) → y ≡ None
    → filter_map discord_at xs ≡ filter_map discord_at ys
    → filter_map discord_at xs ≡ filter_map discord_at ((i, y) ∷ ys)
passed i y xs ys e f = f ∙ ap (λ z. filter_map discord_at ((i, z) ∷ ys)) (sym e)

-- columns that differ in places without an entry at their end
pub entries_same : (i : ℕ) (xs ys : Column) → ((n : ℕ) → get_or xs n None ≡ get_or ys n None)
    → filter_map discord_at (enumerate_from i xs) ≡ filter_map discord_at (enumerate_from i ys)
entries_same i [] [] h = refl
entries_same i [] (y ∷ ys) h =
    passed i y (enumerate_from (i + 1) []) (enumerate_from (i + 1) ys) (sym (h 0))
    (entries_same (i + 1) [] ys (λ n. h (suc n)))
entries_same i (x ∷ xs) [] h =
    sym (passed i x (enumerate_from (i + 1) []) (enumerate_from (i + 1) xs) (h 0)
    (sym (entries_same (i + 1) xs [] (λ n. h (suc n)))))
entries_same i (x ∷ xs) (y ∷ ys) h =
    kept i x y (enumerate_from (i + 1) xs) (enumerate_from (i + 1) ys) (h 0)
    (entries_same (i + 1) xs ys (λ n. h (suc n)))

-- ---- all pairs

all_in : (e f w i j : ℕ) → e ≤ f → i < w → j < w → nat_lt f (abs_diff i j) ≡ true
    → (in_block (e + 1) w 0 w i j || in_block (e + 1) w 0 w j i) ≡ true
all_in e f w i j le lt lt' apart = grind (arith, nat_tests)

keep : (s t : Bool) → (t ≡ true → s ≡ true) → (s && t) ≡ t
keep true t h = refl
keep false true h = h refl
keep false false h = refl

-- at a length those that lie apart are all among the pairs of the scan
all_pairs : (m k w i j : ℕ) → i < w → j < w
    → pairs_at (in_block (excl m + 1) w 0 w) (m + k) i j ≡ is_allowed (m + k) i j
all_pairs m k w i j lt lt' =
    keep (either_way (in_block (excl m + 1) w 0 w) i j) (is_allowed (m + k) i j)
    (λ apart. all_in (excl m) (excl (m + k)) w i j (still_apart m k) lt lt' apart)

none_at : (n t : ℕ) → get_or (empty_column n) t None ≡ None
none_at zero t = refl
none_at (suc n) zero = refl
none_at (suc n) (suc t) = none_at n t

-- ---- profiles

profile_at : (count m : ℕ) (a : Series) (old new : Column) (size k : ℕ) → k < count → old ≡ empty_column size
    → AreTakenAt count m a (in_block (excl m + 1) (windows_of m a) 0 (windows_of m a)) old new
    → with_entry (column_at (windows_of m a) k new) ≡ with_entry (matrix_profile (m + k) a).all
profile_at count m a old new size k less none h =
    entries_same 0 (column_at w k new) profile each
  where
    w : ℕ
    w = windows_of m a

    pairs : ℕ → ℕ → Bool
    pairs = pairs_at (in_block (excl m + 1) w 0 w) (m + k)

    profile : Column
    profile = (matrix_profile (m + k) a).all

    as_long : length profile ≡ windows_of (m + k) a
    as_long = columns_have_places.count (entry (is_allowed (m + k)) (m + k) a) (windows_of (m + k) a)

    same : nearest_column pairs (m + k) a a ≡ profile
    same = columns_by_choice.same (m + k) pairs (is_allowed (m + k)) a a
        (λ i j lt lt'. all_pairs m k w i j (omega (arith, lt)) (omega (arith, lt')))

    each : (n : ℕ) → get_or (column_at w k new) n None ≡ get_or profile n None
    each n = elim (either_below n w) [
      | inl lt ↦
          at_taken_from pairs (m + k) a a 0 (column_at w k old) (column_at w k new) n
          (omega (arith, lt, length_at w k old)) (h.each k less)
          ∙ ap (λ s. nearer_of s (get_or (nearest_column pairs (m + k) a a) (0 + n) None))
          (at_place w k old n lt ∙ ap (λ c. get_or c (4 * n + k) None) none ∙ none_at size (4 * n + k))
          ∙ (nearer_with_none (get_or (nearest_column pairs (m + k) a a) (0 + n) None)).0
          ∙ ap (λ t. get_or (nearest_column pairs (m + k) a a) t None) (omega arith)
          ∙ ap (λ c. get_or c n None) same
      | inr le ↦
          get_or-eq_default (column_at w k new) None (omega (arith, le, length_at w k new))
          ∙ sym (get_or-eq_default profile None (omega (arith, le, as_long)))
    ]

-- the same of the windows of samples
pub profile_in : (count m first end size k : ℕ) (samples : List Sample) (old new : Column) → first ≡ excl m + 1
    → end ≡ windows (length samples) m → k < count → old ≡ empty_column size
    → AreTakenAt count m (series_of samples) (in_block first end 0 end) old new
    → with_entry (column_at (windows (length samples) m) k new)
    ≡ with_entry (matrix_profile (m + k) (series_of samples)).all
profile_in count m first end size k samples old new e f less none h =
    let a = series_of samples in
    let same : windows_of m a ≡ windows (length samples) m = series_are_of_samples.windows_are m samples in
    ap (λ w. with_entry (column_at w k new)) (sym same)
    ∙ profile_at count m a old new size k less none
    (subst (λ w. AreTakenAt count m a (in_block (excl m + 1) w 0 w) old new) (f ∙ sym same)
    (subst (λ s. AreTakenAt count m a (in_block s end 0 end) old new) e h))

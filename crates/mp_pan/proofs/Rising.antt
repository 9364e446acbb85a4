-- Why the best pairs of successive lengths are farther and farther apart.
use Rattle.std.proofs.Common.{◌≡◌, ℕ, zero, suc, ◌+◌, ◌<◌, ◌≤◌, [], ◌∷◌, get_or, true, false, refl, sym, ap}
use Rattle.std.proofs.Common.{◌∙◌, arith, inl, inr, subst, ⊎_elim}
use Rattle.std.specs.Prelude.{Option, Some, None, Contains, ◌⊎◌, filter_map, nat_lt}
use Rattle.std.specs.Cmp.{IsTotalOrder, then_total, on_total, nat_cmp_total}
use Rattle.std.specs.Int.{abs_diff}
use Rattle.std.specs.List.{enumerate_from}
use Rattle.std.specs.Option.{option_map}
use Rattle.std.specs.Ordering.{is_gt, is_le, nat_cmp, ordering_then}
use Rattle.std.specs.declared.cmp.Ordering.{Ordering}
use Rattle.std.specs.declared.cmp.Ordering.TheVariants.{Less, Equal, Greater}
use Rattle.std.proofs.Math.ListN.{get_or-eq_default}
use Rattle.std.proofs.lemmas.Bool.Decides.{nat_tests}
use Rattle.std.proofs.lemmas.Map.Keys.{le_from_is_le}
use Rattle.mp_nums.specs.declared.finds.Discord.{Discord}
use Rattle.mp_nums.specs.declared.finds.Pair.{Pair}
use Rattle.mp_nums.specs.declared.nearest.Near.{Near}
use Rattle.mp_defs.specs.Series.{Series}
use Rattle.mp_defs.specs.Window.{excl, is_allowed}
use Rattle.mp_defs.specs.Distance.{distance}
use Rattle.mp_defs.specs.Laws.{IsNearest, IsNearestWindow}
use Rattle.mp_defs.specs.Profile.{entry, matrix_profile, windows_of}
use Rattle.mp_defs.specs.NearestLaws.{entries_are_nearest}
use Rattle.mp_defs.specs.ColumnLaws.{columns_have_places}
use Rattle.mp_partial.specs.PatchingLaws.{either_below}
use Rattle.mp_partial.specs.Values.{Column}
use Rattle.mp_picks.specs.PickLaws.{contains_cases, contains_first, contains_later, contains_nothing, first_is_first}
use Rattle.mp_picks.specs.PickLaws.{none_first}
use Rattle.mp_results.specs.Best.{best_cmp, best_in}
use Rattle.mp_results.specs.Discords.{discord_at, with_entry}
use Rattle.mp_results.specs.Pan.{pair_of, pan_row}
use Rattle.mp_pan.specs.Laws.{BestPairsRise, HasPairWithin}
use Rattle.mp_pan.specs.Longer.{shorter, still_apart}

-- ---- the windows with an entry

-- a window of a list that is counted from i
record StandsAt (i : ℕ) (column : Column) (window : Discord) : Type 0 where
  place : ℕ
  start : window.start ≡ i + place
  entry : get_or column place None ≡ Some window.near

stands_at : (i : ℕ) (column : Column) (window : Discord)
    → Contains (filter_map discord_at (enumerate_from i column)) window → StandsAt i column window
stands_at i [] window h = absurd (contains_nothing window h)
stands_at i (None ∷ column) window h =
    let there = stands_at (i + 1) column window h in
    record { place = suc there.place; start = omega (arith, there.start); entry = there.entry }
stands_at i (Some near ∷ column) window h =
    ⊎_elim
    (λ same. record {
      place = zero;
      start = (let e = ap (λ (w : Discord). w.start) same in omega (arith, e));
      entry = ap (λ (w : Discord). Some w.near) same;
    })
    (λ later. let there = stands_at (i + 1) column window later in
    record { place = suc there.place; start = omega (arith, there.start); entry = there.entry })
    (contains_cases (record { start = i; near = near }) window
    (filter_map discord_at (enumerate_from (i + 1) column)) h)

same_window : (i : ℕ) (x y : Near) → Some x ≡ Some y
    → ◌≡◌ {A = Discord} (record { start = i; near = x }) (record { start = i + 0; near = y })
same_window i x y e = let place : i ≡ i + 0 = omega arith in cc

has_entry : (i : ℕ) (column : Column) (k : ℕ) (near : Near) → get_or column k None ≡ Some near
    → Contains (filter_map discord_at (enumerate_from i column)) (record { start = i + k; near = near })
has_entry i [] k near e = absurd (cc)
has_entry i (None ∷ column) zero near e = absurd (cc)
has_entry i (Some x ∷ column) zero near e =
    let later = filter_map discord_at (enumerate_from (i + 1) column) in
    let here : Discord = record { start = i; near = x } in
    subst (Contains (here ∷ later)) (same_window i x near e) (contains_first here later)
has_entry i (None ∷ column) (suc k) near e =
    let place : i + 1 + k ≡ i + suc k = omega arith in
    let later = filter_map discord_at (enumerate_from (i + 1) column) in
    subst (λ n. Contains later (record { start = n; near = near })) place (has_entry (i + 1) column k near e)
has_entry i (Some x ∷ column) (suc k) near e =
    let place : i + 1 + k ≡ i + suc k = omega arith in
    let later = filter_map discord_at (enumerate_from (i + 1) column) in
    let here : Discord = record { start = i; near = x } in
    subst (λ n. Contains (here ∷ later) (record { start = n; near = near })) place
    (contains_later here (record { start = i + 1 + k; near = near }) later (has_entry (i + 1) column k near e))

-- ---- the best one

best_total : IsTotalOrder best_cmp
best_total =
    then_total (on_total (λ (d : Discord). d.near.dist.0) nat_cmp_total)
    (on_total (λ (d : Discord). d.start) nat_cmp_total)

not_greater : (r s : Ordering) → is_gt (ordering_then r s) ≡ false → is_le r ≡ true
not_greater Less s e = refl
not_greater Equal s e = refl
not_greater Greater s e = absurd (cc)

no_farther : (v y : Discord) → is_gt (best_cmp v y) ≡ false → v.near.dist.0 ≤ y.near.dist.0
no_farther v y e =
    le_from_is_le v.near.dist.0 y.near.dist.0
    (not_greater (nat_cmp v.near.dist.0 y.near.dist.0) (nat_cmp v.start y.start) e)

-- where some window has an entry there is a best one, and it is no farther
best_within : (column : Column) (window : Discord) (d : ℕ) → Contains (with_entry column) window
    → window.near.dist.0 ≤ d → HasPairWithin d (option_map pair_of (best_in column))
best_within column window d h le = by_best (best_in column) refl
  where
    by_best : (best : Option Discord) → best_in column ≡ best → HasPairWithin d (option_map pair_of best)
    by_best None e = absurd (contains_nothing window
        (subst (λ ds. Contains ds window) (none_first best_cmp best_total (with_entry column) e) h))
    by_best (Some v) e =
        let first = first_is_first best_cmp best_total (with_entry column) v e in
        let near = no_farther v window (first.1 window h) in
        record { pair = pair_of v; is = refl; near = omega (arith, near, le) }

-- ---- a length and the one below it

entry_at : (m : ℕ) (a : Series) (i : ℕ) (near : Near) → get_or (matrix_profile m a).all i None ≡ Some near
    → (i < windows_of m a) × (entry (is_allowed m) m a i ≡ Some near)
entry_at m a i near e = elim (either_below i (windows_of m a)) [
  | inl lt ↦ (lt, sym (columns_have_places.at_place (entry (is_allowed m) m a) (windows_of m a) i lt) ∙ e)
  | inr le ↦ absurd (none_some near (sym (get_or-eq_default (matrix_profile m a).all None
      (omega (arith, le, columns_have_places.count (entry (is_allowed m) m a) (windows_of m a)))) ∙ e))
]
  where
    none_some : (x : Near) → None ≡ Some x → ⊥
    none_some x e = cc

is_entry : (m : ℕ) (a : Series) (i : ℕ) (near : Near) → i < windows_of m a → entry (is_allowed m) m a i ≡ Some near
    → get_or (matrix_profile m a).all i None ≡ Some near
is_entry m a i near lt e = columns_have_places.at_place (entry (is_allowed m) m a) (windows_of m a) i lt ∙ e

nearest_is : (m : ℕ) (a : Series) (i : ℕ) (near : Near) → entry (is_allowed m) m a i ≡ Some near
    → IsNearestWindow m (is_allowed m i) a i a near
nearest_is m a i near e =
    subst (IsNearest m (is_allowed m i) a i a) e (entries_are_nearest.all (is_allowed m) m a i)

-- a window that may be compared with one at a distance has an entry that is no farther
record HasEntryWithin (m : ℕ) (a : Series) (i d : ℕ) : Type 0 where
  near : Near
  is : entry (is_allowed m) m a i ≡ Some near
  close : near.dist.0 ≤ d

entry_within : (m : ℕ) (a : Series) (i j d : ℕ) → j < windows_of m a → is_allowed m i j ≡ true
    → distance m a i a j ≡ Some d → HasEntryWithin m a i d
entry_within m a i j d lt may is =
    by_entry (entry (is_allowed m) m a i) refl (entries_are_nearest.all (is_allowed m) m a i)
  where
    none_some : (x : Option ℕ) → x ≡ None → x ≡ Some d → ⊥
    none_some x e f = cc

    at_most : (x y : ℕ) → ((x < d) ⊎ ((x ≡ d) × (y ≤ j))) → x ≤ d
    at_most x y (inl less) = omega (arith, less)
    at_most x y (inr same) = omega (arith, same.0)

    by_entry : (found : Option Near) → entry (is_allowed m) m a i ≡ found → IsNearest m (is_allowed m i) a i a found
        → HasEntryWithin m a i d
    by_entry None e h = absurd (none_some (distance m a i a j) (h j lt may) is)
    by_entry (Some near) e h = record {
      near = near;
      is = e;
      close = at_most near.dist.0 near.index (h.none_nearer j d lt may is);
    }

still_allowed : (e f i j : ℕ) → e ≤ f → nat_lt f (abs_diff i j) ≡ true → nat_lt e (abs_diff i j) ≡ true
still_allowed e f i j le may = grind (arith, nat_tests)

at_start : (column : Column) (place start : ℕ) (near : Near) → start ≡ place
    → get_or column place None ≡ Some near → get_or column start None ≡ Some near
at_start column place start near e h = ap (λ n. get_or column n None) e ∙ h

-- the window of the best pair has an entry at the length below
one_below : (m : ℕ) (a : Series) (window : Discord)
    → Contains (with_entry (matrix_profile (m + 1) a).all) window
    → HasPairWithin window.near.dist.0 (pan_row a m).best
one_below m a window h =
    let i = window.start in
    let there = stands_at 0 (matrix_profile (m + 1) a).all window h in
    let start : i ≡ there.place = omega (arith, there.start) in
    let at = entry_at (m + 1) a i window.near
    (at_start (matrix_profile (m + 1) a).all there.place i window.near start there.entry) in
    let nearest = nearest_is (m + 1) a i window.near at.1 in
    let less = shorter m 1 a i a window.near.index window.near.dist.0 nearest.distance_is in
    let may = still_allowed (excl m) (excl (m + 1)) i window.near.index (still_apart m 1) nearest.may_be in
    let found = entry_within m a i window.near.index less.shorter (omega (arith, nearest.window)) may less.is in
    let row : i < windows_of m a = omega (arith, at.0) in
    let here = is_entry m a i found.near row found.is in
    best_within (matrix_profile m a).all (record { start = 0 + i; near = found.near }) window.near.dist.0
    (has_entry 0 (matrix_profile m a).all i found.near here) (omega (arith, found.close, less.less))

pub rising_pairs : BestPairsRise
rising_pairs m a longer e = by_best (best_in (matrix_profile (m + 1) a).all) refl e
  where
    by_best : (best : Option Discord) → best_in (matrix_profile (m + 1) a).all ≡ best
        → option_map pair_of best ≡ Some longer → HasPairWithin longer.near.dist.0 (pan_row a m).best
    by_best None f g = absurd (cc)
    by_best (Some window) f g =
        let same : pair_of window ≡ longer = cc in
        let first = first_is_first best_cmp best_total (with_entry (matrix_profile (m + 1) a).all) window f in
        subst (λ (p : Pair). HasPairWithin p.near.dist.0 (pan_row a m).best) same (one_below m a window first.0)

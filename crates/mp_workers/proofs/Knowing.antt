-- Pairs of windows that are told of in words, and what words tell of others.
use Rattle.std.proofs.Common.{◌≡◌, ℕ, ◌+◌, ◌-◌, ◌*◌, ◌/◌, ◌%◌, ◌<◌, ◌≤◌, ◌⊎◌, Bool, true, false, get_or, inl, inr}
use Rattle.std.proofs.Common.{refl, sym, ap, subst, ◌∙◌, arith}
use Rattle.std.specs.Prelude.{Option, Some, None, ◌&&◌, nat_lt, if◌then◌else◌}
use Rattle.std.proofs.lemmas.Bool.{cases_lt}
use Rattle.std.proofs.lemmas.Bool.Decides.{nat_tests}
use Rattle.std.proofs.lemmas.Nat.{div-add-mod', mod_below}
use Rattle.mp_nums.specs.declared.nearest.Near.{Near}
use Rattle.mp_nums.specs.Near.{comes_before, nearer_of}
use Rattle.mp_nums.specs.NearLaws.{nearer_commutes, nearer_with_none}
use Rattle.mp_defs.specs.Series.{series_of}
use Rattle.mp_defs.specs.SeriesLaws.{series_are_of_samples}
use Rattle.mp_defs.specs.Window.{is_allowed, excl}
use Rattle.mp_defs.specs.Distance.{distance}
use Rattle.mp_defs.specs.DistanceLaws.{symmetric}
use Rattle.mp_defs.specs.Least.{near_at}
use Rattle.mp_defs.specs.Laws.{IsNearest}
use Rattle.mp_defs.specs.NearestLaws.{entries_are_nearest}
use Rattle.mp_defs.specs.Profile.{windows_of, left_entry, right_entry}
use Rattle.mp_defs.specs.ColumnLaws.{columns_have_places}
use Rattle.mp_tiles.specs.Compact.{slot_of_word}
use Rattle.mp_workers.specs.Entries.{EntriesState, IsWithin, count_of, left_of, right_of, whole_of}
use Rattle.mp_workers.specs.Tellers.{ComesBefore, IsNoLater}
use Rattle.mp_workers.proofs.Entering.{left_at, right_at}

-- ---- what is nearest comes no later than others

no_later : (near : Near) (j d : ℕ) → (near.dist.0 < d) ⊎ ((near.dist.0 ≡ d) × (near.index ≤ j))
    → IsNoLater (Some near) (Some (near_at j d))
no_later near j d h = ap (λ b. if b then Some (near_at j d) else Some near) (behind near.dist.0 near.index d j h)
  where
    behind : (e i d j : ℕ) → (e < d) ⊎ ((e ≡ d) × (i ≤ j))
        → comes_before (near_at j d) (near_at i e) ≡ false
    behind e i d j (inl less) = grind (arith, nat_tests)
    behind e i d j (inr same) = grind (arith, nat_tests, same.0, same.1)

-- a window that may be chosen
nearest_first : (m : ℕ) (may : ℕ → Bool) (s : EntriesState) (i j d : ℕ) (slot : Option Near)
    → IsNearest m may (series_of s.samples) i (series_of s.samples) slot
    → j < windows_of m (series_of s.samples) → may j ≡ true
    → distance m (series_of s.samples) i (series_of s.samples) j ≡ Some d → IsNoLater slot (Some (near_at j d))
nearest_first m may s i j d None h lt can is = absurd (cc (h j lt can, is))
nearest_first m may s i j d (Some near) h lt can is = no_later near j d (h.none_nearer j d lt can is)

apart_test : (m i j : ℕ) → i + (excl m + 1) ≤ j → (is_allowed m i j && nat_lt i j) ≡ true
apart_test m i j le = grind (arith, nat_tests)

apart_back : (m i j : ℕ) → i + (excl m + 1) ≤ j → (is_allowed m j i && nat_lt i j) ≡ true
apart_back m i j le = grind (arith, nat_tests)

-- of two windows that are compared, behind the row
pub pair_right : (s : EntriesState) (i j d : ℕ) → i + (excl s.m + 1) ≤ j → j < count_of s
    → distance s.m (series_of s.samples) i (series_of s.samples) j ≡ Some d
    → IsNoLater (get_or (whole_of s) (count_of s + i) None) (Some (near_at j d))
pair_right s i j d apart lt is =
    let a = series_of s.samples in
    let may = is_allowed s.m in
    let windows : windows_of s.m a ≡ count_of s = series_are_of_samples.windows_are s.m s.samples in
    let here : get_or (right_of s) i None ≡ right_entry may s.m a i =
    columns_have_places.at_place (right_entry may s.m a) (windows_of s.m a) i (omega (arith, lt, apart, windows)) in
    subst (λ slot. IsNoLater slot (Some (near_at j d))) (sym (right_at s i ∙ here))
    (nearest_first s.m (λ k. may i k && nat_lt i k) s i j d (right_entry may s.m a i)
    (entries_are_nearest.right may s.m a i) (omega (arith, lt, windows)) (apart_test s.m i j apart) is)

-- and before the column
pub pair_left : (s : EntriesState) (i j d : ℕ) → i + (excl s.m + 1) ≤ j → j < count_of s
    → distance s.m (series_of s.samples) i (series_of s.samples) j ≡ Some d
    → IsNoLater (get_or (whole_of s) j None) (Some (near_at i d))
pair_left s i j d apart lt is =
    let a = series_of s.samples in
    let may = is_allowed s.m in
    let windows : windows_of s.m a ≡ count_of s = series_are_of_samples.windows_are s.m s.samples in
    let here : get_or (left_of s) j None ≡ left_entry may s.m a j =
    columns_have_places.at_place (left_entry may s.m a) (windows_of s.m a) j (omega (arith, lt, windows)) in
    subst (λ slot. IsNoLater slot (Some (near_at i d))) (sym (left_at s j lt ∙ here))
    (nearest_first s.m (λ k. may j k && nat_lt k j) s j i d (left_entry may s.m a j)
    (entries_are_nearest.left may s.m a j) (omega (arith, lt, apart, windows)) (apart_back s.m i j apart)
    (symmetric s.m a j a i ∙ is))

-- ---- words

parts : (n : ℕ) → n / 262144 * 262144 + n % 262144 ≡ n
parts n = div-add-mod' n 262144

start_small : (n : ℕ) → n % 262144 < 262144
start_small n = mod_below n 262144 (omega arith)

some_word : (n : ℕ) → n < 18446744073709551615 → slot_of_word n ≡ Some (near_at (n % 262144) (n / 262144))
some_word n lt = grind (arith, nat_tests)

-- of two words the lesser one tells what comes no later
pub words_in_order : (v w : ℕ) → v ≤ w → w ≤ 18446744073709551615 → IsNoLater (slot_of_word v) (slot_of_word w)
words_in_order v w le most = elim (cases_lt w 18446744073709551615) [
  | inl less ↦
      subst (λ s. IsNoLater s (slot_of_word w)) (sym (some_word v (omega (arith, le, less))))
      (subst (IsNoLater (Some (near_at (v % 262144) (v / 262144)))) (sym (some_word w less))
      (no_later (near_at (v % 262144) (v / 262144)) (w % 262144) (w / 262144)
      (first (v / 262144) (v % 262144) (w / 262144) (w % 262144) (start_small v) (start_small w)
      (omega (arith, parts v, parts w, le)))))
  | inr last ↦
      let none : slot_of_word w ≡ None = by_test w (omega (arith, last, most)) in
      subst (IsNoLater (slot_of_word v)) (sym none) (nearer_with_none (slot_of_word v)).1
]
  where
    first : (d i e j : ℕ) → i < 262144 → j < 262144 → d * 262144 + i ≤ e * 262144 + j
        → (d < e) ⊎ ((d ≡ e) × (i ≤ j))
    first d i e j a b le = elim (cases_lt d e) [
      | inl less ↦ inl less
      | inr more ↦ inr (omega (arith, a, b, le, more), omega (arith, a, b, le, more))
    ]

    by_test : (w : ℕ) → w ≡ 18446744073709551615 → slot_of_word w ≡ None
    by_test w e = ap slot_of_word e

-- ---- limits

-- what comes no later than a window that comes before another one comes before it
before_both : (slot : Option Near) (near : Near) (j d : ℕ) → IsNoLater slot (Some near)
    → comes_before near (near_at j d) ≡ true → ComesBefore slot j d
before_both None near j d h is = absurd (cc (h))
before_both (Some x) near j d h is = by x near j d h is (comes_before near x) refl
  where
    last : (a i e k d j : ℕ) → comes_before (near_at k e) (near_at i a) ≡ false
        → comes_before (near_at k e) (near_at j d) ≡ true → comes_before (near_at i a) (near_at j d) ≡ true
    last a i e k d j h is = grind (arith, nat_tests)

    by : (x near : Near) (j d : ℕ) → IsNoLater (Some x) (Some near) → comes_before near (near_at j d) ≡ true
        → (b : Bool) → comes_before near x ≡ b → comes_before x (near_at j d) ≡ true
    by x near j d h is true e =
        let same : Some near ≡ Some x = sym (ap (λ b. if b then Some near else Some x) e) ∙ h in
        let one : near ≡ x = cc in
        subst (λ (n : Near). comes_before n (near_at j d) ≡ true) one is
    by x near j d h is false e = last x.dist.0 x.index near.dist.0 near.index d j e is

-- a word that is found tells a limit
pub limit_tells : (found : ℕ) (slot : Option Near) (near : Near) → IsWithin found slot
    → slot_of_word found ≡ Some near → IsNoLater slot (Some near)
limit_tells found slot near h e =
    nearer_commutes slot (Some near) ∙ ap (λ x. nearer_of x slot) (sym e) ∙ h

-- A radius is the greatest distance to the other places.
use Rattle.std.proofs.Common.{◌≡◌, ◌≢◌, ℕ, zero, suc, ◌<◌, ◌≤◌, ◌⊎◌, inl, inr, true, false, List, length}
use Rattle.std.proofs.Common.{refl, arith, rules, ap, ◌∙◌, sym, max}
use Rattle.std.specs.Prelude.{Option, Some, None, ◌==◌, if◌then◌else◌, IsTrue, IsSome, MatchOption}
use Rattle.std.proofs.lemmas.Bool.{cases_eq}
use Rattle.std.proofs.lemmas.Bool.Decides.{nat_tests}
use Rattle.mp_nums.specs.declared.nearest.Near.{Near}
use Rattle.mp_defs.specs.Series.{Series}
use Rattle.mp_defs.specs.Window.{is_free}
use Rattle.mp_defs.specs.Least.{near_at}
use Rattle.mp_defs.specs.Profile.{join_entry}
use Rattle.mp_defs.specs.Laws.{IsNearest}
use Rattle.mp_defs.specs.NearestLaws.{entries_are_nearest}
use Rattle.mp_defs.specs.DistanceLaws.{of_free_windows}
use Rattle.mp_results.specs.Consensus.{series_at, counterpart, farther, farthest, radius_of}
use Rattle.mp_consensus.specs.Laws.{HasNearest, IsRadius, RadiusIsGreatest}

some_none : {A : Type 0} {x : A} → Some x ≡ None → ⊥
some_none e = cc

some_same : {A : Type 0} {x y : A} → Some x ≡ Some y → x ≡ y
some_same e = cc

-- ---- the farthest of some windows

pub record IsFarthest (f : ℕ → Option Near) (n d : ℕ) : Type 0 where
  pub within : (q : ℕ) → q < n → (found : Near) × (f q ≡ Some found) × (found.dist.0 ≤ d)
  pub reached : (d ≡ 0) ⊎ ((q : ℕ) × (found : Near) × (q < n) × (f q ≡ Some found) × (found.dist.0 ≡ d))

abbrev pub FarthestIs : (ℕ → Option Near) → ℕ → Option ℕ → Type 0
FarthestIs f n None = (q : ℕ) × (q < n) × (f q ≡ None)
FarthestIs f n (Some d) = IsFarthest f n d

within_more : (f : ℕ → Option Near) (n d : ℕ) (found : Near) → f n ≡ Some found → IsFarthest f n d
    → (q : ℕ) → q < suc n → (x : Near) × (f q ≡ Some x) × (x.dist.0 ≤ max d found.dist.0)
within_more f n d found e h q lt = elim (cases_eq q n) [
  | inl same ↦ (found, ap f same ∙ e, omega arith)
  | inr other ↦ let x = h.within q (omega (arith, lt, other)) in (x.0, x.1, omega (arith, x.2))
]

reached_more : (f : ℕ → Option Near) (n d : ℕ) (found : Near) → f n ≡ Some found → IsFarthest f n d
    → (d ≤ found.dist.0) ⊎ (found.dist.0 < d)
    → (max d found.dist.0 ≡ 0)
    ⊎ ((q : ℕ) × (x : Near) × (q < suc n) × (f q ≡ Some x) × (x.dist.0 ≡ max d found.dist.0))
reached_more f n d found e h (inl here) = inr (n, found, omega arith, e, omega (arith, here))
reached_more f n d found e h (inr before) = elim h.reached [
  | inl z ↦ inl (omega (arith, z, before))
  | inr w ↦ inr (w.0, w.1, omega (arith, w.2), w.3, omega (arith, w.4, before))
]

either_way : (x y : ℕ) → (x ≤ y) ⊎ (y < x)
either_way x y = grind (arith, nat_tests)

farthest_step : (f : ℕ → Option Near) (n : ℕ) (d : Option ℕ) (x : Option Near) → f n ≡ x → FarthestIs f n d
    → FarthestIs f (suc n) (farther d x)
farthest_step f n None x e h = (h.0, omega (arith, h.1), h.2)
farthest_step f n (Some d) None e h = (n, omega arith, e)
farthest_step f n (Some d) (Some found) e h = record {
  within = within_more f n d found e h;
  reached = reached_more f n d found e h (either_way d found.dist.0);
}

pub farthest_is : (f : ℕ → Option Near) (n : ℕ) → FarthestIs f n (farthest f n)
unfolding farthest
farthest_is f zero = record { within = λ q lt. absurd (omega (arith, lt)); reached = inl refl }
farthest_is f (suc n) = farthest_step f n (farthest f n) (f n) refl (farthest_is f n)

-- ---- the other places

pub counterpart_own : (m : ℕ) (list : List Series) (p i : ℕ) → counterpart m list p i p ≡ Some (near_at i 0)
counterpart_own m list p i =
    let own : (p == p) ≡ true = grind (arith, nat_tests) in
    ap (λ t. if t then Some (near_at i 0) else join_entry m (series_at list p) (series_at list p) i) own

pub counterpart_other : (m : ℕ) (list : List Series) (p i q : ℕ) → q ≢ p
    → counterpart m list p i q ≡ join_entry m (series_at list p) (series_at list q) i
counterpart_other m list p i q ne =
    let other : (p == q) ≡ false = grind (arith, nat_tests, ne) in
    ap (λ t. if t then Some (near_at i 0) else join_entry m (series_at list p) (series_at list q) i) other

another : (n p : ℕ) → 2 ≤ n → (q : ℕ) × (q < n) × (q ≢ p)
another n zero two = (1, omega arith, λ e. omega (arith, e))
another n (suc p) two = (0, omega arith, λ e. omega (arith, e))

some_is_some : (d : Option ℕ) (x : ℕ) → d ≡ Some x → IsSome d
some_is_some d x e = grind (arith, rules)

-- a window that has a nearest one is free
entry_is_free : (m : ℕ) (a b : Series) (i : ℕ) (x : Option Near) → IsNearest m (λ _. true) a i b x → (found : Near)
    → x ≡ Some found → IsTrue (is_free m a i)
entry_is_free m a b i None h found e = absurd (some_none (sym e))
entry_is_free m a b i (Some x) h found e =
    ((of_free_windows m a i b x.index).0 (some_is_some _ _ h.distance_is)).0

-- the nearest window at another place, within the greatest distance
nearest_within : (m : ℕ) (list : List Series) (p i d : ℕ) → IsFarthest (counterpart m list p i) (length list) d
    → (q : ℕ) → q < length list → q ≢ p → (found : Near) × HasNearest m list p i q found × (found.dist.0 ≤ d)
nearest_within m list p i d h q lt ne =
    let x = h.within q lt in
    (x.0, (lt, ne, sym (counterpart_other m list p i q ne) ∙ x.1), x.2)

-- a radius of 0 is reached at any other place
reached_at_zero : (m : ℕ) (list : List Series) (p i d : ℕ) → 2 ≤ length list
    → IsFarthest (counterpart m list p i) (length list) d → d ≡ 0
    → (q : ℕ) × (found : Near) × HasNearest m list p i q found × (found.dist.0 ≡ d)
reached_at_zero m list p i d two h z =
    let other = another (length list) p two in
    let x = nearest_within m list p i d h other.0 other.1 other.2 in
    (other.0, x.0, x.1, omega (arith, x.2, z))

reached_elsewhere : (m : ℕ) (list : List Series) (p i d : ℕ) → 2 ≤ length list
    → IsFarthest (counterpart m list p i) (length list) d → (q : ℕ) (found : Near) → q < length list
    → counterpart m list p i q ≡ Some found → found.dist.0 ≡ d
    → (r : ℕ) × (x : Near) × HasNearest m list p i r x × (x.dist.0 ≡ d)
reached_elsewhere m list p i d two h q found lt e is = elim (cases_eq q p) [
  | inl own ↦
      let same : Some (near_at i 0) ≡ Some found =
      sym (counterpart_own m list p i) ∙ ap (counterpart m list p i) (sym own) ∙ e in
      let distance_is : 0 ≡ found.dist.0 = ap (λ (x : Near). x.dist.0) (some_same same) in
      reached_at_zero m list p i d two h (omega (arith, distance_is, is))
  | inr ne ↦ (q, found, (lt, ne, sym (counterpart_other m list p i q ne) ∙ e), is)
]

radius_by : (m : ℕ) (list : List Series) (p i : ℕ) → 2 ≤ length list → p < length list → (d : Option ℕ)
    → FarthestIs (counterpart m list p i) (length list) d
    → MatchOption d
    ((q : ℕ) × (q < length list) × (q ≢ p) × (join_entry m (series_at list p) (series_at list q) i ≡ None))
    (IsRadius m list p i)
radius_by m list p i two place None h = elim (cases_eq h.0 p) [
  | inl own ↦
      absurd (some_none (sym (counterpart_own m list p i) ∙ ap (counterpart m list p i) (sym own) ∙ h.2))
  | inr ne ↦ (h.0, h.1, ne, sym (counterpart_other m list p i h.0 ne) ∙ h.2)
]
radius_by m list p i two place (Some d) h =
    let other = another (length list) p two in
    let near = nearest_within m list p i d h other.0 other.1 other.2 in
    record {
      free = entry_is_free m (series_at list p) (series_at list other.0) i _
          (entries_are_nearest.joined m (series_at list p) (series_at list other.0) i) near.0 near.1.2;
      within = nearest_within m list p i d h;
      reached = elim h.reached [
        | inl z ↦ reached_at_zero m list p i d two h z
        | inr w ↦ reached_elsewhere m list p i d two h w.0 w.1 w.2 w.3 w.4
      ];
    }

pub radius_is : RadiusIsGreatest
radius_is m list p i two place =
    radius_by m list p i two place (radius_of m list p i) (farthest_is (counterpart m list p i) (length list))

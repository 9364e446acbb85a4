-- A centre is the window of least radius.
use Rattle.std.proofs.Common.{◌≡◌, ℕ, zero, suc, ◌<◌, ◌≤◌, ◌⊎◌, inl, inr, Bool, true, false, List, [], ◌∷◌, ◌++◌}
use Rattle.std.proofs.Common.{length, refl, arith, ap, ◌∙◌, sym, subst}
use Rattle.std.specs.Prelude.{Option, Some, None, nat_lt, if◌then◌else◌, MatchOption, All, slice_get}
use Rattle.std.specs.Option.{option_map}
use Rattle.std.proofs.lemmas.List.{get_or_append_left, length-append}
use Rattle.std.proofs.lemmas.List.Elements.{All-push}
use Rattle.std.proofs.lemmas.Option.{slice_get-get_or}
use Rattle.std.proofs.Math.Seq.{get_or-append_seam}
use Rattle.std.proofs.lemmas.Bool.{cases_eq}
use Rattle.std.proofs.lemmas.Bool.Decides.{nat_tests}
use Rattle.mp_nums.specs.declared.nearest.Near.{Near}
use Rattle.mp_nums.specs.Near.{comes_before}
use Rattle.mp_defs.specs.Series.{Series}
use Rattle.mp_defs.specs.Least.{near_at, at_distance}
use Rattle.mp_defs.specs.Profile.{windows_of}
use Rattle.mp_defs.specs.Laws.{IsLeast}
use Rattle.mp_defs.specs.LeastLaws.{near_is_first}
use Rattle.mp_results.specs.Consensus.{Central, series_at, counterpart, radius_of, those_there, listed, least_at}
use Rattle.mp_results.specs.Consensus.{central_at, lesser, centre_among, centre_of}
use Rattle.mp_consensus.specs.Laws.{IsCentre, CentreIsLeast}
use Rattle.mp_consensus.proofs.Radii.{IsFarthest, FarthestIs, farthest_is}

none_some : {A : Type 0} {x : A} → None ≡ Some x → ⊥
none_some e = cc

some_same : {A : Type 0} {x y : A} → Some x ≡ Some y → x ≡ y
some_same e = cc

-- ---- the least of a place

at_none : (i : ℕ) (d : Option ℕ) → at_distance i d ≡ None → d ≡ None
at_none i None e = refl
at_none i (Some d) e = absurd (none_some (sym e))

chosen_by : (i : ℕ) (d : Option ℕ) (a : Near) → at_distance i d ≡ Some a → (a.index ≡ i) × (d ≡ Some a.dist.0)
chosen_by i None a e = absurd (none_some e)
chosen_by i (Some d) a e =
    let same : near_at i d ≡ a = cc in
    subst (λ (x : Near). (x.index ≡ i) × (Some d ≡ Some x.dist.0)) same (refl, refl)

not_before_order : (a : Near) (i d : ℕ) → comes_before (near_at i d) a ≡ false
    → (a.dist.0 < d) ⊎ ((a.dist.0 ≡ d) × (a.index ≤ i))
not_before_order a i d h = grind (arith, nat_tests)

-- what is known of the least window of place n
pub record IsLeastAt (m : ℕ) (list : List Series) (n : ℕ) (a : Near) : Type 0 where
  pub window : a.index < windows_of m (series_at list n)
  pub radius_is : radius_of m list n a.index ≡ Some a.dist.0
  pub none_less : (i r : ℕ) → i < windows_of m (series_at list n) → radius_of m list n i ≡ Some r
      → (a.dist.0 < r) ⊎ ((a.dist.0 ≡ r) × (a.index ≤ i))

abbrev pub LeastAtIs : ℕ → List Series → ℕ → Option Near → Type 0
LeastAtIs m list n None = (i : ℕ) → i < windows_of m (series_at list n) → radius_of m list n i ≡ None
LeastAtIs m list n (Some a) = IsLeastAt m list n a

least_by : (m : ℕ) (list : List Series) (n : ℕ) (x : Option Near)
    → IsLeast (λ i. at_distance i (radius_of m list n i)) (windows_of m (series_at list n)) x → LeastAtIs m list n x
least_by m list n None h = λ i lt. at_none i (radius_of m list n i) (h i lt)
least_by m list n (Some a) h =
    let is = chosen_by h.place (radius_of m list n h.place) a h.chosen in
    record {
      window = subst (λ k. k < windows_of m (series_at list n)) (sym is.0) h.below;
      radius_is = ap (radius_of m list n) is.0 ∙ is.1;
      none_less = λ i r lt e. not_before_order a i r (h.none_before i (near_at i r) lt (ap (at_distance i) e));
    }

least_at_is : (m : ℕ) (list : List Series) (n : ℕ) → LeastAtIs m list n (least_at m list n)
least_at_is m list n = least_by m list n _ (near_is_first _ _)

-- ---- the least of the first places

pub record IsLeastAmong (m : ℕ) (list : List Series) (n : ℕ) (c : Central) : Type 0 where
  pub place : c.series < n
  pub window : c.start < windows_of m (series_at list c.series)
  pub radius_is : radius_of m list c.series c.start ≡ Some c.radius
  pub none_less : (p i r : ℕ) → p < n → i < windows_of m (series_at list p) → radius_of m list p i ≡ Some r
      → (c.radius < r) ⊎ ((c.radius ≡ r) × ((c.series < p) ⊎ ((c.series ≡ p) × (c.start ≤ i))))
  pub nearest_are : c.nearest ≡ those_there (counterpart m list c.series c.start) (length list)

abbrev pub LeastAmongIs : ℕ → List Series → ℕ → Option Central → Type 0
LeastAmongIs m list n None =
    (p i : ℕ) → p < n → i < windows_of m (series_at list p) → radius_of m list p i ≡ None
LeastAmongIs m list n (Some c) = IsLeastAmong m list n c

-- what holds of the places below n and of place n holds below n + 1
each_more : (P : ℕ → Type 0) (n : ℕ) → ((p : ℕ) → p < n → P p) → P n → (p : ℕ) → p < suc n → P p
each_more P n below here p lt = elim (cases_eq p n) [
  | inl same ↦ subst P (sym same) here
  | inr other ↦ below p (omega (arith, lt, other))
]

-- the least of the last place comes first
takes : (m : ℕ) (list : List Series) (n : ℕ) (a : Near) → IsLeastAt m list n a
    → ((p i r : ℕ) → p < n → i < windows_of m (series_at list p) → radius_of m list p i ≡ Some r → a.dist.0 < r)
    → IsLeastAmong m list (suc n) (central_at m list n a)
takes m list n a h before = record {
  place = omega arith;
  window = h.window;
  radius_is = h.radius_is;
  none_less = λ p i r lt.
      each_more (λ q. i < windows_of m (series_at list q) → radius_of m list q i ≡ Some r
      → (a.dist.0 < r) ⊎ ((a.dist.0 ≡ r) × ((n < q) ⊎ ((n ≡ q) × (a.index ≤ i))))) n
      (λ q below window e. inl (before q i r below window e))
      (λ window e. elim (h.none_less i r window e) [
        | inl less ↦ inl less
        | inr same ↦ inr (same.0, inr (refl, same.1))
      ]) p lt;
  nearest_are = refl;
}

-- an earlier one stays the first
stays : (m : ℕ) (list : List Series) (n : ℕ) (c : Central) → IsLeastAmong m list n c
    → ((i r : ℕ) → i < windows_of m (series_at list n) → radius_of m list n i ≡ Some r → c.radius ≤ r)
    → IsLeastAmong m list (suc n) c
stays m list n c h last = record {
  place = omega (arith, h.place);
  window = h.window;
  radius_is = h.radius_is;
  none_less = λ p i r lt.
      each_more (λ q. i < windows_of m (series_at list q) → radius_of m list q i ≡ Some r
      → (c.radius < r) ⊎ ((c.radius ≡ r) × ((c.series < q) ⊎ ((c.series ≡ q) × (c.start ≤ i))))) n
      (λ q below. h.none_less q i r below)
      (λ window e. less_or_same c.radius r c.series n c.start i (last i r window e) h.place) p lt;
  nearest_are = h.nearest_are;
}
  where
    less_or_same : (d r s n j i : ℕ) → d ≤ r → s < n → (d < r) ⊎ ((d ≡ r) × ((s < n) ⊎ ((s ≡ n) × (j ≤ i))))
    less_or_same d r s n j i le lt = elim (cases_eq d r) [
      | inl same ↦ inr (same, inl lt)
      | inr other ↦ inl (omega (arith, le, other))
    ]

least_radius : (m : ℕ) (list : List Series) (n : ℕ) (a : Near) → IsLeastAt m list n a → (i r : ℕ)
    → i < windows_of m (series_at list n) → radius_of m list n i ≡ Some r → a.dist.0 ≤ r
least_radius m list n a h i r window e = elim (h.none_less i r window e) [
  | inl less ↦ omega (arith, less)
  | inr same ↦ omega (arith, same.0)
]

radius_among : (m : ℕ) (list : List Series) (n : ℕ) (c : Central) → IsLeastAmong m list n c → (p i r : ℕ) → p < n
    → i < windows_of m (series_at list p) → radius_of m list p i ≡ Some r → c.radius ≤ r
radius_among m list n c h p i r lt window e = elim (h.none_less p i r lt window e) [
  | inl less ↦ omega (arith, less)
  | inr same ↦ omega (arith, same.0)
]

choice : (m : ℕ) (list : List Series) (n : ℕ) (c : Central) (a : Near) → IsLeastAmong m list n c
    → IsLeastAt m list n a → (t : Bool) → nat_lt a.dist.0 c.radius ≡ t
    → LeastAmongIs m list (suc n) (if t then Some (central_at m list n a) else Some c)
choice m list n c a h k true t =
    let less : a.dist.0 < c.radius = grind (arith, nat_tests) in
    takes m list n a k
    (λ p i r lt window e. let within = radius_among m list n c h p i r lt window e in omega (arith, within, less))
choice m list n c a h k false t =
    let most : c.radius ≤ a.dist.0 = grind (arith, nat_tests) in
    stays m list n c h
    (λ i r window e. let within = least_radius m list n a k i r window e in omega (arith, within, most))

step : (m : ℕ) (list : List Series) (n : ℕ) (best : Option Central) (x : Option Near) → LeastAmongIs m list n best
    → LeastAtIs m list n x → LeastAmongIs m list (suc n) (lesser best (option_map (central_at m list n) x))
step m list n None None h k = λ p i lt.
    each_more (λ q. i < windows_of m (series_at list q) → radius_of m list q i ≡ None) n (λ q below. h q i below) (k i)
    p lt
step m list n None (Some a) h k =
    takes m list n a k (λ p i r lt window e. absurd (none_some (sym (h p i lt window) ∙ e)))
step m list n (Some c) None h k = stays m list n c h (λ i r window e. absurd (none_some (sym (k i window) ∙ e)))
step m list n (Some c) (Some a) h k = choice m list n c a h k (nat_lt a.dist.0 c.radius) refl

pub least_among : (m : ℕ) (list : List Series) (n : ℕ) → LeastAmongIs m list n (centre_among m list n)
unfolding centre_among
least_among m list zero = λ p i lt. absurd (omega (arith, lt))
least_among m list (suc n) =
    step m list n (centre_among m list n) (least_at m list n) (least_among m list n) (least_at_is m list n)

-- ---- the windows of a centre

-- the items are the first n windows, none farther than d
record AreWithin (f : ℕ → Option Near) (n d : ℕ) (items : List Near) : Type 0 where
  count : length items ≡ n
  places : (q : ℕ) → q < n → slice_get items q ≡ f q
  within : All (λ found. found.dist.0 ≤ d) items

first_stays : (items : List Near) (x : Near) (q : ℕ) → q < length items
    → slice_get (items ++ x ∷ []) q ≡ slice_get items q
first_stays items x q lt =
    let more : q < length (items ++ x ∷ []) = omega (arith, lt, length-append items (x ∷ [])) in
    slice_get-get_or (items ++ x ∷ []) q x more
    ∙ ap Some (get_or_append_left items (x ∷ []) x q lt) ∙ sym (slice_get-get_or items q x lt)

last_is : (items : List Near) (x : Near) → slice_get (items ++ x ∷ []) (length items) ≡ Some x
last_is items x =
    let more : length items < length (items ++ x ∷ []) = omega (arith, length-append items (x ∷ [])) in
    slice_get-get_or (items ++ x ∷ []) (length items) x more ∙ ap Some (get_or-append_seam items x [] x)

one_more : (f : ℕ → Option Near) (n d : ℕ) (items : List Near) (x : Near) → f n ≡ Some x → x.dist.0 ≤ d
    → AreWithin f n d items → AreWithin f (suc n) d (items ++ x ∷ [])
one_more f n d items x e le h = record {
  count = omega (arith, length-append items (x ∷ []), h.count);
  places = each_more (λ q. slice_get (items ++ x ∷ []) q ≡ f q) n
      (λ q lt. first_stays items x q (subst (λ k. q < k) (sym h.count) lt) ∙ h.places q lt)
      (ap (slice_get (items ++ x ∷ [])) (sym h.count) ∙ last_is items x ∙ sym e);
  within = All-push (λ (found : Near). found.dist.0 ≤ d) items x h.within le;
}

those_within : (f : ℕ → Option Near) (n d : ℕ) → IsFarthest f n d → (k : ℕ) → k ≤ n
    → AreWithin f k d (those_there f k)
unfolding those_there
those_within f n d h zero le = record {
  count = refl;
  places = λ q lt. absurd (omega (arith, lt));
  within = λ q found lt. absurd (omega (arith, lt));
}
those_within f n d h (suc k) le =
    let x = h.within k (omega (arith, le)) in
    subst (λ (found : Option Near). AreWithin f (suc k) d (those_there f k ++ listed found)) (sym x.1)
    (one_more f k d (those_there f k) x.0 x.1 x.2 (those_within f n d h k (omega (arith, le))))

centre_by : (m : ℕ) (list : List Series) (c : Option Central) → LeastAmongIs m list (length list) c
    → MatchOption c
    ((p i : ℕ) → p < length list → i < windows_of m (series_at list p) → radius_of m list p i ≡ None)
    (IsCentre m list)
centre_by m list None h = h
centre_by m list (Some c) h =
    let f = counterpart m list c.series c.start in
    let farthest_there : IsFarthest f (length list) c.radius =
    subst (FarthestIs f (length list)) h.radius_is (farthest_is f (length list)) in
    let those : AreWithin f (length list) c.radius (those_there f (length list)) =
    those_within f (length list) c.radius farthest_there (length list) (omega arith) in
    let nearest : AreWithin f (length list) c.radius c.nearest =
    subst (AreWithin f (length list) c.radius) (sym h.nearest_are) those in
    record {
      place = h.place;
      window = h.window;
      radius_is = h.radius_is;
      none_less = h.none_less;
      count = nearest.count;
      nearest_are = nearest.places;
      within = nearest.within;
    }

pub centre_is : CentreIsLeast
centre_is m list = centre_by m list (centre_of m list) (least_among m list (length list))

-- What a search of windows finds.
use Rattle.std.proofs.Common.{◌≡◌, ℕ, ◌+◌, ◌<◌, ◌≤◌, ◌⊎◌, inl, inr, Bool, true, false}
use Rattle.std.proofs.Common.{List, [], ◌∷◌, ◌++◌, length, get_or, max, refl, arith, ap, ◌∙◌, sym, subst}
use Rattle.std.specs.Prelude.{Option, Some, None, IfSome, nat_le, ◌==◌, if◌then◌else◌}
use Rattle.std.specs.Option.{option_map}
use Rattle.std.proofs.lemmas.Bool.{cases_eq}
use Rattle.std.proofs.lemmas.Bool.Decides.{nat_tests}
use Rattle.std.proofs.lemmas.List.{get_or_append_left, length-append}
use Rattle.std.proofs.lemmas.List.Sums.{sum_by_push}
use Rattle.std.proofs.Math.Seq.{get_or-append_seam}
use Rattle.mp_nums.specs.declared.nearest.Near.{Near}
use Rattle.mp_nums.specs.declared.nearest.Sq.{Sq}
use Rattle.mp_nums.specs.Near.{comes_before, nearer_of}
use Rattle.mp_defs.specs.Series.{Series}
use Rattle.mp_defs.specs.Least.{near_at}
use Rattle.mp_defs.specs.Profile.{windows_of}
use Rattle.mp_results.specs.Consensus.{Central, series_at, counterpart, farthest, radius_of, those_there, central_at}
use Rattle.mp_results.specs.Consensus.{centre_of}
use Rattle.mp_consensus.specs.declared.candidates.Candidate.{Candidate}
use Rattle.mp_consensus.specs.Searches.{IsPast, Reaches, start_of, reach_with, renewed, as_square, IsNoLater, IsWindow}
use Rattle.mp_consensus.specs.Searches.{Leads, Precedes, central_by, HaveReached, HasSearched, piece_of}
use Rattle.mp_workers.specs.Desks.{times}
use Rattle.mp_consensus.specs.Bounds.{HasLeast}
use Rattle.mp_consensus.specs.declared.blocks.Block.{Block}
use Rattle.mp_consensus.specs.Blocks.{IsRowOf}
use Rattle.mp_consensus.proofs.Steps.{farthest_zero, farthest_takes, farthest_ends}
use Rattle.mp_consensus.proofs.Radii.{IsFarthest, FarthestIs, farthest_is}
use Rattle.mp_consensus.proofs.LeastCentres.{LeastAmongIs, least_among}

none_some : {A : Type 0} {x : A} → None ≡ Some x → ⊥
none_some e = cc

some_same : {A : Type 0} {x y : A} → Some x ≡ Some y → x ≡ y
some_same e = cc

-- ---- how far a row reaches

-- no place is compared yet
pub reaches_none : (least : Option ℕ) (f : ℕ → Option Near) (places : ℕ) (reach : Sq) → reach.0 ≡ 0
    → Reaches least f places 0 (Some reach)
reaches_none least f places reach z = farthest_zero f ∙ ap Some (sym z)

-- a radius is no less than the distance to a counterpart
radius_within : (f : ℕ → Option Near) (places q r : ℕ) (x : Near) → q < places → farthest f places ≡ Some r
    → f q ≡ Some x → x.dist.0 ≤ r
radius_within f places q r x lt e is =
    let far : IsFarthest f places r = subst (FarthestIs f places) e (farthest_is f places) in
    let found = far.within q lt in
    subst (λ (y : Near). y.dist.0 ≤ r) (some_same (sym found.1 ∙ is)) found.2

-- without a counterpart there is no radius
no_radius : (least : Option ℕ) (f : ℕ → Option Near) (places q : ℕ) → q < places → f q ≡ None → (r : ℕ)
    → farthest f places ≡ Some r → IsPast least r
no_radius least f places q lt is r e = absurd (none_some (sym (farthest_ends f q places lt is) ∙ e))

-- a row is given up where its window lies at the end or behind it
past_end : (least : Option ℕ) (f : ℕ → Option Near) (places q : ℕ) (end : Sq) (x : Near) → q < places
    → IsPast least end.0 → f q ≡ Some x → end.0 ≤ x.dist.0 → (r : ℕ) → farthest f places ≡ Some r → IsPast least r
past_end least g places q end x lt past is le r e l h =
    omega (arith, past l h, le, radius_within g places q r x lt e is)

-- a row and its slot behind the scan of one more place
pub reaches_more : (least : Option ℕ) (f : ℕ → Option Near) (places q : ℕ) (end reach : Option Sq)
    (entry slot : Option Near) → q < places → IfSome end (λ (e : Sq). IsPast least e.0) → f q ≡ entry
    → slot ≡ nearer_of (start_of end reach) entry → Reaches least f places q reach
    → Reaches least f places (q + 1) (reach_with end reach slot)
reaches_more least f places q end None entry slot lt past is e h = h
reaches_more least f places q None (Some reach) None slot lt past is e h =
    subst (λ s. Reaches least f places (q + 1) (reach_with None (Some reach) s)) (sym e)
    (no_radius least f places q lt is)
reaches_more least f places q None (Some reach) (Some x) slot lt past is e h =
    subst (λ s. Reaches least f places (q + 1) (reach_with None (Some reach) s)) (sym e)
    (farthest_takes f q reach.0 x h is)
reaches_more least f places q (Some end) (Some reach) None slot lt past is e h =
    let at_end : nat_le end.0 end.0 ≡ true = grind (arith, nat_tests) in
    subst (λ s. Reaches least f places (q + 1) (reach_with (Some end) (Some reach) s)) (sym e)
    (subst (λ b. Reaches least f places (q + 1)
    (if b then None else Some (record { 0 = max reach.0 end.0 }))) (sym at_end) (no_radius least f places q lt is))
reaches_more least f places q (Some end) (Some reach) (Some x) slot lt past is e h =
    subst (λ s. Reaches least f places (q + 1) (reach_with (Some end) (Some reach) s)) (sym e)
    (by_order (comes_before x (near_at 0 end.0)) refl)
  where
    by_order : (t : Bool) → comes_before x (near_at 0 end.0) ≡ t
        → Reaches least f places (q + 1)
        (reach_with (Some end) (Some reach) (if t then Some x else Some (near_at 0 end.0)))
    by_order true t =
        let before : nat_le end.0 x.dist.0 ≡ false = grind (arith, nat_tests) in
        subst (λ b. Reaches least f places (q + 1)
        (if b then None else Some (record { 0 = max reach.0 x.dist.0 }))) (sym before)
        (farthest_takes f q reach.0 x h is)
    by_order false t =
        let at_end : nat_le end.0 end.0 ≡ true = grind (arith, nat_tests) in
        let behind : end.0 ≤ x.dist.0 = grind (arith, nat_tests) in
        subst (λ b. Reaches least f places (q + 1)
        (if b then None else Some (record { 0 = max reach.0 end.0 }))) (sym at_end)
        (past_end least f places q end x lt past is behind)

-- a row that is left by a scan of some place is as one that was compared with none, and one that isn't was given up
pub reaches_anew : (least : Option ℕ) (f : ℕ → Option Near) (places q : ℕ) (end : Option Sq) (reach : Sq)
    (entry slot : Option Near) → q < places → IfSome end (λ (e : Sq). IsPast least e.0) → f q ≡ entry
    → slot ≡ nearer_of (start_of end (Some reach)) entry
    → Reaches least f places 0 (renewed (reach_with end (Some reach) slot))
reaches_anew least f places q None reach None slot lt past is e =
    subst (λ s. Reaches least f places 0 (renewed (reach_with None (Some reach) s))) (sym e)
    (no_radius least f places q lt is)
reaches_anew least f places q None reach (Some x) slot lt past is e =
    subst (λ s. Reaches least f places 0 (renewed (reach_with None (Some reach) s))) (sym e)
    (reaches_none least f places (as_square 0) refl)
reaches_anew least f places q (Some end) reach None slot lt past is e =
    let at_end : nat_le end.0 end.0 ≡ true = grind (arith, nat_tests) in
    subst (λ s. Reaches least f places 0 (renewed (reach_with (Some end) (Some reach) s))) (sym e)
    (subst (λ b. Reaches least f places 0
    (renewed (if b then None else Some (record { 0 = max reach.0 end.0 })))) (sym at_end)
    (no_radius least f places q lt is))
reaches_anew least f places q (Some end) reach (Some x) slot lt past is e =
    subst (λ s. Reaches least f places 0 (renewed (reach_with (Some end) (Some reach) s))) (sym e)
    (by_order (comes_before x (near_at 0 end.0)) refl)
  where
    by_order : (t : Bool) → comes_before x (near_at 0 end.0) ≡ t
        → Reaches least f places 0
        (renewed (reach_with (Some end) (Some reach) (if t then Some x else Some (near_at 0 end.0))))
    by_order true t =
        let before : nat_le end.0 x.dist.0 ≡ false = grind (arith, nat_tests) in
        subst (λ b. Reaches least f places 0
        (renewed (if b then None else Some (record { 0 = max reach.0 x.dist.0 })))) (sym before)
        (reaches_none least f places (as_square 0) refl)
    by_order false t =
        let at_end : nat_le end.0 end.0 ≡ true = grind (arith, nat_tests) in
        let behind : end.0 ≤ x.dist.0 = grind (arith, nat_tests) in
        subst (λ b. Reaches least f places 0
        (renewed (if b then None else Some (record { 0 = max reach.0 end.0 })))) (sym at_end)
        (past_end least f places q end x lt past is behind)

-- the window itself is no farther than others
pub reaches_itself : (least : Option ℕ) (f : ℕ → Option Near) (places q i : ℕ) (reach : Option Sq)
    → f q ≡ Some (near_at i 0) → Reaches least f places q reach → Reaches least f places (q + 1) reach
reaches_itself least f places q i None is h = h
reaches_itself least f places q i (Some reach) is h =
    let same : max reach.0 0 ≡ reach.0 = omega arith in
    farthest_takes f q reach.0 (near_at i 0) h is ∙ ap Some same

-- ---- lists made place by place

pub pushed_each : {B : Type 0} (f : ℕ → B) (d : B) (old new : List B) (last : B) → new ≡ old ++ last ∷ []
    → ((k : ℕ) → k < length old → get_or old k d ≡ f k) → last ≡ f (length old)
    → (k : ℕ) → k < length new → get_or new k d ≡ f k
pushed_each f d old new last e before is k lt =
    let count : length new ≡ length old + 1 = ap length e ∙ length-append old (last ∷ []) in
    ap (λ xs. get_or xs k d) e ∙ elim (cases_eq k (length old)) [
      | inl same ↦ ap (λ n. get_or (old ++ last ∷ []) n d) same ∙ get_or-append_seam old last [] d ∙ is
          ∙ ap f (sym same)
      | inr other ↦ let below : k < length old = omega (arith, lt, count, other) in
          get_or_append_left old (last ∷ []) d k below ∙ before k below
    ]

-- ---- candidates

pub no_later : (c b : Candidate) (r p i : ℕ) → IsNoLater b r p i → IsNoLater c b.radius.0 b.place b.start
    → IsNoLater c r p i
no_later c b r p i (inl less) (inl before) = inl (omega (arith, less, before))
no_later c b r p i (inl less) (inr same) = inl (omega (arith, less, same.0))
no_later c b r p i (inr (same, rest)) (inl before) = inl (omega (arith, same, before))
no_later c b r p i (inr (same, inl place)) (inr (is, inl before)) =
    inr (omega (arith, same, is), inl (omega (arith, place, before)))
no_later c b r p i (inr (same, inl place)) (inr (is, inr (equal, start))) =
    inr (omega (arith, same, is), inl (omega (arith, place, equal)))
no_later c b r p i (inr (same, inr (place, le))) (inr (is, inl before)) =
    inr (omega (arith, same, is), inl (omega (arith, place, before)))
no_later c b r p i (inr (same, inr (place, le))) (inr (is, inr (equal, start))) =
    inr (omega (arith, same, is), inr (omega (arith, place, equal), omega (arith, le, start)))

-- a candidate that comes no later than the best one leads where that one led
pub leads_still : (best : Option Candidate) (new : Candidate) (r p i : ℕ)
    → IfSome best (λ (b : Candidate). IsNoLater new b.radius.0 b.place b.start) → Leads best r p i
    → Leads (Some new) r p i
leads_still None new r p i before h = absurd (none_some h.1)
leads_still (Some b) new r p i before h =
    (new, refl, no_later new b r p i (subst (λ (x : Candidate). IsNoLater x r p i) (sym (some_same h.1)) h.2) before)

-- the best of those that were there before and of the first n windows of a block
pub record IsBestBelow (first : Option Candidate) (b : Block) (reaches : List (Option Sq)) (n : ℕ)
    (best : Option Candidate) : Type 0 where
  pub either : IfSome best (λ (c : Candidate). (first ≡ Some c) ⊎ IsRowOf b reaches c)
  pub leads : (r p i : ℕ) → Leads first r p i → Leads best r p i
  pub each : (k : ℕ) (reach : Sq) → k < n → get_or reaches k None ≡ Some reach
      → Leads best reach.0 b.place (b.start + k)

pub best_first : (first : Option Candidate) (b : Block) (reaches : List (Option Sq))
    → IsBestBelow first b reaches 0 first
best_first first b reaches = record {
  either = go first;
  leads = λ r p i h. h;
  each = λ k reach lt. absurd (omega (arith, lt));
}
  where
    go : (best : Option Candidate) → IfSome best (λ (c : Candidate). (best ≡ Some c) ⊎ IsRowOf b reaches c)
    go None = tt
    go (Some c) = inl refl

pub best_taken : (first best : Option Candidate) (b : Block) (reaches : List (Option Sq)) (n : ℕ) (radius : Sq)
    (found new : Candidate) → n < length reaches → get_or reaches n None ≡ Some radius → found.radius ≡ radius
    → found.place ≡ b.place → found.start ≡ b.start + n → (new ≡ found) ⊎ (best ≡ Some new)
    → IsNoLater new found.radius.0 found.place found.start
    → IfSome best (λ (c : Candidate). IsNoLater new c.radius.0 c.place c.start)
    → IsBestBelow first b reaches n best → IsBestBelow first b reaches (n + 1) (Some new)
best_taken first best b reaches n radius found new lt is same place start either first_is before h = record {
  either = elim either [
    | inl e ↦ subst (λ (c : Candidate). (first ≡ Some c) ⊎ IsRowOf b reaches c) (sym e)
        (inr (place, n, lt, start, is ∙ ap Some (sym same)))
    | inr e ↦ subst (λ x. IfSome x (λ (c : Candidate). (first ≡ Some c) ⊎ IsRowOf b reaches c)) e h.either
  ];
  leads = λ r p i led. leads_still best new r p i before (h.leads r p i led);
  each = λ k reach below there. elim (cases_eq k n) [
    | inl e ↦
        let radius_is : found.radius ≡ reach =
        same ∙ some_same (sym is ∙ ap (λ j. get_or reaches j None) (sym e) ∙ there) in (
          new,
          refl,
          subst (λ (d : Sq). IsNoLater new d.0 b.place (b.start + k)) radius_is
              (subst (λ q. IsNoLater new found.radius.0 q (b.start + k)) place
              (subst (λ j. IsNoLater new found.radius.0 found.place j) (start ∙ ap (λ j. b.start + j) (sym e))
              first_is)),
        )
    | inr ne ↦
        leads_still best new reach.0 b.place (b.start + k) before
        (h.each k reach (omega (arith, below, ne)) there)
  ];
}

pub best_passed : (first best : Option Candidate) (b : Block) (reaches : List (Option Sq)) (n : ℕ)
    → get_or reaches n None ≡ None → IsBestBelow first b reaches n best → IsBestBelow first b reaches (n + 1) best
best_passed first best b reaches n none h = record {
  either = h.either;
  leads = h.leads;
  each = λ k reach below there. elim (cases_eq k n) [
    | inl e ↦ absurd (none_some (sym none ∙ ap (λ j. get_or reaches j None) (sym e) ∙ there))
    | inr ne ↦ h.each k reach (omega (arith, below, ne)) there
  ];
}

-- ---- the best of all windows is the centre

central_is : (m : ℕ) (list : List Series) (z : Central) (r p i : ℕ) → r ≡ z.radius → p ≡ z.series → i ≡ z.start
    → z.nearest ≡ those_there (counterpart m list z.series z.start) (length list)
    → central_at m list p (near_at i r) ≡ z
central_is m list z r p i same place start nearest =
    ap (λ n. central_at m list p (near_at i n)) same
    ∙ ap (λ n. central_at m list n (near_at i z.radius)) place
    ∙ ap (λ n. central_at m list z.series (near_at n z.radius)) start
    ∙ ap (λ items. record { radius = z.radius; series = z.series; start = z.start; nearest = items }) (sym nearest)

same_order : (x p i y q j : ℕ) → (x < y) ⊎ ((x ≡ y) × ((p < q) ⊎ ((p ≡ q) × (i ≤ j))))
    → (y < x) ⊎ ((y ≡ x) × ((q < p) ⊎ ((q ≡ p) × (j ≤ i)))) → (x ≡ y) × (p ≡ q) × (i ≡ j)
same_order x p i y q j (inl less) (inl more) = absurd (omega (arith, less, more))
same_order x p i y q j (inl less) (inr same) = absurd (omega (arith, less, same.0))
same_order x p i y q j (inr same) (inl more) = absurd (omega (arith, same.0, more))
same_order x p i y q j (inr (same, inl less)) (inr (is, inl more)) = absurd (omega (arith, less, more))
same_order x p i y q j (inr (same, inl less)) (inr (is, inr more)) = absurd (omega (arith, less, more.0))
same_order x p i y q j (inr (same, inr less)) (inr (is, inl more)) = absurd (omega (arith, less.0, more))
same_order x p i y q j (inr (same, inr less)) (inr (is, inr more)) =
    (same, less.0, omega (arith, less.1, more.1))

best_is : (m : ℕ) (list : List Series) (best : Option Candidate) (centre : Option Central)
    → LeastAmongIs m list (length list) centre → IfSome best (IsWindow m list)
    → ((p i : ℕ) → p < length list → i < windows_of m (series_at list p)
    → Precedes (option_map (λ (c : Central). c.radius) centre) m list best p i)
    → option_map (central_by m list) best ≡ centre
best_is m list None None h sound all = refl
best_is m list (Some c) None h sound all =
    absurd (none_some (sym (h c.place c.start sound.place sound.window) ∙ sound.radius_is))
best_is m list best (Some z) h sound all =
    let found = all z.series z.start h.place h.window z.radius h.radius_is refl in
    let c : Candidate = found.0 in
    let window : IsWindow m list c = subst (λ b. IfSome b (IsWindow m list)) found.1 sound in
    let same = same_order c.radius.0 c.place c.start z.radius z.series z.start found.2
    (h.none_less c.place c.start c.radius.0 window.place window.window window.radius_is) in
    ap (option_map (central_by m list)) found.1
    ∙ ap Some (central_is m list z c.radius.0 c.place c.start same.0 same.1 same.2 h.nearest_are)

pub best_is_centre : (m : ℕ) (list : List Series) (best : Option Candidate) → IfSome best (IsWindow m list)
    → ((p i : ℕ) → p < length list → i < windows_of m (series_at list p)
    → Precedes (option_map (λ (c : Central). c.radius) (centre_of m list)) m list best p i)
    → option_map (central_by m list) best ≡ centre_of m list
best_is_centre m list best = best_is m list best (centre_of m list) (least_among m list (length list))

-- the least radius is that of no other window
pub radius_is_no_less : (m : ℕ) (list : List Series) (c : Candidate) → IsWindow m list c
    → (r : ℕ) × (option_map (λ (z : Central). z.radius) (centre_of m list) ≡ Some r) × (r ≤ c.radius.0)
radius_is_no_less m list c window = go (centre_of m list) (least_among m list (length list))
  where
    go : (centre : Option Central) → LeastAmongIs m list (length list) centre
        → (r : ℕ) × (option_map (λ (z : Central). z.radius) centre ≡ Some r) × (r ≤ c.radius.0)
    go None h = absurd (none_some (sym (h c.place c.start window.place window.window) ∙ window.radius_is))
    go (Some z) h =
        let le : z.radius ≤ c.radius.0 = elim (h.none_less c.place c.start c.radius.0 window.place window.window
        window.radius_is) [
          | inl less ↦ omega (arith, less)
          | inr same ↦ omega (arith, same.0)
        ] in (z.radius, refl, le)

pub radius_of_best : (m : ℕ) (list : List Series) (best : Option Candidate) → IfSome best (IsWindow m list)
    → IfSome best (λ (c : Candidate). HasLeast (option_map (λ (z : Central). z.radius) (centre_of m list)) c.radius.0)
radius_of_best m list None sound = tt
radius_of_best m list (Some c) sound = radius_is_no_less m list c sound

-- ---- what a block of windows leaves

module _ (m : ℕ) (list : List Series) (b : Block) (reaches : List (Option Sq)) (n : ℕ)
    (reached : HaveReached (option_map (λ (z : Central). z.radius) (centre_of m list)) m list b.place b.start n reaches)
    (all : n ≡ length list) where
  reach_is : (k : ℕ) → k < length reaches → (reach : Sq) → get_or reaches k None ≡ Some reach
      → radius_of m list b.place (b.start + k) ≡ Some reach.0
  reach_is k lt reach e =
      subst (λ j. farthest (counterpart m list b.place (b.start + k)) j ≡ Some reach.0) all
      (subst (Reaches _ (counterpart m list b.place (b.start + k)) (length list) n) e (reached k lt))

  -- those that weren't given up are windows of the list with their radii
  pub sound_block : (best new : Option Candidate) → b.place < length list
      → b.start + length reaches ≤ windows_of m (series_at list b.place) → IfSome best (IsWindow m list)
      → IfSome new (λ (c : Candidate). (best ≡ Some c) ⊎ IsRowOf b reaches c) → IfSome new (IsWindow m list)
  sound_block best None place within sound either = tt
  sound_block best (Some c) place within sound (inl e) = subst (λ x. IfSome x (IsWindow m list)) e sound
  sound_block best (Some c) place within sound (inr (at, k, lt, start, reach)) =
      let radius : radius_of m list c.place c.start ≡ Some c.radius.0 =
      ap (λ p. radius_of m list p c.start) at ∙ ap (radius_of m list b.place) start ∙ reach_is k lt c.radius reach in
      record {
        place = omega (arith, place, at);
        window = omega (arith, start, lt, within, ap (λ p. windows_of m (series_at list p)) at);
        radius_is = radius;
      }

  -- and the best candidate comes no later than any of those that have the least radius
  pub leaves_block : (new : Option Candidate)
      → ((k : ℕ) (reach : Sq) → k < length reaches → get_or reaches k None ≡ Some reach
      → Leads new reach.0 b.place (b.start + k))
      → (k : ℕ) → k < length reaches
      → Precedes (option_map (λ (z : Central). z.radius) (centre_of m list)) m list new b.place (b.start + k)
  leaves_block new each k lt r radius least = by_reach (get_or reaches k None) refl
    where
      by_reach : (reach : Option Sq) → get_or reaches k None ≡ reach → Leads new r b.place (b.start + k)
      by_reach None e =
          let past = subst (Reaches _ (counterpart m list b.place (b.start + k)) (length list) n) e (reached k lt) in
          let less : r < r = past r radius r least in
          absurd (omega (arith, less))
      by_reach (Some reach) e =
          subst (λ d. Leads new d b.place (b.start + k)) (some_same (sym (reach_is k lt reach e) ∙ radius))
          (each k reach lt e)

-- ---- what was drawn

abbrev once : ℕ → ℕ → ℕ
once number x = if number == x then 1 else 0

one_more_time : (x number : ℕ) (numbers : List ℕ)
    → times x (numbers ++ number ∷ []) ≡ times x numbers + once number x
one_more_time x number numbers = sum_by_push (λ k. if k == x then 1 else 0) numbers number

-- one more piece is searched
pub piece_searched : (least : Option ℕ) (m : ℕ) (list : List Series) (drawn : List ℕ) (piece : ℕ)
    (old new : Option Candidate) → ((r p i : ℕ) → Leads old r p i → Leads new r p i)
    → ((p i : ℕ) → p < length list → i < windows_of m (series_at list p) → piece_of (length list) p i ≡ piece
    → Precedes least m list new p i)
    → HasSearched least m list drawn old → HasSearched least m list (drawn ++ piece ∷ []) new
piece_searched least m list drawn piece old new leads here had p i place window drew =
    elim (cases_eq (piece_of (length list) p i) piece) [
      | inl same ↦ here p i place window same
      | inr other ↦ λ r radius is.
          leads r p i (had p i place window
          (omega (arith, drew, one_more_time (piece_of (length list) p i) piece drawn, not_same piece _ other)) r
          radius is)
    ]
  where
    not_same : (a b : ℕ) → (b ≡ a → ⊥) → once a b ≡ 0
    not_same a b ne = grind (arith, nat_tests)

-- a number that is no piece has no window
pub number_searched : (least : Option ℕ) (m : ℕ) (list : List Series) (drawn : List ℕ) (last pieces : ℕ)
    (best : Option Candidate) → pieces ≤ last
    → ((p i : ℕ) → p < length list → i < windows_of m (series_at list p) → piece_of (length list) p i < pieces)
    → HasSearched least m list drawn best → HasSearched least m list (drawn ++ last ∷ []) best
number_searched least m list drawn last pieces best le each =
    piece_searched least m list drawn last best best (λ r p i h. h)
    (λ p i place window e.
    let lt = each p i place window in absurd (omega (arith, lt, le, e)))

pub none_searched : (least : Option ℕ) (m : ℕ) (list : List Series) (best : Option Candidate) (drawn : List ℕ)
    → drawn ≡ [] → HasSearched least m list drawn best
none_searched least m list best drawn e p i place window drew =
    absurd (omega (arith, drew, ap (times (piece_of (length list) p i)) e))

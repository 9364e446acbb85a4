-- A candidate whose entry lies beyond the radius is matched by itself alone.
use Rattle.std.proofs.Common.{◌≡◌, ℕ, zero, suc, ◌-◌, ◌<◌, Bool, true, false, List, [], ◌∷◌, length}
use Rattle.std.proofs.Common.{get_or}
use Rattle.std.proofs.Common.{refl, sym, ap, ◌∙◌, arith}
use Rattle.std.specs.Prelude.{Option, Some, None, Contains, ◌&&◌, slice_get, nat_lt}
use Rattle.std.specs.Int.{abs_diff}
use Rattle.std.specs.List.{list_all}
use Rattle.std.specs.Option.{option_map, unwrap_or}
use Rattle.std.proofs.lemmas.List.{length-map}
use Rattle.std.proofs.lemmas.List.FromFn.{get_or-map-range_with_len, length-map-range_with_len}
use Rattle.mp_nums.specs.declared.nearest.Near.{Near}
use Rattle.mp_nums.specs.declared.nearest.Sq.{Sq}
use Rattle.mp_nums.specs.declared.samples.Sample.{Sample}
use Rattle.mp_defs.specs.Series.{reading_of, series_of}
use Rattle.mp_defs.specs.Window.{excl, is_allowed}
use Rattle.mp_defs.specs.Distance.{distance}
use Rattle.mp_defs.specs.Profile.{windows_of}
use Rattle.mp_picks.specs.Picks.{first_of, picks}
use Rattle.mp_picks.specs.PickLaws.{contains_first, kept_passes}
use Rattle.mp_results.specs.Slide.{square}
use Rattle.mp_results.specs.Order.{near_cmp, index_of, outside_all}
use Rattle.mp_results.specs.Matches.{within_radius}
use Rattle.mp_results.specs.Motifs.{distances_from, matches_of}
use Rattle.mp_motifs.proofs.MatchLemmas.{within_is}
use Rattle.mp_motifs.proofs.Windows.{IsCandidate, free_within}

-- what stands at a place of a list
pub at_place : {X : Type 0} (xs : List X) (k : ℕ) (y : X) → slice_get xs k ≡ Some y
    → (k < length xs) × ((d : X) → get_or xs k d ≡ y)
at_place [] k y e = cc
at_place (x ∷ xs) zero y e = (omega arith, λ d. cc)
at_place (x ∷ xs) (suc k) y e = let rest = at_place xs k y e in ((let lt = rest.0 in omega arith), rest.1)

square_is : (x : Option ℕ) (d : Sq) → option_map square x ≡ Some d → x ≡ Some d.0
square_is None d e = cc
square_is (Some n) d e = let same : square n ≡ d = cc in ap (λ (s : Sq). Some s.0) same

none_listed : {X : Type 0} (xs : List X) → ((x : X) → Contains xs x → ⊥) → xs ≡ []
none_listed [] h = refl
none_listed (x ∷ xs) h = absurd (h x (contains_first x xs))

picks_of_none : (zone n : ℕ) → picks near_cmp index_of zone n [] ≡ []
unfolding picks first_of
picks_of_none zone zero = refl
picks_of_none zone (suc n) = refl

first_so : (s t : Bool) → (s && t) ≡ true → s ≡ true
first_so true t e = refl
first_so false t e = e

module _ (m : ℕ) (samples : List Sample) (candidate : Near) (some : 0 < m)
    (h : IsCandidate m (series_of samples) candidate) where
  abbrev all : List (Option Sq)
  all = distances_from m (series_of samples) candidate.index

  window_is : candidate.index < windows_of m (series_of samples)
  window_is =
      let within = free_within samples m candidate.index some h.free in
      let long = length-map samples reading_of in
      omega (arith, within, long)

  pub itself_there : get_or all candidate.index None ≡ Some (square 0)
  itself_there =
      get_or-map-range_with_len
      (λ j. option_map square (distance m (series_of samples) candidate.index (series_of samples) j)) 0
      (windows_of m (series_of samples)) candidate.index candidate.index None window_is (omega arith)
      ∙ ap (option_map square) h.itself

  -- a window within a radius that doesn't reach to the entry lies in the candidate's zone
  none_outside : (radius : ℕ) → radius < candidate.dist.0 → (near : Near) → Contains (within_radius radius all) near
      → is_allowed m candidate.index near.index ≡ true → ⊥
  none_outside radius short near k may =
      let found = within_is radius all near k in
      let place = at_place all near.index (Some near.dist) found.0 in
      let within : near.index < windows_of m (series_of samples) =
      omega (
        arith,
        place.0,
        length-map-range_with_len
            (λ j. option_map square (distance m (series_of samples) candidate.index (series_of samples) j)) 0
            (windows_of m (series_of samples)),
      ) in
      let here = sym (get_or-map-range_with_len
      (λ j. option_map square (distance m (series_of samples) candidate.index (series_of samples) j)) 0
      (windows_of m (series_of samples)) near.index near.index None within (omega arith))
      ∙ place.1 None in
      let far = h.nearest near.index near.dist.0 within may
      (square_is (distance m (series_of samples) candidate.index (series_of samples) near.index) near.dist here) in
      let close = found.1 in
      omega arith

  pub alone : (radius max : ℕ) → radius < candidate.dist.0 → record { dist = square 0; index = candidate.index } ∷ []
      ≡ matches_of m (series_of samples) radius max candidate.index
  alone radius max short =
      let itself : Near = record {
        dist = unwrap_or (get_or all candidate.index None)
            (square 0);
        index = candidate.index;
      } in
      let same = ap (λ o. unwrap_or o (square 0)) itself_there in
      let others = none_listed (outside_all (excl m) (itself ∷ []) (within_radius radius all)) (λ near k.
      let passed = kept_passes (λ w. list_all (λ other. nat_lt (excl m) (abs_diff other.index w.index)) (itself ∷ []))
      near (within_radius radius all) k in
      none_outside radius short near passed.0 (first_so (is_allowed m candidate.index near.index) true passed.1)) in
      ap (λ (d : Sq). record { dist = d; index = candidate.index } ∷ []) (sym same)
      ∙ ap (λ ys. itself ∷ ys) (sym (picks_of_none (excl m) (max - 1))
      ∙ ap (picks near_cmp index_of (excl m) (max - 1)) (sym others))

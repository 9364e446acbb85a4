-- Regimes are picks, whose description has one answer.
use Rattle.std.proofs.Common.{◌≡◌, ℕ, ◌+◌, Bool, true, false, List, [], ◌∷◌, map, refl, sym, ap, ◌∙◌}
use Rattle.std.specs.Prelude.{Some, None, filter_map, nat_lt, if◌then◌else◌}
use Rattle.std.specs.List.{enumerate_from}
use Rattle.mp_nums.specs.declared.ratios.Ratio.{Ratio}
use Rattle.mp_nums.specs.Ratio.{ratio_cmp}
use Rattle.mp_nums.specs.RatioLaws.{ratio_total}
use Rattle.mp_picks.specs.declared.candidates.Candidate.{Candidate}
use Rattle.mp_picks.specs.Candidates.{by_key, place_of, candidate_at}
use Rattle.mp_picks.specs.CandidateLaws.{by_key_total, candidates_told_apart}
use Rattle.mp_picks.specs.PickLaws.{picks_described}
use Rattle.mp_picks.specs.Picks.{picks}
use Rattle.mp_picks.specs.Retelling.{picks_map}
use Rattle.mp_results.specs.Curve.{parts_of}
use Rattle.mp_results.specs.Regimes.{below_one, low_places, regimes_of, AreRegimes, parts_cmp, parts_below_one}
use Rattle.mp_arcs.specs.Laws.{RegimesAreDescribed, RegimesAreOfParts}

module _ (curve : List Ratio) (zone count : ℕ) where
  only_regimes : (places : List ℕ) → AreRegimes curve zone count places → places ≡ regimes_of curve zone count
  only_regimes places h =
      h.1 ∙ ap (map place_of) ((picks_described (by_key ratio_cmp) place_of zone count (low_places curve) h.0
      (by_key_total ratio_cmp ratio_total) (candidates_told_apart ratio_cmp (map below_one curve))).0 h.2)

  pub meet_regimes : (places : List ℕ) → places ≡ regimes_of curve zone count → AreRegimes curve zone count places
  meet_regimes places e =
      let chosen = picks (by_key ratio_cmp) place_of zone count (low_places curve) in (
        chosen,
        e,
        (picks_described (by_key ratio_cmp) place_of zone count (low_places curve) chosen
            (by_key_total ratio_cmp ratio_total) (candidates_told_apart ratio_cmp (map below_one curve))).1 refl,
      )

pub regimes_described : RegimesAreDescribed
regimes_described curve zone count places = (only_regimes curve zone count places, meet_regimes curve zone count places)

-- ---- the same by the two numbers of each fraction

abbrev tell : Candidate Ratio → Candidate (ℕ × ℕ)
tell c = record { key = parts_of c.key; place = c.place }

told_places : (chosen : List (Candidate Ratio)) → map place_of (map tell chosen) ≡ map place_of chosen
told_places [] = refl
told_places (c ∷ chosen) = ap (λ places. c.place ∷ places) (told_places chosen)

low_from : (n : ℕ) (curve : List Ratio)
    → filter_map candidate_at (enumerate_from n (map parts_below_one (map parts_of curve)))
    ≡ map tell (filter_map candidate_at (enumerate_from n (map below_one curve)))
low_from n [] = refl
low_from n (x ∷ curve) = by_test n x curve (nat_lt x.num x.den) (low_from (n + 1) curve)
  where
    by_test : (n : ℕ) (x : Ratio) (curve : List Ratio) (low : Bool)
        → filter_map candidate_at (enumerate_from (n + 1) (map parts_below_one (map parts_of curve)))
        ≡ map tell (filter_map candidate_at (enumerate_from (n + 1) (map below_one curve)))
        → filter_map candidate_at ((n, if low then Some (parts_of x) else None)
        ∷ enumerate_from (n + 1) (map parts_below_one (map parts_of curve)))
        ≡ map tell (filter_map candidate_at ((n, if low then Some x else None)
        ∷ enumerate_from (n + 1) (map below_one curve)))
    by_test n x curve true later = ap (λ rest. record { key = parts_of x; place = n } ∷ rest) later
    by_test n x curve false later = later

pub regimes_of_parts : RegimesAreOfParts
regimes_of_parts curve zone count =
    let low = low_places curve in
    let chosen = picks (by_key ratio_cmp) place_of zone count low in
    sym (
    ap (λ those. map place_of (picks (by_key parts_cmp) place_of zone count those)) (low_from 0 curve)
    ∙ ap (map place_of)
    (picks_map tell (by_key ratio_cmp) (by_key parts_cmp) place_of place_of (λ a b. refl) (λ a. refl) zone count low)
    ∙ told_places chosen
    )

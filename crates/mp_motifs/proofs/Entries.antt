-- The candidates of a profile have their entries' distances.
use Rattle.std.proofs.Common.{◌≡◌, ℕ, ◌+◌, ◌<◌, Bool, true, false, cond, List, length, get_or, sym, ap, ◌∙◌}
use Rattle.std.proofs.Common.{arith}
use Rattle.std.specs.Prelude.{Option, Some, None, Contains, slice_get, nat_le}
use Rattle.std.specs.List.Sorted.{IsPermutation}
use Rattle.std.proofs.lemmas.List.Elements.{Contains-get_or}
use Rattle.std.proofs.lemmas.List.FromFn.{get_or-map-range_with_len, length-map-range_with_len}
use Rattle.std.proofs.lemmas.List.Sorted.{IsPermutation-sym, Contains-permutation}
use Rattle.mp_nums.specs.declared.nearest.Near.{Near}
use Rattle.mp_defs.specs.Series.{Series}
use Rattle.mp_defs.specs.Profile.{entry, matrix_profile, windows_of}
use Rattle.mp_defs.specs.Window.{excl, is_allowed}
use Rattle.mp_results.specs.Motifs.{HasEntryDistance, MotifQuery, Repeated, entry_within, matches_of, motifs}
use Rattle.mp_results.specs.Motifs.{motifs_among, within_cutoff}
use Rattle.mp_motifs.proofs.Alone.{at_place}
use Rattle.mp_motifs.proofs.Listed.{ComesFrom, source}

-- a place of the profile whose entry is that far away
abbrev HasEntryIn : List (Option Near) → Near → Type 0
HasEntryIn profile x = (near : Near) × (slice_get profile x.index ≡ Some (Some near)) × (near.dist ≡ x.dist)

candidate_in : (cutoff : ℕ) (profile : List (Option Near)) (x : Near) → Contains (within_cutoff cutoff profile) x
    → HasEntryIn profile x
candidate_in cutoff profile x h = by_source (source (entry_within cutoff) 0 profile x h)
  where
    by_test : (k : ℕ) (near : Near) (b : Bool) → slice_get profile k ≡ Some (Some near)
        → cond b (Some (record { dist = near.dist; index = 0 + k })) None ≡ Some x → HasEntryIn profile x
    by_test k near false e f = cc
    by_test k near true e f =
        let place : 0 + k ≡ k = omega arith in
        let found : Near = record { dist = near.dist; index = 0 + k } in
        let same : found ≡ x = cc in (
          near,
          ap (slice_get profile) (sym (ap (λ (w : Near). w.index) same) ∙ place)
              ∙ e,
          ap (λ (w : Near). w.dist) same,
        )

    by_source : ComesFrom (entry_within cutoff) 0 profile x → HasEntryIn profile x
    by_source (k, None, e, f) = cc
    by_source (k, Some near, e, f) = by_test k near (nat_le near.dist.0 cutoff) e f

-- what holds of a candidate
pub record IsOfProfile (m : ℕ) (a : Series) (profile : List (Option Near)) (x : Near) : Type 0 where
  pub within : x.index < length profile
  pub entry_is : HasEntryDistance m a x

pub candidate_is : (m : ℕ) (a : Series) (cutoff : ℕ) (profile : List (Option Near))
    → profile ≡ (matrix_profile m a).all
    → (x : Near) → Contains (within_cutoff cutoff profile) x → IsOfProfile m a profile x
candidate_is m a cutoff profile e x h =
    let (near, at, same) = candidate_in cutoff profile x h in
    let place = at_place profile x.index (Some near) at in
    let within : x.index < windows_of m a = omega
    (arith, place.0, ap length e, length-map-range_with_len (entry (is_allowed m) m a) 0 (windows_of m a)) in
    let here =
    sym (get_or-map-range_with_len (entry (is_allowed m) m a) 0 (windows_of m a) x.index x.index None within
    (omega arith))
    ∙ ap (λ column. get_or column x.index None) (sym e)
    ∙ place.1 None in
    record { within = place.0; entry_is = (near, here, same) }

-- and of each place of the candidates that are put in order
pub tried_is : (m : ℕ) (a : Series) (cutoff : ℕ) (profile : List (Option Near)) (sorted : List Near) (i : ℕ) (d : Near)
    → profile ≡ (matrix_profile m a).all → IsPermutation (within_cutoff cutoff profile) sorted
    → i < length sorted → IsOfProfile m a profile (get_or sorted i d)
tried_is m a cutoff profile sorted i d e same lt =
    let x = get_or sorted i d in
    let back = IsPermutation-sym (within_cutoff cutoff profile) sorted same in
    candidate_is m a cutoff profile e x (Contains-permutation sorted _ x back (Contains-get_or sorted i d lt))

-- the motifs among the candidates of a profile are those of its series
pub motifs_among_candidates : (m : ℕ) (a : Series) (query : MotifQuery) (profile : List (Option Near)) (zone : ℕ)
    (found : List Repeated) → profile ≡ (matrix_profile m a).all → zone ≡ excl m
    → (let all = within_cutoff query.cutoff profile in
    found ≡ motifs_among (matches_of m a query.radius query.max_matches) zone query.neighbours (length all) query.count
    all) → found ≡ motifs m a query
motifs_among_candidates m a query profile zone found e f same = same
    ∙ ap (λ entries. (let all = within_cutoff query.cutoff entries in
    motifs_among (matches_of m a query.radius query.max_matches) zone query.neighbours (length all) query.count all)) e
    ∙ (let all = within_cutoff query.cutoff (matrix_profile m a).all in
    ap (λ n. motifs_among (matches_of m a query.radius query.max_matches) n query.neighbours (length all) query.count
    all) f)

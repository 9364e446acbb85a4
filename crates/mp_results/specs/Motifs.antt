-- Repeated patterns: windows that others match.
use Rattle.std.specs.Prelude.{◌≡◌, ℕ, zero, suc, ◌-◌, List, [], ◌∷◌, map, filter_map, length, nat_le}
use Rattle.std.specs.Prelude.{Option, Some, None, if◌then◌else◌}
use Rattle.std.specs.List.{enumerate_from, range_with_len}
use Rattle.std.specs.Option.{option_map, option_map_or}
use Rattle.mp_nums.specs.declared.finds.Motif.{Motif}
use Rattle.mp_nums.specs.declared.nearest.Near.{Near}
use Rattle.mp_nums.specs.declared.nearest.Sq.{Sq}
use Rattle.mp_defs.specs.Series.{Series}
use Rattle.mp_defs.specs.Window.{excl, is_allowed}
use Rattle.mp_defs.specs.Distance.{distance}
use Rattle.mp_defs.specs.Profile.{entry, matrix_profile, windows_of}
use Rattle.mp_picks.specs.Picks.{first_of}
use Rattle.mp_results.specs.Slide.{square}
use Rattle.mp_results.specs.Order.{near_cmp, outside_all}
use Rattle.mp_results.specs.Matches.{matches}

-- a window, and the windows that match it, itself as the first
pub record Repeated : Type 0 where
  pub start : ℕ
  pub matches : List Near

abbrev pub repeated_of : Motif → Repeated
repeated_of motif = record { start = motif.start; matches = motif.matches.items }

-- of each window, its distance to window i
abbrev pub distances_from : ℕ → Series → ℕ → List (Option Sq)
distances_from m a i = map (λ j. option_map square (distance m a i a j)) (range_with_len 0 (windows_of m a))

-- the windows that match window i, itself as the first
abbrev pub matches_of : ℕ → Series → ℕ → ℕ → ℕ → List Near
matches_of m a radius max i = matches (distances_from m a i) (excl m) (Some i) radius max

-- a window with the distance of its entry
abbrev pub HasEntryDistance : ℕ → Series → Near → Type 0
HasEntryDistance m a candidate =
    (near : Near) × (entry (is_allowed m) m a candidate.index ≡ Some near) × (near.dist ≡ candidate.dist)

-- a window with the distance of its entry, where it is at most the cutoff
abbrev pub entry_within : ℕ → ℕ × Option Near → Option Near
entry_within cutoff (start, None) = None
entry_within cutoff (start, Some near) =
    if nat_le near.dist.0 cutoff then Some (record { dist = near.dist; index = start }) else None

abbrev pub within_cutoff : ℕ → List (Option Near) → List Near
within_cutoff cutoff profile = filter_map (entry_within cutoff) (enumerate_from 0 profile)

module _ (matches_at : ℕ → List Near) (zone neighbours : ℕ) where
  -- The first of the candidates that are left is tried, and all zones of its matches are shut out. It is kept where it
  -- has so many matches beside itself. So it goes on for some rounds, until so many are kept
  unfoldable pub motifs_among : ℕ → ℕ → List Near → List Repeated
  motifs_among zero count left = []
  motifs_among (suc rounds) zero left = []
  motifs_among (suc rounds) (suc count) left =
      option_map_or (λ first.
      let found = matches_at first.index in
      let is_kept = nat_le neighbours (length found - 1) in
      let others = motifs_among rounds (if is_kept then count else suc count) (outside_all zone found left) in
      if is_kept then record { start = first.index; matches = found } ∷ others else others) (first_of near_cmp left) []

-- what is asked for
pub record MotifQuery : Type 0 where
  pub cutoff : ℕ
  pub radius : ℕ
  pub neighbours : ℕ
  pub max_matches : ℕ
  pub count : ℕ

-- A candidate is a window whose entry is at most the cutoff away. Each round shuts out the candidate that it tries, so
-- that as many rounds as candidates are enough
abbrev pub motifs : ℕ → Series → MotifQuery → List Repeated
motifs m a query =
    let candidates = within_cutoff query.cutoff (matrix_profile m a).all in
    let matches_at = matches_of m a query.radius query.max_matches in
    motifs_among matches_at (excl m) query.neighbours (length candidates) query.count candidates

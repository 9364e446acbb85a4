-- Exact sums that are known of diagonals.
use Rattle.std.proofs.Common.{ℕ, ◌+◌, rules, sym, subst}
use Rattle.std.specs.Prelude.{Option, None, replicate}
use Rattle.std.proofs.lemmas.List.{get_or-replicate, length-replicate}
use Rattle.mp_sums.specs.declared.distances.Grid.{Grid}
use Rattle.mp_scans.specs.declared.exacts.Exact.{Exact}
use Rattle.mp_scans.specs.declared.sizes.TheConstants.{GROUP}
use Rattle.mp_scans.specs.Exacts.{IsExact, AreExacts}

unknown : (grid : Grid) (behind : ℕ) → IsExact grid behind None
unknown grid behind = search rules

-- nothing is known
pub nothing_known : (grid : Grid) (first : ℕ) → AreExacts grid first (replicate GROUP None)
nothing_known grid first = record {
  count = length-replicate {A = Option Exact} GROUP None;
  each = λ t lt. subst (IsExact grid (first + t)) (sym (get_or-replicate GROUP t None None lt))
      (unknown grid (first + t));
}

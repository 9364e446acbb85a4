-- The search for the centre: how far windows reach, which of them were given up, and which one comes first.
use Rattle.std.specs.Prelude.{◌≡◌, ℕ, ◌+◌, ◌*◌, ◌/◌, ◌<◌, ◌≤◌, ◌⊎◌, max, Bool, false, nat_le, if◌then◌else◌, List}
use Rattle.std.specs.Prelude.{length, slice_index_or, Option, Some, None}
use Rattle.mp_nums.specs.declared.nearest.Near.{Near}
use Rattle.mp_nums.specs.declared.nearest.Sq.{Sq}
use Rattle.mp_defs.specs.Series.{Series}
use Rattle.mp_defs.specs.Profile.{windows_of}
use Rattle.mp_results.specs.Consensus.{Central, series_at, counterpart, farthest, radius_of, central_at}
use Rattle.mp_consensus.specs.declared.candidates.Candidate.{Candidate}
use Rattle.mp_defs.specs.Least.{near_at}
use Rattle.mp_workers.specs.Desks.{times}

abbrev pub as_square : ℕ → Sq
as_square d = record { 0 = d }

-- ---- rows, windows that may still be the centre

-- a number is greater than the least radius, where there is one
abbrev pub IsPast : Option ℕ → ℕ → Type 0
IsPast least d = (r : ℕ) → least ≡ Some r → r < d

-- What a row's reach says of the window's counterparts f at so many places, once n of them were compared. It is the
-- greatest distance. A row without one was given up: where the window has a radius, this isn't the least
abbrev pub Reaches : Option ℕ → (ℕ → Option Near) → ℕ → ℕ → Option Sq → Type 0
Reaches least f places n None = (r : ℕ) → farthest f places ≡ Some r → IsPast least r
Reaches least f places n (Some reach) = farthest f n ≡ Some reach.0

-- what stands in a row's slot before its windows are compared: a row that was given up takes none, and where there is
-- an end the others take those that are nearer
abbrev pub start_of : Option Sq → Option Sq → Option Near
start_of end None = Some (near_at 0 0)
start_of None (Some reach) = None
start_of (Some end) (Some reach) = Some (near_at 0 end.0)

-- a distance lies at the end or behind it
abbrev pub is_at_end : Option Sq → ℕ → Bool
is_at_end None d = false
is_at_end (Some end) d = nat_le end.0 d

-- the reach of a row once the nearest window of one more place is known
abbrev pub reach_with : Option Sq → Option Sq → Option Near → Option Sq
reach_with end None slot = None
reach_with end (Some reach) None = None
reach_with end (Some reach) (Some near) =
    if is_at_end end near.dist.0 then None else Some (as_square (max reach.0 near.dist.0))

-- a row that is left, as one that was compared with no place yet
abbrev pub renewed : Option Sq → Option Sq
renewed None = None
renewed (Some reach) = Some (as_square 0)

-- the rows are the windows from start on of place p, of which the first n places were compared
abbrev pub HaveReached : Option ℕ → ℕ → List Series → ℕ → ℕ → ℕ → List (Option Sq) → Type 0
HaveReached least m list p start n reaches =
    (i : ℕ) → i < length reaches
    → Reaches least (counterpart m list p (start + i)) (length list) n (slice_index_or reaches i None)

-- ---- candidates

-- the candidate has a lesser radius than window i of place p with radius r, or the same, and then comes no later
abbrev pub IsNoLater : Candidate → ℕ → ℕ → ℕ → Type 0
IsNoLater c r p i = (c.radius.0 < r) ⊎ ((c.radius.0 ≡ r) × ((c.place < p) ⊎ ((c.place ≡ p) × (c.start ≤ i))))

-- it is a window of the list, with its radius
pub record IsWindow (m : ℕ) (list : List Series) (c : Candidate) : Type 0 where
  pub place : c.place < length list
  pub window : c.start < windows_of m (series_at list c.place)
  pub radius_is : radius_of m list c.place c.start ≡ Some c.radius.0

-- there is a best candidate, which comes no later than window i of place p with radius r
abbrev pub Leads : Option Candidate → ℕ → ℕ → ℕ → Type 0
Leads best r p i = (c : Candidate) × (best ≡ Some c) × IsNoLater c r p i

-- where window i of place p has the least radius, the best candidate comes no later
abbrev pub Precedes : Option ℕ → ℕ → List Series → Option Candidate → ℕ → ℕ → Type 0
Precedes least m list best p i = (r : ℕ) → radius_of m list p i ≡ Some r → least ≡ Some r → Leads best r p i

-- what the centre is where the best candidate is this
abbrev pub central_by : ℕ → List Series → Candidate → Central
central_by m list c = central_at m list c.place (near_at c.start c.radius.0)

-- ---- pieces

-- how many windows a block has, but for the last of a series
abbrev pub block : ℕ
block = 64

-- the piece that has window i of place p, of so many places: the first block of each place, then the second of each
abbrev pub piece_of : ℕ → ℕ → ℕ → ℕ
piece_of places p i = i / block * places + p

-- the best candidate precedes all windows of these pieces
abbrev pub HasSearched : Option ℕ → ℕ → List Series → List ℕ → Option Candidate → Type 0
HasSearched least m list numbers best =
    (p i : ℕ) → p < length list → i < windows_of m (series_at list p) → 1 ≤ times (piece_of (length list) p i) numbers
    → Precedes least m list best p i

-- A bound that lookers share: the least radius that some window is known to have.
use Rattle.std.specs.Prelude.{◌≡◌, ℕ, ◌≤◌, ◌⊎◌, List, length, map, min, slice_index, Option, Some}
use Rattle.std.specs.Option.{option_map}
use Rattle.mp_nums.specs.declared.samples.Sample.{Sample}
use Rattle.mp_defs.specs.Series.{series_of}
use Rattle.mp_results.specs.Consensus.{Central, centre_of}
use Rattle.mp_consensus.specs.declared.lookers.LookerView.{LookerView}
use Rattle.atomic_table.specs.Seated.{TableId}
use Rattle.atomic_table.specs.Table.{State, Me, Step}
use lib.ListN.{get_elem?}
use mathlib.Core.Option.{some}

-- the word of a bound that is none: 2^64 - 1
abbrev pub no_bound : ℕ
no_bound = 18446744073709551615

-- which bound it is: the table in which its word stands
pub record BoundId : Type 0 where
  pub table : TableId

-- the series whose windows have radii, and the length of a window
pub record ComparedState : Type 0 where
  pub list : List (List Sample)
  pub m : ℕ

-- the radius of the centre, the least that a window of the list has
abbrev pub least_radius : ℕ → List (List Sample) → Option ℕ
least_radius m list = option_map (λ (c : Central). c.radius) (centre_of m (map series_of list))

-- a looker: its bound, the least that it has seen, and the least radius
pub record LookerState : Type 0 where
  pub bound : BoundId
  pub seen : ℕ
  pub least : Option ℕ

-- there is a least radius, and this number is no less
abbrev pub HasLeast : Option ℕ → ℕ → Type 0
HasLeast least radius = (r : ℕ) × (least ≡ Some r) × (r ≤ radius)

-- ---- what a bound's word and its lookers keep

abbrev pub looker_view : ℕ → Option ℕ → LookerView
looker_view seen least = record { seen = seen; least = least }

abbrev pub first_view : ComparedState → LookerView
first_view compared = looker_view no_bound (least_radius compared.m compared.list)

-- All views agree in the least radius. The word is no bound, or each view holds a least radius and the word is no less.
-- The word is no greater than what any looker has seen.
pub record IsShared (bound : State (Unit {0}) LookerView) : Type 0 where
  pub one_word : length bound.words ≡ 1
  pub agree : (looker other : ℕ) (view second : LookerView) → get_elem? bound.views looker ≡ some view
      → get_elem? bound.views other ≡ some second → view.least ≡ second.least
  pub bounded : (slice_index bound.words 0 ≡ no_bound)
      ⊎ ((looker : ℕ) (view : LookerView) → get_elem? bound.views looker ≡ some view
      → HasLeast view.least (slice_index bound.words 0))
  pub seen : (looker : ℕ) (view : LookerView) → get_elem? bound.views looker ≡ some view
      → slice_index bound.words 0 ≤ view.seen

-- ---- what the steps do

-- the number found is no bound or no less than the least radius, and no greater than what was seen. It is what is seen
-- now
pub record Reads (step : Step (Unit {0})) (before : Me (Unit {0}) LookerView) (found : ℕ)
    (after : Me (Unit {0}) LookerView) : Type 0 where
  pub view : after.0 ≡ looker_view found before.0.least
  pub slots : after.1 ≡ before.1
  pub bounded : (found ≡ no_bound) ⊎ HasLeast before.0.least found
  pub seen : found ≤ before.0.seen

-- the lesser of the number found and the radius is what is seen now
pub record Lowers (step : Step (Unit {0})) (before : Me (Unit {0}) LookerView) (found : ℕ)
    (after : Me (Unit {0}) LookerView) : Type 0 where
  pub view : after.0 ≡ looker_view (min found step.first) before.0.least
  pub slots : after.1 ≡ before.1
  pub seen : found ≤ before.0.seen

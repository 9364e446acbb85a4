-- What a radius and a centre are, in the subject's own words.
use Rattle.std.specs.Prelude.{◌≡◌, ◌≢◌, ℕ, ◌<◌, ◌≤◌, ◌⊎◌, IsTrue, List, length, slice_get, All, MatchOption, Some, None}
use Rattle.mp_nums.specs.declared.nearest.Near.{Near}
use Rattle.mp_defs.specs.Series.{Series}
use Rattle.mp_defs.specs.Window.{is_free}
use Rattle.mp_defs.specs.Profile.{windows_of, join_entry}
use Rattle.mp_results.specs.Consensus.{Central, series_at, counterpart, radius_of, centre_of}

-- the nearest window at another place q is there
abbrev pub HasNearest : ℕ → List Series → ℕ → ℕ → ℕ → Near → Type 0
HasNearest m list p i q found = (q < length list) × (q ≢ p)
    × (join_entry m (series_at list p) (series_at list q) i ≡ Some found)

-- r is the greatest distance of window i of place p to its nearest windows at the other places
pub record IsRadius (m : ℕ) (list : List Series) (p i r : ℕ) : Type 0 where
  pub free : IsTrue (is_free m (series_at list p) i)
  -- each other place has a window within r
  pub within : (q : ℕ) → q < length list → q ≢ p
      → (found : Near) × HasNearest m list p i q found × (found.dist.0 ≤ r)
  -- and one of them has none that is nearer than r
  pub reached : (q : ℕ) × (found : Near) × HasNearest m list p i q found × (found.dist.0 ≡ r)

-- a window has no radius only where another place has no window near to it
abbrev pub RadiusIsGreatest : Type 0
RadiusIsGreatest = (m : ℕ) (list : List Series) (p i : ℕ) → 2 ≤ length list → p < length list
    → MatchOption (radius_of m list p i)
    ((q : ℕ) × (q < length list) × (q ≢ p) × (join_entry m (series_at list p) (series_at list q) i ≡ None))
    (IsRadius m list p i)

-- c is a window of least radius, of those the one at the first place, and there the one that starts first
pub record IsCentre (m : ℕ) (list : List Series) (c : Central) : Type 0 where
  pub place : c.series < length list
  pub window : c.start < windows_of m (series_at list c.series)
  pub radius_is : radius_of m list c.series c.start ≡ Some c.radius
  pub none_less : (p i r : ℕ) → p < length list → i < windows_of m (series_at list p) → radius_of m list p i ≡ Some r
      → (c.radius < r) ⊎ ((c.radius ≡ r) × ((c.series < p) ⊎ ((c.series ≡ p) × (c.start ≤ i))))
  -- it has one counterpart for each place, none farther than its radius
  pub count : length c.nearest ≡ length list
  pub nearest_are : (q : ℕ) → q < length list → slice_get c.nearest q ≡ counterpart m list c.series c.start q
  pub within : All (λ found. found.dist.0 ≤ c.radius) c.nearest

-- there is none only where no window has a radius
abbrev pub CentreIsLeast : Type 0
CentreIsLeast = (m : ℕ) (list : List Series) → MatchOption (centre_of m list)
    ((p i : ℕ) → p < length list → i < windows_of m (series_at list p) → radius_of m list p i ≡ None)
    (IsCentre m list)

-- The centre of several series: the window whose farthest nearest window in the others is least far.
use Rattle.std.specs.Prelude.{ℕ, zero, suc, ◌==◌, max, nat_lt, if◌then◌else◌, List, [], ◌∷◌, ◌++◌, length}
use Rattle.std.specs.Prelude.{slice_index_or, Option, Some, None}
use Rattle.std.specs.Option.{option_map}
use Rattle.mp_nums.specs.declared.nearest.Near.{Near}
use Rattle.mp_nums.specs.declared.finds.Centre.{Centre}
use Rattle.mp_defs.specs.Series.{Series}
use Rattle.mp_defs.specs.Least.{near_at, at_distance, near}
use Rattle.mp_defs.specs.Profile.{windows_of, join_entry}

-- the series at a place of a list, counted from 0
abbrev pub series_at : List Series → ℕ → Series
series_at list p = slice_index_or list p []

-- in the series at place q the window nearest to window i of the series at place p. At p that is window i itself
abbrev pub counterpart : ℕ → List Series → ℕ → ℕ → ℕ → Option Near
counterpart m list p i q =
    if p == q then Some (near_at i 0) else join_entry m (series_at list p) (series_at list q) i

-- ---- how far some windows lie

abbrev pub farther : Option ℕ → Option Near → Option ℕ
farther None found = None
farther (Some d) None = None
farther (Some d) (Some found) = Some (max d found.dist.0)

-- the greatest distance of the first n of some windows, none where one of them isn't there
unfoldable pub farthest : (ℕ → Option Near) → ℕ → Option ℕ
farthest f zero = Some 0
farthest f (suc n) = farther (farthest f n) (f n)

-- the radius of window i of the series at place p: how far the farthest of its counterparts lies
abbrev pub radius_of : ℕ → List Series → ℕ → ℕ → Option ℕ
radius_of m list p i = farthest (counterpart m list p i) (length list)

-- ---- the centre

abbrev pub listed : Option Near → List Near
listed None = []
listed (Some found) = found ∷ []

-- those of the first n of some windows that are there
unfoldable pub those_there : (ℕ → Option Near) → ℕ → List Near
those_there f zero = []
those_there f (suc n) = those_there f n ++ listed (f n)

-- a window of a series of the list, its radius, and its counterparts by place
pub record Central : Type 0 where
  pub radius : ℕ
  pub series : ℕ
  pub start : ℕ
  pub nearest : List Near

-- what is seen of a centre
abbrev pub central : Centre → Central
central c = record { radius = c.radius.0; series = c.series; start = c.start; nearest = c.nearest.items }

-- the window of least radius at place p, the first among equals, named by its start and its radius
abbrev pub least_at : ℕ → List Series → ℕ → Option Near
least_at m list p = near (λ i. at_distance i (radius_of m list p i)) (windows_of m (series_at list p))

abbrev pub central_at : ℕ → List Series → ℕ → Near → Central
central_at m list p least = record {
  radius = least.dist.0;
  series = p;
  start = least.index;
  nearest = those_there (counterpart m list p least.index) (length list);
}

-- the one of lesser radius, the first where both have the same
abbrev pub lesser : Option Central → Option Central → Option Central
lesser None second = second
lesser (Some first) None = Some first
lesser (Some first) (Some second) = if nat_lt second.radius first.radius then Some second else Some first

-- the centre among the windows of the first n places
unfoldable pub centre_among : ℕ → List Series → ℕ → Option Central
centre_among m list zero = None
centre_among m list (suc n) = lesser (centre_among m list n) (option_map (central_at m list n) (least_at m list n))

-- the centre of the list: the window least by radius, then by place, then by start
abbrev pub centre_of : ℕ → List Series → Option Central
centre_of m list = centre_among m list (length list)

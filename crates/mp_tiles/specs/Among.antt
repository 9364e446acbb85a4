-- What some pairs of windows alone give.
use Rattle.std.specs.Prelude.{ℕ, Bool, ◌||◌, [], ◌∷◌}
use Rattle.mp_defs.specs.Series.{Series}
use Rattle.mp_defs.specs.Profile.{Columns, profile}
use Rattle.mp_partial.specs.Values.{Value}

-- windows i and j are one of the pairs, whichever of them stands first
abbrev pub either_way : (ℕ → ℕ → Bool) → ℕ → ℕ → Bool
either_way pairs i j = pairs i j || pairs j i

-- the profile in which the windows of each pair are compared, and no others
abbrev pub profile_among : (ℕ → ℕ → Bool) → ℕ → Series → Columns
profile_among pairs m a = profile (either_way pairs) m a

-- the columns as the value of a part
abbrev pub columns_value : Columns → Value
columns_value c = c.all ∷ c.left ∷ c.right ∷ []

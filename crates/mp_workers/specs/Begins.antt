-- What is found before the pieces of a kernel are run.
use Rattle.std.specs.Prelude.{◌≡◌, ℕ, List, All}
use Rattle.mp_partial.specs.Values.{Value}

-- a part of this size in which nothing stands that isn't in the whole
pub record IsAhead {Part : Type 0} (size_of : Part → ℕ) (IsValue : ℕ → Value → Type 0)
    (value : Part → Value) (merged : Value → Value → Value) (size : ℕ) (whole : Value)
    (part : Part) : Type 0 where
  pub size_is : size_of part ≡ size
  pub is_value : IsValue size (value part)
  pub whole_is_value : IsValue size whole
  pub within : merged (value part) whole ≡ whole

-- all of some parts are
pub record AreAhead {Part : Type 0} (size_of : Part → ℕ) (IsValue : ℕ → Value → Type 0)
    (value : Part → Value) (merged : Value → Value → Value) (size : ℕ) (whole : Value)
    (parts : List Part) : Type 0 where
  pub each : All (IsAhead size_of IsValue value merged size whole) parts

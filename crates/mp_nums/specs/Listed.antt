-- What is seen of a list.
use Rattle.std.specs.Prelude.{ℕ, List}

-- its items, and how many more it can take without memory
pub record Listed (T : Type 0) : Type 0 where
  pub items : List T
  pub spare : ℕ

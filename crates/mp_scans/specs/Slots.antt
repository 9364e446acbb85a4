-- Slots, and windows that give them nothing.
use Rattle.std.specs.Prelude.{◌≡◌, ℕ, Option, Some}
use Rattle.mp_nums.specs.declared.nearest.Near.{Near}
use Rattle.mp_nums.specs.Near.{nearer_of}
use Rattle.mp_defs.specs.Least.{near_at}

-- window j at this distance gives a slot nothing
abbrev pub Covers : Option Near → ℕ → ℕ → Type 0
Covers slot j d = nearer_of slot (Some (near_at j d)) ≡ slot

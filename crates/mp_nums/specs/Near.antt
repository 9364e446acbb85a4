-- The order of nearest windows, and the lesser of two.
use Rattle.std.specs.Prelude.{Bool, ◌==◌, ◌&&◌, ◌||◌, nat_lt, if◌then◌else◌, Option, Some, None}
use Rattle.mp_nums.specs.declared.nearest.Near.{Near}

-- a comes before b: it is nearer, or as near and with the smaller index
abbrev pub comes_before : Near → Near → Bool
comes_before a b = nat_lt a.dist.0 b.dist.0 || (a.dist.0 == b.dist.0 && nat_lt a.index b.index)

-- the one that comes first, where none comes after all
abbrev pub nearer_of : Option Near → Option Near → Option Near
nearer_of None b = b
nearer_of (Some a) None = Some a
nearer_of (Some a) (Some b) = if comes_before b a then Some b else Some a

-- Windows with their distances, in the order of their distances and then of their starts.
use Rattle.std.specs.Prelude.{ℕ, List, filter, nat_lt}
use Rattle.std.specs.Int.{abs_diff}
use Rattle.std.specs.List.{list_all}
use Rattle.std.specs.Ordering.{nat_cmp, on, then_cmp}
use Rattle.std.specs.declared.cmp.Ordering.{Ordering}
use Rattle.mp_nums.specs.declared.nearest.Near.{Near}

abbrev pub near_cmp : Near → Near → Ordering
near_cmp = then_cmp (on (λ near. near.dist.0) nat_cmp) (on (λ near. near.index) nat_cmp)

abbrev pub index_of : Near → ℕ
index_of near = near.index

-- those whose windows start further from each of some than the zone
abbrev pub outside_all : ℕ → List Near → List Near → List Near
outside_all zone chosen nears =
    filter (λ near. list_all (λ other. nat_lt zone (abs_diff other.index near.index)) chosen) nears

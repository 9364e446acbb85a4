-- Fractions are compared by their cross products.
use Rattle.std.specs.Prelude.{Bool, ◌==◌, ◌*◌}
use Rattle.std.specs.Ordering.{nat_cmp}
use Rattle.std.specs.declared.cmp.Ordering.{Ordering}
use Rattle.mp_nums.specs.declared.ratios.Ratio.{Ratio}

abbrev pub ratio_eq : Ratio → Ratio → Bool
ratio_eq a b = a.num * b.den == b.num * a.den

abbrev pub ratio_cmp : Ratio → Ratio → Ordering
ratio_cmp a b = nat_cmp (a.num * b.den) (b.num * a.den)

use Rattle.std.proofs.Common.{◌*◌, sym, subst, arith}
use Rattle.mp_defs.specs.Series.{series_of}
use Rattle.mp_skips.specs.Sums.{AreFloors, AreGroups}
use Rattle.mp_skips.proofs.fills.fill_lists.Goals as goal

pub returns-clause-lists : goal.returns-clause-lists
returns-clause-lists c =
    let units = c.args.units.now in
    let s = 8 * units.eights in
    let a = series_of c.args.samples.now in
    let floors = c.fill_floors.new.floors in
    let are_floors = subst (AreFloors units.low s units.grain.size a floors) (sym c.fill_floors.ensures.places)
    c.fill_floors.ensures.floors in
    record {
      low_is = c.requires.levels.low_is;
      are_levels = c.fill_levels.ensures.levels;
      small_levels = c.fill_levels.ensures.small;
      levels_within = λ p. omega (arith, (c.fill_levels.ensures.levels.each p).below, c.requires.levels.each p);
      are_floors = are_floors;
      small_floors = λ p. omega (arith, c.fill_floors.ensures.small p);
      are_groups = subst (AreGroups units.low s units.grain.size a c.fill_groups.new.least c.fill_groups.new.greatest)
          (sym c.fill_groups.ensures.places)
          (c.fill_groups.ensures.groups units.low s units.grain.size c.args.samples.now units.grain.enough
          are_floors);
      small_groups = c.fill_groups.ensures.small;
    }

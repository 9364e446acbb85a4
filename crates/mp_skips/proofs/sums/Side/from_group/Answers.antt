use Rattle.std.proofs.Common.{◌*◌}
use Rattle.mp_skips.proofs.PartLemmas.{lists_from}
use Rattle.mp_skips.proofs.sums.Side.from_group.Goals as goal

pub invariant_of-result : goal.invariant_of-result
invariant_of-result c =
    let side = c.args.self.now in
    let units = side.units in
    record {
      lists = lists_from units.low units.width (8 * units.eights) units.step.size units.grain.size side.m c.args.group
          side.samples.now side.levels.now side.floors.now side.least.now side.greatest.now side.free.now side.lists
          c.requires.samples c.requires.windows;
    }

use Rattle.std.proofs.Common.{◌+◌, List, ℤ, map, to_z, of_z, w32, sym, arith, rules}
use Rattle.mp_multi.specs.Blocks.{channels_of, IsRowOf}
use Rattle.mp_multi.proofs.LaneCounts.{handed_on, handed_item}
use Rattle.mp_multi.proofs.RunLemmas.{all_lanes, lane_as, residues_as}
use Rattle.mp_multi.proofs.strips.take_lanes.Goals as goal

pub lanes_of-lanes-requires-clause-residues : goal.lanes_of-lanes-requires-clause-residues
lanes_of-lanes-requires-clause-residues g c = all_lanes _ _ _ _ _ _ c.requires.residues

pub take_row-requires : goal.take_row-requires
take_row-requires g c =
    let strip = c.args.strip.now in
    let b = strip.block in
    let lanes = c.lanes_of-lanes.ensures in
    let i = b.row + c.args.p in
    let j = b.column + (c.args.p + strip.offset) in
    let v : List ℤ = map (to_z w32) (map (of_z w32) c.lanes_of-lanes.result) in
    let row : IsRowOf strip c.args.p v = record {
      place = c.requires.row;
      of_columns = record {
        lanes = handed_on c.lanes_of-lanes.result lanes.lanes;
        each = λ t lt. lane_as b.plan.channels.m b.plan.channels.k b.plan.shift (channels_of b.plan) i (j + t) _ _
            (sym (handed_item c.lanes_of-lanes.result t lanes.lanes lt)) (lanes.each i j t lt c.requires.residues);
      };
    } in
    (search rules, (search rules, (row, (c.requires.windows, (c.requires.limits, c.requires.kept)))))

pub returns-clause-residues : goal.returns-clause-residues
returns-clause-residues g c =
    residues_as c.args.strip.now.block (c.args.p + 1) (c.args.p + c.args.strip.now.offset + 1)
    (c.args.p + 1 + c.args.strip.now.offset) _ (omega arith) c.advance.ensures

use Rattle.std.proofs.Common.{◌+◌, ◌-◌, arith, subst₂}
use Rattle.mp_sums.specs.Residues.{item}
use Rattle.mp_scans.specs.Lanes.{IsAbove}
use Rattle.mp_scans.proofs.LimitLemmas.{quiet_pair}
use Rattle.mp_scans.proofs.RunLemmas.{residue_lanes, part_item, part_lanes}
use Rattle.mp_scans.proofs.pairs.columns_above.Goals as goal

pub lanes_above-requires-clause-residues : goal.lanes_above-requires-clause-residues
lanes_above-requires-clause-residues g c = residue_lanes _ _ _ _ c.requires.row.residues

pub lanes_above-requires-clause-columns : goal.lanes_above-requires-clause-columns
lanes_above-requires-clause-columns g c =
    let strip = c.args.strip.now in
    let limits = c.requires.known.limits in
    let place = c.args.row.now.place + strip.offset in
    part_lanes _ place (place + 32 - place) (omega arith)
    (omega (arith, c.requires.row.place, strip.columns, strip.block.few_columns, limits.column_places))
    (λ t lt. (limits.of_columns (place + t) (omega (arith, lt, c.requires.row.place, strip.columns))).fits)

pub returns-clause-kept : goal.returns-clause-kept
returns-clause-kept g c = λ t small e.
    let strip = c.args.strip.now in
    let row = c.args.row.now in
    let known = c.args.known.now in
    let place = row.place + strip.offset in
    quiet_pair strip (g.O.Offers.keeps_row c.args.into.now) (g.O.Offers.keeps_column c.args.into.now) _ _ row.place
    row.place (place + t) (omega arith) c.requires.row.place (omega arith) (omega (arith, small))
    c.requires.known.limits
    (subst₂ (IsAbove (item known.rows row.place))
    (part_item known.columns place (place + 32 - place) t (omega (arith, small))) (c.requires.row.residues.each t small)
    (c.lanes_above.ensures.above t small e))

use Rattle.std.proofs.Common.{◌+◌, subst, arith, rules, w32, FitsSigned}
use Rattle.std.proofs.lemmas.Int.{ints}
use Rattle.mp_sums.specs.Residues.{item}
use Rattle.mp_scans.specs.Lanes.{IsAbove}
use Rattle.mp_scans.proofs.LimitLemmas.{quiet_pair, only_scanned}
use Rattle.mp_scans.proofs.pairs.take_pair.Goals as goal

pub returns-else-passes : goal.returns-else-passes
returns-else-passes g c =
    let strip = c.args.strip.now in
    let pair = c.args.pair in
    let known = c.args.known.now in
    let is = c.requires.pair in
    let row : FitsSigned w32 (item known.rows pair.row) = search rules in
    let column : FitsSigned w32 (item known.columns pair.column) = search rules in
    let above : IsAbove (item known.rows pair.row) (item known.columns pair.column) pair.residue = (
      omega (arith, ints, row, c.passes.ensures.row c.if-passes.false),
      omega (arith, ints, column, c.passes.ensures.column c.if-passes.false),
    ) in
    record {
      scanned = only_scanned g.met.O.Offers.limits strip.block.grid (strip.block.row + pair.row)
          (strip.block.column + pair.column) c.args.into.now c.requires.known.places
          (omega (arith, c.requires.apart, is.first))
          (quiet_pair strip (g.O.Offers.keeps_row c.args.into.now) (g.O.Offers.keeps_column c.args.into.now) _ _
          pair.row pair.row pair.column (omega arith) is.row is.first is.last c.requires.known.limits
          (subst (IsAbove _ _) is.residue above));
      known = c.requires.known;
    }

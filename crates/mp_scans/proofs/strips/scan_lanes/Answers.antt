use Rattle.std.proofs.Common.{◌+◌, ◌-◌, inr, refl, arith}
use Rattle.mp_scans.specs.Blocks.{in_strip}
use Rattle.mp_scans.specs.Windows.{column_windows}
use Rattle.mp_scans.proofs.RunLemmas.{residues_as}
use Rattle.mp_scans.proofs.LimitLemmas.{known_later, rows_go_on}
use Rattle.mp_scans.proofs.StripLemmas.{scanned_next, no_pairs, rows_next, row_in_strip}
use Rattle.mp_scans.proofs.strips.scan_lanes.Goals as goal

pub loop-done-init : goal.loop-done-init
loop-done-init g c =
    let strip = c.args.strip.now in
    let d = strip.block.column - strip.block.row + strip.offset in
    record {
      within = omega arith;
      residues = c.requires.residues;
      scanned = g.met.O.Offers.laws.none _ _ _ _ _ c.requires.known.places
          (λ i j. no_pairs d (d + strip.width) (strip.block.row + 0) (strip.block.row + 0) i j (inr (omega arith)));
      known = c.requires.known;
    }

pub loop-done-preserved-then-done-strip : goal.loop-done-preserved-then-done-strip
loop-done-preserved-then-done-strip g c =
    let laws = g.met.O.Offers.laws in
    let strip = c.args.strip.now in
    let b = strip.block in
    let d = b.column - b.row + strip.offset in
    let n = c.pass_over-done.result in
    let first = b.column + (n + strip.offset) in
    record {
      within = omega (arith, c.pass_over-done.ensures.within);
      residues = residues_as b (n + 1) (n + 1) (n + strip.offset + 1) (n + 1 + strip.offset) _ refl (omega arith)
          c.advance.ensures;
      scanned = scanned_next laws b.grid (in_strip strip 0 n) (in_strip strip n (n + 1)) _ _ _ _ c.requires.known.places
          (scanned_next laws b.grid _ _ _ _ _ _ c.requires.known.places c.loop-done.invariant.scanned
          c.pass_over-done.ensures.scanned
          (λ i j _ _. rows_next d (d + strip.width) (b.row + 0) (b.row + c.loop-done.done) (b.row + n) i j (omega arith)
          (omega (arith, c.pass_over-done.ensures.behind))))
          (laws.same _ _ _ _ _ _ _ c.loop-done.invariant.known.places c.take_row.ensures.scanned
          (λ i j _ lt. row_in_strip b.row n d strip.width first c.lanes_at.result (column_windows b.grid) i j
          (omega (arith, b.order)) c.lanes_at.ensures lt))
          (λ i j _ _. rows_next d (d + strip.width) (b.row + 0) (b.row + n) (b.row + (n + 1)) i j (omega arith)
          (omega arith));
      known = known_later b _ _ _ _ (λ q. rows_go_on strip.offset n (n + 1) q (omega arith)) c.take_row.ensures.known;
    }

pub loop-done-preserved : goal.loop-done-preserved
loop-done-preserved g c =
    let strip = c.args.strip.now in
    let b = strip.block in
    let d = b.column - b.row + strip.offset in
    let passes = c.pass_over-done.ensures in
    record {
      within = passes.within;
      residues = passes.residues;
      scanned = scanned_next g.met.O.Offers.laws b.grid _ _ _ _ _ _ c.requires.known.places
          c.loop-done.invariant.scanned passes.scanned
          (λ i j _ _. rows_next d (d + strip.width) (b.row + 0) (b.row + c.loop-done.done)
          (b.row + c.pass_over-done.result) i j (omega arith) (omega (arith, passes.behind)));
      known = known_later b _ _ _ _
          (λ q. rows_go_on strip.offset c.loop-done.done c.pass_over-done.result q passes.behind)
          c.loop-done.invariant.known;
    }

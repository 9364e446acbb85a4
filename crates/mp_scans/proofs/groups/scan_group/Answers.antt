use Rattle.std.proofs.Common.{◌+◌, ◌∙◌, inl, inr, refl, subst, arith}
use Rattle.mp_scans.specs.Offering.{in_block}
use Rattle.mp_scans.specs.Blocks.{AreStripResidues}
use Rattle.mp_scans.specs.Windows.{column_windows}
use Rattle.mp_scans.proofs.ExactLemmas.{nothing_known}
use Rattle.mp_scans.proofs.StripLemmas.{scanned_next, no_pairs, rows_next, rows_cut}
use Rattle.mp_scans.proofs.groups.scan_group.Goals as goal

pub loop-row-init : goal.loop-row-init
loop-row-init g c =
    let group = c.args.group.now in
    record {
      after = omega arith;
      order = inr refl;
      fits = c.requires.fits;
      exacts = nothing_known group.plan.grid group.first;
      scanned = g.met.O.Offers.laws.none _ _ _ _ _ c.requires.fits
          (λ i j. no_pairs group.first (group.first + group.width) c.args.top c.args.top i j (inr (omega arith)));
      residues = c.start_residues.ensures.residues;
      places = refl;
    }

pub loop-row-preserved : goal.loop-row-preserved
loop-row-preserved g c =
    let laws = g.met.O.Offers.laws in
    let group = c.args.group.now in
    let before = c.loop-row.invariant in
    let next = c.scan_rows.ensures in
    let end = group.first + group.width in
    let row = c.loop-row.row in
    let n = c.min-count.result in
    record {
      after = omega (arith, before.after);
      order = inl (omega (arith, c.min-count.ensures, c.loop-row-test.true));
      fits = laws.still_fits _ _ _ (in_block group.first end row (row + n)) _ _ before.fits next.scanned;
      exacts = next.exacts;
      scanned = scanned_next laws group.plan.grid _ _ _ _ _ _ c.requires.fits before.scanned next.scanned
          (λ i j _ _. rows_next group.first end c.args.top row (row + n) i j before.after (omega arith));
      residues = subst (λ column. AreStripResidues group.plan.grid group.plan.rounding.shift (row + n) column
          c.scan_rows.new.residues) (omega arith) next.residues;
      places = next.places ∙ before.places;
    }

pub returns : goal.returns
returns g c =
    let group = c.args.group.now in
    record {
      scanned = g.met.O.Offers.laws.same _ _ _ _ _ _ _ c.requires.fits c.loop-row.invariant.scanned
          (λ i j _ lt. rows_cut group.first (group.first + group.width) c.args.top c.args.bottom c.loop-row.row
          c.min-end.result (column_windows group.plan.grid) i j
          (omega (arith, c.min-end.ensures, c.count_columns-columns.ensures)) (omega arith)
          c.loop-row.invariant.order lt);
    }

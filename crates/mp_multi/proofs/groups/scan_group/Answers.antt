use Rattle.std.proofs.Common.{◌+◌, ◌∙◌, inl, inr, refl, subst, arith}
use Rattle.std.specs.Int.{div_ceil}
use Rattle.std.proofs.lemmas.List.{length-replicate}
use Rattle.mp_scans.specs.Offering.{in_block}
use Rattle.mp_multi.specs.Blocks.{AreStripsAt}
use Rattle.mp_multi.proofs.BlockPairs.{no_pairs, rows_next, rows_cut}
use Rattle.mp_multi.proofs.PairScans.{scan_none, scan_then, scan_same}
use Rattle.mp_multi.proofs.ExactLemmas.{nothing_kept}
use Rattle.mp_multi.proofs.LimitLemmas.{never_fit}
use Rattle.mp_multi.proofs.groups.scan_group.Goals as goal

pub loop-row-init : goal.loop-row-init
loop-row-init g c =
    let group = c.args.group.now in
    let ch = group.plan.channels in
    let end = group.first + group.width in
    record {
      after = omega arith;
      order = inr refl;
      windows = c.requires.windows;
      places = c.start_strips.ensures.places;
      moves = length-replicate _ _;
      limits = never_fit _;
      kept = nothing_kept ch.m ch.list.now group.first _;
      scanned = scan_none ch.m ch.k ch.list.now (in_block group.first end c.args.top c.args.top) c.args.into.now
          (c.requires.windows ∙ group.all_windows)
          (λ i j. no_pairs group.first end c.args.top c.args.top i j (inr (omega arith)));
      residues = c.start_strips.ensures.residues;
    }

pub loop-row-preserved : goal.loop-row-preserved
loop-row-preserved g c =
    let group = c.args.group.now in
    let ch = group.plan.channels in
    let before = c.loop-row.invariant in
    let next = c.scan_rows.ensures in
    let end = group.first + group.width in
    let row = c.loop-row.row in
    let n = c.min-count.result in
    record {
      after = omega (arith, before.after);
      order = inl (omega (arith, c.min-count.ensures, c.loop-row-test.true));
      windows = next.windows;
      places = next.places;
      moves = next.moves;
      limits = next.fit;
      kept = next.kept;
      scanned = scan_then ch.m ch.k ch.list.now (in_block group.first end c.args.top row)
          (in_block group.first end row (row + n)) (in_block group.first end c.args.top (row + n)) _ _ _ before.scanned
          next.scanned
          (λ i j _ _. rows_next group.first end c.args.top row (row + n) i j before.after (omega arith));
      residues = subst (λ column. AreStripsAt group.plan group.windows (div_ceil group.width 32) (row + n) column
          c.scan_rows.new.places) (omega arith) next.residues;
    }

pub returns : goal.returns
returns g c =
    let group = c.args.group.now in
    let ch = group.plan.channels in
    record {
      scanned = scan_same ch.m ch.k ch.list.now
          (in_block group.first (group.first + group.width) c.args.top c.loop-row.row)
          (in_block group.first (group.first + group.width) c.args.top c.args.bottom) _ _ c.loop-row.invariant.scanned
          (λ i j _ lt. rows_cut group.first (group.first + group.width) c.args.top c.args.bottom c.loop-row.row
          c.min-end.result group.windows i j (omega (arith, c.min-end.ensures)) (omega arith)
          c.loop-row.invariant.order (omega (arith, lt, group.all_windows)));
      windows = c.loop-row.invariant.windows;
    }

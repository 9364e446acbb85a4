use Rattle.std.proofs.Common.{◌≡◌, ◌+◌, ◌-◌, ◌∙◌, inr, arith, rules, subst}
use Rattle.mp_multi.specs.Blocks.{in_strip, AreResiduesAt, AreScannedIn, AreLimitsAt}
use Rattle.mp_multi.proofs.BlockPairs.{no_pairs, rows_next}
use Rattle.mp_multi.proofs.LimitLemmas.{limits_at}
use Rattle.mp_multi.proofs.PairScans.{scan_none, scan_then}
use Rattle.mp_multi.proofs.RunLemmas.{residues_as}
use Rattle.mp_multi.proofs.strips.scan_strip.Goals as goal

pub loop-done-init : goal.loop-done-init
loop-done-init g c =
    let strip = c.args.strip.now in
    let b = strip.block in
    let ch = b.plan.channels in
    let d = b.column - b.row + strip.offset in
    record {
      within = omega arith;
      windows = c.requires.windows;
      limits = c.requires.limits;
      kept = c.requires.kept;
      residues = λ some. residues_as b 0 strip.offset (0 + strip.offset) _ (omega arith) (c.requires.residues some);
      scanned = scan_none ch.m ch.k ch.list.now (in_strip strip 0 0) c.args.into.now
          (c.requires.windows ∙ b.all_windows)
          (λ i j. no_pairs d (d + strip.width) (b.row + 0) (b.row + 0) i j (inr (omega arith)));
    }

pub pass_over-done-requires-clause-residues : goal.pass_over-done-requires-clause-residues
pass_over-done-requires-clause-residues g c = c.loop-done.invariant.residues (omega (arith, c.loop-done-test.true))

pub take_lanes-requires : goal.take_lanes-requires
take_lanes-requires g c =
    let before = c.loop-done.invariant in (
      search rules,
      (
        search rules,
        (
          search rules,
          (
            before.windows,
            (
              limits_at c.args.strip.now c.loop-done.done c.pass_over-done.result _ _ c.pass_over-done.ensures.behind
                  before.limits,
              (before.kept, c.pass_over-done.ensures.residues),
            ),
          ),
        ),
      ),
    )

pub loop-done-preserved-then-done-strip : goal.loop-done-preserved-then-done-strip
loop-done-preserved-then-done-strip g c =
    let strip = c.args.strip.now in
    let b = strip.block in
    let ch = b.plan.channels in
    let d = b.column - b.row + strip.offset in
    let n = c.pass_over-done.result in
    let passes = c.pass_over-done.ensures in
    let takes = c.take_lanes.ensures in
    record {
      within = omega (arith, passes.within);
      windows = takes.windows;
      limits = limits_at strip n (n + 1) _ _ (omega arith) takes.limits;
      kept = takes.kept;
      residues = λ _. takes.residues;
      scanned = scan_then ch.m ch.k ch.list.now (in_strip strip 0 n) (in_strip strip n (n + 1))
          (in_strip strip 0 (n + 1)) _ _ _
          (scan_then ch.m ch.k ch.list.now (in_strip strip 0 c.loop-done.done) (in_strip strip c.loop-done.done n)
          (in_strip strip 0 n) _ _ _ c.loop-done.invariant.scanned passes.scanned
          (λ i j _ _. rows_next d (d + strip.width) (b.row + 0) (b.row + c.loop-done.done) (b.row + n) i j
          (omega arith) (omega (arith, passes.behind))))
          takes.scanned
          (λ i j _ _. rows_next d (d + strip.width) (b.row + 0) (b.row + n) (b.row + (n + 1)) i j (omega arith)
          (omega arith));
    }

pub loop-done-preserved : goal.loop-done-preserved
loop-done-preserved g c =
    let strip = c.args.strip.now in
    let b = strip.block in
    let ch = b.plan.channels in
    let d = b.column - b.row + strip.offset in
    let passes = c.pass_over-done.ensures in
    record {
      within = passes.within;
      windows = c.loop-done.invariant.windows;
      limits = limits_at strip c.loop-done.done c.pass_over-done.result _ _ passes.behind c.loop-done.invariant.limits;
      kept = c.loop-done.invariant.kept;
      residues = λ _. passes.residues;
      scanned = scan_then ch.m ch.k ch.list.now (in_strip strip 0 c.loop-done.done)
          (in_strip strip c.loop-done.done c.pass_over-done.result) (in_strip strip 0 c.pass_over-done.result) _ _ _
          c.loop-done.invariant.scanned passes.scanned
          (λ i j _ _. rows_next d (d + strip.width) (b.row + 0) (b.row + c.loop-done.done)
          (b.row + c.pass_over-done.result) i j (omega arith) (omega (arith, passes.behind)));
    }

pub returns : goal.returns
returns g c =
    let strip = c.args.strip.now in
    let b = strip.block in
    let all : c.loop-done.done ≡ strip.end =
    omega (arith, c.loop-done.invariant.within, c.loop-done-test.false) in
    record {
      residues = λ some. subst (λ n. AreResiduesAt b n (n + strip.offset) c.loop-done.residues) all
          (c.loop-done.invariant.residues some);
      limits = subst (λ n. AreLimitsAt strip n c.loop-done.known c.loop-done.into.items) all
          c.loop-done.invariant.limits;
      kept = c.loop-done.invariant.kept;
      windows = c.loop-done.invariant.windows;
      scanned = subst (λ n. AreScannedIn b (in_strip strip 0 n) c.args.into.now c.loop-done.into) all
          c.loop-done.invariant.scanned;
    }

use Rattle.std.proofs.Common.{◌∙◌, ap, arith, length, sym}
use Rattle.mp_partial.specs.Profiled.{Profiled}
use Rattle.mp_anytime.specs.Bounds.{has_residue}
use Rattle.mp_anytime.proofs.Scans.{found_by, same_windows}
use Rattle.mp_anytime.proofs.diagonals.found_by_residues.Goals as goal

pub run_one_after_another-requires-clause-first : goal.run_one_after_another-requires-clause-first
run_one_after_another-requires-clause-first g c = λ _ _.
    omega (arith, c.new-first.ensures.pieces, c.requires.beginners)

pub run_one_after_another-requires-clause-second : goal.run_one_after_another-requires-clause-second
run_one_after_another-requires-clause-second g c = λ _ _.
    omega (arith, ap length c.new-diagonals.ensures.offsets, c.requires.few)

pub run_one_after_another-requires-clause-same_size : goal.run_one_after_another-requires-clause-same_size
run_one_after_another-requires-clause-same_size g c = λ _ _.
    let plan = c.args.narrow.plan in
    ap (λ (p : Profiled). length p.all) c.new-first.ensures.profile ∙ c.requires.places
    ∙ same_windows c.new-diagonals.result plan.grid.rows.now plan.grid.m c.new-diagonals.ensures.samples
    c.new-diagonals.ensures.m

pub returns : goal.returns
returns g c =
    let plan = c.args.narrow.plan in
    found_by (λ (p : Profiled). p) has_residue c.run_one_after_another.result c.new-first.result c.args.kept.now
    c.new-diagonals.result c.args.offsets.now plan.grid.m plan.grid.rows.now
    (λ nobody. c.requires.none (sym c.new-first.ensures.pieces ∙ nobody)) c.new-first.ensures.profile
    (c.requires.places
    ∙ same_windows c.new-diagonals.result plan.grid.rows.now plan.grid.m c.new-diagonals.ensures.samples
    c.new-diagonals.ensures.m)
    c.new-diagonals.ensures.offsets c.new-diagonals.ensures.m c.new-diagonals.ensures.samples
    c.run_one_after_another.ensures.value

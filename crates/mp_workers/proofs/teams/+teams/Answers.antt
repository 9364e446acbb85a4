use Rattle.std.proofs.Common.{subst, sym, ◌∙◌, arith}
use Rattle.std.specs.Prelude.{All}
use Rattle.std.proofs.lemmas.List.Elements.{All-drop, All-take}
use Rattle.mp_workers.specs.Teams.{HaveRun, IsReady, found_first, with_pieces}
use Rattle.mp_workers.proofs.Teaming.{both_have_run, first_found, part_ready}
use Rattle.mp_workers.proofs.teams.+teams.Goals as goal

pub run_both-returns : goal.run_both-returns
run_both-returns g t c =
    -- what is known of a part and of a kernel holds in every thread, this one among them
    let part_laws = g.met.P.Part g.world.𝓛 g.world.𝓜 g.world.𝓡 ((λ s x. x), (λ x. x), (λ x. x), λ x. x) in
    let kernel_laws = g.met.K.Kernel g.world.𝓛 g.world.𝓜 g.world.𝓡 ((λ s x. x), (λ x. x), (λ x. x), λ x. x) in
    let kernel = g.K.Kernel in
    let part = g.P.Part in
    let size = kernel.size_of c.args.kernel.now in
    let value = kernel.value_of c.args.kernel.now in
    both_have_run part.is_value part.unit_of part.merged part_laws.laws c.args.desk.now size value
    (λ k lt. kernel_laws.has_values c.args.kernel.now k (omega (arith, lt, c.requires.pieces)))
    (found_first c.args.low.now) c.requires.ready.is_value
    _ _ c.merge_first.new.low c.run_halves.ensures.low
    (subst (λ start. HaveRun c.args.desk.now size (with_pieces part.merged (part.unit_of size) value start)
    c.run_halves.new.high) c.requires.same c.run_halves.ensures.high)
    c.merge_first.ensures

pub run_some-run_both-requires-clause-ready : goal.run_some-run_both-requires-clause-ready
run_some-run_both-requires-clause-ready g t c κs within =
    let size = g.K.Kernel.size_of c.args.kernel.now in
    let start = found_first c.args.team.now in
    let ready = IsReady c.args.desk.now size start in
    part_ready g.P.Part.is_value c.args.desk.now size start _ c.requires.ready.is_value
    (subst (All ready) (sym c.split_at_mut-low.ensures.front) (All-take ready _ _ c.requires.ready.each))
    (omega (arith, c.split_at_mut-low.ensures.front_len, c.requires.some))

pub run_some-run_both-requires-clause-others_ready : goal.run_some-run_both-requires-clause-others_ready
run_some-run_both-requires-clause-others_ready g t c κs within =
    let size = g.K.Kernel.size_of c.args.kernel.now in
    let start = found_first c.args.team.now in
    let ready = IsReady c.args.desk.now size start in
    part_ready g.P.Part.is_value c.args.desk.now size start _ c.requires.ready.is_value
    (subst (All ready) (sym c.split_at_mut-low.ensures.back) (All-drop ready _ _ c.requires.ready.each))
    (omega (arith, c.split_at_mut-low.ensures.back_len, c.requires.some))

pub run_some-run_both-requires-clause-same : goal.run_some-run_both-requires-clause-same
run_some-run_both-requires-clause-same g t c κs within =
    let desk = c.args.desk.now in
    let size = g.K.Kernel.size_of c.args.kernel.now in
    let start = found_first c.args.team.now in
    let ready = IsReady desk size start in
    let parts = c.split_at_mut-low.ensures in
    first_found desk size start _ (subst (All ready) (sym parts.back) (All-drop ready _ _ c.requires.ready.each))
    (omega (arith, parts.back_len, c.requires.some))
    ∙ sym (first_found desk size start _
    (subst (All ready) (sym parts.front) (All-take ready _ _ c.requires.ready.each))
    (omega (arith, parts.front_len, c.requires.some)))

use Rattle.std.proofs.Common.{◌≡◌, length, sym, ap, ◌∙◌, arith, subst}
use Rattle.std.specs.Prelude.{All, slice_get, sum_by}
use Rattle.std.proofs.lemmas.List.Elements.{All-weaker}
use Rattle.mp_partial.specs.Values.{merged_below}
use Rattle.mp_workers.specs.Desks.{times}
use Rattle.mp_workers.specs.Teams.{AreReady, HaveRun, IsDone, WorkerState, found_first, with_pieces}
use Rattle.mp_workers.proofs.Teaming.{all_found, all_is_value, first_found, first_is_done, part_ready}
use Rattle.mp_workers.proofs.Teaming.{weights_are_count, written_back}
use Rattle.mp_workers.proofs.teams.run_from.Goals as goal

pub close-next-requires-clause-weight : goal.close-next-requires-clause-weight
close-next-requires-clause-weight g c =
    let hired = c.in_ok-team in
    let team = c.run_team.new.team in
    let count : length team ≡ length c.args.parts.now.items =
    c.run_team.auto.team ∙ ap length c.as_mut_slice.ensures.value ∙ hired.ensures.count in
    let back = written_back team hired.team.items hired.team.len
    (omega (arith, count, hired.ensures.count, hired.team.ok)) in
    omega (
      arith,
      c.in_ok-found.ensures.weight,
      ap (sum_by (λ (worker : WorkerState). worker.pass.weight)) back,
      weights_are_count c.in_ok-desk.desk (g.K.Kernel.size_of c.args.kernel.now) team c.run_team.ensures.0,
      count,
      hired.ensures.weight,
      c.in_ok-desk.ensures.weight,
      c.requires.workers,
    )

pub run_team-requires-clause-ready : goal.run_team-requires-clause-ready
run_team-requires-clause-ready g c _ _ =
    let part = g.P.Part in
    let size = g.K.Kernel.size_of c.args.kernel.now in
    let alike = c.requires.alike in
    subst (AreReady part.is_value c.in_ok-desk.desk size) (sym c.as_mut_slice.ensures.value)
    (part_ready part.is_value c.in_ok-desk.desk size alike.0 c.in_ok-team.team.items alike.1
    (c.in_ok-team.ensures.ready size alike.0 alike.2) (omega (arith, c.in_ok-team.ensures.count, c.requires.some)))

pub returns-clause-value : goal.returns-clause-value
returns-clause-value g c = λ start is alike.
    -- what is known of a part and of a kernel holds in every thread, this one among them
    let part_laws = g.met.P.Part g.world.𝓛 g.world.𝓜 g.world.𝓡 ((λ s x. x), (λ x. x), (λ x. x), λ x. x) in
    let kernel_laws = g.met.K.Kernel g.world.𝓛 g.world.𝓜 g.world.𝓡 ((λ s x. x), (λ x. x), (λ x. x), λ x. x) in
    let part = g.P.Part in
    let kernel = g.K.Kernel in
    let size = kernel.size_of c.args.kernel.now in
    let value = kernel.value_of c.args.kernel.now in
    let desk = c.in_ok-desk.desk in
    let hired = c.in_ok-team in
    let team = c.run_team.new.team in
    let first = ap found_first c.as_mut_slice.ensures.value
    ∙ first_found desk size start hired.team.items (hired.ensures.ready size start alike)
    (omega (arith, hired.ensures.count, c.requires.some)) in
    let run = subst (λ v. HaveRun desk size (with_pieces part.merged (part.unit_of size) value v) team) first
    c.run_team.ensures in
    let count : length team ≡ length c.args.parts.now.items =
    c.run_team.auto.team ∙ ap length c.as_mut_slice.ensures.value ∙ hired.ensures.count in
    let back = written_back team hired.team.items hired.team.len
    (omega (arith, count, hired.ensures.count, hired.team.ok)) in
    let pieces : desk.pieces ≡ c.args.pieces = c.in_ok-desk.ensures.pieces in
    (c.in_ok-found.ensures.found run.1 (ap (λ workers. slice_get workers 0) back ∙ run.2)).0
    ∙ all_found part.is_value part.unit_of part.merged part_laws.laws desk size value
    (λ k lt. kernel_laws.has_values c.args.kernel.now k (omega (arith, lt, pieces, c.requires.of_kernel)))
    start team run c.close-next.result
    (λ x. let none : times x c.hire.new.pass.drawn ≡ 0 = ap (times x) hired.ensures.unused in
    omega (
      arith,
      c.close-next.ensures x,
      c.in_ok-found.ensures.drawn x,
      none,
      ap (sum_by (λ (worker : WorkerState). times x worker.pass.drawn)) back,
    ))
    ∙ ap (λ n. part.merged start (merged_below part.merged (part.unit_of size) value n)) pieces

pub returns-clause-size : goal.returns-clause-size
returns-clause-size g c =
    let hired = c.in_ok-team in
    let team = c.run_team.new.team in
    let run = c.run_team.ensures in
    let count : length team ≡ length c.args.parts.now.items =
    c.run_team.auto.team ∙ ap length c.as_mut_slice.ensures.value ∙ hired.ensures.count in
    let back = written_back team hired.team.items hired.team.len
    (omega (arith, count, hired.ensures.count, hired.team.ok)) in
    (c.in_ok-found.ensures.found run.1 (ap (λ workers. slice_get workers 0) back ∙ run.2)).1
    ∙ (first_is_done c.in_ok-desk.desk (g.K.Kernel.size_of c.args.kernel.now) team run.1 run.2 run.0).of_team.size_is

pub returns-clause-is_value : goal.returns-clause-is_value
returns-clause-is_value g c =
    let part_laws = g.met.P.Part g.world.𝓛 g.world.𝓜 g.world.𝓡 ((λ s x. x), (λ x. x), (λ x. x), λ x. x) in
    let kernel_laws = g.met.K.Kernel g.world.𝓛 g.world.𝓜 g.world.𝓡 ((λ s x. x), (λ x. x), (λ x. x), λ x. x) in
    let part = g.P.Part in
    let kernel = g.K.Kernel in
    let size = kernel.size_of c.args.kernel.now in
    let alike = c.requires.alike in
    subst (part.is_value size) (sym (returns-clause-value g c alike.0 alike.1 alike.2))
    (part_laws.laws.merged_is_value size alike.0 _ alike.1
    (all_is_value part.is_value part.unit_of part.merged part_laws.laws size (kernel.value_of c.args.kernel.now)
    c.args.pieces
    (λ k lt. kernel_laws.has_values c.args.kernel.now k (omega (arith, lt, c.requires.of_kernel)))))

pub returns-clause-sizes : goal.returns-clause-sizes
returns-clause-sizes g c =
    let size = g.K.Kernel.size_of c.args.kernel.now in
    let hired = c.in_ok-team in
    let team = c.run_team.new.team in
    let count : length team ≡ length c.args.parts.now.items =
    c.run_team.auto.team ∙ ap length c.as_mut_slice.ensures.value ∙ hired.ensures.count in
    let back = written_back team hired.team.items hired.team.len
    (omega (arith, count, hired.ensures.count, hired.team.ok)) in
    c.in_ok-found.ensures.sizes size
    (subst (All (λ (worker : WorkerState). worker.size ≡ size)) (sym back)
    (All-weaker (IsDone c.in_ok-desk.desk size) (λ worker. worker.size ≡ size)
    (λ worker done. done.of_team.size_is) team
    c.run_team.ensures.0))

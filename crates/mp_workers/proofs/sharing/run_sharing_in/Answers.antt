use Rattle.std.proofs.Common.{◌≡◌, length, sym, ap, ◌∙◌, arith, subst}
use Rattle.std.specs.Prelude.{All, slice_get, sum_by}
use Rattle.std.proofs.lemmas.List.Elements.{All-weaker}
use Rattle.mp_partial.specs.Values.{merged_below}
use Rattle.mp_workers.specs.Desks.{times}
use Rattle.mp_workers.specs.Sharing.{AreReadyToShare}
use Rattle.mp_workers.specs.Teams.{IsDone, WorkerState}
use Rattle.mp_workers.proofs.Shared.{all_shared, units_share}
use Rattle.mp_workers.proofs.Teaming.{all_is_value, first_is_done, weights_are_count, written_back}
use Rattle.mp_workers.proofs.sharing.run_sharing_in.Goals as goal

pub run_team-requires-clause-ready : goal.run_team-requires-clause-ready
run_team-requires-clause-ready g c _ _ =
    -- what is known of a part and of the work holds in every thread, this one among them
    let part_laws = g.met.P.Part g.world.𝓛 g.world.𝓜 g.world.𝓡 ((λ s x. x), (λ x. x), (λ x. x), λ x. x) in
    let work_laws = g.met.S.Sharing g.world.𝓛 g.world.𝓜 g.world.𝓡 ((λ s x. x), (λ x. x), (λ x. x), λ x. x) in
    let part = g.P.Part in
    let work = g.S.Sharing in
    let size = work.size_of c.args.work.now in
    let whole = work.whole c.args.work.now in
    let is : part.is_value size whole =
    subst (part.is_value size) (sym c.requires.whole)
    (all_is_value part.is_value part.unit_of part.merged part_laws.laws size (work.value_of c.args.work.now)
    (work.pieces_of c.args.work.now) (λ k lt. work_laws.has_values c.args.work.now k lt)) in
    subst (AreReadyToShare part.is_value part.merged whole c.in_ok-desk.desk size) (sym c.as_mut_slice.ensures.value)
    (units_share part.is_value part.unit_of part.merged part_laws.laws size c.in_ok-desk.desk whole
    c.in_ok-team.team.items is
    (c.in_ok-team.ensures.ready size (part.unit_of size)
    c.requires.unfound))

pub gather-requires-clause-of_desk : goal.gather-requires-clause-of_desk
gather-requires-clause-of_desk g c _ _ =
    let hired = c.in_ok-team in
    let team = c.run_team.new.team in
    let count : length team ≡ length c.args.parts.now.items =
    c.run_team.auto.team ∙ ap length c.as_mut_slice.ensures.value ∙ hired.ensures.count in
    let back = written_back team hired.team.items hired.team.len
    (omega (arith, count, hired.ensures.count, hired.team.ok)) in
    let desk = c.in_ok-desk.desk in
    subst (All (λ (worker : WorkerState). worker.pass.desk ≡ desk)) (sym back)
    (All-weaker (IsDone desk (g.S.Sharing.size_of c.args.work.now)) (λ worker. worker.pass.desk ≡ desk)
    (λ worker done. done.of_team.of_desk) team c.run_team.ensures.done)

pub close-next-requires-clause-weight : goal.close-next-requires-clause-weight
close-next-requires-clause-weight g c =
    let hired = c.in_ok-team in
    let team = c.run_team.new.team in
    let count : length team ≡ length c.args.parts.now.items =
    c.run_team.auto.team ∙ ap length c.as_mut_slice.ensures.value ∙ hired.ensures.count in
    let back = written_back team hired.team.items hired.team.len
    (omega (arith, count, hired.ensures.count, hired.team.ok)) in
    omega (
      arith,
      c.in_ok-found.ensures.weight,
      ap (sum_by (λ (worker : WorkerState). worker.pass.weight)) back,
      weights_are_count c.in_ok-desk.desk (g.S.Sharing.size_of c.args.work.now) team c.run_team.ensures.done,
      count,
      hired.ensures.weight,
      c.in_ok-desk.ensures.weight,
      c.requires.workers,
    )

pub returns-clause-value : goal.returns-clause-value
returns-clause-value g c =
    let part_laws = g.met.P.Part g.world.𝓛 g.world.𝓜 g.world.𝓡 ((λ s x. x), (λ x. x), (λ x. x), λ x. x) in
    let work_laws = g.met.S.Sharing g.world.𝓛 g.world.𝓜 g.world.𝓡 ((λ s x. x), (λ x. x), (λ x. x), λ x. x) in
    let part = g.P.Part in
    let work = g.S.Sharing in
    let size = work.size_of c.args.work.now in
    let value = work.value_of c.args.work.now in
    let desk = c.in_ok-desk.desk in
    let hired = c.in_ok-team in
    let team = c.run_team.new.team in
    let run = c.run_team.ensures in
    let count : length team ≡ length c.args.parts.now.items =
    c.run_team.auto.team ∙ ap length c.as_mut_slice.ensures.value ∙ hired.ensures.count in
    let back = written_back team hired.team.items hired.team.len
    (omega (arith, count, hired.ensures.count, hired.team.ok)) in
    let pieces : desk.pieces ≡ work.pieces_of c.args.work.now = c.in_ok-desk.ensures.pieces ∙ c.pieces.ensures in
    (c.in_ok-found.ensures.found run.first (ap (λ workers. slice_get workers 0) back ∙ run.is_first)).0
    ∙ all_shared part.is_value part.unit_of part.merged part_laws.laws size desk value
    (work.whole c.args.work.now)
    (λ k lt. work_laws.has_values c.args.work.now k (omega (arith, lt, pieces)))
    (c.requires.whole ∙ ap (merged_below part.merged (part.unit_of size) value) (sym pieces))
    team run c.close-next.result
    (λ x. let none : times x c.hire.new.pass.drawn ≡ 0 = ap (times x) hired.ensures.unused in
    omega (
      arith,
      c.close-next.ensures x,
      c.in_ok-found.ensures.drawn x,
      none,
      ap (sum_by (λ (worker : WorkerState). times x worker.pass.drawn)) back,
    ))

pub returns-clause-size : goal.returns-clause-size
returns-clause-size g c =
    let hired = c.in_ok-team in
    let team = c.run_team.new.team in
    let run = c.run_team.ensures in
    let count : length team ≡ length c.args.parts.now.items =
    c.run_team.auto.team ∙ ap length c.as_mut_slice.ensures.value ∙ hired.ensures.count in
    let back = written_back team hired.team.items hired.team.len
    (omega (arith, count, hired.ensures.count, hired.team.ok)) in
    (c.in_ok-found.ensures.found run.first (ap (λ workers. slice_get workers 0) back ∙ run.is_first)).1
    ∙ (first_is_done c.in_ok-desk.desk (g.S.Sharing.size_of c.args.work.now) team run.first run.is_first
    run.done).of_team.size_is

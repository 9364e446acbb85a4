use Rattle.std.proofs.Common.{subst, sym, arith}
use Rattle.std.specs.Prelude.{All}
use Rattle.std.proofs.lemmas.List.Elements.{All-drop, All-take}
use Rattle.mp_workers.specs.Sharing.{IsReadyToShare}
use Rattle.mp_workers.proofs.Shared.{both_have_shared, some_share}
use Rattle.mp_workers.proofs.sharing.+sharing.Goals as goal

pub share_team-returns : goal.share_team-returns
share_team-returns g t c =
    -- what is known of a part and of the work holds in every thread, this one among them
    let part_laws = g.met.P.Part g.world.𝓛 g.world.𝓜 g.world.𝓡 ((λ s x. x), (λ x. x), (λ x. x), λ x. x) in
    let work_laws = g.met.S.Sharing g.world.𝓛 g.world.𝓜 g.world.𝓡 ((λ s x. x), (λ x. x), (λ x. x), λ x. x) in
    let work = g.S.Sharing in
    let part = g.P.Part in
    both_have_shared part.is_value part.unit_of part.merged part_laws.laws (work.size_of c.args.work.now)
    c.args.desk.now (work.value_of c.args.work.now) (work.whole c.args.work.now)
    (λ k lt. work_laws.has_values c.args.work.now k (omega (arith, lt, c.requires.pieces)))
    c.requires.ready.whole_is_value _ _ c.merge_first.new.low c.share_halves.ensures.low c.share_halves.ensures.high
    c.merge_first.ensures

pub share_team-share_halves-requires-clause-ready : goal.share_team-share_halves-requires-clause-ready
share_team-share_halves-requires-clause-ready g t c κs within =
    let part = g.P.Part in
    let work = g.S.Sharing in
    let size = work.size_of c.args.work.now in
    let whole = work.whole c.args.work.now in
    let part_laws = g.met.P.Part g.world.𝓛 g.world.𝓜 g.world.𝓡 ((λ s x. x), (λ x. x), (λ x. x), λ x. x) in
    let ready = IsReadyToShare part.is_value part.merged whole c.args.desk.now size in
    some_share part.is_value part.unit_of part.merged part_laws.laws size c.args.desk.now whole c.args.team.now _
    c.requires.ready
    (subst (All ready) (sym c.split_at_mut-low.ensures.front) (All-take ready _ _ c.requires.ready.each))

pub share_team-share_halves-requires-clause-others_ready : goal.share_team-share_halves-requires-clause-others_ready
share_team-share_halves-requires-clause-others_ready g t c κs within =
    let part = g.P.Part in
    let work = g.S.Sharing in
    let size = work.size_of c.args.work.now in
    let whole = work.whole c.args.work.now in
    let part_laws = g.met.P.Part g.world.𝓛 g.world.𝓜 g.world.𝓡 ((λ s x. x), (λ x. x), (λ x. x), λ x. x) in
    let ready = IsReadyToShare part.is_value part.merged whole c.args.desk.now size in
    some_share part.is_value part.unit_of part.merged part_laws.laws size c.args.desk.now whole c.args.team.now _
    c.requires.ready
    (subst (All ready) (sym c.split_at_mut-low.ensures.back) (All-drop ready _ _ c.requires.ready.each))

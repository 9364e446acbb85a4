use Rattle.mp_workers.proofs.Shared.{one_has_shared}
use Rattle.mp_workers.proofs.sharing.share_one.Goals as goal

pub returns : goal.returns
returns g c =
    let part_laws = g.met.P.Part g.world.𝓛 g.world.𝓜 g.world.𝓡 ((λ s x. x), (λ x. x), (λ x. x), λ x. x) in
    let work = g.S.Sharing in
    let part = g.P.Part in
    one_has_shared part.is_value part.unit_of part.merged part_laws.laws (work.size_of c.args.work.now) c.args.desk.now
    (work.value_of c.args.work.now) (work.whole c.args.work.now) c.args.team.now c.share.new.self c.requires.one
    c.share.ensures.done c.share.ensures.is_value c.share.ensures.found

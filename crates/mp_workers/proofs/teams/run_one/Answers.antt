use Rattle.mp_workers.specs.Teams.{with_pieces}
use Rattle.mp_workers.proofs.Teaming.{one_has_run}
use Rattle.mp_workers.proofs.teams.run_one.Goals as goal

pub returns : goal.returns
returns g c =
    let kernel = g.K.Kernel in
    let part = g.P.Part in
    let size = kernel.size_of c.args.kernel.now in
    one_has_run c.args.desk.now size
    (with_pieces part.merged (part.unit_of size) (kernel.value_of c.args.kernel.now)) c.args.team.now
    c.index-team-0.result c.work.new.self c.requires.one c.work.ensures.done c.work.ensures.found

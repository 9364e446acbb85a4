use Rattle.std.proofs.Common.{sym, ap, ◌∙◌}
use Rattle.mp_workers.specs.Desks.{pieces_among}
use Rattle.mp_workers.specs.Teams.{WorkerState, with_pieces}
use Rattle.mp_workers.proofs.Teaming.{new_pieces}
use Rattle.mp_workers.proofs.workers.Worker.work.Goals as goal

pub returns-clause-found : goal.returns-clause-found
returns-clause-found g c =
    let part = g.P.Part in
    let kernel = g.K.Kernel in
    let drew = c.work.ensures.drawn in
    let pieces = c.args.desk.now.pieces in
    let drawn = c.work.new.pass.drawn in
    let found = with_pieces part.merged (part.unit_of (kernel.size_of c.args.kernel.now))
    (kernel.value_of c.args.kernel.now) in
    drew.3
    ∙ ap (found (part.value c.self.inside.found))
    (sym (new_pieces pieces c.self.inside.pass.drawn drew.0 drawn drew.1
    (ap (λ worker. worker.pass.drawn) c.self.view_is ∙ c.requires.ready.drawn) drew.2.drawn drew.2.are_pieces
    drew.2.no_piece))
    ∙ ap (λ (worker : WorkerState). found worker.found (pieces_among pieces drawn)) c.self.view_is

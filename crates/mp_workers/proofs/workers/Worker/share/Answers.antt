use Rattle.std.proofs.Common.{sym, ap, subst, ◌∙◌}
use Rattle.mp_workers.specs.Sharing.{HasPieces}
use Rattle.mp_workers.proofs.Teaming.{new_pieces}
use Rattle.mp_workers.proofs.workers.Worker.share.Goals as goal

pub returns-clause-found : goal.returns-clause-found
returns-clause-found g c =
    let part = g.P.Part in
    let work = g.S.Sharing in
    let drew = c.share.ensures.drawn in
    let drawn = c.share.new.pass.drawn in
    subst (HasPieces part.merged (work.value_of c.args.work.now) (work.whole c.args.work.now)
    (part.value c.share.new.into))
    (sym (new_pieces c.args.desk.now.pieces c.self.inside.pass.drawn drew.0 drawn drew.1
    (ap (λ worker. worker.pass.drawn) c.self.view_is ∙ c.requires.ready.drawn) drew.2.drawn drew.2.are_pieces
    drew.2.no_piece))
    drew.3

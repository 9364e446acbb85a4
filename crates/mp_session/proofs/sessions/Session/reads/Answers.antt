use Rattle.std.proofs.Common.{subst, sym}
use Rattle.mp_stores.specs.StoreLaws.{closed_stands}
use Rattle.mp_session.specs.Sessions.{SessionParts, StandsFor}
use Rattle.mp_session.proofs.sessions.Session.reads.Goals as goal

pub returns-clause-closed : goal.returns-clause-closed
returns-clause-closed c = λ state stands.
    let inside = subst (λ (s : SessionParts). StandsFor s state) (sym c.self.view_is) stands in
    let here = closed_stands c.self.inside.stores state.stores c.args.slot inside.stores_stand in
    let reads = c.reads.ensures.closed in
    (λ none. here.0 (reads.0 none), λ closed. reads.1 (here.1 closed))

use Rattle.mp_session.proofs.top.serve.Goals as goal

pub returns : goal.returns
returns g c = c.serve_within.ensures

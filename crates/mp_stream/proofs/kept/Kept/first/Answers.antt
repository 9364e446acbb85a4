use Rattle.std.proofs.Common.{◌≡◌, ◌∙◌, subst}
use Rattle.mp_defs.specs.Band.{first_kept}
use Rattle.mp_stream.proofs.KeptStands.{first_is}
use Rattle.mp_stream.proofs.kept.Kept.first.Goals as goal

pub returns : goal.returns
returns c =
    let store = c.self.inside in
    subst (λ seen. c.dropped.result ≡ first_kept seen.keep seen.count) c.self.view_is
    (c.dropped.ensures.dropped ∙ first_is store.m store.keep store.ring store.growing c.self.invariant)

use Rattle.std.proofs.Common.{◌≡◌, ◌∙◌, ap, subst}
use Rattle.mp_defs.specs.Window.{windows}
use Rattle.mp_defs.specs.Band.{live_windows}
use Rattle.mp_stream.proofs.KeptStands.{live_is}
use Rattle.mp_stream.proofs.kept.Kept.live.Goals as goal

pub returns : goal.returns
returns c =
    let store = c.self.inside in
    subst (λ seen. c.windows.result ≡ live_windows seen.keep seen.m seen.count) c.self.view_is
    (c.windows.ensures ∙ ap (λ n. windows n store.m) c.len.ensures.length
    ∙ live_is store.m store.keep store.ring store.growing c.self.invariant)

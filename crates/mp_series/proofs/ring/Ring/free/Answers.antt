use Rattle.std.proofs.Common.{◌≡◌, ◌+◌, ◌≤◌, ◌∷◌, length, get_or, ap, sym, ◌∙◌, subst}
use Rattle.mp_defs.specs.Series.{series_of}
use Rattle.mp_defs.specs.Window.{is_free}
use Rattle.mp_series.proofs.HeldCounts.{held_free}
use Rattle.mp_series.proofs.ring.Ring.free.Goals as goal

pub returns : goal.returns
returns c =
    let counts = c.self.inside.missing.dropped ∷ c.self.inside.missing.held.items in
    let end : c.before-3.result ≡ get_or counts (c.args.i + c.args.m) 0 =
    c.before-3.ensures ∙ ap (λ m. get_or counts (c.args.i + m) 0) c.from.ensures in
    let within : c.args.i + c.args.m ≤ length c.self.inside.stored.items =
    subst (λ held. c.args.i + c.args.m ≤ length held.items) (sym c.self.view_is) c.requires in
    rw (c.before-2.ensures, end)
    (held_free _ _ _ _ _ c.self.invariant c.args.i c.args.m within
    ∙ ap (λ held. is_free c.args.m (series_of held.items) c.args.i) c.self.view_is)

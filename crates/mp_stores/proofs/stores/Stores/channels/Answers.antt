use Rattle.std.proofs.Common.{◌<◌, ◌∙◌, List, length, ap, arith, get_or, subst}
use Rattle.mp_stores.specs.declared.store.Store.{Store}
use Rattle.mp_stores.proofs.StoreLemmas.{AreSeen, channels_seen, stored_long}
use Rattle.mp_stores.proofs.stores.Stores.channels.Goals as goal

pub returns-in-Some : goal.returns-in-Some
returns-in-Some c =
    let stored = c.self.inside.stored.items in
    let found = c.in-Some.ensures.lookup in
    let long = stored_long c.self.inside.m stored c.self.invariant in
    let within : c.args.slot < length stored =
    subst (λ (vs : List Store). c.args.slot < length vs) c.deref.ensures.value found.3.0 in
    let all : AreSeen c.self.inside.m stored c.args.self.now c.args.slot =
    record { seen = c.self.view_is; are = c.self.invariant; within = omega (arith, long, within) } in
    let are =
    channels_seen c.channels.result.now all
    (found.1 ∙ ap (λ (vs : List Store). get_or vs c.args.slot c.in-Some.store.now) c.deref.ensures.value)
    c.channels.ensures in
    record {
      channels = are.are;
      closed = are.closed;
      few = are.few;
      «open» = are.within;
      alike = are.alike;
      window = are.window;
    }

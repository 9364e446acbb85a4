use Rattle.std.proofs.Common.{◌≡◌, ◌<◌, ◌∙◌, List, length, ap, arith, get_or, subst}
use Rattle.std.specs.Prelude.{IfNone, IfSome, false}
use Rattle.mp_stores.specs.declared.store.Store.{Store}
use Rattle.mp_stores.specs.Stores.{Held, Lazy, is_lazy, slot_at}
use Rattle.mp_stores.proofs.StoreLemmas.{AreSeen, can_cover, in_some, slot_seen, stored_long, stores_seen}
use Rattle.mp_stores.proofs.stores.Stores.lazy.Goals as goal

pub returns-in-Some : goal.returns-in-Some
returns-in-Some c =
    let stored = c.self.inside.stored.items in
    let slot = c.args.slot in
    let old = c.args.self.now in
    let found = c.in-Some.ensures.lookup in
    let long = stored_long c.self.inside.m stored c.self.invariant in
    let within : slot < length stored =
    subst (λ (vs : List Store). slot < length vs) c.deref.ensures.value found.3.0 in
    let all : AreSeen c.self.inside.m stored old slot =
    record { seen = c.self.view_is; are = c.self.invariant; within = omega (arith, long, within) } in
    let here =
    slot_seen all (found.1 ∙ ap (λ (vs : List Store). get_or vs slot c.in-Some.store.now) c.deref.ensures.value) in
    let some = subst (λ (h : Held). IfSome c.lazy.result (λ part. h ≡ Lazy part.now)) here c.lazy.ensures.some in
    record {
      some = some;
      within = in_some c.lazy.result all.within;
      stands =
          can_cover c.lazy.result (λ part. part.now) old.m (slot_at old slot) ((stores_seen all).each slot) some;
      none = subst (λ (h : Held). IfNone c.lazy.result (is_lazy h ≡ false)) here c.lazy.ensures.none;
    }

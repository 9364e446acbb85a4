use Rattle.std.proofs.Common.{◌≡◌, ◌<◌, ◌∙◌, List, length, ap, arith, get_or, subst}
use Rattle.std.specs.Prelude.{IfNone, IfSome, None}
use Rattle.mp_stores.specs.declared.store.Store.{Store}
use Rattle.mp_stores.specs.Stores.{Held, Kept, keep_of, slot_at}
use Rattle.mp_stores.proofs.StoreLemmas.{AreSeen, can_keep, in_some, slot_seen, stored_long, stores_seen}
use Rattle.mp_stores.proofs.stores.Stores.kept.Goals as goal

pub returns-in-Some : goal.returns-in-Some
returns-in-Some c =
    let stored = c.self.inside.stored.items in
    let slot = c.args.slot in
    let old = c.args.self.now in
    let found = c.in-Some.ensures.lookup in
    let long = stored_long c.self.inside.m stored c.self.invariant in
    let within : slot < length stored =
    subst (λ (vs : List Store). slot < length vs) c.deref.ensures.value found.3.0 in
    let all : AreSeen c.self.inside.m stored old slot =
    record { seen = c.self.view_is; are = c.self.invariant; within = omega (arith, long, within) } in
    let here =
    slot_seen all (found.1 ∙ ap (λ (vs : List Store). get_or vs slot c.in-Some.store.now) c.deref.ensures.value) in
    let some = subst (λ (h : Held). IfSome c.kept.result (λ kept. h ≡ Kept kept.now)) here c.kept.ensures.some in
    record {
      some = some;
      within = in_some c.kept.result all.within;
      stands =
          can_keep c.kept.result (λ kept. kept.now) old.m (slot_at old slot) ((stores_seen all).each slot) some;
      none = subst (λ (h : Held). IfNone c.kept.result (keep_of h ≡ None)) here c.kept.ensures.none;
    }

use Rattle.std.proofs.Common.{◌∙◌, ap, length, sym}
use Rattle.std.proofs.lemmas.List.{with_items_is}
use Rattle.mp_stores.proofs.StoreLemmas.{room_made}
use Rattle.mp_stores.proofs.store.Store.reserve.Goals as goal

pub returns-in-Open-clause-read : goal.returns-in-Open-clause-read
returns-in-Open-clause-read c =
    let channels = c.in-Open.channels in
    room_made c.args.self.now channels c.as_mut_slice.result.now c.reserve_all.new.channels _ c.in-Open.is
    c.as_mut_slice.ensures.value
    (with_items_is channels c.reserve_all.new.channels
    (c.reserve_all.auto.channels ∙ (ap length c.as_mut_slice.ensures.value ∙ sym channels.ok.0)))
    c.reserve_all.ensures.same

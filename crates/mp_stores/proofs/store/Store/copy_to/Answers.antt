use Rattle.mp_stores.proofs.StoreLemmas.{channel_read}
use Rattle.mp_stores.proofs.store.Store.copy_to.Goals as goal

pub returns-clause-read : goal.returns-clause-read
returns-clause-read c =
    channel_read c.args.self.now c.in-Open.channels c.args.channel c.index_mut.result.now c.copy_to.new.self
    c.in-Open.is
    c.requires c.index_mut.ensures.value c.copy_to.ensures.items c.copy_to.ensures.m c.copy_to.ensures.reads_rise
    c.copy_to.ensures.reads

use Rattle.mp_stores.proofs.StoreLemmas.{channel_read}
use Rattle.mp_stores.proofs.store.Store.window.Goals as goal

pub returns-clause-read : goal.returns-clause-read
returns-clause-read c =
    channel_read c.args.self.now c.in-Open.channels c.args.channel c.index_mut.result.now c.window.new.self c.in-Open.is
    c.requires.channel c.index_mut.ensures.value c.window.ensures.items c.window.ensures.m c.window.ensures.reads_rise
    c.window.ensures.reads

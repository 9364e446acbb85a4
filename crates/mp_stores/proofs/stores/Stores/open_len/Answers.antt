use Rattle.std.proofs.Common.{◌∙◌, ap}
use Rattle.mp_stores.specs.Stores.{count_in}
use Rattle.mp_stores.proofs.StoreLemmas.{first_long, none_long}
use Rattle.mp_stores.proofs.stores.Stores.open_len.Goals as goal

pub returns-in-Some-clause-count : goal.returns-in-Some-clause-count
returns-in-Some-clause-count c =
    c.len.ensures.length
    ∙ (first_long c.channels.result.now c.in-Some.channel.now c.in-Some.ensures.value
    ∙ ap count_in c.channels.ensures.channels)

pub returns-in-None-clause-count : goal.returns-in-None-clause-count
returns-in-None-clause-count c =
    none_long c.channels.result.now c.in-None.ensures.value ∙ ap count_in c.channels.ensures.channels

use Rattle.std.proofs.Common.{refl, ap, ◌∙◌}
use Rattle.mp_stream.proofs.QueueLemmas.{lent_queue, rest_lent}
use Rattle.mp_stream.proofs.queues.Queue.as_mut_slice.Goals as goal

pub returns : goal.returns
returns g c = (
  (
    refl,
    λ items. lent_queue c.self.inside.stored c.self.inside.start items c.args.self.now c.self.invariant
        c.self.view_is,
  ),
  record {
    writes_back = tt;
    value = c.slice_mut.ensures.value ∙ rest_lent c.self.inside.stored c.self.inside.start
        ∙ ap (λ seen. seen.items) c.self.view_is;
  },
)

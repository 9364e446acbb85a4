use Rattle.mp_topk.proofs.Entering.{slot_there}
use Rattle.mp_topk.proofs.compact_ranks.take_there.Goals as goal

pub returns-clause-lists : goal.returns-clause-lists
returns-clause-lists g c =
    slot_there g.row.K c.args.i c.args.found c.args.places.now c.put_unless_there.new.slots c.requires.place
    c.put_unless_there.ensures.those

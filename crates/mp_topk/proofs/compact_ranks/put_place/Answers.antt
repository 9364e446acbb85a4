use Rattle.mp_topk.proofs.Numbers.{put_there}
use Rattle.mp_topk.proofs.compact_ranks.put_place.Goals as goal

pub returns-clause-lists : goal.returns-clause-lists
returns-clause-lists g c near is =
    put_there g.row.K c.args.i near c.args.found c.args.places.now c.put_compact.new.slots c.requires.place is
    c.put_compact.ensures.those

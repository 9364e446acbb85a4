use Rattle.mp_topk.proofs.Places.{is_put_at}
use Rattle.mp_topk.proofs.ranks.put_place.Goals as goal

pub returns-clause-lists : goal.returns-clause-lists
returns-clause-lists g c =
    is_put_at g.row.K c.args.i c.args.found c.args.places.now c.put_found.new.slots c.requires.place
    c.put_found.ensures.those

use Rattle.mp_topk.proofs.Merging.{others_alone}
use Rattle.mp_topk.proofs.compact_merging.merge_slots.Goals as goal

pub returns-then-is_vacant-clause-those : goal.returns-then-is_vacant-clause-those
returns-then-is_vacant-clause-those g c = others_alone g.row.K c.args.slots.now c.args.others.now
    (c.is_vacant.ensures c.if-is_vacant.true) c.requires.others

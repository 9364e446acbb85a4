use Rattle.std.proofs.Common.{arith}
use Rattle.mp_tiles.specs.Compact.{slot_of_word}
use Rattle.mp_topk.specs.Sharing.{whole_of}
use Rattle.mp_topk.proofs.Entering.{told, whole_count}
use Rattle.mp_topk.proofs.entries.RankEntries.tell_place.Goals as goal

pub lower-requires : goal.lower-requires
lower-requires g c = (
  omega arith,
  (
    c.requires.place,
    (
      c.loop-rank-test.true,
      told g.row.K (whole_of g.row.K c.args.self.now) c.args.found.now.lists c.args.place (slot_of_word c.word.result)
          c.requires.within (omega (arith, c.requires.place, whole_count g.row.K c.args.self.now)) c.word.ensures,
    ),
  ),
)

use Rattle.std.proofs.Common.{◌/◌, ◌<◌, [], get_or, subst, arith}
use Rattle.mp_tiles.specs.Compact.{slot_of_word}
use Rattle.mp_topk.specs.Sharing.{GivesNone, RankSeries, whole_of}
use Rattle.mp_topk.proofs.Entering.{enters, word_at_place, word_there}
use Rattle.mp_topk.proofs.entries.RankEntries.find.Goals as goal

pub load_new_seat-word-requires : goal.load_new_seat-word-requires
load_new_seat-word-requires g c =
    let key = c.self.inside.table.shared.key in
    let words = c.self.inside.table.shared.table_id.words in
    let there : c.at-at.result < words = omega (
      arith,
      c.at-at.ensures,
      word_there g.row.K words key c.args.self.now
          c.args.place c.args.rank c.self.invariant.words_are c.self.view_is c.requires.place c.requires.rank,
    ) in
    (there, enters g.row.K key _ _ _ c.self.invariant.words_are there)

pub returns : goal.returns
returns g c =
    let slot = slot_of_word c.load_new_seat-word.result.0 in
    word_at_place g.row.K c.args.self.now c.args.place c.args.rank slot c.requires.rank
    (subst (λ n. GivesNone g.row.K (get_or (whole_of g.row.K c.args.self.now) (n / g.row.K) []) slot) c.at-at.ensures
    (subst (λ (s : RankSeries). GivesNone g.row.K (get_or (whole_of g.row.K s) (c.at-at.result / g.row.K) []) slot)
    c.self.view_is c.load_new_seat-word.ensures.2))

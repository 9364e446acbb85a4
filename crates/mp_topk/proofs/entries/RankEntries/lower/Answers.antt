use Rattle.std.proofs.Common.{◌/◌, ◌<◌, [], get_or, sym, subst, arith}
use Rattle.mp_tiles.specs.Compact.{slot_of_word}
use Rattle.mp_topk.specs.Sharing.{GivesNone, RankSeries, whole_of}
use Rattle.mp_topk.proofs.Entering.{allows_lower, enters, place_of_word, word_there}
use Rattle.mp_topk.proofs.entries.RankEntries.lower.Goals as goal

pub load_new_seat-found-requires : goal.load_new_seat-found-requires
load_new_seat-found-requires g c =
    let key = c.self.inside.table.shared.key in
    let words = c.self.inside.table.shared.table_id.words in
    let there : c.at-at.result < words = omega (
      arith,
      c.at-at.ensures,
      word_there g.row.K words key c.args.self.now
          c.args.place c.args.rank c.self.invariant.words_are c.self.view_is c.requires.place c.requires.rank,
    ) in
    (there, enters g.row.K key _ _ _ c.self.invariant.words_are there)

pub fetch_min-before-requires : goal.fetch_min-before-requires
fetch_min-before-requires g c =
    let key = c.self.inside.table.shared.key in
    let words = c.self.inside.table.shared.table_id.words in
    let slot = slot_of_word c.args.word in
    let there : c.at-at.result < words = omega (
      arith,
      c.at-at.ensures,
      word_there g.row.K words key c.args.self.now
          c.args.place c.args.rank c.self.invariant.words_are c.self.view_is c.requires.place c.requires.rank,
    ) in
    let gives = subst (λ n. GivesNone g.row.K (get_or (whole_of g.row.K key) (n / g.row.K) []) slot)
    (sym c.at-at.ensures)
    (place_of_word g.row.K key c.args.place c.args.rank slot c.requires.rank
    (subst (λ (s : RankSeries). GivesNone g.row.K (get_or (whole_of g.row.K s) c.args.place []) slot)
    (sym c.self.view_is) c.requires.gives)) in (
      c.load_new_seat-found.ensures.0,
      there,
      allows_lower g.row.K key _ _ _ _ _ _ c.self.invariant.words_are there gives,
    )

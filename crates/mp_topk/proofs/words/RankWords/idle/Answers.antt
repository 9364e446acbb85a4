use Rattle.std.proofs.Common.{◌<◌, ap, arith}
use Rattle.mp_topk.specs.Words.{WordsAt}
use Rattle.mp_topk.proofs.Stepping.{enters, some_words}
use Rattle.mp_topk.proofs.words.RankWords.idle.Goals as goal

pub load_new_seat-word-requires : goal.load_new_seat-word-requires
load_new_seat-word-requires g c =
    let key = c.self.inside.table.shared.key in
    let there : 0 < c.self.inside.table.shared.table_id.words =
    some_words g.row.K key _ _ c.self.invariant.entries.words_are c.self.invariant.one
    (ap (λ (w : WordsAt). w.series) c.self.view_is) c.requires.some in
    (there, enters g.row.K key _ _ (omega (arith, there, c.self.invariant.entries.words_are)) c.self.invariant.one)

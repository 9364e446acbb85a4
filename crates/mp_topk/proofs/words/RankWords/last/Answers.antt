use Rattle.std.proofs.Common.{◌≡◌, ◌-◌, ◌<◌, [], get_or, ap, subst, sym, arith}
use Rattle.mp_topk.specs.Laws.{StandsIn}
use Rattle.mp_topk.specs.Sharing.{RankSeries, count_of, whole_of}
use Rattle.mp_topk.specs.Words.{WordsAt}
use Rattle.mp_topk.proofs.Entering.{whole_count, word_there}
use Rattle.mp_topk.proofs.Stepping.{enters}
use Rattle.mp_topk.proofs.words.RankWords.last.Goals as goal

pub overflow_sub-at : goal.overflow_sub-at
overflow_sub-at g c = c.self.invariant.one

pub at-at-requires : goal.at-at-requires
at-at-requires g c = (omega arith, (c.requires.place, omega (arith, c.self.invariant.one)))

pub load_new_seat-word-requires : goal.load_new_seat-word-requires
load_new_seat-word-requires g c =
    let key = c.self.inside.table.shared.key in
    let words = c.self.inside.table.shared.table_id.words in
    let there : c.at-at.result < words = omega (
      arith,
      c.at-at.ensures,
      word_there g.row.K words key c.args.self.now.series c.args.place (g.row.K - 1)
          c.self.invariant.entries.words_are
          (ap (λ (w : WordsAt). w.series) c.self.view_is) c.requires.place (omega (arith, c.self.invariant.one)),
    ) in
    (there, enters g.row.K key _ _ (omega (arith, there, c.self.invariant.entries.words_are)) c.self.invariant.one)

pub returns : goal.returns
returns g c = λ near x slot before there.
    let key = c.self.inside.table.shared.key in
    let same : key ≡ c.args.self.now.series = ap (λ (w : WordsAt). w.series) c.self.view_is in
    c.load_new_seat-word.ensures.2.behind c.args.place c.at-at.ensures
    (omega (arith, c.requires.place, whole_count g.row.K key, ap count_of same)) near x slot before
    (subst (λ (s : RankSeries). StandsIn x (get_or (whole_of g.row.K s) c.args.place [])) (sym same) there)

use Rattle.std.proofs.Common.{◌≡◌, ap, sym, ◌∙◌, arith}
use Rattle.mp_topk.specs.Words.{RankTellerState, WordsAt}
use Rattle.mp_topk.proofs.Entering.{word_there}
use Rattle.mp_topk.proofs.Stepping.{allows_look}
use Rattle.mp_topk.proofs.tellers.RankTeller.look.Goals as goal

pub load-requires : goal.load-requires
load-requires g c =
    let k = g.row.K in
    let key = c.words.inside.table.shared.key in
    let words = c.words.inside.table.shared.table_id.words in
    let series : key ≡ c.args.self.now.words.series =
    ap (λ (w : WordsAt). w.series) c.words.view_is ∙ ap (λ (t : RankTellerState). t.words.series) c.self.view_is in (
      c.self.invariant.of_table ∙ sym (ap (λ (w : WordsAt). w.table) c.words.view_is),
      omega (
        arith,
        c.at-at.ensures,
        word_there k words key c.args.self.now.words.series c.args.place c.args.rank
            c.words.invariant.entries.words_are series c.requires.place c.requires.rank,
      ),
      allows_look k key _ _ _ _,
    )

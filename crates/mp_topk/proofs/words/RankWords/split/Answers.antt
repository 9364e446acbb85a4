use Rattle.std.proofs.Common.{◌≤◌, sym, ap, ◌∙◌, arith}
use Rattle.mp_topk.proofs.Stepping.{some_words, splits}
use Rattle.mp_topk.proofs.words.RankWords.split.Goals as goal

pub split_seat-requires : goal.split_seat-requires
split_seat-requires g c =
    let key = c.self.inside.table.shared.key in
    let known = c.requires.hold.2 in
    let heavy : 2 ≤ c.hold.inside.seat.me.0.weight =
    omega (arith, ap (λ h. h.view.weight) c.hold.view_is, known.weight_is, c.requires.hold.1) in (
      ap (λ h. h.table) c.hold.view_is ∙ known.table_is ∙ sym (ap (λ w. w.table) c.self.view_is),
      some_words g.row.K key _ _ c.self.invariant.entries.words_are c.self.invariant.one
          (ap (λ w. w.series) c.self.view_is) c.requires.some,
      splits g.row.K key _ _ heavy,
    )

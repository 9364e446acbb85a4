use Rattle.std.proofs.Common.{sym, ap, ◌∙◌}
use Rattle.mp_topk.proofs.Stepping.{joins, some_words}
use Rattle.mp_topk.proofs.words.RankWords.join.Goals as goal

pub join_seat-requires : goal.join_seat-requires
join_seat-requires g c =
    let key = c.self.inside.table.shared.key in
    let known = c.requires.hold.1 in
    let others = c.requires.other.1 in
    let table = sym (ap (λ w. w.table) c.self.view_is) in (
      ap (λ h. h.table) c.hold.view_is ∙ known.table_is ∙ table,
      ap (λ h. h.table) c.other.view_is ∙ others.table_is ∙ table,
      c.other.invariant,
      some_words g.row.K key _ _ c.self.invariant.entries.words_are c.self.invariant.one
          (ap (λ w. w.series) c.self.view_is) c.requires.some,
      joins g.row.K key _ _ _ _ (ap (λ h. h.view.carried) c.hold.view_is ∙ known.idle)
          (ap (λ h. h.view.carried) c.other.view_is ∙ others.idle),
    )

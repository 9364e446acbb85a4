use Rattle.std.proofs.Common.{ap, ◌∙◌, sym, arith}
use Rattle.mp_workers.proofs.Drawing.{joins}
use Rattle.mp_workers.proofs.desks.Desk.join.Goals as goal

pub join_seat-requires : goal.join_seat-requires
join_seat-requires c =
    let desk = c.self.view_is in (
      ap (λ p. p.desk.table) c.pass.view_is ∙ ap (λ d. d.table) c.requires.desk ∙ sym (ap (λ d. d.table) desk),
      ap (λ p. p.desk.table) c.other.view_is ∙ ap (λ d. d.table) c.requires.other ∙ sym (ap (λ d. d.table) desk),
      c.other.invariant.0,
      omega (arith, c.self.invariant.words),
      joins _ _ _ _ _ c.pass.invariant.1,
    )

use Rattle.std.proofs.Common.{ap, ◌∙◌, sym, arith}
use Rattle.mp_workers.proofs.Drawing.{splits}
use Rattle.mp_workers.proofs.desks.Desk.split.Goals as goal

pub split_seat-requires : goal.split_seat-requires
split_seat-requires c =
    let pass = c.pass.view_is in
    let desk = c.self.view_is in (
      ap (λ p. p.desk.table) pass ∙ ap (λ d. d.table) c.requires.desk ∙ sym (ap (λ d. d.table) desk),
      omega (arith, c.self.invariant.words),
      splits _ _ _ (ap (λ p. p.drawn) pass ∙ c.requires.unused) (rw (ap (λ p. p.weight) pass) c.requires.weight),
    )

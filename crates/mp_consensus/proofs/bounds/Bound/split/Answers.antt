use Rattle.std.proofs.Common.{ap, ◌∙◌, sym, arith}
use Rattle.mp_consensus.proofs.Bounding.{splits}
use Rattle.mp_consensus.proofs.bounds.Bound.split.Goals as goal

pub split_seat-requires : goal.split_seat-requires
split_seat-requires c = (
  ap (λ l. l.bound.table) c.looker.view_is ∙ ap (λ b. b.table) c.requires ∙ sym (ap (λ b. b.table) c.self.view_is),
  omega (arith, c.self.invariant),
  splits _ _,
)

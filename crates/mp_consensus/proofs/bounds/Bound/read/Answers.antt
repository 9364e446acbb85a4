use Rattle.std.proofs.Common.{ap, ◌∙◌, sym, arith}
use Rattle.mp_consensus.proofs.Bounding.{allows_read}
use Rattle.mp_consensus.proofs.bounds.Bound.read.Goals as goal

pub load-word-requires : goal.load-word-requires
load-word-requires c = (
  ap (λ l. l.bound.table) c.looker.view_is ∙ ap (λ b. b.table) c.requires ∙ sym (ap (λ b. b.table) c.self.view_is),
  omega (arith, c.self.invariant),
  allows_read _ _ _,
)

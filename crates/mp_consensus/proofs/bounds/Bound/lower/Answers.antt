use Rattle.std.proofs.Common.{ap, ◌∙◌, sym, arith}
use Rattle.mp_consensus.proofs.Bounding.{allows_lower}
use Rattle.mp_consensus.proofs.bounds.Bound.lower.Goals as goal

pub fetch_min-before-requires : goal.fetch_min-before-requires
fetch_min-before-requires c =
    let least = ap (λ l. l.least) c.looker.view_is in (
      ap (λ l. l.bound.table) c.looker.view_is ∙ ap (λ b. b.table) c.requires.bound
          ∙ sym (ap (λ b. b.table) c.self.view_is),
      omega (arith, c.self.invariant),
      allows_lower _ _ _ _ (c.requires.radius.0, least ∙ c.requires.radius.1, c.requires.radius.2) (omega arith),
    )

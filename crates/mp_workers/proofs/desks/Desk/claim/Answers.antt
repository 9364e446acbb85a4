use Rattle.std.proofs.Common.{◌≡◌, ap, ◌∙◌, sym, arith}
use Rattle.mp_workers.proofs.Drawing.{allows_claim}
use Rattle.mp_workers.proofs.desks.Desk.claim.Goals as goal

pub fetch_add-requires : goal.fetch_add-requires
fetch_add-requires c =
    let pass = c.pass.view_is in
    let desk = c.self.view_is in
    let fact = c.self.invariant in
    let pieces : c.self.inside.table.shared.key ≡ c.args.self.now.pieces = fact.key_is ∙ ap (λ d. d.pieces) desk in (
      ap (λ p. p.desk.table) pass ∙ ap (λ d. d.table) c.requires.desk ∙ sym (ap (λ d. d.table) desk),
      omega (arith, fact.words),
      allows_claim c.self.inside.table.shared.key _ _ _ (rw fact.key_is fact.few)
          (rw (pieces, ap (λ p. p.drawn) pass, ap (λ p. p.weight) pass) c.requires.room),
    )

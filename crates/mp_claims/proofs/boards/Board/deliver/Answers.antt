use Rattle.std.proofs.Common.{◌≡◌, List, length, map, subst, sym, ap, ◌∙◌}
use Rattle.std.proofs.lemmas.List.{length-map, with_items_is}
use Rattle.mp_claims.specs.declared.states.PieceState.{PieceState}
use Rattle.mp_claims.specs.Cores.{handed_over}
use Rattle.mp_claims.specs.Boards.{IsBoard}
use Rattle.mp_claims.proofs.Boarding.{deliver_kept}
use Rattle.mp_claims.proofs.boards.Board.deliver.Goals as goal

pub invariant_of-self : goal.invariant_of-self
invariant_of-self c =
    let pieces : List PieceState = c.self.inside.pieces.items in
    let new : c.deliver_each.new.pieces ≡ map (handed_over c.args.w) pieces =
    c.deliver_each.ensures ∙ ap (map (handed_over c.args.w)) c.as_mut_slice.ensures.value in
    let long : length c.deliver_each.new.pieces ≡ c.self.inside.pieces.len =
    ap length new ∙ length-map pieces (handed_over c.args.w) ∙ sym c.self.inside.pieces.ok.0 in
    subst (λ (pieces : List PieceState). IsBoard c.self.inside.next c.self.inside.workers.items pieces)
    (sym (with_items_is c.self.inside.pieces c.deliver_each.new.pieces long ∙ new))
    (deliver_kept c.self.inside.next c.args.w c.self.inside.workers.items pieces c.self.invariant)

pub returns-clause-once : goal.returns-clause-once
returns-clause-once c = (invariant_of-self c).sound.once

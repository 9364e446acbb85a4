use Rattle.std.proofs.Common.{◌≡◌, ◌<◌, length, subst, sym, arith}
use Rattle.std.specs.Prelude.{None, Some, slice_get}
use Rattle.mp_claims.specs.Cores.{CoreState, finish_refusal}
use Rattle.mp_claims.specs.declared.states.WorkerState.TheVariants.{Holds}
use Rattle.mp_claims.proofs.Boarding.{is_holding, held_within, finish_kept}
use Rattle.mp_claims.proofs.boards.Board.finish.Goals as goal

pub index_mut-requires-2 : goal.index_mut-requires-2
index_mut-requires-2 c =
    omega (
      arith,
      c.self.inside.pieces.ok,
      held_within c.self.inside.next c.args.w c.in-Holds.piece c.self.inside.workers.items c.self.inside.pieces.items
          c.self.invariant
          (is_holding c.self.inside.workers.items c.args.w c.in-Holds.piece c.index.result.now
          (subst (λ (state : CoreState). finish_refusal (slice_get state.workers c.args.w) ≡ None)
          (sym c.self.view_is) c.requires)
          c.index.ensures c.in-Holds.is),
    )

pub invariant_of-self : goal.invariant_of-self
invariant_of-self c =
    finish_kept c.self.inside.next c.args.w c.in-Holds.piece c.self.inside.workers.items c.self.inside.pieces.items
    c.self.invariant
    (is_holding c.self.inside.workers.items c.args.w c.in-Holds.piece c.index.result.now
    (subst (λ (state : CoreState). finish_refusal (slice_get state.workers c.args.w) ≡ None)
    (sym c.self.view_is) c.requires)
    c.index.ensures c.in-Holds.is)

pub returns-clause-once : goal.returns-clause-once
returns-clause-once c = (invariant_of-self c).sound.once

pub returns-clause-piece : goal.returns-clause-piece
returns-clause-piece c =
    subst (λ (state : CoreState). slice_get state.workers c.args.w ≡ Some (Holds c.in-Holds.piece)) c.self.view_is
    (is_holding c.self.inside.workers.items c.args.w c.in-Holds.piece c.index.result.now
    (subst (λ (state : CoreState). finish_refusal (slice_get state.workers c.args.w) ≡ None)
    (sym c.self.view_is) c.requires)
    c.index.ensures c.in-Holds.is)

pub returns-clause-within : goal.returns-clause-within
returns-clause-within c =
    subst (λ (state : CoreState). c.in-Holds.piece < length state.pieces) c.self.view_is
    (held_within c.self.inside.next c.args.w c.in-Holds.piece c.self.inside.workers.items c.self.inside.pieces.items
    c.self.invariant
    (is_holding c.self.inside.workers.items c.args.w c.in-Holds.piece c.index.result.now
    (subst (λ (state : CoreState). finish_refusal (slice_get state.workers c.args.w) ≡ None)
    (sym c.self.view_is) c.requires)
    c.index.ensures c.in-Holds.is))

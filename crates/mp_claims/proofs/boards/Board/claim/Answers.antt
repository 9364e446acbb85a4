use Rattle.std.proofs.Common.{◌≡◌, subst, sym, arith}
use Rattle.std.specs.Prelude.{None, slice_get}
use Rattle.std.proofs.lemmas.Option.{slice_get_within}
use Rattle.mp_claims.specs.Cores.{CoreState, claim_refusal}
use Rattle.mp_claims.specs.declared.states.WorkerState.TheVariants.{Free}
use Rattle.mp_claims.proofs.Boarding.{is_free, claim_kept, spend_kept}
use Rattle.mp_claims.proofs.boards.Board.claim.Goals as goal

pub invariant_of-self : goal.invariant_of-self
invariant_of-self c =
    claim_kept c.self.inside.next c.args.w c.self.inside.workers.items c.self.inside.pieces.items c.self.invariant
    (subst (λ (state : CoreState). claim_refusal (slice_get state.workers c.args.w) ≡ None)
    (sym c.self.view_is) c.requires)
    (omega arith)

pub returns-then-piece-len-clause-once : goal.returns-then-piece-len-clause-once
returns-then-piece-len-clause-once c = (invariant_of-self c).sound.once

pub index_mut-requires-else-piece-len : goal.index_mut-requires-else-piece-len
index_mut-requires-else-piece-len c =
    omega (
      arith,
      c.self.inside.workers.ok,
      slice_get_within c.self.inside.workers.items c.args.w Free
          (is_free (slice_get c.self.inside.workers.items c.args.w)
          (subst (λ (state : CoreState). claim_refusal (slice_get state.workers c.args.w) ≡ None)
          (sym c.self.view_is) c.requires)),
    )

pub invariant_of-self-else-piece-len : goal.invariant_of-self-else-piece-len
invariant_of-self-else-piece-len c =
    spend_kept c.self.inside.next c.args.w c.self.inside.workers.items c.self.inside.pieces.items c.self.invariant
    (subst (λ (state : CoreState). claim_refusal (slice_get state.workers c.args.w) ≡ None)
    (sym c.self.view_is) c.requires)
    (omega arith)

pub returns-else-piece-len-clause-once : goal.returns-else-piece-len-clause-once
returns-else-piece-len-clause-once c = (invariant_of-self-else-piece-len c).sound.once

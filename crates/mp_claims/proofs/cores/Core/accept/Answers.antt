use Rattle.std.proofs.Common.{◌≡◌, subst, ap, ◌∙◌, arith}
use Rattle.std.specs.Prelude.{None, Option, slice_get}
use Rattle.mp_claims.specs.declared.events.Event.{Event}
use Rattle.mp_claims.specs.declared.states.WorkerState.{WorkerState}
use Rattle.mp_claims.specs.Cores.{refusal, finished_by, held_by}
use Rattle.mp_claims.proofs.Boarding.{is_held}
use Rattle.mp_claims.proofs.Partials.{deliverer_is_worker}
use Rattle.mp_claims.proofs.Totals.{claim_stands, finish_stands, deliver_stands}
use Rattle.mp_claims.proofs.cores.Core.accept.Goals as goal

pub returns-in-Claim-clause-stands : goal.returns-in-Claim-clause-stands
returns-in-Claim-clause-stands g c =
    claim_stands g.P.Part.merged (g.P.Part.unit_of c.args.self.now.size) (g.K.Kernel.value_of c.args.kernel.now)
    c.in-Claim.w
    c.args.self.now c.claim.new.self c.requires.once c.claim.ensures.state c.claim.ensures.total
    c.claim.ensures.partials

pub returns-in-Finish-clause-stands : goal.returns-in-Finish-clause-stands
returns-in-Finish-clause-stands g c =
    -- what is known of a part and of a kernel holds in every thread, this one among them
    let part = g.met.P.Part g.world.𝓛 g.world.𝓜 g.world.𝓡 ((λ s x. x), (λ x. x), (λ x. x), λ x. x) in
    let kernel = g.met.K.Kernel g.world.𝓛 g.world.𝓜 g.world.𝓡 ((λ s x. x), (λ x. x), (λ x. x), λ x. x) in
    let core = c.args.self.now in
    let value = g.K.Kernel.value_of c.args.kernel.now in
    let held = is_held (slice_get c.args.self.now.state.workers c.in-Finish.w)
    (subst (λ (event : Event). refusal c.args.self.now.state event ≡ None) c.in-Finish.is c.requires.accepted) in
    finish_stands g.P.Part.is_value g.P.Part.unit_of g.P.Part.merged part.laws core.size value c.in-Finish.w held.0
    core c.finish.new.self c.requires.once
    (λ j lt. subst (λ n. g.P.Part.is_value n (g.K.Kernel.value_of c.args.kernel.now j)) c.requires.size
    (kernel.has_values c.args.kernel.now j (omega (arith, c.requires.pieces))))
    held.1
    (c.finish.ensures.state
    ∙ ap (λ (worker : Option WorkerState). finished_by c.in-Finish.w (held_by worker) c.args.self.now.state) held.1)
    c.finish.ensures.total (c.finish.ensures.partials held.0 held.1)

pub returns-in-Deliver-clause-stands : goal.returns-in-Deliver-clause-stands
returns-in-Deliver-clause-stands g c =
    let part = g.met.P.Part g.world.𝓛 g.world.𝓜 g.world.𝓡 ((λ s x. x), (λ x. x), (λ x. x), λ x. x) in
    let kernel = g.met.K.Kernel g.world.𝓛 g.world.𝓜 g.world.𝓡 ((λ s x. x), (λ x. x), (λ x. x), λ x. x) in
    let core = c.args.self.now in
    let value = g.K.Kernel.value_of c.args.kernel.now in
    deliver_stands g.P.Part.is_value g.P.Part.unit_of g.P.Part.merged part.laws core.size value c.in-Deliver.w
    core c.deliver.new.self
    (λ j lt. subst (λ n. g.P.Part.is_value n (g.K.Kernel.value_of c.args.kernel.now j)) c.requires.size
    (kernel.has_values c.args.kernel.now j (omega (arith, c.requires.pieces))))
    (deliverer_is_worker c.args.self.now.state.workers c.in-Deliver.w
    (subst (λ (event : Event). refusal c.args.self.now.state event ≡ None) c.in-Deliver.is c.requires.accepted))
    c.deliver.ensures.state c.deliver.ensures.total c.deliver.ensures.partials

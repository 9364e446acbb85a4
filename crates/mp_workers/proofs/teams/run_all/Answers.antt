use Rattle.std.proofs.Common.{ap, ◌∙◌, arith}
use Rattle.std.specs.Prelude.{replicate}
use Rattle.std.proofs.lemmas.Result.{IfOk-weaker}
use Rattle.mp_workers.proofs.PartLaws.{all_alike}
use Rattle.mp_workers.proofs.Teaming.{all_is_value}
use Rattle.mp_workers.proofs.teams.run_all.Goals as goal

pub run_from-requires-clause-alike : goal.run_from-requires-clause-alike
run_from-requires-clause-alike g c _ _ =
    -- what is known of a part holds in every thread, this one among them
    let part_laws = g.met.K.Out.Part g.world.𝓛 g.world.𝓜 g.world.𝓡 ((λ s x. x), (λ x. x), (λ x. x), λ x. x) in
    let part = g.K.Out.Part in
    let size = g.K.Kernel.size_of c.args.kernel.now in (
      part.unit_of size,
      part_laws.laws.unit_is_value size,
      all_alike part.size_of part.value size (part.unit_of size) c.in_ok-parts.parts.items _ _
          (c.in_ok-parts.ensures.sizes ∙ ap (replicate c.with_work.result) c.size.ensures)
          (c.in_ok-parts.ensures.values ∙ ap (λ n. replicate c.with_work.result (part.unit_of n)) c.size.ensures),
    )

pub returns-clause-value : goal.returns-clause-value
returns-clause-value g c =
    let part_laws = g.met.K.Out.Part g.world.𝓛 g.world.𝓜 g.world.𝓡 ((λ s x. x), (λ x. x), (λ x. x), λ x. x) in
    let kernel_laws = g.met.K.Kernel g.world.𝓛 g.world.𝓜 g.world.𝓡 ((λ s x. x), (λ x. x), (λ x. x), λ x. x) in
    let part = g.K.Out.Part in
    let kernel = g.K.Kernel in
    let size = kernel.size_of c.args.kernel.now in
    IfOk-weaker c.run_from.result _ _
    (λ out value. value (part.unit_of size) (part_laws.laws.unit_is_value size)
    (all_alike part.size_of part.value size (part.unit_of size) c.in_ok-parts.parts.items _ _
    (c.in_ok-parts.ensures.sizes ∙ ap (replicate c.with_work.result) c.size.ensures)
    (c.in_ok-parts.ensures.values ∙ ap (λ n. replicate c.with_work.result (part.unit_of n)) c.size.ensures))
    ∙ part_laws.laws.unit_first size _
    (all_is_value part.is_value part.unit_of part.merged part_laws.laws size (kernel.value_of c.args.kernel.now)
    c.args.pieces (λ k lt. kernel_laws.has_values c.args.kernel.now k (omega (arith, lt, c.requires.of_kernel)))))
    c.run_from.ensures.value

use Rattle.std.proofs.Common.{subst, ◌∙◌, arith}
use Rattle.mp_partial.proofs.InOrder.{below_more}
use Rattle.mp_partial.proofs.order.run_in_order.Goals as goal

pub loop-piece-preserved : goal.loop-piece-preserved
loop-piece-preserved g c =
    -- what is known of a part and of a kernel holds in every thread, this one among them
    let part_laws = g.met.K.Out.Part g.world.𝓛 g.world.𝓜 g.world.𝓡 ((λ s x. x), (λ x. x), (λ x. x), λ x. x) in
    let kernel_laws = g.met.K.Kernel g.world.𝓛 g.world.𝓜 g.world.𝓡 ((λ s x. x), (λ x. x), (λ x. x), λ x. x) in
    let kernel = g.K.Kernel in
    let part = g.K.Out.Part in
    let before = c.loop-piece.invariant in
    let size = c.run.ensures.size ∙ before.size in
    record {
      value = below_more part.is_value part.unit_of part.merged part_laws.laws
          (kernel.size_of c.args.kernel.now) (kernel.value_of c.args.kernel.now) c.loop-piece.piece
          (λ k lt. kernel_laws.has_values c.args.kernel.now k (omega arith)) _ _ before.value c.run.ensures.value;
      size = size;
      is_value = subst (λ n. part.is_value n (part.value c.run.new.into)) size c.run.ensures.is_value;
    }

use Rattle.std.proofs.Common.{◌≡◌}
use Rattle.mp_partial.specs.Values.{merged_below}
use Rattle.mp_partial.proofs.order.run_in_order.Given as goal

abbrev pub invariant-loop-piece : goal.invariant-loop-piece
invariant-loop-piece g l =
    let kernel = g.K.Kernel in
    let part = g.K.Out.Part in
    record {
      value : part.value l.out
          ≡ merged_below part.merged (part.unit_of (kernel.size_of l.kernel)) (kernel.value_of l.kernel) l.piece;
      size : part.size_of l.out ≡ kernel.size_of l.kernel;
      is_value : part.is_value (kernel.size_of l.kernel) (part.value l.out);
    }

use Rattle.std.proofs.Common.{◌-◌, ◌≡◌, ℕ, ◌<◌, List, [], ◌∷◌, ◌++◌, All}
use Rattle.mp_partial.specs.Values.{merged_over}
use Rattle.mp_workers.proofs.desks.Desk.work.Given as goal

abbrev pub invariant-loop-piece : goal.invariant-loop-piece
invariant-loop-piece g l =
    let kernel = g.K.Kernel in
    let part = g.K.Out.Part in
    let places = kernel.size_of l.kernel in
    record {
      desk : l.pass.desk ≡ l.self;
      weight : l.pass.weight ≡ l.fn.pass.weight;
      size : part.size_of l.into ≡ places;
      room : part.room_of l.into ≡ part.room_of l.fn.into;
      is_value : part.is_value places (part.value l.into);
      drawn : (numbers : List ℕ) × (l.pass.drawn ≡ l.fn.pass.drawn ++ numbers ++ l.piece ∷ [])
          × All (λ number. number < l.self.pieces) numbers
          × (part.value l.into ≡ part.merged (part.value l.fn.into)
          (merged_over part.merged (part.unit_of places) (kernel.value_of l.kernel) numbers));
    }

abbrev pub decreases-loop-piece : goal.decreases-loop-piece
decreases-loop-piece g l = l.self-inside.pieces - l.piece

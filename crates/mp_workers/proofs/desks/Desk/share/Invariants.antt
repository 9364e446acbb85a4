use Rattle.std.proofs.Common.{◌-◌, ◌≡◌, ℕ, ◌<◌, List, [], ◌∷◌, ◌++◌, All}
use Rattle.mp_workers.specs.Sharing.{HasPieces}
use Rattle.mp_workers.proofs.desks.Desk.share.Given as goal

abbrev pub invariant-loop-piece : goal.invariant-loop-piece
invariant-loop-piece g l =
    let work = g.S.Sharing in
    let part = g.S.Out.Part in
    let places = work.size_of l.work in
    record {
      desk : l.pass.desk ≡ l.self;
      weight : l.pass.weight ≡ l.fn.pass.weight;
      size : part.size_of l.into ≡ places;
      is_value : part.is_value places (part.value l.into);
      drawn : (numbers : List ℕ) × (l.pass.drawn ≡ l.fn.pass.drawn ++ numbers ++ l.piece ∷ [])
          × All (λ number. number < l.self.pieces) numbers
          × HasPieces part.merged (work.value_of l.work) (work.whole l.work) (part.value l.into) numbers;
    }

abbrev pub decreases-loop-piece : goal.decreases-loop-piece
decreases-loop-piece g l = l.self-inside.pieces - l.piece

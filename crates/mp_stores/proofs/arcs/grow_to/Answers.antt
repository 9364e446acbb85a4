use Rattle.std.proofs.Common.{◌∙◌, [], ◌∷◌, ap, arith, get_or, length}
use Rattle.std.specs.Prelude.{None}
use Rattle.std.proofs.lemmas.List.{length-append}
use Rattle.mp_stores.proofs.ArcLemmas.{same_behind}
use Rattle.mp_stores.proofs.arcs.grow_to.Goals as goal

pub loop-preserved : goal.loop-preserved
loop-preserved c =
    let before = c.loop.board.items in
    let count = ap length c.grow.ensures.items ∙ length-append before (None ∷ []) in
    record {
      long = omega (arith, count, c.loop.invariant.long);
      room = omega (arith, count, c.loop.invariant.room, c.grow.ensures.spare);
      same = λ i. ap (λ items. get_or items i None) c.grow.ensures.items ∙ (same_behind before i
          ∙ c.loop.invariant.same i);
    }

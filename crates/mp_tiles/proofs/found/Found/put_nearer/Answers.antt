use Rattle.std.proofs.Common.{◌≡◌, ◌<◌, ◌++◌, [], ◌∷◌, length, take, get_or, arith, ap, sym, ◌∙◌}
use Rattle.std.specs.Prelude.{None}
use Rattle.std.proofs.lemmas.List.{take_more, take_all}
use Rattle.std.proofs.lemmas.Simd.{get_or-zip2, length-zip2}
use Rattle.mp_nums.specs.Near.{nearer_of}
use Rattle.mp_partial.specs.Values.{merged_column}
use Rattle.mp_tiles.proofs.found.Found.put_nearer.Goals as goal

pub loop-k-preserved : goal.loop-k-preserved
loop-k-preserved c =
    let left = c.self.inside.left.slots in
    let right = c.self.inside.right.slots in
    let k = c.loop-k.k in
    let both = merged_column left right in
    let places : length both ≡ length left = length-zip2 nearer_of left right (sym c.self.invariant) in
    let lt : k < length left = omega (arith, c.loop-k-test.true, c.len-k-end.ensures) in
    let there : k < length right = omega (arith, lt, c.self.invariant) in
    let nearer : c.nearer.result ≡ get_or both k None =
    c.nearer.ensures ∙ ap (λ slot. nearer_of slot c.slot-in-loop-k.result) c.slot.ensures
    ∙ ap (nearer_of (get_or left k None)) c.slot-in-loop-k.ensures
    ∙ sym (get_or-zip2 nearer_of left right k None None None lt there) in
    record {
      nearer = (rw c.unwrap.ensures at c.push.ensures.ok)
          ∙ ap (λ items. items ++ c.nearer.result ∷ []) c.loop-k.invariant.nearer
          ∙ ap (λ slot. take k both ++ slot ∷ []) nearer ∙ sym (take_more both k None (omega (arith, lt, places)));
      room = omega (arith, c.push.ensures.spare, c.loop-k.invariant.room);
    }

pub returns : goal.returns
returns c =
    let left = c.self.inside.left.slots in
    let right = c.self.inside.right.slots in
    let both = merged_column left right in
    let places : length both ≡ length left = length-zip2 nearer_of left right (sym c.self.invariant) in
    c.loop-k.invariant.nearer
    ∙ take_all c.loop-k.k both (omega (arith, c.loop-k-test.false, c.len-k-end.ensures, places))
    ∙ ap (λ sides. merged_column sides.left sides.right) c.self.view_is

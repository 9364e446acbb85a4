use Rattle.std.proofs.Common.{◌≡◌, ◌+◌, ◌<◌, ◌∙◌, ℤ, length, get_or, ap, arith, rules, subst, sym, w32, FitsSigned}
use Rattle.std.specs.Prelude.{None}
use Rattle.std.proofs.lemmas.Int.{to_z-of_z}
use Rattle.std.proofs.lemmas.List.{get_or_default}
use Rattle.mp_nums.specs.Near.{nearer_of}
use Rattle.mp_sums.specs.Residues.{item}
use Rattle.mp_tiles.specs.Compact.{slot_bound}
use Rattle.mp_tiles.proofs.ColumnLemmas.{AreMergedBelow, merged_next, all_merged}
use Rattle.mp_tiles.proofs.columns.merge_alike.Goals as goal

pub loop-k-preserved : goal.loop-k-preserved
loop-k-preserved c =
    let k = c.loop-k.k in
    let others = c.args.others.now in
    let lt : k < length others = omega arith in
    let bound : ℤ = item c.args.other_bounds.now k in
    let fits : FitsSigned w32 bound = search rules in
    let there : c.index-others-k.result ≡ get_or others k None =
    c.index-others-k.is ∙ get_or_default others k c.index-others-k.result None lt in
    record {
      slots = subst (AreMergedBelow (k + 1) c.args.slots.now others) (sym c.take_at.ensures.slots)
          (merged_next k c.args.slots.now others c.loop-k.slots _ (omega arith) c.loop-k.invariant.slots
          (ap (nearer_of (get_or c.loop-k.slots k None)) there));
      bounds = λ m shift own other.
          c.take_at.ensures.bounds m shift (c.loop-k.invariant.bounds m shift own other)
          (to_z-of_z w32 bound fits ∙ other.each k lt ∙ ap (slot_bound m shift) (sym there));
    }

pub returns-clause-slots : goal.returns-clause-slots
returns-clause-slots c =
    all_merged c.loop-k.k c.args.slots.now c.args.others.now c.loop-k.slots c.requires.others (omega arith)
    c.loop-k.invariant.slots

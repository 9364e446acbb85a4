use Rattle.std.proofs.Common.{◌+◌, ◌∙◌, ap, arith, refl, rules, w32, FitsSigned}
use Rattle.std.proofs.lemmas.Int.{to_z-of_z}
use Rattle.mp_sums.specs.Residues.{item}
use Rattle.mp_partial.specs.Values.{Column}
use Rattle.mp_tiles.specs.Scanning.{taken}
use Rattle.mp_anytime.specs.Told.{lanes_by, slot_by, slots_by}
use Rattle.mp_anytime.proofs.Told.{lower_same, lower_then, none_taken, one_more}
use Rattle.mp_anytime.proofs.bounds.take_lanes.Goals as goal

pub loop-k-init : goal.loop-k-init
loop-k-init c = record {
  slots = none_taken _ c.args.place (lanes_by c.args.residues.now c.args.first);
  told = c.requires.told;
  lower = lower_same c.args.windows.now;
  starts = refl;
}

pub loop-k-preserved : goal.loop-k-preserved
loop-k-preserved c =
    let k = c.loop-k.k in
    let place = c.args.place in
    let found = lanes_by c.args.residues.now c.args.first in
    let here = item c.args.residues.now k in
    let old = slots_by c.args.windows.now c.args.starts.now in
    let fits : FitsSigned w32 here = search rules in record {
      slots = c.take_at.ensures.slots
          ∙ ap (λ z. taken (slots_by c.loop-k.windows c.loop-k.starts) (place + k) (slot_by z (c.args.first + k)))
          (to_z-of_z w32 here fits)
          ∙ ap (λ (v : Column). taken v (place + k) (found k)) c.loop-k.invariant.slots ∙ one_more old place found k;
      told = c.take_at.ensures.told;
      lower = lower_then _ _ _ c.loop-k.invariant.lower c.take_at.ensures.lower;
      starts = c.take_at.ensures.starts ∙ c.loop-k.invariant.starts;
    }

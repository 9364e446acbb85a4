use Rattle.std.proofs.Common.{◌∙◌, ap, arith, get_or, refl, rules, sym, w32, FitsSigned}
use Rattle.std.proofs.lemmas.Int.{to_z-of_z}
use Rattle.mp_sums.specs.Residues.{item}
use Rattle.mp_anytime.specs.Told.{slot_by, slots_by}
use Rattle.mp_anytime.proofs.SlotLemmas.{all_merged, merged_next, none_merged}
use Rattle.mp_anytime.proofs.Told.{lower_same, lower_then, slot_there, slots_long}
use Rattle.mp_anytime.proofs.bounds.take_others.Goals as goal

pub loop-place-init : goal.loop-place-init
loop-place-init c = record {
  merged = none_merged (slots_by c.args.windows.now c.args.starts.now)
      (slots_by c.args.others.now c.args.other_starts.now);
  told = c.requires.told;
  lower = lower_same c.args.windows.now;
  starts = refl;
}

pub loop-place-preserved : goal.loop-place-preserved
loop-place-preserved c =
    let windows = c.args.windows.now in
    let starts = c.args.starts.now in
    let others = c.args.others.now in
    let other_starts = c.args.other_starts.now in
    let place = c.loop-place.place in
    let fits : FitsSigned w32 (item others place) = search rules in
    record {
      merged = merged_next place (slots_by windows starts) (slots_by others other_starts) _ _ _
          (omega (
            arith,
            slots_long windows starts c.requires.starts,
            c.requires.others,
            c.loop-place-test.true,
            c.loop-place.auto.place-end,
          ))
          c.loop-place.invariant.merged
          (ap (λ z. slot_by z (get_or other_starts place 0)) (to_z-of_z w32 (item others place) fits)
          ∙ sym (slot_there others other_starts place (c.requires.other_starts ∙ sym c.requires.others)
          (omega (arith, c.loop-place-test.true, c.loop-place.auto.place-end))))
          c.take_at.ensures.slots;
      told = c.take_at.ensures.told;
      lower = lower_then _ _ _ c.loop-place.invariant.lower c.take_at.ensures.lower;
      starts = c.take_at.ensures.starts ∙ c.loop-place.invariant.starts;
    }

pub returns-clause-slots : goal.returns-clause-slots
returns-clause-slots c =
    let windows = c.args.windows.now in
    let starts = c.args.starts.now in
    let others = c.args.others.now in
    let other_starts = c.args.other_starts.now in
    all_merged c.loop-place.place (slots_by windows starts) (slots_by others other_starts) _
    (slots_long others other_starts (c.requires.other_starts ∙ sym c.requires.others) ∙ c.requires.others
    ∙ sym (slots_long windows starts c.requires.starts))
    (omega (
      arith,
      slots_long windows starts c.requires.starts,
      c.requires.others,
      c.loop-place-test.false,
      c.loop-place.auto.place-end,
    ))
    c.loop-place.invariant.merged

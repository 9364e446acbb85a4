use Rattle.std.proofs.Common.{◌∙◌, [], ◌∷◌, ap, arith, length, subst, sym}
use Rattle.std.proofs.lemmas.List.{length-append}
use Rattle.mp_stores.proofs.KeptLemmas.{AreSlots, all_slots, no_slots, one_slot}
use Rattle.mp_stores.proofs.live_windows.live_slots.Goals as goal

pub loop-i-init : goal.loop-i-init
loop-i-init c =
    let none = c.in_ok-slots.ensures.items in
    record {
      count = omega (arith, ap length none, c.first-first.ensures);
      slots = subst (AreSlots c.args.column c.args.kept.now) (sym none) (no_slots c.args.column c.args.kept.now);
    }

pub loop-i-preserved : goal.loop-i-preserved
loop-i-preserved c =
    let kept = c.args.kept.now in
    let slots = c.loop-i.slots.items in
    let pushed = c.in_ok-push.ensures.items in
    let long = ap length pushed ∙ length-append slots (c.slot.result ∷ []) in
    record {
      count = omega (arith, long, c.loop-i.invariant.count);
      slots =
          subst (AreSlots c.args.column kept) (sym pushed)
          (one_slot c.args.column kept slots c.slot.result c.loop-i.i c.loop-i.invariant.slots
          c.loop-i.invariant.count c.slot.ensures);
    }

pub returns-clause-count : goal.returns-clause-count
returns-clause-count c =
    omega (arith, ap length c.from.ensures, c.loop-i.invariant.count, c.first-first.ensures, c.live.ensures)

pub returns-clause-slots : goal.returns-clause-slots
returns-clause-slots c = λ samples stands.
    c.from.ensures
    ∙ all_slots c.args.column samples c.args.kept.now c.loop-i.slots.items stands
    (omega (arith, c.loop-i.invariant.count, c.first-first.ensures, c.live.ensures)) c.loop-i.invariant.slots

use Rattle.std.proofs.Common.{◌≡◌, ◌∙◌, arith, get_or, length, rules, subst, sym, true, false, w32, FitsSigned}
use Rattle.std.specs.Prelude.{None}
use Rattle.std.proofs.lemmas.Int.{to_z-of_z}
use Rattle.mp_scans.specs.Firsts.{first_at}
use Rattle.mp_scans.specs.Offering.{TellsNothing}
use Rattle.mp_scans.specs.Slots.{Covers}
use Rattle.mp_tiles.proofs.ColumnLemmas.{told_next}
use Rattle.mp_tiles.proofs.columns.fill_alike.Goals as goal
use Rattle.mp_tiles.proofs.columns.fill_alike.Goals.{then-free-k, else-free-k}

pub loop-k-preserved : goal.loop-k-preserved
loop-k-preserved c = elim c.if-free-k.branch [
  | then-free-k w ↦
      let k = c.loop-k.k in
      let slot = get_or c.args.slots.now k None in
      let rounding = c.args.rounding.now in
      let fits : FitsSigned w32 w.bound_at.result = search rules in
      let bound = w.bounds-is ∙ to_z-of_z w32 w.bound_at.result fits in
      told_next rounding.m rounding.shift (first_at c.args.firsts) (λ q. Covers (get_or c.args.slots.now q None))
      c.args.free.now c.loop-k.bounds (length c.args.bounds.now) k _ (omega arith) c.loop-k.invariant.places
      c.loop-k.invariant.done c.loop-k.invariant.fit
      (λ _. subst (TellsNothing rounding.m rounding.shift (first_at c.args.firsts k) (Covers slot)) (sym bound)
      (subst (λ f. TellsNothing rounding.m rounding.shift f (Covers slot) w.bound_at.result) w.at.ensures
      w.bound_at.ensures))
      (subst (FitsSigned w32) (sym bound) fits)
  | else-free-k w ↦
      let rounding = c.args.rounding.now in
      told_next rounding.m rounding.shift (first_at c.args.firsts) (λ q. Covers (get_or c.args.slots.now q None))
      c.args.free.now c.loop-k.bounds (length c.args.bounds.now) c.loop-k.k _ (omega arith)
      c.loop-k.invariant.places c.loop-k.invariant.done c.loop-k.invariant.fit
      (λ is. let clash : true ≡ false = sym is ∙ w.if-free-k.false in absurd (cc clash))
      (subst (FitsSigned w32) (sym w.bounds-is) (search rules))
]

use Rattle.std.proofs.Common.{◌≡◌, ◌+◌, ◌∙◌, ap, arith, subst, w32, FitsSigned}
use Rattle.std.specs.Prelude.{◌<ℤ◌}
use Rattle.mp_sums.specs.Residues.{item}
use Rattle.mp_anytime.proofs.Lanes.{handed_item, handed_on}
use Rattle.mp_anytime.proofs.found.bits_above.Goals as goal

pub load-requires-clause-fit : goal.load-requires-clause-fit
load-requires-clause-fit c = λ t lt.
    subst (λ q. FitsSigned w32 (item c.args.residues.now q)) (omega arith) (c.requires.residues.fit t lt)

pub lanes_above-requires-clause-residues : goal.lanes_above-requires-clause-residues
lanes_above-requires-clause-residues c = handed_on c.load.new.residues c.load.ensures.lanes

pub returns-clause-above : goal.returns-clause-above
returns-clause-above c = λ k lt is.
    let none : 0 + k ≡ k = omega arith in
    subst (λ z. item c.args.limits.now k <ℤ z)
    (handed_item c.load.new.residues k c.load.ensures.lanes lt ∙ c.load.ensures.loaded k lt
    ∙ ap (item c.args.residues.now) none)
    (c.lanes_above.ensures.above k lt is).1

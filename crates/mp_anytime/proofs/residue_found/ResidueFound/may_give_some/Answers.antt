use Rattle.std.proofs.Common.{◌+◌, ap, arith, get_or, subst}
use Rattle.std.specs.Prelude.{None}
use Rattle.std.proofs.lemmas.Bool.{or_parts}
use Rattle.mp_sums.specs.Residues.{item}
use Rattle.mp_partial.specs.Profiled.{Profiled}
use Rattle.mp_partial.specs.Values.{Column}
use Rattle.mp_anytime.specs.Bounds.{IsQuiet}
use Rattle.mp_anytime.proofs.residue_found.ResidueFound.may_give_some.Goals as goal

pub returns-clause-rows : goal.returns-clause-rows
returns-clause-rows c = λ is m k lt.
    subst (λ (v : Column). IsQuiet m 0 (get_or v (c.args.row + k) None) (item c.args.residues.now k))
    (ap (λ (v : Profiled). v.right) c.self.view_is)
    (c.may_take.ensures (or_parts c.may_take.result c.may_take-2.result is).0 m k
    (omega (arith, lt, c.requires.places)))

pub returns-clause-columns : goal.returns-clause-columns
returns-clause-columns c = λ is m k lt.
    subst (λ (v : Column). IsQuiet m 0 (get_or v (c.args.column + k) None) (item c.args.residues.now k))
    (ap (λ (v : Profiled). v.left) c.self.view_is)
    (c.may_take-2.ensures (or_parts c.may_take.result c.may_take-2.result is).1 m k
    (omega (arith, lt, c.requires.places)))

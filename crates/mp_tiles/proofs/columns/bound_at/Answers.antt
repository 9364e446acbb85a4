use Rattle.std.proofs.Common.{◌∙◌, ℤ, get_or, rules, w32, FitsSigned}
use Rattle.std.specs.Prelude.{None}
use Rattle.std.proofs.lemmas.Int.{to_z-of_z}
use Rattle.mp_sums.specs.Residues.{item}
use Rattle.mp_tiles.proofs.ColumnLemmas.{within_tells}
use Rattle.mp_tiles.proofs.columns.bound_at.Goals as goal

pub returns-then-is_apart : goal.returns-then-is_apart
returns-then-is_apart c =
    let rounding = c.args.rounding.now in
    let bound : ℤ = item c.args.bounds.now c.args.place in
    let fits : FitsSigned w32 bound = search rules in
    within_tells rounding.m rounding.shift c.args.first (get_or c.args.slots.now c.args.place None) _
    (to_z-of_z w32 bound fits ∙ c.requires.bounds.each c.args.place c.requires.place)

use Rattle.std.proofs.Common.{◌∙◌, ℤ, ap, arith, get_or, refl, rules, w32, FitsSigned}
use Rattle.std.specs.Prelude.{None}
use Rattle.std.proofs.lemmas.Int.{to_z-of_z}
use Rattle.mp_sums.specs.Residues.{item}
use Rattle.mp_sums.specs.ResidueLaws.{is_limit}
use Rattle.mp_tiles.specs.Compact.{slot_bound}
use Rattle.mp_tiles.proofs.ColumnLemmas.{within_tells}
use Rattle.mp_tiles.specs.Sides.{Stored}
use Rattle.mp_tiles.proofs.columns.Column.bound.Goals as goal

pub returns-else-at-len : goal.returns-else-at-len
returns-else-at-len c =
    let fits : FitsSigned w32 c.residue_limit.result = search rules in
    let told = is_limit c.args.rounding.now.m c.args.rounding.now.shift c.limit.result _
    (to_z-of_z w32 c.residue_limit.result fits ∙ c.residue_limit.ensures) in
    record { above = λ a i b j d there above index le. c.limit.ensures index d le (told.beyond a i b j d there above) }

pub returns-then-is_apart : goal.returns-then-is_apart
returns-then-is_apart c =
    let inside = c.self.inside in
    let rounding = c.args.rounding.now in
    let at = c.args.place in
    let bound : ℤ = item c.as_slice.result.now at in
    let fits : FitsSigned w32 bound = search rules in
    within_tells rounding.m rounding.shift c.args.first (get_or c.args.self.now.slots at None) _
    (to_z-of_z w32 bound fits
    ∙ ap (λ bounds. item bounds at) c.as_slice.ensures.value
    ∙ c.self.invariant.each at (omega (arith, c.if-at-len.true, c.len.ensures))
    ∙ ap (λ m. slot_bound m inside.rounding.shift (get_or inside.slots.items at None)) (c.if-are_alike.ensures.m refl)
    ∙ ap (λ shift. slot_bound rounding.m shift (get_or inside.slots.items at None)) (c.if-are_alike.ensures.shift refl)
    ∙ ap (λ (s : Stored). slot_bound rounding.m rounding.shift (get_or s.slots at None)) c.self.view_is)

use Rattle.std.proofs.Common.{◌+◌, ◌-◌, ◌*◌, ◌<◌, ◌∙◌, arith, rules, subst, sym, w32, FitsSigned, to_z, take, drop}
use Rattle.std.specs.Prelude.{◌≤ℤ◌, length}
use Rattle.std.proofs.lemmas.Int.{to_z-of_z}
use Rattle.mp_sums.specs.Residues.{item}
use Rattle.mp_anytime.proofs.Greatest.{greatest_found}
use Rattle.mp_anytime.proofs.bounds.find_greatest.Goals.{then-first-windows, else-first-windows}
use Rattle.mp_anytime.proofs.bounds.find_greatest.Goals as goal

pub returns : goal.returns
returns c =
    let block = c.args.block in
    let first = 32 * block in
    let windows = c.args.windows.now in
    let bits = c.if-first-windows.blocks-bits in
    let there : block < length c.args.blocks.now = omega (arith, c.requires.block, c.requires.greatest.places) in
    elim c.if-first-windows.branch [
      | then-first-windows w ↦
          let most = w.greatest_of.result in
          let fits : FitsSigned w32 most = search rules in
          greatest_found windows c.args.blocks.now block (first + 32 - first) (to_z w32 bits) c.requires.greatest there
          (λ k lt. subst (λ z. item (take (first + 32 - first) (drop first windows)) k ≤ℤ z)
          (sym (w.blocks-is ∙ to_z-of_z w32 most fits)) (w.greatest_of.ensures k lt))
          (λ k within near. omega (arith, near))
      | else-first-windows w ↦
          let most = w.greatest_of-else-first-windows.result in
          let fits : FitsSigned w32 most = search rules in
          greatest_found windows c.args.blocks.now block (length windows - first)
          (to_z w32 bits) c.requires.greatest there
          (λ k lt. subst (λ z. item (take (length windows - first) (drop first windows)) k ≤ℤ z)
          (sym (w.blocks-is ∙ to_z-of_z w32 most fits)) (w.greatest_of-else-first-windows.ensures k lt))
          (λ k within near. omega (arith, within, c.requires.block))
    ]

use Rattle.std.proofs.Common.{ℤ, ◌-ℤ◌, ◌∙◌, pos, to_z, of_z, arith, rules, subst, sym, w32, FitsSigned}
use Rattle.std.proofs.lemmas.Int.{ints, to_z-of_z}
use Rattle.mp_sums.specs.declared.limits.Limit.TheVariants.{Below}
use Rattle.mp_sums.specs.Residues.{IsLimitOf}
use Rattle.mp_sums.specs.ResidueLaws.{is_limit_before, is_limit_unrounded}
use Rattle.mp_sums.proofs.roundings.Rounding.limit_before.Goals as goal

pub returns-then-within-lt-ALWAYS : goal.returns-then-within-lt-ALWAYS
returns-then-within-lt-ALWAYS c =
    let fits : FitsSigned w32 c.args.within = search rules in
    let handed = to_z-of_z w32 c.args.within fits in
    let within : ℤ = to_z w32 (of_z w32 c.args.within) in
    let less : FitsSigned w32 (within -ℤ pos 1) = search rules in
    subst (IsLimitOf c.args.self.now.m c.args.self.now.shift (Below c.args.dist))
    (sym (to_z-of_z w32 (within -ℤ pos 1) less))
    (is_limit_unrounded c.args.self.now.m c.args.self.now.shift c.args.dist within c.if-self-eq0.true
    (handed ∙ c.requires) (omega (arith, ints, handed, c.if-within-lt-ALWAYS.true))
    (omega (arith, c.if-dist-eq0.false)))

pub returns-else-self-eq0 : goal.returns-else-self-eq0
returns-else-self-eq0 c =
    let fits : FitsSigned w32 c.args.within = search rules in
    is_limit_before c.args.self.now.m c.args.self.now.shift c.args.dist _
    (to_z-of_z w32 c.args.within fits ∙ c.requires)

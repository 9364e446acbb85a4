use Rattle.std.proofs.Common.{◌∙◌, rules, w32, FitsSigned}
use Rattle.std.proofs.lemmas.Int.{to_z-of_z}
use Rattle.mp_sums.specs.ResidueLaws.{is_limit}
use Rattle.mp_scans.proofs.offers.Offers.column_bound.Goals as goal

pub returns : goal.returns
returns g c =
    let fits : FitsSigned w32 c.residue_limit.result = search rules in
    let told = is_limit c.args.rounding.now.m c.args.rounding.now.shift c.column_limit.result _
    (to_z-of_z w32 c.residue_limit.result fits ∙ c.residue_limit.ensures) in
    record {
      above = λ a i b j d there above index le.
          c.column_limit.ensures index d le (told.beyond a i b j d there above);
    }

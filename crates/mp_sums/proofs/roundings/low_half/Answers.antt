use Rattle.std.proofs.Common.{◌∙◌, ◌%◌, ◌^◌, ap, w32, w64, to_z, of_z}
use Rattle.std.proofs.lemmas.Int.{to_z-of_z}
use Rattle.mp_sums.proofs.FillLemmas.{low_half_is}
use Rattle.mp_sums.proofs.roundings.low_half.Goals as goal

pub returns : goal.returns
returns c =
    to_z-of_z w32 c.cast_signed.result (record { sfits = c.cast_signed.type_inv }) ∙ c.cast_signed.ensures
    ∙ ap (λ n. to_z w32 (n % 2 ^ 32)) (c.cast_unsigned.ensures
    ∙ ap (of_z w64) (to_z-of_z w64 c.args.number c.ranges.number))
    ∙ low_half_is c.args.number c.ranges.number

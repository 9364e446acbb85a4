use Rattle.std.proofs.Common.{◌∙◌, ◌%◌, ◌^◌, ap, w16, w64, to_z, of_z}
use Rattle.std.proofs.lemmas.Int.{to_z-of_z}
use Rattle.mp_anytime.proofs.NarrowLemmas.{lower_bits_are}
use Rattle.mp_anytime.proofs.narrow.lower_bits.Goals as goal

pub returns : goal.returns
returns c =
    to_z-of_z w16 c.cast_signed.result (record { sfits = c.cast_signed.type_inv }) ∙ c.cast_signed.ensures
    ∙ ap (λ n. to_z w16 (n % 2 ^ 16)) (c.cast_unsigned.ensures
    ∙ ap (of_z w64) (to_z-of_z w64 c.args.number c.ranges.number))
    ∙ lower_bits_are c.args.number c.ranges.number

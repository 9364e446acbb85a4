use Rattle.std.proofs.Common.{Bool, List, ℕ, ap, arith, length}
use Rattle.mp_anytime.proofs.Marks.{all_places}
use Rattle.mp_anytime.proofs.bits.Bits.set.Goals as goal

pub set_bit-requires : goal.set_bit-requires
set_bit-requires c =
    omega (
      arith,
      c.requires,
      all_places c.self.inside.words.items,
      ap (λ (l : List Bool). length l) c.self.view_is,
      ap (λ (ws : List ℕ). length ws) c.as_mut_slice.ensures.value,
    )

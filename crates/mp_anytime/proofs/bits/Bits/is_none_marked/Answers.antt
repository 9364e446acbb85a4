use Rattle.std.proofs.Common.{◌∙◌, Bool, List, ℕ, ap, arith, false, get_or, length, sym}
use Rattle.mp_anytime.specs.Bits.{marks_in}
use Rattle.mp_anytime.proofs.Marks.{all_places}
use Rattle.mp_anytime.proofs.bits.Bits.is_none_marked.Goals as goal

pub is_none_marked-requires : goal.is_none_marked-requires
is_none_marked-requires c =
    omega (
      arith,
      c.requires,
      all_places c.self.inside.words.items,
      ap (λ (l : List Bool). length l) c.self.view_is,
      ap (λ (ws : List ℕ). length ws) c.as_slice.ensures.value,
    )

pub returns : goal.returns
returns c = λ none place behind before.
    sym (ap (λ (l : List Bool). get_or l place false) c.self.view_is)
    ∙ sym (ap (λ (ws : List ℕ). get_or (marks_in ws) place false) c.as_slice.ensures.value)
    ∙ c.is_none_marked.ensures none place behind before

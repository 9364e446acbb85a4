use Rattle.std.proofs.Common.{◌∙◌, Bool, List, ℕ, ap, arith, false, get_or, length, sym}
use Rattle.mp_anytime.specs.Bits.{is_set}
use Rattle.mp_anytime.proofs.Marks.{all_places, mark_at}
use Rattle.mp_anytime.proofs.bits.Bits.at.Goals as goal

pub bit_of-requires : goal.bit_of-requires
bit_of-requires c =
    omega (
      arith,
      c.requires,
      all_places c.self.inside.words.items,
      ap (λ (l : List Bool). length l) c.self.view_is,
      ap (λ (ws : List ℕ). length ws) c.as_slice.ensures.value,
    )

pub returns : goal.returns
returns c =
    let words = c.self.inside.words.items in
    c.bit_of.ensures ∙ ap (λ (ws : List ℕ). is_set ws c.args.place) c.as_slice.ensures.value
    ∙ sym (mark_at words c.args.place
    (omega (arith, c.requires, all_places words, ap (λ (l : List Bool). length l) c.self.view_is)))
    ∙ ap (λ (l : List Bool). get_or l c.args.place false) c.self.view_is

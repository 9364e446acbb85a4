use Rattle.std.proofs.Common.{◌≡◌, ◌∙◌, ℕ, arith, false, sym, true, w64}
use Rattle.std.specs.Prelude.{◌==◌}
use Rattle.std.proofs.lemmas.Bool.Decides.{nat_tests}
use Rattle.std.proofs.lemmas.Nat.Bits.{bit_at_clear_other, bit_at_clear_same, bit_at_set_other, bit_at_set_same}
use Rattle.mp_anytime.proofs.bits.with_bit.Goals as goal

is_one : (n : ℕ) → n ≡ 1 → (n == 1) ≡ true
is_one n e = grind (arith, nat_tests)

is_not_one : (n : ℕ) → n ≡ 0 → (n == 1) ≡ false
is_not_one n e = grind (arith, nat_tests)

pub returns-then-is_on-clause-same : goal.returns-then-is_on-clause-same
returns-then-is_on-clause-same c =
    is_one _ (bit_at_set_same w64 c.args.word c.args.place c.requires) ∙ sym c.if-is_on.true

pub returns-then-is_on-clause-other : goal.returns-then-is_on-clause-other
returns-then-is_on-clause-other c = λ k lt apart.
    bit_at_set_other w64 c.args.word c.args.place c.requires k apart

pub returns-else-is_on-clause-same : goal.returns-else-is_on-clause-same
returns-else-is_on-clause-same c =
    is_not_one _ (bit_at_clear_same w64 c.args.word c.args.place c.requires) ∙ sym c.if-is_on.false

pub returns-else-is_on-clause-other : goal.returns-else-is_on-clause-other
returns-else-is_on-clause-other c = λ k lt apart.
    bit_at_clear_other w64 c.args.word c.args.place c.requires k lt apart

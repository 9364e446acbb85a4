use Rattle.std.proofs.Common.{◌≡◌, ℕ, [], ◌∙◌, sym, false, arith}
use Rattle.std.proofs.lemmas.Bool.Decides.{nat_tests}
use Rattle.mp_results.specs.Reversal.{reversal}
use Rattle.mp_results.specs.Covering.{is_uncovered}
use Rattle.mp_anytime.proofs.waiting.Waiting.nothing.Goals as goal

no_window : (m x : ℕ) → is_uncovered m 0 [] x ≡ false
no_window m x = grind (arith, nat_tests)

pub returns : goal.returns
returns c = λ m. record {
  places = c.in_ok-none.ensures.places;
  each = λ place lt. c.in_ok-none.ensures.none place ∙ sym (no_window m (reversal place));
}

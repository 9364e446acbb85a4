use Rattle.std.proofs.Common.{◌≡◌, length}
use Rattle.mp_text.specs.SampleText.{without_trailing_blanks}
use Rattle.mp_text.proofs.spelling.without_trailing_blanks.Given as goal

abbrev pub invariant-loop-last : goal.invariant-loop-last
invariant-loop-last l = without_trailing_blanks l.fn.text ≡ without_trailing_blanks l.left

abbrev pub decreases-loop-last : goal.decreases-loop-last
decreases-loop-last l = length l.left

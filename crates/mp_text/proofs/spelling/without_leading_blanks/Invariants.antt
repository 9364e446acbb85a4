use Rattle.std.proofs.Common.{◌≡◌, length}
use Rattle.mp_text.specs.SampleText.{without_leading_blanks}
use Rattle.mp_text.proofs.spelling.without_leading_blanks.Given as goal

abbrev pub invariant-loop-first : goal.invariant-loop-first
invariant-loop-first l = without_leading_blanks l.fn.text ≡ without_leading_blanks l.left

abbrev pub decreases-loop-first : goal.decreases-loop-first
decreases-loop-first l = length l.left

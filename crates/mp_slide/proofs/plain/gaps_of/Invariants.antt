use Rattle.mp_slide.proofs.PlainNumbers.{AreCounted}
use Rattle.mp_slide.proofs.plain.gaps_of.Given as goal

abbrev pub invariant-loop-sample : goal.invariant-loop-sample
invariant-loop-sample l = AreCounted l.samples l.sample-index l.count l.gaps.items

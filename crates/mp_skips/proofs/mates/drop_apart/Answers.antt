use Rattle.std.proofs.Common.{sym, ◌∙◌}
use Rattle.std.proofs.lemmas.Simd.{length-zip2}
use Rattle.mp_skips.proofs.mates.drop_apart.Goals as goal

pub returns : goal.returns
returns c = length-zip2 _ _ _ (c.requires.sums ∙ sym c.squares_apart.ensures) ∙ c.requires.sums

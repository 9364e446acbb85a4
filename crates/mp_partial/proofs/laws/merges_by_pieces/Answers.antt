use Rattle.mp_partial.specs.TogetherLaws.{merges_by_pieces}
use Rattle.mp_partial.proofs.laws.merges_by_pieces.Goals as goal

pub returns : goal.returns
returns g c =
    -- what is known of a part that can move holds in every thread, this one among them
    let here = g.met.P.Part g.world.𝓛 g.world.𝓜 g.world.𝓡 ((λ s x. x), (λ x. x), (λ x. x), λ x. x) in
    merges_by_pieces g.P.Part.is_value g.P.Part.unit_of g.P.Part.merged here.laws

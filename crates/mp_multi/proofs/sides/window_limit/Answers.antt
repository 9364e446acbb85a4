use Rattle.std.proofs.Common.{◌≡◌, subst₂, map, rules, w32, FitsSigned}
use Rattle.std.specs.Prelude.{slice_index_or, None}
use Rattle.mp_defs.specs.Series.{series_of}
use Rattle.mp_sums.specs.Residues.{residue_limit}
use Rattle.mp_multi.specs.Lanes.{IsSlotLimit}
use Rattle.mp_multi.proofs.LimitLemmas.{limit_holds, handed_on}
use Rattle.mp_multi.proofs.sides.window_limit.Goals as goal

pub returns : goal.returns
returns c =
    let plan = c.args.plan.now in
    let ch = plan.channels in
    let all = map series_of ch.list.now in
    let first = c.args.first in
    let slot = slice_index_or c.args.into.now.items c.args.window None in
    let z = c.residue_limit.result in
    let limit = c.limit_of-limit.result in
    let fits : FitsSigned w32 z = search rules in
    handed_on (IsSlotLimit ch.m ch.k plan.shift all slot c.args.window first) z fits
    (limit_holds ch.m ch.k plan.shift all slot c.args.window first limit z fits
    (subst₂ (λ n s. z ≡ residue_limit n s limit) c.together.ensures.m c.together.ensures.shift
    c.residue_limit.ensures)
    (search rules))

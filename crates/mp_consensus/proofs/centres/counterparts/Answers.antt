use Rattle.std.proofs.Common.{map, sym, ap, ◌∙◌}
use Rattle.mp_nums.specs.Listed.{Listed}
use Rattle.mp_nums.specs.declared.nearest.Near.{Near}
use Rattle.mp_defs.specs.Series.{series_of}
use Rattle.mp_results.specs.Consensus.{counterpart}
use Rattle.mp_consensus.proofs.Steps.{those_zero, those_take, those_skip}
use Rattle.mp_consensus.proofs.centres.counterparts.Goals as goal
use Rattle.mp_consensus.proofs.centres.counterparts.Goals.{in-Some+in_ok-push, in_default}

pub loop-other-init : goal.loop-other-init
loop-other-init c = c.new-nearest.ensures.items ∙ sym (those_zero _)

pub loop-other-preserved : goal.loop-other-preserved
loop-other-preserved c =
    let f = counterpart c.args.m (map series_of c.args.list.now) c.args.place c.args.start in
    let q = c.loop-other.other in
    elim c.match-branch-2.branch [
      | in-Some+in_ok-push w ↦
          ap (λ (list : Listed Near). list.items) w.nearest-is
          ∙ those_take f q _ _ _ c.loop-other.invariant (sym c.in_ok-near.ensures ∙ w.in-Some.is)
          w.in_ok-push.ensures.ok
      | in_default w ↦
          ap (λ (list : Listed Near). list.items) w.nearest-is
          ∙ those_skip f q _ c.loop-other.invariant (sym c.in_ok-near.ensures ∙ w.in_default.is)
    ]

use Rattle.std.proofs.Common.{◌≡◌, ◌-◌, ◌≤◌, ◌∙◌, List, ℤ, negsuc, length, map, take, arith, subst, sym, ap}
use Rattle.std.specs.Prelude.{replicate}
use Rattle.std.proofs.lemmas.List.{take-replicate}
use Rattle.mp_defs.specs.Series.{series_of}
use Rattle.mp_multi.specs.LaneSums.{AreLeastSums, no_floors}
use Rattle.mp_multi.proofs.LaneCounts.{handed_on}
use Rattle.mp_multi.proofs.RunLemmas.{least_are_lanes}
use Rattle.mp_multi.proofs.runs.lanes_of.Goals as goal

pub returns-then-k-residues : goal.returns-then-k-residues
returns-then-k-residues g c =
    let plan = c.args.plan.now in
    let residues = c.args.residues.now in
    let all : length residues ≡ plan.channels.k = omega arith in
    let floors : List ℤ = take (length residues) (replicate 8 (negsuc 2147483646)) in
    record {
      lanes = handed_on c.all_lanes.result c.all_lanes.ensures.lanes;
      each = λ i j t lt h. least_are_lanes plan.channels.m plan.channels.k plan.shift i j t
          (map series_of plan.channels.list.now) residues c.all_lanes.result
          (omega (arith, c.requires.channels, plan.channels.are.few))
          (subst (λ k. AreLeastSums k (length residues) residues floors c.all_lanes.result) all c.all_lanes.ensures) h
          lt;
    }

pub returns-then-k-eq1 : goal.returns-then-k-eq1
returns-then-k-eq1 g c =
    let plan = c.args.plan.now in
    let residues = c.args.residues.now in
    let one : 1 ≡ plan.channels.k = omega arith in
    let floors : List ℤ = take (length residues) (replicate 8 (negsuc 2147483646)) in
    record {
      lanes = handed_on c.lowest_lanes.result c.lowest_lanes.ensures.lanes;
      each = λ i j t lt h. least_are_lanes plan.channels.m plan.channels.k plan.shift i j t
          (map series_of plan.channels.list.now) residues c.lowest_lanes.result
          (omega (arith, c.requires.channels, plan.channels.are.few))
          (subst (λ k. AreLeastSums k (length residues) residues floors c.lowest_lanes.result) one
          c.lowest_lanes.ensures) h lt;
    }

pub returns-then-k-residues-2 : goal.returns-then-k-residues-2
returns-then-k-residues-2 g c =
    let plan = c.args.plan.now in
    let residues = c.args.residues.now in
    let others : length residues - 1 ≡ plan.channels.k = omega arith in
    let floors : List ℤ = take (length residues) (replicate 8 (negsuc 2147483646)) in
    record {
      lanes = handed_on c.lower_lanes.result c.lower_lanes.ensures.lanes;
      each = λ i j t lt h. least_are_lanes plan.channels.m plan.channels.k plan.shift i j t
          (map series_of plan.channels.list.now) residues c.lower_lanes.result
          (omega (arith, c.requires.channels, plan.channels.are.few))
          (subst (λ k. AreLeastSums k (length residues) residues floors c.lower_lanes.result) others
          c.lower_lanes.ensures) h lt;
    }

pub least_lanes-requires-clause-some : goal.least_lanes-requires-clause-some
least_lanes-requires-clause-some g c = let some = c.args.plan.now.channels.are.some in omega arith

pub least_lanes-requires-clause-some_left : goal.least_lanes-requires-clause-some_left
least_lanes-requires-clause-some_left g c =
    let present = c.args.plan.now.channels.are.present in omega (arith, c.requires.channels, c.requires.count, present)

pub returns : goal.returns
returns g c =
    let plan = c.args.plan.now in
    let residues = c.args.residues.now in
    let floors : List ℤ = take (length residues) (replicate 8 (negsuc 2147483646)) in
    let few : length residues ≤ 8 = omega (arith, c.requires.channels, plan.channels.are.few) in
    let floors_are : no_floors g.row.D ≡ floors =
    sym (take-replicate (length residues) 8 (negsuc 2147483646) few ∙ ap no_floors c.requires.count) in
    record {
      lanes = handed_on c.least_lanes.result c.least_lanes.ensures.lanes;
      each = λ i j t lt h. least_are_lanes plan.channels.m plan.channels.k plan.shift i j t
          (map series_of plan.channels.list.now) residues c.least_lanes.result few
          (subst (λ n. AreLeastSums plan.channels.k n residues floors c.least_lanes.result) (sym c.requires.count)
          (subst (λ v. AreLeastSums plan.channels.k g.row.D residues v c.least_lanes.result) floors_are
          c.least_lanes.ensures)) h lt;
    }

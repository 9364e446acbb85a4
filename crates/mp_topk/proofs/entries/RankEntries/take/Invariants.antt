use Rattle.std.proofs.Common.{◌≡◌, List, length}
use Rattle.mp_nums.specs.declared.nearest.Near.{Near}
use Rattle.mp_topk.specs.Sharing.{HasMore, whole_of}
use Rattle.mp_topk.proofs.entries.RankEntries.take.Given as goal

abbrev pub invariant-loop-place : goal.invariant-loop-place
invariant-loop-place g l = record {
  more : (first : List (List Near)) → HasMore g.row.K (whole_of g.row.K l.self) first l.initial.into.lists
      → HasMore g.row.K (whole_of g.row.K l.self) first l.into.lists;
  size : length l.into.lists ≡ length l.initial.into.lists;
  spare : l.into.spare ≡ l.initial.into.spare;
}

use Rattle.std.proofs.Common.{length, ap, sym, subst, ◌∙◌}
use Rattle.mp_tiles.specs.Compact.{slot_of_word}
use Rattle.mp_topk.specs.Ranking.{Ranked}
use Rattle.mp_topk.specs.Sharing.{HasMore, whole_of}
use Rattle.mp_topk.proofs.Entering.{one_taken, put_slot_long}
use Rattle.mp_topk.proofs.entries.RankEntries.take_place.Goals as goal
use Rattle.mp_topk.proofs.entries.RankEntries.take_place.Goals.{then-word, else-word}

pub loop-rank-preserved : goal.loop-rank-preserved
loop-rank-preserved g c =
    let before = c.loop-rank.invariant in
    let slot = slot_of_word c.find-word.result in
    elim c.if-word.branch [
      | then-word w ↦
          let lists = ap (λ (r : Ranked). r.lists) w.into-is ∙ w.take_word.ensures.lists in
          record {
            more = λ first h. one_taken g.row.K (whole_of g.row.K c.args.self.now) first c.loop-rank.into.lists
                c.if-word.into.lists c.args.place slot (before.more first h) c.find-word.ensures lists;
            size = put_slot_long g.row.K c.loop-rank.into.lists c.if-word.into.lists c.args.place slot lists
                ∙ before.size;
            spare = ap (λ (r : Ranked). r.spare) w.into-is ∙ w.take_word.ensures.spare ∙ before.spare;
          }
      | else-word w ↦
          let lists = ap (λ (r : Ranked). r.lists) w.into-is in
          record {
            more = λ first h. subst (λ ls. HasMore g.row.K (whole_of g.row.K c.args.self.now) first ls) (sym lists)
                (before.more first h);
            size = ap length lists ∙ before.size;
            spare = ap (λ (r : Ranked). r.spare) w.into-is ∙ before.spare;
          }
    ]

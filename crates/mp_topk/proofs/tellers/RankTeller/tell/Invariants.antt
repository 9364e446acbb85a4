use Rattle.std.proofs.Common.{◌≡◌, ◌+◌, ◌-◌, ◌*◌, ◌≤◌, []}
use Rattle.mp_topk.specs.Words.{KnowsMore, SeenBelow}
use Rattle.mp_topk.proofs.tellers.RankTeller.tell.Given as goal

abbrev pub invariant-loop-rank : goal.invariant-loop-rank
invariant-loop-rank g l = record {
  words : l.self.words ≡ l.fn.self.words;
  more : KnowsMore g.row.K l.fn.self.view l.self.view;
  idle : l.self.view.carried ≡ [];
  below : 1 ≤ l.rank → SeenBelow l.self.view.seen (l.place * g.row.K + (l.rank - 1)) l.word;
}

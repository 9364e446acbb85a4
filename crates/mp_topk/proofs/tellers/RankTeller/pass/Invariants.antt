use Rattle.std.proofs.Common.{◌≡◌, ◌<◌, ◌≤◌, []}
use Rattle.mp_topk.specs.Words.{IsIn, KnowsMore, MayPass}
use Rattle.mp_topk.proofs.tellers.RankTeller.pass.Given as goal

abbrev pub invariant-loop-rank : goal.invariant-loop-rank
invariant-loop-rank g l = record {
  words : l.self.words ≡ l.fn.self.words;
  more : KnowsMore g.row.K l.fn.self.view l.self.view;
  may : l.rank < g.row.K → MayPass g.row.K l.fn.self.words.series l.self.view l.place l.rank l.own;
  done : g.row.K ≤ l.rank → l.self.view.carried ≡ [];
  told : l.from < l.rank → IsIn l.self.view.told l.place l.word;
  first : l.rank ≡ l.from → l.own ≡ l.word;
}

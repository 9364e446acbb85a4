use Rattle.std.proofs.Common.{◌≡◌, map}
use Rattle.std.specs.Mem.Slots.{slots_items}
use Rattle.mp_topk.specs.Ranking.{those_in}
use Rattle.mp_topk.specs.Words.{nears_of}
use Rattle.mp_topk.proofs.closed_words.slots_in_words.Given as goal

abbrev pub invariant-loop-place : goal.invariant-loop-place
invariant-loop-place g l = map those_in l.places.items ≡ nears_of (slots_items l.words.words) g.row.K l.place

use Rattle.std.proofs.Common.{◌∙◌, sym, arith}
use Rattle.std.proofs.lemmas.Result.{IfOk-weaker}
use Rattle.std.specs.Mem.Slots.{slots_items}
use Rattle.mp_topk.specs.Sharing.{whole_of}
use Rattle.mp_topk.proofs.Entering.{whole_count}
use Rattle.mp_topk.proofs.NearSlots.{places_near}
use Rattle.mp_topk.proofs.words.RankWords.into_places.Goals as goal

pub free-requires : goal.free-requires
free-requires g c = λ n lt. absurd (omega (arith, lt, c.close-words.ensures.no_slot))

pub returns : goal.returns
returns g c =
    let k = g.row.K in
    let s = c.args.self.series in
    let closed = c.close-words in
    IfOk-weaker c.slots_in_words-places.result _ _ (λ places is. is
    ∙ places_near (slots_items closed.result.words) k c.len-count.result (whole_of k s)
    (c.len-count.ensures.count ∙ sym (whole_count k s))
    (λ place lt. closed.ensures.ranks place (omega (arith, lt, whole_count k s))))
    c.slots_in_words-places.ensures

use Rattle.std.proofs.Common.{◌≡◌, ◌+◌, inl, inr, ap, sym, ◌∙◌, arith, get_or-set_other}
use Rattle.std.specs.Prelude.{None, slice_index}
use Rattle.std.proofs.lemmas.Bool.{cases_lt}
use Rattle.std.proofs.lemmas.Grind.{get_or-set_at}
use Rattle.std.proofs.lemmas.List.{length-set}
use Rattle.mp_tiles.specs.Compact.{slot_of_word}
use Rattle.std.specs.Mem.Slots.{slots_items}
use Rattle.mp_topk.specs.Words.{nears}
use Rattle.mp_topk.proofs.NearSlots.{slots_near, word_read}
use Rattle.mp_topk.proofs.closed_words.slots_from.Goals as goal

pub loop-rank-preserved : goal.loop-rank-preserved
loop-rank-preserved g c =
    let rank = c.loop-rank.rank in
    let slots = c.loop-rank.slots in
    let words = slots_items c.args.words.now.words in
    let count = c.loop-rank.invariant.0 in (
      length-set slots rank c.of_word.result ∙ count,
      λ r lt. elim (cases_lt r rank) [
        | inl less ↦ get_or-set_other slots rank r c.of_word.result None (λ same. omega (arith, same, less))
            ∙ c.loop-rank.invariant.1 r less
        | inr no_less ↦
            let same : r ≡ rank = omega (arith, no_less, lt) in
            get_or-set_at slots rank r c.of_word.result None same (omega (arith, c.loop-rank-test.true, count))
            ∙ c.of_word.ensures
            ∙ ap slot_of_word (sym (word_read words (c.args.first + rank) c.word.result c.word.ensures))
            ∙ ap (λ p. slot_of_word (slice_index words (c.args.first + p))) (sym same)
      ],
    )

pub returns : goal.returns
returns g c =
    let words = slots_items c.args.words.now.words in
    let count = c.loop-rank.invariant.0 in
    slots_near words c.args.first c.loop-rank.slots
    (λ r lt. c.loop-rank.invariant.1 r (omega (arith, lt, count, c.loop-rank-test.false)))
    ∙ ap (nears words c.args.first) count

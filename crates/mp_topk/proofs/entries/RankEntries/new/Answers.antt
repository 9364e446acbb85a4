use Rattle.std.proofs.Common.{◌≡◌, ◌*◌, ℕ, sym, ap, subst, ◌∙◌, arith}
use Rattle.std.specs.Prelude.{replicate}
use Rattle.mp_topk.specs.Sharing.{AreEntries, GiveNone, entries_of, no_word, whole_of}
use Rattle.mp_topk.proofs.Entering.{opens, whole_count}
use Rattle.mp_topk.proofs.entries.RankEntries.new.Goals as goal

pub of_words-requires : goal.of_words-requires
of_words-requires g c =
    let k = g.row.K in
    let s = entries_of c.args.samples.now c.args.m in
    let count : ℕ = c.windows.result * k in
    let words : c.as_slice.result.now ≡ replicate count no_word =
    c.as_slice.ensures.value ∙ c.in_ok-words.ensures.items_if_clones_equal (λ y e. e) in
    subst (GiveNone k (whole_of k s)) (sym words)
    (opens k s count (ap (λ n. n * k) (c.windows.ensures ∙ sym (whole_count k s))))

pub invariant_of-result : goal.invariant_of-result
invariant_of-result g c =
    let k = g.row.K in
    let s = entries_of c.args.samples.now c.args.m in
    let made = c.in_ok-table.ensures in
    subst (AreEntries k c.in_ok-table.table.shared.table_id.words) (sym made.5)
    (record {
      words_are = made.0 ∙ c.as_slice.ensures.len ∙ c.in_ok-words.ensures.len
          ∙ ap (λ n. n * k) (c.windows.ensures ∙ sym (whole_count k s));
      ranks = omega (arith, c.if-this-gt-MAX_RANKS.false);
      least = c.requires.least;
      few = c.requires.few;
    })

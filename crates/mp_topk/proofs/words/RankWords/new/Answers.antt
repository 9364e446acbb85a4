use Rattle.std.proofs.Common.{◌≡◌, ◌+◌, ◌*◌, ℕ, [], sym, ap, subst, ◌∙◌, arith}
use Rattle.std.specs.Prelude.{replicate}
use Rattle.mp_workers.specs.Desks.{whole}
use Rattle.mp_topk.specs.Sharing.{entries_of, no_word}
use Rattle.mp_topk.specs.Words.{AreWords, AreWordsOf, words_view}
use Rattle.mp_topk.proofs.Entering.{whole_count}
use Rattle.mp_topk.proofs.Stepping.{opens}
use Rattle.atomic_table.specs.Table.{opening}
use Rattle.mp_topk.proofs.words.RankWords.new.Goals as goal

pub of_words-requires : goal.of_words-requires
of_words-requires g c =
    let k = g.row.K in
    let s = entries_of c.args.samples.now c.args.m in
    let count : ℕ = c.windows-count.result * k in
    let words : c.as_slice.result.now ≡ replicate count no_word =
    c.as_slice.ensures.value ∙ c.in_ok-words.ensures.items_if_clones_equal (λ y e. e) in
    subst (λ ws. AreWordsOf k s (opening ws [] (words_view k whole s))) (sym words)
    (opens k s count (ap (λ n. n * k) (c.windows-count.ensures ∙ sym (whole_count k s))))

pub invariant_of-words : goal.invariant_of-words
invariant_of-words g c =
    let k = g.row.K in
    let s = entries_of c.args.samples.now c.args.m in
    let made = c.in_ok-table.ensures in
    subst (λ key. AreWords k c.in_ok-table.table.shared.table_id key c.windows-count.result (c.excl.result + 1))
    (sym made.5)
    (record {
      entries = record {
        words_are = made.0 ∙ c.as_slice.ensures.len ∙ c.in_ok-words.ensures.len
            ∙ ap (λ n. n * k) (c.windows-count.ensures ∙ sym (whole_count k s));
        ranks = omega (arith, c.if-this-gt-MAX_RANKS.false);
        least = c.requires.least;
        few = c.requires.few;
      };
      no_slot = made.1;
      one = omega (arith, c.if-this-eq0.false);
      count_is = c.windows-count.ensures;
      apart_is = ap (λ n. n + 1) c.excl.ensures;
      apart_small = omega (arith, c.excl.type_inv);
    })

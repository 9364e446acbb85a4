use Rattle.std.proofs.Common.{◌≡◌, ◌*◌, ℕ, length, sym, ap, subst, ◌∙◌, arith}
use Rattle.std.specs.Prelude.{replicate}
use Rattle.mp_workers.specs.Entries.{AreEntries, no_word, entries_of, whole_of}
use Rattle.mp_workers.proofs.Entering.{opens, whole_count}
use Rattle.mp_workers.proofs.entries.Entries.new.Goals as goal

pub of_words-requires : goal.of_words-requires
of_words-requires c =
    let s = entries_of c.args.samples.now c.args.m in
    let count : ℕ = 2 * c.windows.result in
    let words : c.as_slice.result.now ≡ replicate count no_word =
    c.as_slice.ensures.value ∙ c.in_ok-words.ensures.items_if_clones_equal (λ y e. e) in
    opens s c.as_slice.result.now count words (ap (λ n. 2 * n) c.windows.ensures ∙ sym (whole_count s))

pub invariant_of-result : goal.invariant_of-result
invariant_of-result c =
    let s = entries_of c.args.samples.now c.args.m in
    let made = c.in_ok-table.ensures in
    let count : length c.as_slice.result.now ≡ length (whole_of s) =
    omega (arith, c.as_slice.ensures.len, c.in_ok-words.ensures.len, c.windows.ensures, whole_count s) in
    subst (AreEntries c.in_ok-table.table.shared.table_id.words) (sym made.5)
    (record {
      words_are = made.0 ∙ count;
      least = c.requires.least;
      few = c.requires.few;
    })

use Rattle.std.proofs.Common.{◌≡◌, length, map, sym, subst, ◌∙◌}
use Rattle.std.specs.Prelude.{replicate}
use Rattle.mp_defs.specs.Series.{series_of}
use Rattle.mp_results.specs.Multi.{multi_of}
use Rattle.mp_partial.specs.Values.{Column}
use Rattle.mp_workers.specs.Entries.{AreWithin, no_word}
use Rattle.mp_workers.specs.EntryLaws.{none_within}
use Rattle.mp_multi.proofs.entries.Entries.new.Goals as goal

pub of_words-requires : goal.of_words-requires
of_words-requires c =
    let whole = multi_of c.args.m c.args.k (map series_of c.args.list.now) in
    let words : c.as_slice.result.now ≡ replicate c.args.windows no_word =
    c.as_slice.ensures.value ∙ c.in_ok-words.ensures.items_if_clones_equal (λ y e. e) in
    subst (AreWithin whole) (sym words) (none_within whole c.args.windows c.requires)

pub invariant_of-result : goal.invariant_of-result
invariant_of-result c =
    let made = c.in_ok-table.ensures in
    subst (λ (whole : Column). c.in_ok-table.table.shared.table_id.words ≡ length whole) (sym made.5)
    (made.0 ∙ c.as_slice.ensures.len ∙ c.in_ok-words.ensures.len ∙ c.requires)

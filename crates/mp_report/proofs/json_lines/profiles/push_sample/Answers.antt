use Rattle.std.proofs.Common.{◌≡◌, ℕ, List, ◌++◌, IsUtf8, sym, ap, ◌∙◌, subst}
use Rattle.mp_defs.specs.Series.{reading_of}
use Rattle.mp_text.specs.SampleText.{sample_text}
use Rattle.mp_report.proofs.AsciiLemmas.{sample_utf8, text_is_read}
use Rattle.mp_report.proofs.json_lines.profiles.push_sample.Goals as goal

pub unwrap-requires : goal.unwrap-requires
unwrap-requires c =
    let text = sample_text c.args.scale (reading_of c.args.sample) in
    let written : c.as_slice.result.now ≡ text =
    c.as_slice.ensures
    ∙ (c.in_ok-write_sample.ensures.ok
    ∙ ap (λ (before : List ℕ). before ++ text) (c.from-text.ensures ∙ c.clear.ensures.items)) in
    text_is_read c.from_utf8.result c.as_slice.result.now _ _
    (subst IsUtf8 (sym written) (sample_utf8 c.args.scale (reading_of c.args.sample))) c.from_utf8.ensures.cases

-- One sample more.
use Rattle.std.proofs.Common.{◌≡◌, ℕ, ◌+◌, ◌<◌, List, [], ◌∷◌, ◌++◌, length, get_or, take, ap, ◌∙◌, sym, append-nil}
use Rattle.std.specs.Prelude.{codes}
use Rattle.std.proofs.lemmas.Grind.{flat_map-append}
use Rattle.std.proofs.lemmas.List.{take_more, map-append}
use Rattle.mp_nums.specs.declared.samples.Sample.{Sample}
use Rattle.mp_defs.specs.Series.{reading_of, series_of}
use Rattle.mp_text.specs.SampleText.{sample_text}
use Rattle.mp_replies.specs.WindowCommand.{samples_text}

pub samples_more : (scale : ℕ) (samples : List Sample) (k : ℕ) (sample : Sample) → k < length samples
    → sample ≡ get_or samples k sample
    → samples_text scale (series_of (take (k + 1) samples))
    ≡ samples_text scale (series_of (take k samples)) ++ (codes " " ++ sample_text scale (reading_of sample))
samples_more scale samples k sample within is =
    let one : take (k + 1) samples ≡ take k samples ++ sample ∷ [] =
    take_more samples k sample within ∙ ap (λ (s : Sample). take k samples ++ s ∷ []) (sym is) in
    ap (λ (ss : List Sample). samples_text scale (series_of ss)) one
    ∙ (ap (samples_text scale) (map-append reading_of (take k samples) (sample ∷ []))
    ∙ (flat_map-append (λ s. codes " " ++ sample_text scale s) (series_of (take k samples)) (reading_of sample ∷ [])
    ∙ ap (λ (t : List ℕ). samples_text scale (series_of (take k samples)) ++ t)
    (append-nil (codes " " ++ sample_text scale (reading_of sample)))))

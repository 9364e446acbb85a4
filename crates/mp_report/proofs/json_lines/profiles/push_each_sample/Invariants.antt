use Rattle.std.proofs.Common.{take}
use Rattle.serde_json.specs.Data.{string}
use Rattle.mp_defs.specs.Series.{series_of}
use Rattle.mp_text.specs.SampleText.{sample_text}
use Rattle.mp_report.specs.Tokens.{tokens_of_each, Adds}
use Rattle.mp_report.proofs.json_lines.profiles.push_each_sample.Given as goal

abbrev pub invariant-loop-sample : goal.invariant-loop-sample
invariant-loop-sample l =
    Adds l.initial.json l.json
    (tokens_of_each (λ sample. string (sample_text l.scale sample)) (series_of (take l.sample-index l.samples)))

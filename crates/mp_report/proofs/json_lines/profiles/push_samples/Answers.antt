use Rattle.std.proofs.Common.{ℤ, Option}
use Rattle.serde_json.specs.Data.{string}
use Rattle.mp_defs.specs.Series.{series_of}
use Rattle.mp_text.specs.SampleText.{sample_text}
use Rattle.mp_report.proofs.TokenLemmas.{array_says}
use Rattle.mp_report.proofs.json_lines.profiles.push_samples.Goals as goal

pub returns : goal.returns
returns c =
    array_says (λ (sample : Option ℤ). string (sample_text c.args.scale sample)) (series_of c.args.samples.now)
    c.args.json.now c.begin_array.new.self c.push_each_sample.new.json c.end_array.new.self
    (c.in_ok-begin_array.ensures.room.0, c.in_ok-begin_array.ensures.ok) c.in_ok-push_each_sample.ensures
    (c.in_ok-end_array.ensures.room.0, c.in_ok-end_array.ensures.ok)

use Rattle.std.proofs.Common.{◌≡◌, ◌++◌, take}
use Rattle.mp_defs.specs.Series.{series_of}
use Rattle.mp_replies.specs.WindowCommand.{samples_text}
use Rattle.mp_report.proofs.profiles.push_samples.Given as goal

abbrev pub invariant-loop-sample : goal.invariant-loop-sample
invariant-loop-sample l =
    l.text.items ≡ l.initial.text.items ++ samples_text l.scale (series_of (take l.sample-index l.samples))

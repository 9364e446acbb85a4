use Rattle.std.proofs.Common.{refl}
use Rattle.std.specs.Fmt.{digits}
use Rattle.serde_json.proofs.OnLiterals.{serde_json_on_literals}
use Rattle.mp_replies.proofs.examples.spelled_reports.Goals as goal

pub returns : goal.returns
unfolding digits serde_json_on_literals
returns c = record {
  ok = refl;
  appended = refl;
  refused = refl;
  window = refl;
  no_entry = refl;
  entry = refl;
  profile = refl;
  advance = refl;
  partial = refl;
  no_windows = refl;
  join = refl;
  nearest = refl;
  pan = refl;
  matches = refl;
  motifs = refl;
  discords = refl;
  chain = refl;
  chains = refl;
  no_chains = refl;
  segments = refl;
  mpdist = refl;
  no_mpdist = refl;
  consensus = refl;
  no_consensus = refl;
}

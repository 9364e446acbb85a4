use Rattle.mp_text.proofs.RoundTrip.{missing_read_back, numbers_read_back}
use Rattle.mp_text.proofs.laws.written_samples_are_read_back.Goals as goal

pub returns : goal.returns
returns c = record { numbers = numbers_read_back; missing = missing_read_back }

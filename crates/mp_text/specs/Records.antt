-- The records that a reader has left.
use Rattle.std.specs.Prelude.{◌≡◌, ◌+◌, ℕ, List, length, Option, Some, [], IsSome, unwrap_or, false}
use Rattle.std.specs.Borrow.{Bor}
use Rattle.csv.specs.Machine.{ends_at_end}
use Rattle.csv.specs.Reading.{Ready, default_config, reader_config, reader_state, reader_trim, records_from, source_of}
use Rattle.csv.specs.declared.parser.State.{State}
use Rattle.csv.specs.declared.reader.Reader.{Reader}
use Rattle.csv.specs.declared.reader.Trim.TheVariants as trim

-- the bytes that a reader of bytes in memory has left
abbrev pub unread : Reader (Bor (List ℕ)) → Option (List ℕ)
unread reader = source_of (λ s. Some s.now) reader

abbrev pub records_in : State → List ℕ → List (List (List ℕ))
records_in state text = records_from default_config (length text + 1) state text

-- the records that a reader has left
abbrev pub records_left : Reader (Bor (List ℕ)) → List (List (List ℕ))
records_left reader = records_in (reader_state reader) (unwrap_or (unread reader) [])

-- a reader between two records, with the defaults of the format and no header row
pub record IsBetweenRecords (reader : Reader (Bor (List ℕ))) : Type 0 where
  pub config : reader_config reader ≡ default_config
  pub untrimmed : reader_trim reader ≡ trim.None
  pub ready : Ready reader
  pub known : IsSome (unread reader)
  pub between : ends_at_end (reader_state reader) ≡ false

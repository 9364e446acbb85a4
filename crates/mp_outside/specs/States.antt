-- What is seen of a source, of a sink, and of a shelf of the system's files.
use Rattle.std.specs.Prelude.{ℕ, ◌+◌, ◌-◌, ◌^◌, min, nat_le, Bool, false, if◌then◌else◌, List, [], ◌∷◌, ◌++◌, length}
use Rattle.std.specs.Prelude.{drop, Option, None, Some}

-- the bytes left, how many of them one read gives at most, and how many bytes were given
pub record SourceState : Type 0 where
  pub left : List ℕ
  pub step : ℕ
  pub given : ℕ

-- the source after n of its bytes were given
abbrev pub given_away : ℕ → SourceState → SourceState
given_away n source = record source { left = drop n source.left; given = min (source.given + n) (2 ^ 128 - 1) }

-- the bytes written, while they are told, the room for them, how many there were, and whether they are flushed
pub record SinkState : Type 0 where
  pub written : Option (List ℕ)
  pub room : ℕ
  pub count : ℕ
  pub flushed : Bool

-- what is told with these bytes behind
abbrev pub told_with : List ℕ → ℕ → Option (List ℕ) → Option (List ℕ)
told_with bytes room None = None
told_with bytes room (Some before) = if nat_le (length before + length bytes) room then Some (before ++ bytes) else None

-- the sink after these bytes were written
abbrev pub after_writing : List ℕ → SinkState → SinkState
after_writing [] sink = sink
after_writing (byte ∷ bytes) sink = record sink {
  written = told_with (byte ∷ bytes) sink.room sink.written;
  count = min (sink.count + length (byte ∷ bytes)) (2 ^ 128 - 1);
  flushed = false;
}

-- a reader, how many bytes it gave, and how often it failed
pub record StdSourceState (I : Type 0) : Type 0 where
  pub input : I
  pub given : ℕ
  pub faults : ℕ

-- a writer, whether it is flushed, and how often it failed
pub record StdSinkState (O : Type 0) : Type 0 where
  pub output : O
  pub flushed : Bool
  pub faults : ℕ

-- how often a file was asked for, and how often that failed
pub record DiskShelfState : Type 0 where
  pub fetches : ℕ
  pub faults : ℕ

-- a byte that is given again and again, how many times more, and how many times it was
pub record LoopSourceState : Type 0 where
  pub byte : ℕ
  pub left : ℕ
  pub given : ℕ

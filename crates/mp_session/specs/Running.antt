-- What runs of lines do to a session and to a sink.
use Rattle.std.specs.Prelude.{◌≡◌, ◌⊎◌, ℕ, ◌+◌, ◌<◌, ◌≤◌, Bool, true, false, List, [], ◌∷◌, ◌++◌, length, take}
use Rattle.std.specs.Prelude.{IsErrOf, Option, Some, None, Result}
use Rattle.mp_outside.specs.Counts.{Rose, raised}
use Rattle.mp_outside.specs.declared.sources.Source as sources
use Rattle.mp_outside.specs.declared.sinks.Sink.{Ghosts}
use Rattle.mp_feed.specs.Feeding.{nothing, lines_left, ended_lines_left}
use Rattle.mp_feed.specs.Reading.{IsTakenOff}
use Rattle.mp_replies.specs.State.{Files, State}
use Rattle.mp_bytes.specs.Lines.{ended_lines}
use Rattle.mp_replies.specs.Output.{some_ends, some_refused, state_after, until_end, replies}
use Rattle.mp_replies.specs.Step.{fetches}
use Rattle.mp_session.specs.Sessions.{SessionParts, StandsFor, ToldForAll, fetch_count}
use Rattle.mp_feed.specs.declared.readers.Next.{Next}
use Rattle.mp_feed.specs.declared.readers.Next.TheVariants.{Line, End}
use Rattle.mp_feed.specs.Writing.{Wrote, WroteFront}
use Rattle.mp_session.specs.declared.halts.Halt.{Halt}
use Rattle.mp_session.specs.declared.halts.Halt.TheVariants.{InputLimit, ReadFault}

-- these lines were run one behind the other with a shelf that tells these files, with these reports
pub record HaveRun (told : Option Files) (lines texts : List (List ℕ)) (old new : SessionParts) (refused : Bool)
    : Type 0 where
  pub texts_are : (state : State) (files : Files) → StandsFor old state → ToldForAll told state files lines
      → texts ≡ replies state files lines
  pub stands : (state : State) (files : Files) → StandsFor old state → ToldForAll told state files lines
      → StandsFor new (state_after state files lines)
  pub refused_is : (state : State) (files : Files) → StandsFor old state → ToldForAll told state files lines
      → refused ≡ some_refused state files lines
  pub count : new.lines ≡ old.lines + length lines

-- Each of these lines that asks for a file has asked for it once, one line behind the other, with a shelf that tells
-- these files: its count of fetches was the first number before them, and is the second.
pub record HaveAsked (told : Option Files) (lines : List (List ℕ)) (old : SessionParts) (before now : ℕ) : Type 0 where
  pub count : (state : State) (files : Files) → StandsFor old state → ToldForAll told state files lines
      → now ≡ raised (fetch_count state files lines) before

-- what a run works on: its session, the bytes that its source has left, where they are told, and its sink
pub record Course (Out : Type 0) : Type 0 where
  pub session : SessionParts
  pub left : Option (List ℕ)
  pub out : Out

abbrev pub course_at : {Out : Type 0} → SessionParts → Option (List ℕ) → Out → Course Out
course_at session left out = record { session = session; left = left; out = out }

-- these lines were run, and the report of each was written whole
pub record WereRun {Out : Type 0} (sink : Ghosts Out) (told : Option Files) (lines : List (List ℕ))
    (old new : Course Out) (refused : Bool) : Type 0 where
  pub texts : List (List ℕ)
  pub run : HaveRun told lines texts old.session new.session refused
  pub wrote : Wrote sink texts old.out new.out

-- a front of the report of this line was written
pub record WasBegun {Out : Type 0} (sink : Ghosts Out) (told : Option Files) (line : List ℕ)
    (old new : Course Out) : Type 0 where
  pub text : List ℕ
  pub text_is : (state : State) (files : Files) → StandsFor old.session state → ToldForAll told state files (line ∷ [])
      → text ∷ [] ≡ replies state files (line ∷ [])
  pub front : WroteFront sink text old.out new.out

-- what comes next: a line, which is the last one or isn't, or nothing
abbrev pub next_by : Option Bool → Next
next_by None = End
next_by (Some last) = Line last

-- ---- the limit on input

-- whether a line that ends the run is ended by an LF within so many first bytes
abbrev pub ends_within : ℕ → List ℕ → Bool
ends_within limit bytes = some_ends (ended_lines (take limit bytes))

-- so many bytes hold all that is read of an input: the whole of it, or a line that ends the run, with its LF
abbrev pub IsWithin : ℕ → List ℕ → Type 0
IsWithin limit bytes = (length bytes ≤ limit) ⊎ (ends_within limit bytes ≡ true)

-- they do not: there are more, and no line that ends the run is ended within them
pub record IsPast (limit : ℕ) (bytes : List ℕ) : Type 0 where
  pub longer : limit < length bytes
  pub none_ends : ends_within limit bytes ≡ false

-- ---- which lines were run

-- these lines come first of those that are run of the input
pub record AreFirst {Out : Type 0} (lines : List (List ℕ)) (old : Course Out) : Type 0 where
  pub more : (bytes : List ℕ) → old.left ≡ Some bytes
      → (rest : List (List ℕ)) × (until_end (lines_left nothing bytes) ≡ lines ++ rest)

-- The lines of the input were run, up to and with the first that ends the run, within the limit. Where none does, the
-- input was read to its end.
pub record RanAll {Out : Type 0} (sink : Ghosts Out) (told : Option Files) (limit : ℕ)
    (old new : Course Out) (refused : Bool) : Type 0 where
  pub lines : List (List ℕ)
  pub run : WereRun sink told lines old new refused
  pub lines_are : (bytes : List ℕ) → old.left ≡ Some bytes → until_end (lines_left nothing bytes) ≡ lines
  pub read : (bytes : List ℕ) → old.left ≡ Some bytes → some_ends lines ≡ false
      → (new.left ≡ Some []) × (length bytes ≤ limit)
  pub within : (bytes : List ℕ) → old.left ≡ Some bytes → IsWithin limit bytes

-- some of them were run, in order from the first on
pub record RanSome {Out : Type 0} (sink : Ghosts Out) (told : Option Files) (old new : Course Out) : Type 0 where
  pub lines : List (List ℕ)
  pub refused : Bool
  pub run : WereRun sink told lines old new refused
  pub first : AreFirst lines old

-- The lines that an LF ends were run, of the bytes that were taken within the limit, and so many more were taken. None
-- of them ends the run.
pub record RanEnded {Out : Type 0} (sink : Ghosts Out) (told : Option Files) (overs : ℕ)
    (old new : Course Out) : Type 0 where
  pub some : RanSome sink told old new
  pub none_ends : some_ends some.lines ≡ false
  pub taken : List ℕ
  pub source : (bytes : List ℕ) → old.left ≡ Some bytes → IsTakenOff taken overs bytes new.left
  pub lines_are : ended_lines_left nothing taken ≡ some.lines

-- What was taken of a source: no more than the limit and a byte. More than the limit where a run ended at it, and a
-- fault of a read was counted where it ended by one.
pub record WasTaken {In : Type 0} (source : sources.Ghosts In) (limit : ℕ) (result : Result Bool Halt)
    (old new : In) : Type 0 where
  pub given : source.given new ≤ source.given old + limit + 1
  pub over : IsErrOf result InputLimit → source.given old + limit < source.given new
  pub fault : IsErrOf result ReadFault → Rose (source.faults old) (source.faults new)

-- some of them were run, and a front of the report of the next one was written
pub record RanInto {Out : Type 0} (sink : Ghosts Out) (told : Option Files) (old new : Course Out) : Type 0 where
  pub lines : List (List ℕ)
  pub line : List ℕ
  pub refused : Bool
  pub between : Course Out
  pub run : WereRun sink told lines old between refused
  pub begun : WasBegun sink told line between new
  pub first : AreFirst (lines ++ line ∷ []) old

-- some of them were run, and the next one asks for a file
pub record RanToFile {Out : Type 0} (sink : Ghosts Out) (told : Option Files) (old new : Course Out) : Type 0 where
  pub some : RanSome sink told old new
  pub line : List ℕ
  pub next : AreFirst (some.lines ++ line ∷ []) old
  pub asks : (state : State) (files : Files) → StandsFor old.session state → ToldForAll told state files some.lines
      → fetches (state_after state files some.lines) line ≡ true

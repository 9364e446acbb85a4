-- What becomes of a sink while reports are written to it.
use Rattle.std.specs.Prelude.{◌≡◌, ℕ, ◌+◌, ◌<◌, ◌≤◌, true, List, [], ◌∷◌, ◌++◌, length, take, Option, Some}
use Rattle.mp_outside.specs.declared.sinks.Sink.{Ghosts}

-- what was told before, and then a front of the text
abbrev pub TellsPrefix : Option (List ℕ) → List ℕ → List ℕ → Type 0
TellsPrefix now before text = (count : ℕ) × (count ≤ length text) × (now ≡ Some (before ++ take count text))

-- A report was written whole, and the sink flushed behind it. An empty one left the sink alone. A sink that told what
-- was written tells the report behind it, as far as it has room.
pub record WroteReport {Out : Type 0} (sink : Ghosts Out) (text : List ℕ) (before now : Out) : Type 0 where
  pub told : (first : List ℕ) → sink.written before ≡ Some first → length first + length text ≤ sink.room before
      → sink.written now ≡ Some (first ++ text)
  pub flushed : 0 < length text → sink.flushed now ≡ true
  pub untouched : text ≡ [] → now ≡ before
  pub room_is : sink.room now ≡ sink.room before
  pub faults_rise : sink.faults before ≤ sink.faults now

-- reports were written one after another
pub data Wrote {Out : Type 0} (sink : Ghosts Out) : List (List ℕ) → Out → Out → Type 0 where
  none : {out : Out} → Wrote sink [] out out
  report : {text : List ℕ} {texts : List (List ℕ)} {before then_out now : Out}
      → WroteReport sink text before then_out → Wrote sink texts then_out now → Wrote sink (text ∷ texts) before now

-- A report that isn't empty was begun: a front of it was written, and it is not known to be whole and flushed.
pub record WroteFront {Out : Type 0} (sink : Ghosts Out) (text : List ℕ) (before now : Out) : Type 0 where
  pub some : 0 < length text
  pub told : (first : List ℕ) → sink.written before ≡ Some first → length first + length text ≤ sink.room before
      → TellsPrefix (sink.written now) first text
  pub unfinished : (first : List ℕ) → sink.written before ≡ Some first
      → length first + length text ≤ sink.room before
      → ¬ ((sink.written now ≡ Some (first ++ text)) × (sink.flushed now ≡ true))

-- A sink in memory after bytes were written.
use Rattle.std.proofs.Common.{◌≡◌, ℕ, zero, suc, ◌+◌, ◌≤◌, ◌<◌, List, [], ◌∷◌, ◌++◌, length, take, Some, false, sym, ap}
use Rattle.std.proofs.Common.{◌∙◌, refl, arith}
use Rattle.std.proofs.lemmas.List.{append-nil}
use Rattle.std.proofs.lemmas.Bool.{le-leb}
use Rattle.mp_outside.specs.States.{SinkState, after_writing}

-- they are told behind what was told, where there is room
pub written-after_writing : (bytes before : List ℕ) (sink : SinkState) → sink.written ≡ Some before
    → length before + length bytes ≤ sink.room → (after_writing bytes sink).written ≡ Some (before ++ bytes)
written-after_writing [] before sink told room = told ∙ ap Some (sym (append-nil before))
written-after_writing (byte ∷ bytes) before sink told room = rw (told, le-leb _ _ room) refl

pub flushed-after_writing : (bytes : List ℕ) (sink : SinkState) → 0 < length bytes
    → (after_writing bytes sink).flushed ≡ false
flushed-after_writing [] sink some = absurd (omega arith)
flushed-after_writing (byte ∷ bytes) sink some = refl

pub room-after_writing : (bytes : List ℕ) (sink : SinkState) → (after_writing bytes sink).room ≡ sink.room
room-after_writing [] sink = refl
room-after_writing (byte ∷ bytes) sink = refl

of_none : (n : ℕ) (sink : SinkState) → after_writing (take n []) sink ≡ sink
of_none zero sink = refl
of_none (suc n) sink = refl

-- no bytes change nothing
pub after_writing-none : (n : ℕ) (bytes : List ℕ) (sink : SinkState) → bytes ≡ []
    → after_writing (take n bytes) sink ≡ sink
after_writing-none n bytes sink none = rw none (of_none n sink)

-- What a stream is once what it lent is given back.
use Rattle.std.specs.Prelude.{◌≡◌, ◌+◌, ◌*◌, ◌-◌, ◌^◌, length, min, ⊤}
use Rattle.std.specs.Borrow.{follows_so, MutBor, Fml}
use mathlib.Core.Option.{none}
use Rattle.mp_stream.specs.Streams.{Streamed}
use Rattle.mp_stream.specs.contracts.streams.Stream.{the_row}

-- each of its n samples was read n times, as for every pair of them
abbrev pub CountsEveryPair : MutBor Streamed → Fml
CountsEveryPair s =
    follows_so the_row the_row s.ghost_name none (λ _ _. ⊤)
    (λ last. last ≡ record s.now { reads = min (s.now.reads + length s.now.items * length s.now.items) (2 ^ 128 - 1) })

-- What the list is once what it lent is given back.
use Rattle.std.specs.Prelude.{◌≡◌, ℕ, ◌*◌, length, ⊤}
use Rattle.std.specs.Borrow.{follows_so, MutBor, Fml}
use mathlib.Core.Option.{none}
use Rattle.mp_series.specs.Samples.{Counted, after_reads}
use Rattle.mp_series.specs.contracts.counted_list.Samples.{the_row}
use Rattle.mp_series.specs.HeldSamples.{Held, held_after_reads}
use Rattle.mp_series.specs.contracts.ring.Ring.{the_row as held_row}

-- so many samples were read
abbrev pub CountsReads : MutBor Counted → ℕ → Fml
CountsReads s n =
    follows_so the_row the_row s.ghost_name none (λ _ _. ⊤)
    (λ last. last ≡ after_reads s.now n)

-- each of its n samples was read n times, as for every pair of them
abbrev pub CountsEveryPair : MutBor Counted → Fml
CountsEveryPair s =
    follows_so the_row the_row s.ghost_name none (λ _ _. ⊤)
    (λ last. last ≡ after_reads s.now (length s.now.items * length s.now.items))

-- so many samples of a ring were read
abbrev pub CountsReadsOfHeld : MutBor Held → ℕ → Fml
CountsReadsOfHeld ring n =
    follows_so held_row held_row ring.ghost_name none (λ _ _. ⊤)
    (λ last. last ≡ held_after_reads ring.now n)

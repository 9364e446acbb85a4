-- Matches, discords and motifs that were found by hand.
use Rattle.std.specs.Prelude.{◌≡◌, ℕ, pos, List, [], ◌∷◌, Option, Some, None}
use Rattle.mp_nums.specs.declared.finds.Discord.{Discord}
use Rattle.mp_nums.specs.declared.nearest.Near.{Near}
use Rattle.mp_nums.specs.declared.nearest.Sq.{Sq}
use Rattle.mp_defs.specs.Series.{Series}
use Rattle.mp_results.specs.Slide.{square}
use Rattle.mp_results.specs.Discords.{discords}
use Rattle.mp_results.specs.Matches.{matches}
use Rattle.mp_results.specs.Motifs.{Repeated, MotifQuery, motifs}

abbrev found : ℕ → ℕ → Near
found dist index = record { dist = square dist; index = index }

abbrev discord : ℕ → ℕ → ℕ → Discord
discord start dist index = record { start = start; near = found dist index }

abbrev numbers : List ℕ → Series
numbers [] = []
numbers (n ∷ ns) = Some (pos n) ∷ numbers ns

-- the distances of 1 2 3 in 1 2 3 1 2 3
abbrev pub listed : List (Option Sq)
listed = Some (square 0) ∷ Some (square 6) ∷ Some (square 6) ∷ Some (square 0) ∷ []

pub record MatchesByHand : Type 0 where
  -- windows 1 and 2 lie in the zones of 0 and 3
  pub apart : matches listed 1 None 6 10 ≡ found 0 0 ∷ found 0 3 ∷ []
  pub one : matches listed 1 None 6 1 ≡ found 0 0 ∷ []
  -- window 3 lies in the zone of the one that is given
  pub around : matches listed 1 (Some 2) 6 10 ≡ found 6 2 ∷ found 0 0 ∷ []
  -- the one that is given may lie further away than the radius
  pub further : matches listed 1 (Some 2) 5 10 ≡ found 6 2 ∷ found 0 0 ∷ []
  -- a radius lets its edge in
  pub edge : matches listed 0 None 6 10 ≡ found 0 0 ∷ found 0 3 ∷ found 6 1 ∷ found 6 2 ∷ []

-- the entries of 1 2 3 1 2 3, and a window without one
abbrev pub entries : List (Option Near)
entries = Some (found 0 3) ∷ Some (found 6 3) ∷ Some (found 6 0) ∷ Some (found 0 0) ∷ None ∷ []

pub record DiscordsByHand : Type 0 where
  pub one : discords entries 1 1 ≡ discord 1 6 3 ∷ []
  pub two : discords entries 1 2 ≡ discord 1 6 3 ∷ discord 3 0 0 ∷ []
  pub all : discords entries 0 9 ≡ discord 1 6 3 ∷ discord 2 6 0 ∷ discord 0 0 3 ∷ discord 3 0 0 ∷ []

abbrev pub plain : Series
plain = numbers (1 ∷ 2 ∷ 3 ∷ 1 ∷ 2 ∷ 3 ∷ [])

-- window 1 has the nearest entry, and only window 3 matches it. These two shut out all but window 5
abbrev pub waves : Series
waves = numbers (3 ∷ 1 ∷ 0 ∷ 1 ∷ 1 ∷ 2 ∷ 2 ∷ 1 ∷ [])

abbrev pub asked : ℕ → ℕ → MotifQuery
asked radius neighbours =
    record { cutoff = radius; radius = radius; neighbours = neighbours; max_matches = 10; count = 3 }

abbrev repeated : ℕ → List Near → Repeated
repeated start matches = record { start = start; matches = matches }

pub record MotifsByHand : Type 0 where
  pub plain_one : motifs 3 plain (asked 6 1) ≡ repeated 0 (found 0 0 ∷ found 0 3 ∷ []) ∷ []
  -- the window itself is none of its neighbours
  pub plain_none : motifs 3 plain (asked 6 2) ≡ []
  pub shut_out : motifs 3 waves (asked 3 2) ≡ repeated 5 (found 0 5 ∷ found 3 0 ∷ found 3 3 ∷ []) ∷ []

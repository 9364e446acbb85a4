-- Searchers, workers that look for the centre.
use Rattle.std.specs.Prelude.{◌≡◌, ℕ, ◌+◌, ◌<◌, ◌≤◌, List, [], length, map, Option, None, IfSome, IsOk}
use Rattle.mp_defs.specs.Series.{Series, series_of}
use Rattle.mp_defs.specs.Profile.{windows_of}
use Rattle.mp_results.specs.Consensus.{series_at}
use Rattle.mp_workers.specs.Teams.{HasPast}
use Rattle.mp_consensus.specs.declared.blocks.Block.{Block}
use Rattle.mp_consensus.specs.declared.candidates.Candidate.{Candidate}
use Rattle.mp_consensus.specs.declared.searchers.Search.{Search}
use Rattle.mp_consensus.specs.declared.searchers.Searcher.{Searcher}
use Rattle.mp_consensus.specs.Bounds.{least_radius}
use Rattle.mp_consensus.specs.Conditions.{MayBeCompared}
use Rattle.mp_consensus.specs.Searches.{HasSearched, IsWindow, Precedes, piece_of}

-- the series of the list
abbrev pub series_in : Search → List Series
series_in s = map series_of s.list.now

-- what workers share: the desk gives out all pieces of the list
pub record IsSearch (s : Search) : Type 0 where
  pub conditions : MayBeCompared s.list.now s.m
  pub pieces_are : s.desk.pieces ≡ s.pieces
  pub few : s.pieces ≤ 262144
  pub all : (p i : ℕ) → p < length (series_in s) → i < windows_of s.m (series_at (series_in s) p)
      → piece_of (length (series_in s)) p i < s.pieces

-- a window of the list, with its radius
abbrev pub IsFound : Search → Candidate → Type 0
IsFound s c = IsWindow s.m (series_in s) c

-- the best candidate comes no later than window i of place p, where that has the least radius
abbrev pub Leaves : Search → Option Candidate → ℕ → ℕ → Type 0
Leaves s best p i = Precedes (least_radius s.m s.list.now) s.m (series_in s) best p i

-- the same of all windows of a block
abbrev pub LeavesBlock : Search → Option Candidate → Block → Type 0
LeavesBlock s best b = (k : ℕ) → k < b.count → Leaves s best b.place (b.start + k)

-- and of all windows of a piece
abbrev pub LeavesPiece : Search → Option Candidate → ℕ → Type 0
LeavesPiece s best piece =
    (p i : ℕ) → p < length (series_in s) → i < windows_of s.m (series_at (series_in s) p)
    → piece_of (length (series_in s)) p i ≡ piece → Leaves s best p i

-- the best candidate is one of the list's windows, and comes no later than any window of the pieces that were drawn
pub record HasFound (s : Search) (drawn : List ℕ) (best : Option Candidate) : Type 0 where
  pub sound : IfSome best (IsFound s)
  pub searched : HasSearched (least_radius s.m s.list.now) s.m (series_in s) drawn best

-- the worker has a pass of weight 1 to the desk, and looks at the bound
pub record IsAtWork (s : Search) (w : Searcher) : Type 0 where
  pub of_desk : w.pass.desk ≡ s.desk
  pub weight : w.pass.weight ≡ 1
  pub of_bound : w.looker.bound ≡ s.bound
  pub least : w.looker.least ≡ least_radius s.m s.list.now

-- it has drawn nothing yet
pub record IsReady (s : Search) (w : Searcher) : Type 0 where
  pub at_work : IsAtWork s w
  pub drawn : w.pass.drawn ≡ []
  pub none : w.best ≡ None

-- it has drawn numbers until one was no piece, unless it found no memory
pub record IsDone (s : Search) (w : Searcher) : Type 0 where
  pub at_work : IsAtWork s w
  pub found : IsOk w.outcome → HasFound s w.pass.drawn w.best
  pub past : IsOk w.outcome → HasPast s.pieces w.pass.drawn

-- The commands, and what they report, as data.
use Rattle.std.specs.Prelude.{ℕ, Bool, List, Option}
use Rattle.mp_nums.specs.declared.finds.Discord.{Discord}
use Rattle.mp_nums.specs.declared.finds.PanRow.{PanRow}
use Rattle.mp_nums.specs.declared.nearest.Near.{Near}
use Rattle.mp_nums.specs.declared.nearest.Sq.{Sq}
use Rattle.mp_defs.specs.Profile.{Columns}
use Rattle.mp_defs.specs.Series.{Series}
use Rattle.mp_results.specs.Consensus.{Central}
use Rattle.mp_results.specs.Motifs.{MotifQuery, Repeated}
use Rattle.mp_replies.specs.declared.modes.Mode.{Mode}
use Rattle.mp_replies.specs.declared.refs.Ref.{Ref}

pub data Command : Type 0 where
  -- how the lines that follow are read and answered
  Session : (mode : Mode) → Command
  -- open a slot anew, with so many empty channels
  OpenAnew : (slot channels : ℕ) → Command
  -- open a slot anew, with an empty channel of which so many samples are kept
  KeepLast : (slot keep : ℕ) → Command
  -- put these columns of a file into a slot
  Load : (slot : ℕ) (file : List ℕ) (columns : List ℕ) (header : Bool) → Command
  -- put this column of a file into a slot, whose profile is made in parts
  LoadLazy : (slot : ℕ) (file : List ℕ) (column : ℕ) (header : Bool) → Command
  -- add the items, in order
  Append : (slot : ℕ) (items : List (List ℕ)) → Command
  -- cover so many more diagonals of a slot
  Advance : (slot count : ℕ) → Command
  -- report the profile of the diagonals of a slot that are covered
  Partial : (slot : ℕ) → Command
  -- report the samples of a window
  Window : (at : Ref) (start : ℕ) → Command
  -- report the profile
  Profile : (at : Ref) → Command
  -- report the entry of a window
  Entry : (at : Ref) (start : ℕ) → Command
  -- report the AB-join of a channel in another
  Join : (a b : Ref) → Command
  -- report the distances of a slot's channels, so many of them together
  Multi : (slot k : ℕ) → Command
  -- report so many nearest windows of each window
  Nearest : (at : Ref) (k : ℕ) → Command
  -- report the nearest pair and the most unusual window of each window length from a least to a greatest
  Pan : (at : Ref) (lo hi : ℕ) → Command
  -- report the windows of a channel that match a window of another
  Match : (at query : Ref) (start radius max : ℕ) → Command
  -- report repeated patterns
  Motifs : (at : Ref) (query : MotifQuery) → Command
  -- report so many unusual windows
  Discords : (at : Ref) (count : ℕ) → Command
  -- report the chain from a window
  Chain : (at : Ref) (start : ℕ) → Command
  -- report all chains
  Chains : (at : Ref) → Command
  -- report so many changes of regime, with zones and margins of so many window lengths
  Segments : (at : Ref) (count factor : ℕ) → Command
  Mpdist : (a b : Ref) → Command
  -- report the window that some channels have in common
  Consensus : (refs : List Ref) → Command
  -- end the run
  End : Command

-- what an accepted command reports
pub data Report : Type 0 where
  SessionReport : Report
  -- the number of samples in each channel of the slot
  OpenReport : (samples : ℕ) → Report
  KeepReport : (samples : ℕ) → Report
  LoadReport : (samples : ℕ) → Report
  LazyReport : (samples : ℕ) → Report
  AppendReport : (samples : ℕ) → Report
  -- how many diagonals it covered, and how many are left
  AdvanceReport : (done left : ℕ) → Report
  -- the columns of the diagonals that are covered, and how many are left
  PartialReport : (columns : Columns) (left : ℕ) → Report
  -- the samples of the window at a start, and how many of their digits stand behind the point
  WindowReport : (start : ℕ) (samples : Series) (scale : ℕ) → Report
  ProfileReport : (columns : Columns) → Report
  -- the columns of the live windows of a kept slot, and where the first of them starts
  LiveProfileReport : (first : ℕ) (columns : Columns) → Report
  -- the entry of the window at a start, and its left and right entries
  EntryReport : (start : ℕ) (all left right : Option Near) → Report
  -- the entry of each window in another series
  JoinReport : (slots : List (Option Near)) → Report
  MpdistReport : (dist : Option Sq) → Report
  -- the entry of each window by several channels together
  MultiReport : (slots : List (Option Near)) → Report
  -- for each window its nearest ones, in their order
  NearestReport : (lists : List (List Near)) → Report
  -- for each window length what its profile has
  PanReport : (rows : List PanRow) → Report
  MatchReport : (list : List Near) → Report
  MotifsReport : (list : List Repeated) → Report
  DiscordsReport : (list : List Discord) → Report
  ChainReport : (chain : List ℕ) → Report
  ChainsReport : (chains : List (List ℕ)) → Report
  -- the places of the regimes, and the curve that they lie on, a fraction for each place
  SegmentsReport : (places : List ℕ) (curve : List (ℕ × ℕ)) → Report
  ConsensusReport : (centre : Option Central) → Report
  EndReport : Report

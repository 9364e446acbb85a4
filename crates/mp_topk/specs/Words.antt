-- Ranks in words, in which workers tell each other of windows as soon as they find them.
use Rattle.std.specs.Prelude.{◌≡◌, ℕ, ◌+◌, ◌-◌, ◌*◌, ◌/◌, ◌<◌, ◌≤◌, ◌⊎◌, ◌==◌, ◌||◌, nat_le, max, if◌then◌else◌}
use Rattle.std.specs.Prelude.{Option, None, suc, zero}
use Rattle.std.specs.Prelude.{List, [], ◌∷◌, ◌++◌, All, length, sum_by, slice_index, slice_index_or, Bool, true, Some}
use Rattle.mp_nums.specs.declared.nearest.Near.{Near}
use Rattle.mp_nums.specs.Near.{comes_before}
use Rattle.mp_tiles.specs.Compact.{slot_of_word}
use Rattle.mp_workers.specs.Desks.{whole}
use Rattle.mp_workers.specs.Entries.{HoldOf}
use Rattle.mp_workers.specs.Tellers.{AreShort, most_told}
use Rattle.mp_topk.specs.Laws.{StandsIn}
use Rattle.mp_defs.specs.Series.{Series, series_of}
use Rattle.mp_defs.specs.Window.{excl, is_allowed}
use Rattle.mp_defs.specs.Distance.{distance}
use Rattle.mp_defs.specs.Least.{near_at}
use Rattle.mp_defs.specs.Profile.{windows_of}
use Rattle.mp_cuts.specs.Pairs.{has_pair, no_tile}
use Rattle.mp_tiles.specs.Pieces.{OwnTiling, own_size}
use Rattle.mp_topk.specs.Sharing.{AreEntries, GiveNone, GivesNone, RankSeries, count_of, no_word, series_in, whole_of}
use Rattle.mp_topk.specs.declared.words.WordsView.{WordsView}
use Rattle.atomic_table.specs.Seated.{TableId}
use Rattle.atomic_table.specs.Table.{State, Me, Step}
use lib.ListN.{get_elem?}
use mathlib.Core.Option.{some}

-- numbers of places or of words, each with a word
abbrev pub Facts : Type 0
Facts = List (ℕ × ℕ)

-- the table of the words, and the series that they are of
pub record WordsAt : Type 0 where
  pub table : TableId
  pub series : RankSeries

-- a hold: the table that it is of, and what is known by it
pub record HeldWords : Type 0 where
  pub table : TableId
  pub view : WordsView

-- what is known of words of k ranks by which nothing was told, with so much weight
abbrev pub words_view : ℕ → ℕ → RankSeries → WordsView
words_view k weight s =
    record { ranks = k; weight = weight; whole = whole_of k s; seen = []; told = []; carried = [] }

-- ---- what is told stays

-- a word stands at a rank of a place
abbrev pub IsFound : ℕ → List ℕ → ℕ → ℕ → Type 0
IsFound k words place word = (rank : ℕ) × (rank < k) × (slice_index words (place * k + rank) ≡ word)

-- the last word of a place comes before it
abbrev pub IsBehind : ℕ → List ℕ → ℕ → ℕ → Type 0
IsBehind k words place word = slice_index words (place * k + (k - 1)) < word

-- it is what a worker carries on to a rank of the place
abbrev pub Carries : ℕ → WordsView → ℕ → ℕ → Type 0
Carries k view place word = (rank : ℕ) × (rank < k) × (view.carried ≡ (place * k + rank, word) ∷ [])

abbrev pub IsCarried : ℕ → List WordsView → ℕ → ℕ → Type 0
IsCarried k views place word =
    (seat : ℕ) × (view : WordsView) × (get_elem? views seat ≡ some view) × Carries k view place word

-- what was told of a place stands there, is on its way, or comes after all of its ranks
abbrev pub IsKept : ℕ → List ℕ → List WordsView → ℕ × ℕ → Type 0
IsKept k words views fact =
    (fact.1 < no_word)
    × (IsFound k words fact.0 fact.1 ⊎ (IsBehind k words fact.0 fact.1 ⊎ IsCarried k views fact.0 fact.1))

-- of the word with a number one was seen that comes before a word
abbrev pub SeenBelow : Facts → ℕ → ℕ → Type 0
SeenBelow [] at word = ⊥
SeenBelow (fact ∷ rest) at word = ((fact.0 ≡ at) × (fact.1 < word)) ⊎ SeenBelow rest at word

-- a word was told of a place
abbrev pub IsIn : Facts → ℕ → ℕ → Type 0
IsIn [] place word = ⊥
IsIn (fact ∷ rest) place word = ((fact.0 ≡ place) × (fact.1 ≡ word)) ⊎ IsIn rest place word

-- a window was told of a place by its word, or the last word was seen to come before that
abbrev pub IsToldOf : ℕ → WordsView → ℕ → Near → Type 0
IsToldOf k view place near =
    (word : ℕ) × (word < no_word) × (slot_of_word word ≡ Some near)
    × (IsIn view.told place word ⊎ SeenBelow view.seen (place * k + (k - 1)) word)

-- a word may be put at a rank of a place, before which all ranks come before it
pub record MayBePut (k : ℕ) (whole : List (List Near)) (words : List ℕ) (place rank word : ℕ) : Type 0 where
  pub place_is : place < length whole
  pub rank_is : rank < k
  pub some : word < no_word
  pub order : 1 ≤ rank → slice_index words (place * k + (rank - 1)) < word
  pub within : GivesNone k (slice_index_or whole place []) (slot_of_word word)

-- what a worker carries may be put, and the worker has a weight
abbrev pub MayCarry : ℕ → List (List Near) → List ℕ → WordsView → Type 0
MayCarry k whole words view =
    (view.carried ≡ []) ⊎ ((1 ≤ view.weight) × (place : ℕ) × (rank : ℕ) × (word : ℕ)
    × (view.carried ≡ (place * k + rank, word) ∷ []) × MayBePut k whole words place rank word)

-- what a worker knows holds of the words
pub record IsTrue (k : ℕ) (whole : List (List Near)) (words : List ℕ) (views : List WordsView) (view : WordsView)
    : Type 0 where
  pub seen : HoldOf words view.seen
  pub told : All (IsKept k words views) view.told
  pub carried : MayCarry k whole words view

-- of two words of a place that follow each other the first is the lesser one, or the second tells no window
abbrev pub AreRising : ℕ → List (List Near) → List ℕ → Type 0
AreRising k whole words =
    (place rank : ℕ) → place < length whole → rank + 1 < k
    → (slice_index words (place * k + rank) < slice_index words (place * k + (rank + 1)))
    ⊎ (no_word ≤ slice_index words (place * k + (rank + 1)))

-- what holds of the words and of what workers know between any two steps
pub record AreWordsOf (k : ℕ) (s : RankSeries) (t : State (Unit {0}) WordsView) : Type 0 where
  pub within : GiveNone k (whole_of k s) t.words
  pub fit : (n : ℕ) → slice_index t.words n ≤ no_word
  pub rising : AreRising k (whole_of k s) t.words
  pub weights : sum_by (λ view. view.weight) t.views ≡ whole
  pub each : (seat : ℕ) (view : WordsView) → get_elem? t.views seat ≡ some view
      → IsTrue k (whole_of k s) t.words t.views view

-- ---- what the steps do

-- the word found gives nothing to its place, and where it is the last one what comes after it is none of the ranks
pub record FindsWord (step : Step (Unit {0})) (before : Me (Unit {0}) WordsView) (found : ℕ)
    (after : Me (Unit {0}) WordsView) : Type 0 where
  pub within : GivesNone before.0.ranks (slice_index_or before.0.whole (step.word / before.0.ranks) [])
      (slot_of_word found)
  pub behind : (place : ℕ) → step.word ≡ place * before.0.ranks + (before.0.ranks - 1)
      → place < length before.0.whole → (near x : Near) → slot_of_word found ≡ Some near
      → comes_before near x ≡ true → StandsIn x (slice_index_or before.0.whole place []) → ⊥

abbrev pub with_seen : WordsView → ℕ → ℕ → WordsView
with_seen view at word = record view { seen = (at, word) ∷ view.seen }

-- the worker knows the word that it found
pub record LooksAt (step : Step (Unit {0})) (before : Me (Unit {0}) WordsView) (found : ℕ)
    (after : Me (Unit {0}) WordsView) : Type 0 where
  pub view : after.0 ≡ with_seen before.0 step.word found
  pub slots : after.1 ≡ before.1

-- what is carried on to the next rank, where a word was put at one: the later one of both
abbrev pub carried_on : ℕ → ℕ → ℕ → ℕ → ℕ → Facts
carried_on k place rank word found =
    if (found == word || nat_le no_word found) || (rank + 1) == k then []
    else (place * k + (rank + 1), max found word) ∷ []

abbrev pub with_told : WordsView → ℕ → ℕ → ℕ → ℕ → ℕ → WordsView
with_told view k place rank word found =
    record view { told = (place, word) ∷ view.told; carried = carried_on k place rank word found }

-- the worker told of a place, and carries the later one of both on
pub record LowersWord (step : Step (Unit {0})) (before : Me (Unit {0}) WordsView) (found : ℕ)
    (after : Me (Unit {0}) WordsView) : Type 0 where
  pub view : (place rank : ℕ) → step.word ≡ place * before.0.ranks + rank → rank < before.0.ranks
      → after.0 ≡ with_told before.0 before.0.ranks place rank step.first found
  pub slots : after.1 ≡ before.1
  pub within : GivesNone before.0.ranks (slice_index_or before.0.whole (step.word / before.0.ranks) [])
      (slot_of_word found)

-- what is left once a hold of weight 1 was cut off, and that hold
abbrev pub cut_left : WordsView → WordsView
cut_left view = record view { weight = view.weight - 1 }

abbrev pub cut_off : WordsView → WordsView
cut_off view = record { ranks = view.ranks; weight = 1; whole = view.whole; seen = []; told = []; carried = [] }

-- what two holds know, neither of which carries a word
abbrev pub both_views : WordsView → WordsView → WordsView
both_views view other = record {
  ranks = view.ranks;
  weight = view.weight + other.weight;
  whole = view.whole;
  seen = view.seen ++ other.seen;
  told = view.told ++ other.told;
  carried = [];
}

abbrev pub spent_view : WordsView
spent_view = record { ranks = 0; weight = 0; whole = []; seen = []; told = []; carried = [] }

-- ---- the words of a series, and what workers know of them

-- the table has a word for each window and rank
pub record AreWords (k : ℕ) (table : TableId) (s : RankSeries) (count apart : ℕ) : Type 0 where
  pub entries : AreEntries k table.words s
  pub no_slot : table.slots ≡ 0
  pub one : 1 ≤ k
  pub count_is : count ≡ count_of s
  pub apart_is : apart ≡ excl s.m + 1
  pub apart_small : apart ≤ 4294967296

-- it is a hold of these words of k ranks, with so much weight, and nothing is carried by it
pub record IsHoldOf (k : ℕ) (words : WordsAt) (weight : ℕ) (hold : HeldWords) : Type 0 where
  pub table_is : hold.table ≡ words.table
  pub ranks_is : hold.view.ranks ≡ k
  pub whole_is : hold.view.whole ≡ whole_of k words.series
  pub weight_is : hold.view.weight ≡ weight
  pub idle : hold.view.carried ≡ []

-- a worker that tells: the words, and what it knows of them
pub record RankTellerState : Type 0 where
  pub words : WordsAt
  pub view : WordsView

-- window j at a distance is none of the ranks of a place
abbrev pub IsOut : ℕ → RankSeries → ℕ → ℕ → ℕ → Type 0
IsOut k s place j d = StandsIn (near_at j d) (slice_index_or (whole_of k s) place []) → ⊥

-- it was told of the place, or is none of its ranks
abbrev pub IsKnownOf : ℕ → RankSeries → WordsView → ℕ → ℕ → ℕ → Type 0
IsKnownOf k s view place j d = IsToldOf k view place (near_at j d) ⊎ IsOut k s place j d

-- ---- workers that tell

-- the seat is at the table of the words, of which it knows the ranks
pub record IsRankTeller (k : ℕ) (words : WordsAt) (table : TableId) (me : Me (Unit {0}) WordsView) : Type 0 where
  pub one : 1 ≤ k
  pub of_table : table ≡ words.table
  pub slots : me.1 ≡ []
  pub ranks_is : me.0.ranks ≡ k
  pub whole_is : me.0.whole ≡ whole_of k words.series

-- a worker that knows what it knew, and as heavy
pub record KnowsMore (k : ℕ) (old new : WordsView) : Type 0 where
  pub weight : new.weight ≡ old.weight
  pub ranks : new.ranks ≡ old.ranks
  pub whole_is : new.whole ≡ old.whole
  pub told : (place word : ℕ) → IsIn old.told place word → IsIn new.told place word
  pub seen : (at word : ℕ) → SeenBelow old.seen at word → SeenBelow new.seen at word

-- a worker may put a word at a rank of a place: the rank before was seen to come before it, or the worker carries it
pub record MayPass (k : ℕ) (s : RankSeries) (view : WordsView) (place rank word : ℕ) : Type 0 where
  pub place_is : place < length (whole_of k s)
  pub rank_is : rank < k
  pub some : word < no_word
  pub within : GivesNone k (slice_index_or (whole_of k s) place []) (slot_of_word word)
  pub ready : ((view.carried ≡ []) × ((rank ≡ 0) ⊎ SeenBelow view.seen (place * k + (rank - 1)) word))
      ⊎ (view.carried ≡ (place * k + rank, word) ∷ [])

-- the words are of this series, with itself, and its distances fit them. The worker has a weight, and carries nothing
pub record FitsRankTeller (m : ℕ) (a b : Series) (teller : RankTellerState) : Type 0 where
  pub window : m ≡ teller.words.series.m
  pub rows : a ≡ series_of teller.words.series.samples
  pub columns : b ≡ series_of teller.words.series.samples
  pub short : AreShort teller.words.series.m (series_of teller.words.series.samples)
  pub weight : 1 ≤ teller.view.weight
  pub idle : teller.view.carried ≡ []

-- a row and a column of the series are at this distance, which fits a word
pub record MayTellRanks (teller : RankTellerState) (row column d : ℕ) : Type 0 where
  pub order : row < column
  pub place : column < count_of teller.words.series
  pub is : distance teller.words.series.m (series_of teller.words.series.samples) row
      (series_of teller.words.series.samples) column ≡ Some d
  pub short : d < most_told
  pub weight : 1 ≤ teller.view.weight
  pub idle : teller.view.carried ≡ []

-- what a worker knows that knew less, of pairs of windows that are compared
pub record AreRanksTold (k m : ℕ) (a b : Series) (pairs : ℕ → ℕ → Bool) (old new : RankTellerState)
    : Type 0 where
  pub words : new.words ≡ old.words
  pub more : KnowsMore k old.view new.view
  pub carried : new.view.carried ≡ old.view.carried
  pub row : (i j d : ℕ) → i < windows_of m a → j < windows_of m b → pairs i j ≡ true
      → is_allowed m i j ≡ true → distance m a i b j ≡ Some d → IsKnownOf k old.words.series new.view i j d
  pub column : (i j d : ℕ) → i < windows_of m a → j < windows_of m b → pairs i j ≡ true
      → is_allowed m i j ≡ true → distance m a i b j ≡ Some d → IsKnownOf k old.words.series new.view j i d

-- a window at a distance gives the ranks of a place nothing
abbrev pub keeps_told : ℕ → RankTellerState → ℕ → ℕ → ℕ → Type 0
keeps_told k teller i j d = IsOut k teller.words.series i j d

-- ---- tiles whose pairs workers tell each other of

-- what the pairs of a piece that are compared give is known
pub record IsPieceKnown (k : ℕ) (own : OwnTiling) (view : WordsView) (piece : ℕ) : Type 0 where
  pub row : (i j d : ℕ) → i < own_size own → j < own_size own
      → has_pair 0 (slice_index_or own.tiles piece no_tile) i j ≡ true → is_allowed own.m i j ≡ true
      → distance own.m (series_of own.samples) i (series_of own.samples) j ≡ Some d
      → IsKnownOf k (series_in own) view i j d
  pub column : (i j d : ℕ) → i < own_size own → j < own_size own
      → has_pair 0 (slice_index_or own.tiles piece no_tile) i j ≡ true → is_allowed own.m i j ≡ true
      → distance own.m (series_of own.samples) i (series_of own.samples) j ≡ Some d
      → IsKnownOf k (series_in own) view j i d

-- the tiles as pieces, and the words in which workers tell each other what they find
pub record RankTiling : Type 0 where
  pub own : OwnTiling
  pub words : WordsAt

-- the words are of the tiles' series, whose distances fit words, and which has a window
pub record AreTellingOf (own : OwnTiling) (series : RankSeries) : Type 0 where
  pub series_is : series ≡ series_in own
  pub short : AreShort own.m (series_of own.samples)
  pub some : 1 ≤ count_of series

-- each rank of each window is told
abbrev pub AreAllTold : ℕ → OwnTiling → WordsView → Type 0
AreAllTold k own view =
    (place : ℕ) → place < own_size own → (near : Near)
    → StandsIn near (slice_index_or (whole_of k (series_in own)) place []) → IsToldOf k view place near

-- ---- the windows that words side by side tell

abbrev pub with_slot : Option Near → List Near → List Near
with_slot None list = list
with_slot (Some near) list = near ∷ list

-- those of n words from one on
abbrev pub nears : List ℕ → ℕ → ℕ → List Near
nears words at zero = []
nears words at (suc n) = with_slot (slot_of_word (slice_index words at)) (nears words (at + 1) n)

-- and those of so many places of k words each
abbrev pub nears_of : List ℕ → ℕ → ℕ → List (List Near)
nears_of words k zero = []
nears_of words k (suc n) = nears_of words k n ++ (nears words (n * k) k ∷ [])

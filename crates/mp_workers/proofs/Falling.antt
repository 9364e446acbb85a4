-- What holds of words that only fall.
use Rattle.std.proofs.Common.{◌≡◌, ℕ, zero, suc, ◌+◌, ◌<◌, ◌≤◌, List, [], ◌∷◌, ◌++◌, length, min, set}
use Rattle.std.proofs.Common.{refl, sym, ap, subst, ◌∙◌, arith, inl, inr}
use Rattle.std.specs.Prelude.{slice_index, slice_index_or, None}
use Rattle.mp_workers.specs.declared.entries.EntriesView.{EntriesView}
use Rattle.mp_workers.specs.Entries.{AreEntriesOf, AreWithin, EntriesState, Finds, HoldOf, IsAtMost, IsWithin, Looks}
use Rattle.mp_workers.specs.Entries.{Lowers, Told, both_told, nothing_told, view_of, whole_of, with_word}
use Rattle.mp_workers.specs.EntryLaws.{lowered}
use Rattle.atomic_table.specs.Table.{Allows, Enters, Joins, Me, Splits, step, keeps}
use Rattle.atomic_table.proofs.Lists.{at_set, at_snoc, set_else}
use lib.ListN.{get_elem?}
use mathlib.Core.Option.{none, some}

-- ---- one word

-- where one is lowered, none rises
falls_at : (words : List ℕ) (place p word : ℕ)
    → slice_index (set words place (min (slice_index words place) word)) p ≤ slice_index words p
falls_at [] place p word = omega arith
falls_at (x ∷ xs) zero zero word = omega arith
falls_at (x ∷ xs) zero (suc p) word = omega arith
falls_at (x ∷ xs) (suc place) zero word = omega arith
falls_at (x ∷ xs) (suc place) (suc p) word = falls_at xs place p word

-- and that one is at most the new one
falls_to : (words : List ℕ) (place word : ℕ) → place < length words
    → slice_index (set words place (min (slice_index words place) word)) place ≤ word
falls_to [] place word lt = absurd (omega (arith, lt))
falls_to (x ∷ xs) zero word lt = omega arith
falls_to (x ∷ xs) (suc place) word lt = falls_to xs place word (omega (arith, lt))

-- one that is looked at stays
set_self : (words : List ℕ) (place : ℕ) → set words place (slice_index words place) ≡ words
set_self [] place = refl
set_self (x ∷ xs) zero = refl
set_self (x ∷ xs) (suc place) = ap (λ ws. x ∷ ws) (set_self xs place)

-- ---- what is told

pub still_hold : (old new : List ℕ) (told : Told) → ((p : ℕ) → slice_index new p ≤ slice_index old p)
    → HoldOf old told → HoldOf new told
still_hold old new [] falls h = tt
still_hold old new (fact ∷ rest) falls h =
    (omega (arith, falls fact.0, h.0), still_hold old new rest falls h.1)

pub both_hold : (words : List ℕ) (told others : Told) → HoldOf words told → HoldOf words others
    → HoldOf words (told ++ others)
both_hold words [] others h k = k
both_hold words (fact ∷ rest) others h k = (h.0, both_hold words rest others h.1 k)

-- a word is at most what holds of it
pub at_most_told : (words : List ℕ) (place : ℕ) (told : Told) → HoldOf words told
    → IsAtMost (slice_index words place) place told
at_most_told words place [] h = tt
at_most_told words place (fact ∷ rest) h =
    (λ e. subst (λ p. slice_index words p ≤ fact.1) e h.0, at_most_told words place rest h.1)

-- ---- steps

abbrev Views : Type 0
Views = List EntriesView

abbrev AllHold : List ℕ → Views → Type 0
AllHold words views = (seat : ℕ) (view : EntriesView) → get_elem? views seat ≡ some view → HoldOf words view.told

-- one view more
one_added : (words : List ℕ) (views : Views) (new : EntriesView) → AllHold words views → HoldOf words new.told
    → AllHold words (views ++ new ∷ [])
one_added words views new all one seat view e = elim (at_snoc views new view seat e) [
  | inl old ↦ all seat view old
  | inr same ↦ subst (λ (v : EntriesView). HoldOf words v.told) same one
]

-- another view in place of one
one_changed : (words : List ℕ) (views : Views) (id : ℕ) (new : EntriesView) → AllHold words views
    → HoldOf words new.told → AllHold words (set views id new)
one_changed words views id new all one seat view e = elim (at_set views id seat new view e) [
  | inl both ↦ subst (λ (v : EntriesView). HoldOf words v.told) both.1 one
  | inr other ↦ all seat view other.1
]

all_fall : (old new : List ℕ) (views : Views) → ((p : ℕ) → slice_index new p ≤ slice_index old p) → AllHold old views
    → AllHold new views
all_fall old new views falls all seat view e = still_hold old new view.told falls (all seat view e)

pub enters : (s : EntriesState) (slots place : ℕ) → place < length (whole_of s)
    → Enters (AreEntriesOf s) slots place
    (λ n w. Finds (step slots place 0 0 none) (view_of s, []) n (w, []))
enters s slots place lt state holds homes fits = (
  view_of s,
  record {
    within = holds.within;
    told = one_added state.words state.views (view_of s) holds.told tt;
  },
  record { within = holds.within.each place lt; same = refl },
)

pub allows_look : (s : EntriesState) (slots id place : ℕ) (me : Me (Unit {0}) EntriesView)
    → place < length (whole_of s) → me.0.whole ≡ whole_of s
    → Allows (AreEntriesOf s) slots id me place (λ n. n) (Looks (step slots place 0 0 none) me)
allows_look s slots id place me lt same state holds homes there fits =
    let words = state.words in
    let found = slice_index words place in
    let stays : set words place found ≡ words = set_self words place in (
      with_word me.0 place found,
      keeps,
      tt,
      record {
        within = subst (AreWithin (whole_of s)) (sym stays) holds.within;
        told = subst (λ ws. AllHold ws (set state.views id (with_word me.0 place found))) (sym stays)
            (one_changed words state.views id (with_word me.0 place found) holds.told
            (omega arith, holds.told id me.0 there));
      },
      record {
        within = subst (λ ws. IsWithin found (slice_index_or ws place None)) (sym same) (holds.within.each place lt);
        least = at_most_told words place me.0.told (holds.told id me.0 there);
        view = refl;
        slots = refl;
      },
    )

pub allows_lower : (s : EntriesState) (slots id place word : ℕ) (me : Me (Unit {0}) EntriesView)
    → place < length (whole_of s) → IsWithin word (slice_index_or (whole_of s) place None)
    → Allows (AreEntriesOf s) slots id me place (λ n. min n word) (Lowers (step slots place word 0 none) me)
allows_lower s slots id place word me lt is state holds homes there fits =
    let words = state.words in
    let new = set words place (min (slice_index words place) word) in
    let falls = λ (p : ℕ). falls_at words place p word in (
      with_word me.0 place word,
      keeps,
      tt,
      record {
        within = lowered (whole_of s) words place word holds.within lt is;
        told = one_changed new state.views id (with_word me.0 place word)
            (all_fall words new state.views falls holds.told) (
              falls_to words place word (omega (arith, lt, holds.within.places)),
              still_hold words new me.0.told falls (holds.told id me.0 there),
            );
      },
      record { view = refl; slots = refl },
    )

-- what one worker knows another may know too
pub splits : (s : EntriesState) (id : ℕ) (view : EntriesView) → Splits (AreEntriesOf s) id view view view
splits s id view state holds there = record {
  within = holds.within;
  told = one_added state.words (set state.views id view) view
      (one_changed state.words state.views id view holds.told (holds.told id view there)) (holds.told id view there);
}

pub joins : (s : EntriesState) (id : ℕ) (view : EntriesView) (other : ℕ) (others : EntriesView)
    → Joins (AreEntriesOf s) id view other others (both_told view others) nothing_told
joins s id view other others state holds there distinct also =
    let words = state.words in
    let both = both_told view others in
    let own = holds.told id view there in
    let theirs = holds.told other others (sym (set_else state.views id other both distinct) ∙ also) in
    record {
      within = holds.within;
      told = one_changed words (set state.views id both) other nothing_told
          (one_changed words state.views id both holds.told (both_hold words view.told others.told own theirs)) tt;
    }

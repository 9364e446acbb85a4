-- How workers look at words of ranks, and put what they know together.
use Rattle.std.proofs.Common.{◌≡◌, ℕ, zero, suc, ◌+◌, ◌-◌, ◌*◌, ◌<◌, ◌≤◌, List, [], ◌∷◌, ◌++◌, length, get_or}
use Rattle.std.proofs.Common.{true, inl, inr, refl, sym, ap, subst, ◌∙◌, arith, set}
use Rattle.std.specs.Prelude.{◌≢◌, Option, Some, None, slice_index, All, take, sum_by, replicate}
use Rattle.std.proofs.lemmas.Bool.{cases_lt, cases_eq}
use Rattle.std.proofs.lemmas.Bool.Decides.{nat_tests}
use Rattle.std.proofs.Math.ListN.{get_or-eq_default}
use Rattle.std.proofs.lemmas.List.{get_or-replicate, length-replicate}
use Rattle.std.proofs.lemmas.List.Elements.{All-append, All-head, All-nil, All-tail, All-weaker}
use Rattle.std.proofs.lemmas.List.Sums.{get_or-le-sum_by, sum_by-cons, sum_by_push}
use Rattle.mp_nums.specs.declared.nearest.Near.{Near}
use Rattle.mp_nums.specs.Near.{comes_before}
use Rattle.mp_tiles.specs.Compact.{slot_of_word}
use Rattle.mp_workers.specs.Desks.{whole}
use Rattle.mp_workers.specs.Entries.{HoldOf}
use Rattle.mp_topk.specs.declared.words.WordsView.{WordsView}
use Rattle.mp_topk.specs.Laws.{StandsIn}
use Rattle.mp_topk.specs.Ranking.{put_all}
use Rattle.mp_topk.specs.Sharing.{GiveNone, GivesNone, RankSeries, count_of, no_word, whole_of}
use Rattle.mp_topk.specs.Words.{AreRising, AreWordsOf, Facts, FindsWord, IsCarried, IsIn, IsKept, IsToldOf}
use Rattle.mp_topk.specs.Words.{IsTrue, LooksAt, MayCarry}
use Rattle.mp_topk.specs.Words.{both_views, cut_left, cut_off, nears, spent_view, with_seen, words_view}
use Rattle.mp_topk.proofs.Entering.{opens as opens_none, whole_count, word_below}
use Rattle.mp_topk.proofs.Putting.{below_seen, both_hold, carried_longer, fact_is, carried_stays}
use Rattle.mp_topk.proofs.Putting.{no_cons, sum_changed, view_at, whole_few, whole_rises, within_at}
use Rattle.mp_topk.proofs.Standing.{none_behind, none_given, same_ranks}
use Rattle.mp_topk.proofs.Wording.{Fit, Rises, all_before, below_last, from_word, near_of, nears_few, nears_rise}
use Rattle.mp_topk.proofs.Wording.{no_near, some_word, stands_at, words_in_order}
use Rattle.atomic_table.specs.Table.{Allows, Enters, Joins, Me, Splits, State, step, keeps, opening}
use Rattle.atomic_table.proofs.Lists.{at_set, at_snoc, set_else}
use lib.ListN.{get_elem?}
use mathlib.Core.Option.{none, some, some-injective, some-ne-none}

-- ---- what the words of a place tell

-- they are in order
place_rises : (k : ℕ) (ranks : List (List Near)) (words : List ℕ) (place : ℕ) → AreRising k ranks words
    → place < length ranks → Rises words (place * k) k
place_rises k ranks words place h lt i below = h place i lt below

-- and give the ranks of the place nothing
pub given_none : (k : ℕ) (s : RankSeries) (words : List ℕ) (place : ℕ) → GiveNone k (whole_of k s) words
    → place < length (whole_of k s)
    → take k (put_all (get_or (whole_of k s) place []) (nears words (place * k) k)) ≡ get_or (whole_of k s) place []
given_none k s words place h lt =
    none_given k (get_or (whole_of k s) place []) (nears words (place * k) k) (whole_few k s place)
    (λ y there. (let found = from_word words (place * k) k y there in
    subst (GivesNone k (get_or (whole_of k s) place [])) found.2
    (within_at k (whole_of k s) words place found.0 h lt found.1)))

one_before : (y n x : Near) → y ≡ n → comes_before n x ≡ true → comes_before y x ≡ true
one_before y n x e h = subst (λ z. comes_before z x ≡ true) (sym e) h

both_before : (y n x : Near) → comes_before y n ≡ true → comes_before n x ≡ true → comes_before y x ≡ true
both_before y n x e f = grind (arith, nat_tests, e, f)

near_is : (word : ℕ) (near : Near) → word < no_word → slot_of_word word ≡ Some near → near_of word ≡ near
near_is word near lt e = by (near_of word) near (sym (some_word word lt) ∙ e)
  where
    by : (a b : Near) → Some a ≡ Some b → a ≡ b
    by a b e = cc

-- where the last word tells a window that comes before x, all words of the place do
words_before : (words : List ℕ) (at n last : ℕ) → Rises words at (suc n) → slice_index words (at + n) ≡ last
    → last < no_word → (near x : Near) → near_of last ≡ near → comes_before near x ≡ true → (i : ℕ) → i ≤ n
    → (y : Near) × (slot_of_word (slice_index words (at + i)) ≡ Some y) × (comes_before y x ≡ true)
words_before words at n last h is real near x same before i below =
    let le = below_last words at n h (omega (arith, is, real)) i below in
    let less : slice_index words (at + i) < no_word = omega (arith, le, is, real) in (
      near_of (slice_index words (at + i)),
      some_word (slice_index words (at + i)) less,
      by (slice_index words (at + i)) (omega (arith, le, is)),
    )
  where
    equal : (w : ℕ) → w ≤ last → last ≤ w → w ≡ last
    equal w a b = omega (arith, a, b)

    by : (w : ℕ) → w ≤ last → comes_before (near_of w) x ≡ true
    by w le = elim (cases_lt w last) [
      | inl lower ↦ both_before (near_of w) near x
          (subst (λ z. comes_before (near_of w) z ≡ true) same (words_in_order w last lower)) before
      | inr no_lower ↦ one_before (near_of w) near x (ap near_of (equal w le no_lower) ∙ same) before
    ]

no_slot : (n : Near) → None ≡ Some n → ⊥
no_slot n e = cc

-- what comes after the last word is none of the ranks
pub none_after : (k : ℕ) (s : RankSeries) (words : List ℕ) (place : ℕ) → Fit words
    → GiveNone k (whole_of k s) words → AreRising k (whole_of k s) words → place < length (whole_of k s) → 1 ≤ k
    → (near x : Near) → slot_of_word (slice_index words (place * k + (k - 1))) ≡ Some near
    → comes_before near x ≡ true → StandsIn x (get_or (whole_of k s) place []) → ⊥
none_after k s words place fit within rising lt one near x e before there =
    let last : ℕ = slice_index words (place * k + (k - 1)) in
    elim (cases_lt last no_word) [
      | inl real ↦ none_behind k (get_or (whole_of k s) place []) (nears words (place * k) k) x
          (whole_rises k s place)
          (nears_rise words (place * k) k fit (place_rises k (whole_of k s) words place rising lt))
          (all_before words (place * k) k x (λ i below. words_before words (place * k) (k - 1) last
          (λ j less. place_rises k (whole_of k s) words place rising lt j (omega (arith, less, one))) refl real near x
          (near_is last near real e) before i (omega (arith, below))))
          (given_none k s words place within lt) there
      | inr absent ↦ absurd (no_slot near (sym (no_near last absent (fit (place * k + (k - 1)))) ∙ e))
    ]

-- ---- one view more, or another in its place

abbrev AllTrue : ℕ → RankSeries → List ℕ → List WordsView → Type 0
AllTrue k s words views =
    (seat : ℕ) (view : WordsView) → get_elem? views seat ≡ some view → IsTrue k (whole_of k s) words views view

abbrev weights_of : List WordsView → ℕ
weights_of views = sum_by (λ view. view.weight) views

-- what is known stays so where nothing that is carried is lost
stays_true : (k : ℕ) (ranks : List (List Near)) (words : List ℕ) (views later : List WordsView) (view : WordsView)
    → ((place word : ℕ) → IsCarried k views place word → IsCarried k later place word)
    → IsTrue k ranks words views view → IsTrue k ranks words later view
stays_true k ranks words views later view keep h = record {
  seen = h.seen;
  told = All-weaker (IsKept k words views) (IsKept k words later) (λ fact kept. still fact kept) view.told h.told;
  carried = h.carried;
}
  where
    still : (fact : ℕ × ℕ) → IsKept k words views fact → IsKept k words later fact
    still fact (real, inl found) = (real, inl found)
    still fact (real, inr (inl behind)) = (real, inr (inl behind))
    still fact (real, inr (inr carried)) = (real, inr (inr (keep fact.0 fact.1 carried)))

idle_true : (k : ℕ) (ranks : List (List Near)) (words : List ℕ) (views : List WordsView) (view : WordsView)
    → view.seen ≡ [] → view.told ≡ [] → view.carried ≡ [] → IsTrue k ranks words views view
idle_true k ranks words views view a b c = record {
  seen = subst (HoldOf words) (sym a) tt;
  told = subst (All (IsKept k words views)) (sym b) (All-nil (IsKept k words views));
  carried = inl c;
}

-- an idle view more
idle_added : (k : ℕ) (s : RankSeries) (words : List ℕ) (views : List WordsView) (new : WordsView)
    → new.seen ≡ [] → new.told ≡ [] → new.carried ≡ [] → AllTrue k s words views
    → AllTrue k s words (views ++ new ∷ [])
idle_added k s words views new a b c all seat view e = elim (at_snoc views new view seat e) [
  | inl old ↦ stays_true k (whole_of k s) words views (views ++ new ∷ []) view
      (λ p w. carried_longer k views new p w) (all seat view old)
  | inr same ↦ subst (IsTrue k (whole_of k s) words (views ++ new ∷ [])) same
      (idle_true k (whole_of k s) words (views ++ new ∷ []) new a b c)
]

pub enters : (k : ℕ) (s : RankSeries) (slots at : ℕ) → at < length (whole_of k s) * k → 1 ≤ k
    → Enters (AreWordsOf k s) slots at
    (λ n w. FindsWord (step slots at 0 0 none) (words_view k whole s, []) n (w, []))
enters k s slots at lt one state holds homes fits = (
  words_view k 0 s,
  record {
    within = holds.within;
    fit = holds.fit;
    rising = holds.rising;
    weights = omega (arith, sum_by_push (λ v. v.weight) state.views (words_view k 0 s), holds.weights);
    each = idle_added k s state.words state.views (words_view k 0 s) refl refl refl holds.each;
  },
  record {
    within = holds.within.each at (omega (arith, lt, holds.within.places));
    behind = λ place e below near x slot before there.
        none_after k s state.words place holds.fit holds.within holds.rising below one near x
        (ap (λ p. slot_of_word (slice_index state.words p)) (sym e) ∙ slot) before there;
  },
)

set_self : (words : List ℕ) (at : ℕ) → set words at (slice_index words at) ≡ words
set_self [] at = refl
set_self (x ∷ xs) zero = refl
set_self (x ∷ xs) (suc at) = ap (λ ws. x ∷ ws) (set_self xs at)

-- another view that carries the same, in place of one
one_changed : (k : ℕ) (s : RankSeries) (words : List ℕ) (views : List WordsView) (id : ℕ) (old new : WordsView)
    → get_elem? views id ≡ some old → new.carried ≡ old.carried → AllTrue k s words views
    → (IsTrue k (whole_of k s) words views old → IsTrue k (whole_of k s) words views new)
    → AllTrue k s words (set views id new)
one_changed k s words views id old new there same all change seat view e = elim (at_set views id seat new view e) [
  | inl both ↦ subst (IsTrue k (whole_of k s) words (set views id new)) both.1
      (stays_true k (whole_of k s) words views (set views id new) new keep (change (all id old there)))
  | inr other ↦ stays_true k (whole_of k s) words views (set views id new) view keep (all seat view other.1)
]
  where
    keep : (place word : ℕ) → IsCarried k views place word → IsCarried k (set views id new) place word
    keep place word carried =
        carried_stays k views id old new place word there (λ c. (c.0, c.1, same ∙ c.2)) carried

pub allows_look : (k : ℕ) (s : RankSeries) (slots id at : ℕ) (me : Me (Unit {0}) WordsView)
    → Allows (AreWordsOf k s) slots id me at (λ n. n) (LooksAt (step slots at 0 0 none) me)
allows_look k s slots id at me state holds homes there fits =
    let words = state.words in
    let found = slice_index words at in
    let new = with_seen me.0 at found in (
      new,
      keeps,
      tt,
      subst (λ ws. AreWordsOf k s (record { words = ws; homes = state.homes; views = set state.views id new }))
          (sym (set_self words at)) (record {
            within = holds.within;
            fit = holds.fit;
            rising = holds.rising;
            weights = omega (arith, sum_changed (λ v. v.weight) state.views id me.0 new there, holds.weights);
            each = one_changed k s words state.views id me.0 new there refl holds.each (λ h. record {
              seen = (omega arith, h.seen);
              told = h.told;
              carried = h.carried;
            });
          }),
      record { view = refl; slots = refl },
    )

-- ---- cutting off a hold, and putting two together

pub splits : (k : ℕ) (s : RankSeries) (id : ℕ) (view : WordsView) → 2 ≤ view.weight
    → Splits (AreWordsOf k s) id view (cut_left view) (cut_off view)
splits k s id view heavy state holds there =
    let words = state.words in
    let left = set state.views id (cut_left view) in
    record {
      within = holds.within;
      fit = holds.fit;
      rising = holds.rising;
      weights = omega (
        arith,
        sum_by_push (λ v. v.weight) left (cut_off view),
        sum_changed (λ v. v.weight) state.views id view (cut_left view) there,
        holds.weights,
        heavy,
      );
      each = idle_added k s words left (cut_off view) refl refl refl
          (one_changed k s words state.views id view (cut_left view) there refl holds.each (λ h. record {
            seen = h.seen;
            told = h.told;
            carried = lighter h.carried;
          }));
    }
  where
    lighter : MayCarry k (whole_of k s) state.words view → MayCarry k (whole_of k s) state.words (cut_left view)
    lighter (inl idle) = inl idle
    lighter (inr (weight, place, rank, word, is, put)) = inr (omega (arith, heavy), place, rank, word, is, put)

pub joins : (k : ℕ) (s : RankSeries) (id : ℕ) (view : WordsView) (other : ℕ) (second : WordsView)
    → view.carried ≡ [] → second.carried ≡ []
    → Joins (AreWordsOf k s) id view other second (both_views view second) spent_view
joins k s id view other second idle idle' state holds there distinct also =
    let words = state.words in
    let both = both_views view second in
    let mid = set state.views id both in
    let theirs : get_elem? state.views other ≡ some second =
    sym (set_else state.views id other both distinct) ∙ also in
    let all = one_changed k s words state.views id view both there (sym idle) holds.each (λ h. record {
      seen = both_hold words view.seen second.seen h.seen (holds.each other second theirs).seen;
      told = All-append (IsKept k words state.views) view.told second.told h.told
          (holds.each other second theirs).told;
      carried = inl refl;
    }) in
    record {
      within = holds.within;
      fit = holds.fit;
      rising = holds.rising;
      weights = omega (
        arith,
        sum_changed (λ v. v.weight) mid other second spent_view also,
        sum_changed (λ v. v.weight) state.views id view both there,
        holds.weights,
      );
      each = one_changed k s words mid other second spent_view also (sym idle') all
          (λ h. idle_true k (whole_of k s) words mid spent_view refl refl refl);
    }

-- ---- the beginning and the end

pub opens : (k : ℕ) (s : RankSeries) (count : ℕ) → count ≡ length (whole_of k s) * k
    → AreWordsOf k s (opening (replicate count no_word) [] (words_view k whole s))
opens k s count e = record {
  within = opens_none k s count e;
  fit = fit;
  rising = λ place rank lt below. inr (high (place * k + (rank + 1))
      (omega (arith, e, word_below k place (rank + 1) (length (whole_of k s)) lt below)));
  weights = omega (arith, sum_by-cons (λ v. v.weight) (words_view k whole s) []);
  each = each;
}
  where
    high : (n : ℕ) → n < count → no_word ≤ slice_index (replicate count no_word) n
    high n lt = omega (arith, get_or-replicate count n no_word 0 lt)

    fit : (n : ℕ) → slice_index (replicate count no_word) n ≤ no_word
    fit n = elim (cases_lt n count) [
      | inl lt ↦ omega (arith, get_or-replicate count n no_word 0 lt)
      | inr le ↦
          let outside : slice_index (replicate count no_word) n ≡ 0 =
          get_or-eq_default (replicate count no_word) 0 (omega (arith, le, length-replicate count no_word)) in
          omega (arith, outside)
    ]

    each : AllTrue k s (replicate count no_word) (words_view k whole s ∷ [])
    each zero view same = subst (IsTrue k (whole_of k s) (replicate count no_word) (words_view k whole s ∷ []))
        (some-injective (words_view k whole s) view same)
        (idle_true k (whole_of k s) (replicate count no_word) (words_view k whole s ∷ []) (words_view k whole s)
        refl refl refl)
    each (suc seat) view same = absurd (some-ne-none view (sym same))

in_all : (P : ℕ × ℕ → Type 0) (told : Facts) (place word : ℕ) → All P told → IsIn told place word → P (place, word)
in_all P [] place word all is = absurd is
in_all P (fact ∷ rest) place word all (inl here) =
    subst P (fact_is fact place word here.0 here.1) (All-head P fact rest all)
in_all P (fact ∷ rest) place word all (inr later) = in_all P rest place word (All-tail P fact rest all) later

-- what two views have is no more than what all have
two_within : (views : List WordsView) (seat other : ℕ) (view second : WordsView) → seat ≢ other
    → get_elem? views seat ≡ some view → get_elem? views other ≡ some second
    → view.weight + second.weight ≤ weights_of views
two_within views seat other view second ne e d =
    let less = set views seat spent_view in
    let there : get_elem? less other ≡ some second =
    set_else views seat other spent_view (λ same. ne (sym same)) ∙ d in
    let here = view_at less other second there in
    let most = subst (λ (v : WordsView). v.weight ≤ weights_of less) here.1
    (get_or-le-sum_by (λ (v : WordsView). v.weight) less other second here.0) in
    omega (arith, sum_changed (λ (v : WordsView). v.weight) views seat view spent_view e, most)

-- who has the whole weight knows that nothing is carried
none_carried : (k : ℕ) (s : RankSeries) (t : State (Unit {0}) WordsView) (seat : ℕ) (view : WordsView)
    (place word : ℕ) → AreWordsOf k s t → get_elem? t.views seat ≡ some view → view.weight ≡ whole
    → view.carried ≡ [] → IsCarried k t.views place word → ⊥
none_carried k s t seat view place word holds there heavy idle (other, second, e, carries) =
    elim (cases_eq seat other) [
      | inl same ↦
          let me : view ≡ second = some-injective view second (sym there ∙ ap (get_elem? t.views) same ∙ e) in
          no_cons (place * k + carries.0, word) []
          (sym carries.2 ∙ ap (λ (v : WordsView). v.carried) (sym me) ∙ idle)
      | inr differ ↦ by (holds.each other second e).carried
          (two_within t.views seat other view second differ there e)
    ]
  where
    by : MayCarry k (whole_of k s) t.words second → view.weight + second.weight ≤ weights_of t.views → ⊥
    by (inl none_there) most = no_cons (place * k + carries.0, word) [] (sym carries.2 ∙ none_there)
    by (inr (weight, p, r, w, is, put)) most = omega (arith, weight, most, heavy, holds.weights)

-- the words of a place tell its ranks, where all of these are told of
pub closes : (k : ℕ) (s : RankSeries) (t : State (Unit {0}) WordsView) (seat : ℕ) (view : WordsView) (place : ℕ)
    → AreWordsOf k s t → get_elem? t.views seat ≡ some view → view.weight ≡ whole → view.carried ≡ [] → 1 ≤ k
    → place < length (whole_of k s)
    → ((x : Near) → StandsIn x (get_or (whole_of k s) place []) → IsToldOf k view place x)
    → nears t.words (place * k) k ≡ get_or (whole_of k s) place []
closes k s t seat view place holds there heavy idle one lt told =
    same_ranks k (get_or (whole_of k s) place []) (nears t.words (place * k) k) (whole_rises k s place)
    (nears_rise t.words (place * k) k holds.fit (place_rises k (whole_of k s) t.words place holds.rising lt))
    (nears_few t.words (place * k) k) (given_none k s t.words place holds.within lt)
    (λ x stands. by x stands (told x stands))
  where
    behind : (x : Near) (word : ℕ) → slice_index t.words (place * k + (k - 1)) < word → word < no_word
        → slot_of_word word ≡ Some x → StandsIn x (get_or (whole_of k s) place []) → ⊥
    behind x word less real slot stands =
        let last : ℕ = slice_index t.words (place * k + (k - 1)) in
        none_after k s t.words place holds.fit holds.within holds.rising lt one (near_of last) x
        (some_word last (omega (arith, less, real)))
        (subst (λ z. comes_before (near_of last) z ≡ true) (near_is word x real slot) (words_in_order last word less))
        stands

    kept : (x : Near) (word : ℕ) → slot_of_word word ≡ Some x → StandsIn x (get_or (whole_of k s) place [])
        → IsKept k t.words t.views (place, word) → StandsIn x (nears t.words (place * k) k)
    kept x word slot stands (real, inl (rank, below, is)) =
        stands_at t.words (place * k) k rank x below (ap slot_of_word is ∙ slot)
    kept x word slot stands (real, inr (inl less)) = absurd (behind x word less real slot stands)
    kept x word slot stands (real, inr (inr carried)) =
        absurd (none_carried k s t seat view place word holds there heavy idle carried)

    by : (x : Near) → StandsIn x (get_or (whole_of k s) place []) → IsToldOf k view place x
        → StandsIn x (nears t.words (place * k) k)
    by x stands (word, real, slot, inl is) =
        kept x word slot stands (in_all (IsKept k t.words t.views) view.told place word
        (holds.each seat view there).told is)
    by x stands (word, real, slot, inr seen) =
        absurd (behind x word (below_seen t.words view.seen (place * k + (k - 1)) word
        (holds.each seat view there).seen seen)
        real slot stands)

-- ---- tables

-- there is a word where there is a window
pub some_words : (k : ℕ) (s t : RankSeries) (words : ℕ) → words ≡ length (whole_of k s) * k → 1 ≤ k → s ≡ t
    → 1 ≤ count_of t → 0 < words
some_words k s t words e one same there =
    let first = word_below k 0 0 (count_of t) there one in
    omega (arith, e, ap (λ n. n * k) (whole_count k s), ap (λ n. n * k) (ap count_of same), first)

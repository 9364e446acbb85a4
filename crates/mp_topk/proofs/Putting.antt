-- What steps on words of ranks keep.
use Rattle.std.proofs.Common.{◌≡◌, ℕ, zero, suc, ◌+◌, ◌-◌, ◌*◌, ◌/◌, ◌<◌, ◌≤◌, ◌⊎◌, List, [], ◌∷◌, ◌++◌, length, get_or}
use Rattle.std.proofs.Common.{Bool, true, false, inl, inr, min, refl, sym, ap, subst, ◌∙◌, arith, set}
use Rattle.std.proofs.Common.{get_or-set_same, get_or-set_other}
use Rattle.std.specs.Prelude.{◌≢◌, Option, slice_index, All, take, sum_by, max, ◌==◌, ◌||◌, nat_le}
use Rattle.std.specs.Prelude.{if◌then◌else◌, map}
use Rattle.std.proofs.lemmas.Bool.{cases_lt, cases_eq}
use Rattle.std.proofs.lemmas.Bool.Decides.{nat_tests}
use Rattle.std.proofs.lemmas.List.Elements.{All-cons, All-head, All-tail, All-weaker}
use Rattle.std.proofs.lemmas.List.Sums.{sum_by-set}
use Rattle.mp_nums.specs.declared.nearest.Near.{Near}
use Rattle.mp_defs.specs.Window.{is_allowed}
use Rattle.mp_tiles.specs.Compact.{slot_of_word}
use Rattle.mp_workers.specs.Entries.{HoldOf}
use Rattle.mp_topk.specs.declared.words.WordsView.{WordsView}
use Rattle.mp_topk.specs.Ranking.{AreRanks, is_rising, slots_of}
use Rattle.mp_topk.specs.RankLaws.{those_in_slots}
use Rattle.mp_topk.specs.Sharing.{GiveNone, GivesNone, RankSeries, no_word, whole_of}
use Rattle.mp_topk.specs.TileLaws.{value_has_ranks}
use Rattle.mp_topk.specs.Words.{AreRising, AreWordsOf, Carries, Facts, IsCarried, IsKept}
use Rattle.mp_topk.specs.Words.{IsTrue, LowersWord, MayBePut, MayCarry, MayPass, SeenBelow, carried_on}
use Rattle.mp_topk.specs.Words.{with_told}
use Rattle.mp_topk.proofs.Entering.{lowered, place_of, word_below}
use Rattle.mp_topk.proofs.Taken.{are_few}
use Rattle.atomic_table.specs.Table.{Allows, Me, step, keeps}
use Rattle.atomic_table.proofs.Lists.{at_longer, at_set, set_else, set_here}
use lib.ListN.{get_elem?}
use mathlib.Core.Option.{none, some, some-injective, some-ne-none}

-- ---- the whole

rises_at : (k : ℕ) (lists : List (List Near)) → All (AreRanks k) (map slots_of lists) → (i : ℕ)
    → is_rising (get_or lists i []) ≡ true
unfolding is_rising
rises_at k [] h i = refl
rises_at k (x ∷ xs) h zero =
    subst (λ list. is_rising list ≡ true) (those_in_slots x)
    (All-head (AreRanks k) (slots_of x) (map slots_of xs) h).rising
rises_at k (x ∷ xs) h (suc i) = rises_at k xs (All-tail (AreRanks k) (slots_of x) (map slots_of xs) h) i

-- the ranks of a place are in order, and no more than k
pub whole_rises : (k : ℕ) (s : RankSeries) (place : ℕ) → is_rising (get_or (whole_of k s) place []) ≡ true
whole_rises k s place = rises_at k (whole_of k s) (value_has_ranks k (is_allowed s.m) s.m s.samples).ranks place

pub whole_few : (k : ℕ) (s : RankSeries) (place : ℕ)
    → take k (get_or (whole_of k s) place []) ≡ get_or (whole_of k s) place []
whole_few k s place = are_few k (whole_of k s) (value_has_ranks k (is_allowed s.m) s.m s.samples).ranks place

-- ---- places and words

-- a place and a rank have a word of their own
pub same_place : (k p r q t : ℕ) → r < k → t < k → p * k + r ≡ q * k + t → (p ≡ q) × (r ≡ t)
same_place k p r q t a b e =
    let first : p ≡ q = sym (place_of k p r a) ∙ ap (λ n. n / k) e ∙ place_of k q t b in
    let moved : p * k + r ≡ p * k + t = e ∙ ap (λ n. n * k + t) (sym first) in
    (first, omega (arith, moved))

pub within_at : (k : ℕ) (whole : List (List Near)) (words : List ℕ) (place rank : ℕ) → GiveNone k whole words
    → place < length whole → rank < k
    → GivesNone k (get_or whole place []) (slot_of_word (slice_index words (place * k + rank)))
within_at k whole words place rank h lt below =
    subst (λ p. GivesNone k (get_or whole p []) (slot_of_word (slice_index words (place * k + rank))))
    (place_of k place rank below)
    (h.each (place * k + rank) (omega (arith, h.places, word_below k place rank (length whole) lt below)))

-- ---- one word that is lowered

abbrev put_word : List ℕ → ℕ → ℕ → List ℕ
put_word words at word = set words at (min (slice_index words at) word)

pub falls : (words : List ℕ) (at p word : ℕ) → slice_index (put_word words at word) p ≤ slice_index words p
falls [] at p word = omega arith
falls (x ∷ xs) zero zero word = omega arith
falls (x ∷ xs) zero (suc p) word = omega arith
falls (x ∷ xs) (suc at) zero word = omega arith
falls (x ∷ xs) (suc at) (suc p) word = falls xs at p word

here_is : (words : List ℕ) (at word : ℕ) → at < length words
    → slice_index (put_word words at word) at ≡ min (slice_index words at) word
here_is words at word lt = get_or-set_same words at (min (slice_index words at) word) _ lt

else_is : (words : List ℕ) (at p word : ℕ) → p ≢ at
    → slice_index (put_word words at word) p ≡ slice_index words p
else_is words at p word ne = get_or-set_other words at p (min (slice_index words at) word) _ ne

pub still_hold : (old new : List ℕ) (facts : Facts) → ((p : ℕ) → slice_index new p ≤ slice_index old p)
    → HoldOf old facts → HoldOf new facts
still_hold old new [] down h = tt
still_hold old new (fact ∷ rest) down h =
    (omega (arith, down fact.0, h.0), still_hold old new rest down h.1)

pub both_hold : (words : List ℕ) (facts others : Facts) → HoldOf words facts → HoldOf words others
    → HoldOf words (facts ++ others)
both_hold words [] others h k = k
both_hold words (fact ∷ rest) others h k = (h.0, both_hold words rest others h.1 k)

-- ---- what is carried on

pub on_its_way : (k place rank word found : ℕ) → found ≢ word → found < no_word → rank + 1 ≢ k
    → carried_on k place rank word found ≡ (place * k + (rank + 1), max found word) ∷ []
on_its_way k place rank word found a b c =
    let first : (found == word) ≡ false = grind (arith, nat_tests, a) in
    let second : nat_le no_word found ≡ false = grind (arith, nat_tests, b) in
    let third : ((rank + 1) == k) ≡ false = grind (arith, nat_tests, c) in
    ap (λ t. if (t || nat_le no_word found) || ((rank + 1) == k) then []
    else (place * k + (rank + 1), max found word) ∷ []) first
    ∙ ap (λ t. if t || ((rank + 1) == k) then [] else (place * k + (rank + 1), max found word) ∷ []) second
    ∙ ap (λ t. if t then [] else (place * k + (rank + 1), max found word) ∷ []) third

-- where it stood there already, where nothing stood there, or at the last rank, nothing is
pub nothing_left : (k place rank word found : ℕ) → (found ≡ word) ⊎ ((no_word ≤ found) ⊎ (rank + 1 ≡ k))
    → carried_on k place rank word found ≡ []
nothing_left k place rank word found (inl same) =
    let test : (found == word) ≡ true = grind (arith, nat_tests, same) in
    ap (λ t. if (t || nat_le no_word found) || ((rank + 1) == k) then []
    else (place * k + (rank + 1), max found word) ∷ []) test
nothing_left k place rank word found (inr (inl absent)) =
    let test : nat_le no_word found ≡ true = grind (arith, nat_tests, absent) in
    ap (λ t. if (t || ((rank + 1) == k)) then [] else (place * k + (rank + 1), max found word) ∷ [])
    (either (found == word) (nat_le no_word found) test)
  where
    either : (s t : Bool) → t ≡ true → (s || t) ≡ true
    either true t e = refl
    either false t e = e
nothing_left k place rank word found (inr (inr last)) =
    let test : ((rank + 1) == k) ≡ true = grind (arith, nat_tests, last) in
    ap (λ t. if t then [] else (place * k + (rank + 1), max found word) ∷ [])
    (either (found == word || nat_le no_word found) ((rank + 1) == k) test)
  where
    either : (s t : Bool) → t ≡ true → (s || t) ≡ true
    either true t e = refl
    either false t e = e

-- ---- views

pub view_at : (views : List WordsView) (seat : ℕ) (view : WordsView) → get_elem? views seat ≡ some view
    → (seat < length views) × (get_or views seat view ≡ view)
view_at [] seat view e = absurd (some-ne-none view (sym e))
view_at (x ∷ xs) zero view e = (omega arith, some-injective x view e)
view_at (x ∷ xs) (suc seat) view e = let rest = view_at xs seat view e in (omega (arith, rest.0), rest.1)

-- where one view changes
pub sum_changed : (f : WordsView → ℕ) (views : List WordsView) (seat : ℕ) (old new : WordsView)
    → get_elem? views seat ≡ some old → sum_by f (set views seat new) + f old ≡ sum_by f views + f new
sum_changed f views seat old new e =
    let there = view_at views seat old e in
    ap (λ view. sum_by f (set views seat new) + f view) (sym there.1) ∙ sum_by-set f views seat new old there.0

-- what one carries stays where its view does, or carries the same
pub carried_stays : (k : ℕ) (views : List WordsView) (id : ℕ) (old new : WordsView) (place word : ℕ)
    → get_elem? views id ≡ some old → (Carries k old place word → Carries k new place word)
    → IsCarried k views place word → IsCarried k (set views id new) place word
carried_stays k views id old new place word e keep (seat, view, there, carries) = elim (cases_eq seat id) [
  | inl same ↦ (
    id,
    new,
    set_here views id new (view_at views id old e).0,
    keep (subst (λ v. Carries k v place word)
        (some-injective view old (sym there ∙ ap (get_elem? views) same ∙ e)) carries),
  )
  | inr other ↦ (seat, view, set_else views id seat new other ∙ there, carries)
]

pub carried_longer : (k : ℕ) (views : List WordsView) (new : WordsView) (place word : ℕ)
    → IsCarried k views place word → IsCarried k (views ++ new ∷ []) place word
carried_longer k views new place word (seat, view, there, carries) =
    (seat, view, at_longer views (new ∷ []) seat view there, carries)

-- ---- a word is put at a rank

pub below_seen : (words : List ℕ) (seen : Facts) (at word : ℕ) → HoldOf words seen → SeenBelow seen at word
    → slice_index words at < word
below_seen words [] at word h is = absurd is
below_seen words (fact ∷ rest) at word h (inl here) =
    let first : slice_index words at ≤ fact.1 = subst (λ (p : ℕ). slice_index words p ≤ fact.1) here.0 h.0 in
    omega (arith, first, here.1)
below_seen words (fact ∷ rest) at word h (inr later) = below_seen words rest at word h.1 later

pub no_cons : (x : ℕ × ℕ) (xs : Facts) → x ∷ xs ≡ [] → ⊥
no_cons x xs e = cc

pub fact_is : (fact : ℕ × ℕ) (place word : ℕ) → fact.0 ≡ place → fact.1 ≡ word → fact ≡ (place, word)
fact_is fact place word p q = ap (λ x. (x, fact.1)) p ∙ ap (λ y. (place, y)) q

one_fact : (x y : ℕ × ℕ) → x ∷ [] ≡ y ∷ [] → (x.0 ≡ y.0) × (x.1 ≡ y.1)
one_fact x y e = (cc, cc)

-- so it may be put among the words as they are
may_be_put : (k : ℕ) (s : RankSeries) (words : List ℕ) (views : List WordsView) (view : WordsView)
    (place rank word : ℕ) → IsTrue k (whole_of k s) words views view → MayPass k s view place rank word
    → MayBePut k (whole_of k s) words place rank word
may_be_put k s words views view place rank word h may = record {
  place_is = may.place_is;
  rank_is = may.rank_is;
  some = may.some;
  order = λ one. by one may.ready;
  within = may.within;
}
  where
    carried : 1 ≤ rank → view.carried ≡ (place * k + rank, word) ∷ [] → MayCarry k (whole_of k s) words view
        → slice_index words (place * k + (rank - 1)) < word
    carried one e (inl idle) = absurd (no_cons (place * k + rank, word) [] (sym e ∙ idle))
    carried one e (inr (heavy, p, r, w, is, put)) =
        let same = one_fact (p * k + r, w) (place * k + rank, word) (sym is ∙ e) in
        let both = same_place k p r place rank put.rank_is may.rank_is same.0 in
        let before = put.order (omega (arith, one, both.1)) in
        let at : p * k + (r - 1) ≡ place * k + (rank - 1) =
        ap (λ n. n * k + (r - 1)) both.0 ∙ ap (λ n. place * k + (n - 1)) both.1 in
        let moved : slice_index words (place * k + (rank - 1)) < w =
        subst (λ (n : ℕ). slice_index words n < w) at before in
        omega (arith, moved, same.1)

    by : 1 ≤ rank → ((view.carried ≡ []) × ((rank ≡ 0) ⊎ SeenBelow view.seen (place * k + (rank - 1)) word))
        ⊎ (view.carried ≡ (place * k + rank, word) ∷ []) → slice_index words (place * k + (rank - 1)) < word
    by one (inl (idle, inl first)) = absurd (omega (arith, one, first))
    by one (inl (idle, inr seen)) = below_seen words view.seen (place * k + (rank - 1)) word h.seen seen
    by one (inr e) = carried one e h.carried

module _ (k : ℕ) (s : RankSeries) (words : List ℕ) (views : List WordsView) (id : ℕ) (view : WordsView)
    (place rank word : ℕ) (there : get_elem? views id ≡ some view) (heavy : 1 ≤ view.weight)
    (is_true : IsTrue k (whole_of k s) words views view) (may : MayPass k s view place rank word)
    (within : GiveNone k (whole_of k s) words) where
  abbrev at : ℕ
  at = place * k + rank

  abbrev found : ℕ
  found = slice_index words at

  abbrev after : List ℕ
  after = put_word words at word

  abbrev next : WordsView
  next = with_told view k place rank word found

  abbrev later : List WordsView
  later = set views id next

  at_below : at < length words
  at_below = omega (arith, within.places, word_below k place rank (length (whole_of k s)) may.place_is may.rank_is)

  new_here : slice_index after at ≡ min found word
  new_here = here_is words at word at_below

  -- the word that was told stands there, is on its way, or comes after all
  pub told_now : IsKept k after later (place, word)
  told_now = (
    may.some,
    elim (cases_lt found word) [
      | inl less ↦ elim (cases_eq (rank + 1) k) [
        | inl last ↦
            let same : place * k + (k - 1) ≡ at = omega (arith, last, may.rank_is) in
            let low : slice_index after at < word = omega (arith, new_here, less) in
            inr (inl (subst (λ (n : ℕ). slice_index after n < word) (sym same) low))
        | inr more ↦
            let way : next.carried ≡ (place * k + (rank + 1), max found word) ∷ [] =
            on_its_way k place rank word found (λ e. omega (arith, e, less)) (omega (arith, less, may.some)) more in
            let most : max found word ≡ word = omega (arith, less) in
            inr (inr (
              id,
              next,
              set_here views id next (view_at views id view there).0,
              (rank + 1, omega (arith, more, may.rank_is), way ∙ ap (λ w. (place * k + (rank + 1), w) ∷ []) most),
            ))
      ]
      | inr no_less ↦ inl (rank, may.rank_is, omega (arith, new_here, no_less))
    ],
  )

  -- and so does what was told before
  pub kept_now : (fact : ℕ × ℕ) → IsKept k words views fact → IsKept k after later fact
  kept_now fact (real, inl (r, lt, is)) = elim (cases_eq (fact.0 * k + r) at) [
    | inr other ↦ (real, inl (r, lt, else_is words at (fact.0 * k + r) word other ∙ is))
    | inl same ↦
        let both = same_place k fact.0 r place rank lt may.rank_is same in
        let found_is : found ≡ fact.1 = ap (slice_index words) (sym same) ∙ is in
        elim (cases_lt word found) [
          | inr no_more ↦ (
            real,
            inl (
              r,
              lt,
              ap (slice_index after) same ∙ omega (arith, new_here, no_more, found_is),
            ),
          )
          | inl less ↦ elim (cases_eq (rank + 1) k) [
            | inl last ↦
                let where_is : fact.0 * k + (k - 1) ≡ at = ap (λ p. p * k + (k - 1)) both.0
                ∙ omega (arith, last, may.rank_is) in
                let low : slice_index after at < fact.1 = omega (arith, new_here, less, found_is) in
                (real, inr (inl (subst (λ (n : ℕ). slice_index after n < fact.1) (sym where_is) low)))
            | inr more ↦
                let way : next.carried ≡ (place * k + (rank + 1), max found word) ∷ [] =
                on_its_way k place rank word found (λ e. omega (arith, e, less)) (omega (arith, real, found_is)) more in
                let most : max found word ≡ fact.1 = omega (arith, less, found_is) in (
                  real,
                  inr (inr (
                    id,
                    next,
                    set_here views id next (view_at views id view there).0,
                    (
                      rank + 1,
                      omega (arith, more, may.rank_is),
                      way ∙ ap (λ w. (place * k + (rank + 1), w) ∷ []) most
                          ∙ ap (λ p. (p * k + (rank + 1), fact.1) ∷ []) (sym both.0),
                    ),
                  )),
                )
          ]
        ]
  ]
  kept_now fact (real, inr (inl behind)) =
      (real, inr (inl (omega (arith, behind, falls words at (fact.0 * k + (k - 1)) word))))
  kept_now fact (real, inr (inr (seat, who, where_is, (r, lt, carries)))) = elim (cases_eq seat id) [
    | inr other ↦ (real, inr (inr (seat, who, set_else views id seat next other ∙ where_is, (r, lt, carries))))
    | inl same ↦
        let me : who ≡ view = some-injective who view (sym where_is ∙ ap (get_elem? views) same ∙ there) in
        by (ap (λ (v : WordsView). v.carried) (sym me) ∙ carries) may.ready
  ]
    where
      by : view.carried ≡ (fact.0 * k + r, fact.1) ∷ []
          → ((view.carried ≡ []) × ((rank ≡ 0) ⊎ SeenBelow view.seen (place * k + (rank - 1)) word))
          ⊎ (view.carried ≡ (place * k + rank, word) ∷ []) → IsKept k after later fact
      by is (inl idle) = absurd (no_cons (fact.0 * k + r, fact.1) [] (sym is ∙ idle.0))
      by is (inr e) =
          let pair = one_fact (fact.0 * k + r, fact.1) (place * k + rank, word) (sym is ∙ e) in
          let both = same_place k fact.0 r place rank lt may.rank_is pair.0 in
          subst (λ (f : ℕ × ℕ). IsKept k after later f) (sym (fact_is fact place word both.0 pair.1)) told_now

  order_before : 1 ≤ rank → slice_index words (place * k + (rank - 1)) < word
  order_before one = (may_be_put k s words views view place rank word is_true may).order one

  -- the words of each place stay in order
  pub rising_now : AreRising k (whole_of k s) words → AreRising k (whole_of k s) after
  rising_now h p r lt below = elim (cases_eq (p * k + (r + 1)) at) [
    | inl same ↦
        let both = same_place k p (r + 1) place rank below may.rank_is same in
        let before : p * k + r ≡ place * k + (rank - 1) =
        ap (λ n. n * k + r) both.0 ∙ ap (λ n. place * k + n) (omega (arith, both.1)) in
        let apart : p * k + r ≢ at = λ e. omega (arith, e, same) in
        let low : slice_index after (p * k + r) ≡ slice_index words (p * k + r) =
        else_is words at (p * k + r) word apart in
        let now : slice_index after (p * k + (r + 1)) ≡ min found word = ap (slice_index after) same ∙ new_here in
        let less : slice_index words (p * k + r) < word =
        subst (λ (n : ℕ). slice_index words n < word) (sym before) (order_before (omega (arith, both.1))) in
        let old : slice_index words (p * k + (r + 1)) ≡ found = ap (slice_index words) same in
        elim (h p r lt below) [
          | inl lower ↦ inl (omega (arith, lower, low, now, less, old))
          | inr absent ↦ inl (omega (arith, absent, low, now, less, old, may.some))
        ]
    | inr other ↦
        let stays = else_is words at (p * k + (r + 1)) word other in
        elim (h p r lt below) [
          | inl lower ↦ inl (omega (arith, lower, stays, falls words at (p * k + r) word))
          | inr absent ↦ inr (omega (arith, absent, stays))
        ]
  ]

  either_gives : GivesNone k (get_or (whole_of k s) place []) (slot_of_word (max found word))
  either_gives = elim (cases_lt found word) [
    | inl less ↦ subst (λ n. GivesNone k (get_or (whole_of k s) place []) (slot_of_word n)) (later_one less) may.within
    | inr no_less ↦ subst (λ n. GivesNone k (get_or (whole_of k s) place []) (slot_of_word n)) (first_one no_less)
        (within_at k (whole_of k s) words place rank within may.place_is may.rank_is)
  ]
    where
      later_one : found < word → word ≡ max found word
      later_one less = omega (arith, less)

      first_one : word ≤ found → found ≡ max found word
      first_one no_less = omega (arith, no_less)

  carried_now : MayCarry k (whole_of k s) after next
  carried_now = elim (cases_eq found word) [
    | inl same ↦ inl (nothing_left k place rank word found (inl same))
    | inr differ ↦ elim (cases_lt found no_word) [
      | inr absent ↦ inl (nothing_left k place rank word found (inr (inl absent)))
      | inl real ↦ elim (cases_eq (rank + 1) k) [
        | inl last ↦ inl (nothing_left k place rank word found (inr (inr last)))
        | inr more ↦ inr (
          heavy,
          place,
          rank + 1,
          max found word,
          on_its_way k place rank word found differ real more,
          record {
            place_is = may.place_is;
            rank_is = omega (arith, more, may.rank_is);
            some = omega (arith, real, may.some);
            order = λ _. lower differ;
            within = either_gives;
          },
        )
      ]
    ]
  ]
    where
      lower : found ≢ word → slice_index after (place * k + (rank + 1 - 1)) < max found word
      lower differ =
          let same : at ≡ place * k + (rank + 1 - 1) = omega arith in
          let less : slice_index after at < max found word = omega (arith, new_here, differ) in
          subst (λ (n : ℕ). slice_index after n < max found word) same less

  -- what another worker carries may still be put
  carries_on : (other : WordsView) → MayCarry k (whole_of k s) words other → MayCarry k (whole_of k s) after other
  carries_on other (inl idle) = inl idle
  carries_on other (inr (weight, p, r, w, is, put)) = inr (
    weight,
    p,
    r,
    w,
    is,
    record {
      place_is = put.place_is;
      rank_is = put.rank_is;
      some = put.some;
      order = λ one. omega (arith, put.order one, falls words at (p * k + (r - 1)) word);
      within = put.within;
    },
  )

  down : (p : ℕ) → slice_index after p ≤ slice_index words p
  down p = falls words at p word

  pub own_now : IsTrue k (whole_of k s) after later next
  own_now = record {
    seen = still_hold words after view.seen down is_true.seen;
    told = All-cons (IsKept k after later) (place, word) view.told told_now
        (All-weaker (IsKept k words views) (IsKept k after later) kept_now view.told is_true.told);
    carried = carried_now;
  }

  pub other_now : (other : WordsView) → IsTrue k (whole_of k s) words views other
      → IsTrue k (whole_of k s) after later other
  other_now other h = record {
    seen = still_hold words after other.seen down h.seen;
    told = All-weaker (IsKept k words views) (IsKept k after later) kept_now other.told h.told;
    carried = carries_on other h.carried;
  }

pub allows_lower : (k : ℕ) (s : RankSeries) (slots id place rank word : ℕ) (me : Me (Unit {0}) WordsView)
    → me.0.ranks ≡ k → me.0.whole ≡ whole_of k s → 1 ≤ me.0.weight → MayPass k s me.0 place rank word
    → Allows (AreWordsOf k s) slots id me (place * k + rank) (λ n. min n word)
    (LowersWord (step slots (place * k + rank) word 0 none) me)
allows_lower k s slots id place rank word me ranks_is whole_is heavy may state holds homes there fits =
    let words = state.words in
    let views = state.views in
    let at = place * k + rank in
    let found = slice_index words at in
    let is_true = holds.each id me.0 there in
    let new = with_told me.0 k place rank word found in (
      new,
      keeps,
      tt,
      record {
        within = lowered k (whole_of k s) words at word holds.within
            (omega (
              arith,
              holds.within.places,
              word_below k place rank (length (whole_of k s)) may.place_is
                  may.rank_is,
            ))
            (subst (λ p. GivesNone k (get_or (whole_of k s) p []) (slot_of_word word))
            (sym (place_of k place rank may.rank_is))
            may.within);
        fit = λ n. omega (arith, holds.fit n, falls words at n word);
        rising = rising_now k s words views id me.0 place rank word there heavy is_true may holds.within holds.rising;
        weights = same_weights views new (sum_changed (λ v. v.weight) views id me.0 new there) ∙ holds.weights;
        each = λ seat v e. elim (at_set views id seat new v e) [
          | inl both ↦ subst (IsTrue k (whole_of k s) (put_word words at word) (set views id new)) both.1
              (own_now k s words views id me.0 place rank word there heavy is_true may holds.within)
          | inr other ↦ other_now k s words views id me.0 place rank word there heavy is_true may holds.within v
              (holds.each seat v other.1)
        ];
      },
      record {
        view = λ p r e lt. told_of p r (e ∙ ap (λ n. p * n + r) ranks_is) (subst (λ (n : ℕ). r < n) ranks_is lt);
        slots = refl;
        within = subst (λ w. GivesNone me.0.ranks (get_or w (at / me.0.ranks) []) (slot_of_word found)) (sym whole_is)
            (subst (λ n. GivesNone n (get_or (whole_of k s) (at / n) []) (slot_of_word found)) (sym ranks_is)
            (holds.within.each at (omega (
              arith,
              holds.within.places,
              word_below k place rank (length (whole_of k s)) may.place_is may.rank_is,
            ))));
      },
    )
  where
    same_weights : (views : List WordsView) (new : WordsView)
        → sum_by (λ v. v.weight) (set views id new) + me.0.weight ≡ sum_by (λ v. v.weight) views + me.0.weight
        → sum_by (λ v. v.weight) (set views id new) ≡ sum_by (λ v. v.weight) views
    same_weights views new e = omega (arith, e)

    told_of : (p r : ℕ) → place * k + rank ≡ p * k + r → r < k
        → with_told me.0 k place rank word (slice_index state.words (place * k + rank))
        ≡ with_told me.0 me.0.ranks p r word (slice_index state.words (place * k + rank))
    told_of p r e lt =
        let both = same_place k place rank p r may.rank_is lt e in
        let found = slice_index state.words (place * k + rank) in
        ap (λ q. with_told me.0 k q rank word found) both.0 ∙ ap (λ t. with_told me.0 k p t word found) both.1
        ∙ ap (λ n. with_told me.0 n p r word found) (sym ranks_is)

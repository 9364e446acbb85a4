-- What workers know behind their steps.
use Rattle.std.proofs.Common.{◌≡◌, ℕ, ◌+◌, ◌-◌, ◌*◌, ◌<◌, ◌≤◌, [], ◌∷◌, inl, inr, refl, sym, ap, subst, ◌∙◌, arith}
use Rattle.std.specs.Prelude.{◌≢◌, max, slice_index_or, Some, None, true}
use Rattle.std.proofs.lemmas.Bool.{cases_lt}
use Rattle.std.proofs.lemmas.Bool.Decides.{nat_tests}
use Rattle.mp_nums.specs.declared.nearest.Near.{Near}
use Rattle.mp_nums.specs.Near.{comes_before}
use Rattle.mp_defs.specs.Least.{near_at}
use Rattle.mp_tiles.specs.Compact.{slot_of_word}
use Rattle.mp_topk.specs.declared.words.WordsView.{WordsView}
use Rattle.mp_topk.specs.Sharing.{GivesNone, RankSeries, no_word, whole_of}
use Rattle.mp_topk.specs.Words.{IsIn, KnowsMore, LowersWord, MayPass, SeenBelow, carried_on, with_seen}
use Rattle.mp_topk.specs.Words.{with_told}
use Rattle.mp_topk.proofs.Putting.{on_its_way}
use Rattle.mp_topk.proofs.Wording.{no_near}
use Rattle.atomic_table.specs.Table.{Me, Step}

pub seen_more : (k : ℕ) (old new : WordsView) (at word : ℕ) → new ≡ with_seen old at word → KnowsMore k old new
seen_more k old new at word e = subst (KnowsMore k old) (sym e) (record {
  weight = refl;
  ranks = refl;
  whole_is = refl;
  told = λ place w is. is;
  seen = λ p w is. inr is;
})

pub now_seen : (old new : WordsView) (at found word : ℕ) → new ≡ with_seen old at found → found < word
    → SeenBelow new.seen at word
now_seen old new at found word e lt =
    subst (λ (v : WordsView). SeenBelow v.seen at word) (sym e) (inl (refl, lt))

pub told_more : (k : ℕ) (old new : WordsView) (place rank word found : ℕ)
    → new ≡ with_told old k place rank word found → KnowsMore k old new
told_more k old new place rank word found e = subst (KnowsMore k old) (sym e) (record {
  weight = refl;
  ranks = refl;
  whole_is = refl;
  told = λ p w is. inr is;
  seen = λ at w is. is;
})

pub now_told : (k : ℕ) (old new : WordsView) (place rank word found : ℕ)
    → new ≡ with_told old k place rank word found → IsIn new.told place word
now_told k old new place rank word found e =
    subst (λ (v : WordsView). IsIn v.told place word) (sym e) (inl (refl, refl))

-- what the step that lowers a word tells, in terms of k ranks
pub lowered_to : (k place rank word found : ℕ) (step : Step (Unit {0})) (me after : Me (Unit {0}) WordsView)
    → LowersWord step me found after → step.word ≡ place * k + rank → step.first ≡ word → rank < k → me.0.ranks ≡ k
    → after.0 ≡ with_told me.0 k place rank word found
lowered_to k place rank word found step me after h at first lt ranks =
    h.view place rank (at ∙ ap (λ n. place * n + rank) (sym ranks)) (subst (λ (n : ℕ). rank < n) (sym ranks) lt)
    ∙ ap (λ n. with_told me.0 n place rank step.first found) ranks
    ∙ ap (λ w. with_told me.0 k place rank w found) first

-- the later one of both may be put at the next rank
pub passes_on : (k : ℕ) (s : RankSeries) (old new : WordsView) (place rank word found next : ℕ)
    → MayPass k s old place rank word → new.carried ≡ carried_on k place rank word found
    → GivesNone k (slice_index_or (whole_of k s) place []) (slot_of_word found) → found ≢ word → found < no_word
    → next ≡ max word found → rank + 1 < k → MayPass k s new place (rank + 1) next
passes_on k s old new place rank word found next may carried within differ real is below = record {
  place_is = may.place_is;
  rank_is = below;
  some = omega (arith, is, real, may.some);
  within = elim (cases_lt found word) [
    | inl less ↦ subst (λ n. GivesNone k (slice_index_or (whole_of k s) place []) (slot_of_word n)) (later_one less)
        may.within
    | inr no_less ↦ subst (λ n. GivesNone k (slice_index_or (whole_of k s) place []) (slot_of_word n))
        (first_one no_less) within
  ];
  ready = inr (carried ∙ on_its_way k place rank word found differ real (λ e. omega (arith, e, below))
      ∙ ap (λ w. (place * k + (rank + 1), w) ∷ []) same);
}
  where
    later_one : found < word → word ≡ next
    later_one less = omega (arith, less, is)

    first_one : word ≤ found → found ≡ next
    first_one no_less = omega (arith, no_less, is)

    same : max found word ≡ next
    same = omega (arith, is)

-- ---- limits

pub before_below : (near : Near) (j d : ℕ) → near.dist.0 ≤ d → near.index < j → comes_before near (near_at j d) ≡ true
before_below near j d le lt = grind (arith, nat_tests, le, lt)

pub before_within : (near : Near) (j d : ℕ) → near.dist.0 < d → comes_before near (near_at j d) ≡ true
before_within near j d lt = grind (arith, nat_tests, lt)

-- a word that tells a window isn't the greatest
pub real_word : (word : ℕ) (near : Near) → word ≤ 18446744073709551615 → slot_of_word word ≡ Some near → word < no_word
real_word word near most e = elim (cases_lt word no_word) [
  | inl lt ↦ lt
  | inr le ↦ absurd (no_slot near (sym (no_near word le most) ∙ e))
]
  where
    no_slot : (n : Near) → None ≡ Some n → ⊥
    no_slot n e = cc

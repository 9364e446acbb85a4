-- Why scans hold of workers that tell ranks at once.
use Rattle.std.proofs.Common.{◌≡◌, ℕ, ◌+◌, ◌-◌, ◌*◌, ◌<◌, ◌≤◌, Bool, true, inl, inr, refl, sym, ap, subst}
use Rattle.std.proofs.Common.{◌∙◌, arith}
use Rattle.std.specs.Prelude.{Some, None, ◌||◌}
use Rattle.std.proofs.lemmas.Bool.Decides.{nat_tests}
use Rattle.std.proofs.lemmas.Bool.{or_cases}
use Rattle.mp_nums.specs.declared.nearest.Near.{Near}
use Rattle.mp_defs.specs.Series.{Series, series_of}
use Rattle.mp_defs.specs.SeriesLaws.{series_are_of_samples}
use Rattle.mp_defs.specs.Distance.{distance}
use Rattle.mp_defs.specs.Profile.{windows_of}
use Rattle.mp_scans.specs.Offering.{only, IsLimiting, IsOffering}
use Rattle.mp_topk.specs.declared.words.WordsView.{WordsView}
use Rattle.mp_topk.specs.Sharing.{RankSeries, count_of}
use Rattle.mp_topk.specs.Words.{AreRanksTold, FitsRankTeller, IsKnownOf, IsOut, IsToldOf, KnowsMore, MayTellRanks}
use Rattle.mp_topk.specs.Words.{RankTellerState, WordsAt, keeps_told}

is_only : (row column i j : ℕ) → only row column i j ≡ true → (i ≡ row) × (j ≡ column)
is_only row column i j e = (grind (arith, nat_tests), grind (arith, nat_tests))

pub still_told : (k : ℕ) (old new : WordsView) (place : ℕ) (near : Near) → KnowsMore k old new
    → IsToldOf k old place near → IsToldOf k new place near
still_told k old new place near h (word, real, slot, inl is) = (word, real, slot, inl (h.told place word is))
still_told k old new place near h (word, real, slot, inr is) =
    (word, real, slot, inr (h.seen (place * k + (k - 1)) word is))

-- what is known stays known
pub known_more : (k : ℕ) (s : RankSeries) (old new : WordsView) (place j d : ℕ) → KnowsMore k old new
    → IsKnownOf k s old place j d → IsKnownOf k s new place j d
known_more k s old new place j d h (inl told) = inl (still_told k old new place _ h told)
known_more k s old new place j d h (inr out) = inr out

pub knows_both : (k : ℕ) (old mid new : WordsView) → KnowsMore k old mid → KnowsMore k mid new
    → KnowsMore k old new
knows_both k old mid new h g = record {
  weight = g.weight ∙ h.weight;
  ranks = g.ranks ∙ h.ranks;
  whole_is = g.whole_is ∙ h.whole_is;
  told = λ p w is. g.told p w (h.told p w is);
  seen = λ at w is. g.seen at w (h.seen at w is);
}

pub knows_same : (k : ℕ) (view : WordsView) → KnowsMore k view view
knows_same k view = record {
  weight = refl;
  ranks = refl;
  whole_is = refl;
  told = λ p w is. is;
  seen = λ at w is. is;
}

-- a pair of the series may be told
may_be_told : (m : ℕ) (a b : Series) (teller : RankTellerState) (row column d : ℕ) → FitsRankTeller m a b teller
    → row < windows_of m a → column < windows_of m b → row + 1 ≤ column → distance m a row b column ≡ Some d
    → MayTellRanks teller row column d
may_be_told m a b teller row column d h lt lt' apart is =
    let s = teller.words.series in
    let home = series_of s.samples in
    let count : windows_of m b ≡ count_of s =
    ap (λ n. windows_of n b) h.window ∙ ap (windows_of s.m) h.columns
    ∙ series_are_of_samples.windows_are s.m s.samples in
    let known : distance s.m home row home column ≡ Some d =
    ap (λ n. distance n home row home column) (sym h.window) ∙ ap (λ x. distance m x row home column) (sym h.rows)
    ∙ ap (λ x. distance m a row x column) (sym h.columns) ∙ is in
    record {
      order = omega (arith, apart);
      place = omega (arith, lt', count);
      is = known;
      short = h.short row column d known;
      weight = h.weight;
      idle = h.idle;
    }

still_fits : (k m : ℕ) (a b : Series) (pairs : ℕ → ℕ → Bool) (old new : RankTellerState)
    → FitsRankTeller m a b old → AreRanksTold k m a b pairs old new → FitsRankTeller m a b new
still_fits k m a b pairs old new h s =
    let same = sym (ap (λ (w : WordsAt). w.series) s.words) in
    subst (λ (e : RankSeries). FitsRankTeller m a b (record {
      words = record { table = new.words.table; series = e };
      view = new.view;
    })) same (record {
      window = h.window;
      rows = h.rows;
      columns = h.columns;
      short = h.short;
      weight = subst (λ (n : ℕ). 1 ≤ n) (sym s.more.weight) h.weight;
      idle = s.carried ∙ h.idle;
    })

-- pairs that give nothing
none_told : (k m : ℕ) (a b : Series) (pairs : ℕ → ℕ → Bool) (teller : RankTellerState)
    → ((i j d : ℕ) → i < windows_of m a → j < windows_of m b → pairs i j ≡ true
    → distance m a i b j ≡ Some d → keeps_told k teller i j d × keeps_told k teller j i d)
    → AreRanksTold k m a b pairs teller teller
none_told k m a b pairs teller h = record {
  words = refl;
  more = knows_same k teller.view;
  carried = refl;
  row = λ i j d lt lt' e may is. inr (h i j d lt lt' e is).0;
  column = λ i j d lt lt' e may is. inr (h i j d lt lt' e is).1;
}

-- these pairs, and then those
both_told : (k m : ℕ) (a b : Series) (p q : ℕ → ℕ → Bool) (old mid new : RankTellerState)
    → AreRanksTold k m a b p old mid → AreRanksTold k m a b q mid new
    → AreRanksTold k m a b (λ i j. p i j || q i j) old new
both_told k m a b p q old mid new h g =
    let same : mid.words.series ≡ old.words.series = ap (λ (w : WordsAt). w.series) h.words in
    record {
      words = g.words ∙ h.words;
      more = knows_both k old.view mid.view new.view h.more g.more;
      carried = g.carried ∙ h.carried;
      row = λ i j d lt lt' e may is. elim (or_cases (p i j) (q i j) e) [
        | inl first ↦ known_more k old.words.series mid.view new.view i j d g.more (h.row i j d lt lt' first may is)
        | inr second ↦ subst (λ (s : RankSeries). IsKnownOf k s new.view i j d) same
            (g.row i j d lt lt' second may is)
      ];
      column = λ i j d lt lt' e may is. elim (or_cases (p i j) (q i j) e) [
        | inl first ↦ known_more k old.words.series mid.view new.view j i d g.more
            (h.column i j d lt lt' first may is)
        | inr second ↦ subst (λ (s : RankSeries). IsKnownOf k s new.view j i d) same
            (g.column i j d lt lt' second may is)
      ];
    }

no_two : (d : ℕ) → None ≡ Some d → ⊥
no_two d e = cc

pub rank_tellers_offer : (k : ℕ) → IsOffering 1 FitsRankTeller MayTellRanks (AreRanksTold k)
rank_tellers_offer k = record {
  may = λ m a b teller row column d h lt lt' apart is. may_be_told m a b teller row column d h lt lt' apart is;
  still_fits = still_fits k;
  none = λ m a b pairs teller h none.
      none_told k m a b pairs teller (λ i j d lt lt' e is. absurd (cc (none i j, e)));
  skipped = λ m a b row column teller h lt lt' apart nowhere.
      none_told k m a b (only row column) teller (λ i j d _ _ e is.
      let here = is_only row column i j e in
      let there : distance m a row b column ≡ Some d =
      subst (λ x. distance m a x b column ≡ Some d) here.0
      (subst (λ x. distance m a i b x ≡ Some d) here.1 is) in
      absurd (no_two d (sym nowhere ∙ there)));
  both = both_told k;
  same = λ m a b p q old new h s agree. record {
    words = s.words;
    more = s.more;
    carried = s.carried;
    row = λ i j d lt lt' e may is. s.row i j d lt lt' (agree i j lt lt' ∙ e) may is;
    column = λ i j d lt lt' e may is. s.column i j d lt lt' (agree i j lt lt' ∙ e) may is;
  };
}

pub rank_tellers_limit : (k : ℕ) → IsLimiting 1 FitsRankTeller (AreRanksTold k) (keeps_told k) (keeps_told k)
rank_tellers_limit k = record {
  quiet = λ m a b pairs teller h order nothing. none_told k m a b pairs teller nothing;
  row_stays = λ m a b pairs old new h s i j d lt keeps.
      subst (λ (w : WordsAt). IsOut k w.series i j d) (sym s.words) keeps;
  column_stays = λ m a b pairs old new h s j i d lt keeps.
      subst (λ (w : WordsAt). IsOut k w.series j i d) (sym s.words) keeps;
}

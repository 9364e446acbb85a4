-- Why each of two windows is offered to the other's ranks as scans want it.
use Rattle.std.specs.Prelude.{◌≡◌, ◌≢◌, ℕ, ◌<◌, ◌⊎◌, Bool, true, false, ◌||◌, List, [], ◌∷◌, length, take}
use Rattle.std.specs.Prelude.{Option, Some, None, if◌then◌else◌}
use Rattle.std.proofs.Common.{arith, refl, sym, ap, ◌∙◌, inl, inr, subst, get_or}
use Rattle.std.proofs.lemmas.Bool.{cases_eq}
use Rattle.std.proofs.lemmas.Bool.Decides.{nat_tests}
use Rattle.std.proofs.lemmas.List.{get_or-set_same, get_or-set_other, length-set}
use Rattle.std.proofs.lemmas.Bool.{or_cases}
use Rattle.mp_nums.specs.declared.nearest.Near.{Near}
use Rattle.mp_defs.specs.Series.{Series}
use Rattle.mp_defs.specs.Distance.{distance}
use Rattle.mp_defs.specs.DistanceLaws.{symmetric}
use Rattle.mp_defs.specs.Least.{at_distance, near_at}
use Rattle.mp_defs.specs.Profile.{windows_of}
use Rattle.mp_scans.specs.Offering.{only, IsLimiting, IsOffering}
use Rattle.mp_tiles.specs.Among.{either_way}
use Rattle.mp_results.specs.Ranks.{in_order, put}
use Rattle.mp_topk.specs.Ranking.{Ranked, put_all, put_at}
use Rattle.mp_topk.specs.Taking.{chosen}
use Rattle.mp_topk.specs.TakingLaws.{GivesNothing}
use Rattle.mp_topk.specs.ScanLaws.{AreFew, AreTaken, order_none, order_one, order_same, still_few, taken_none}
use Rattle.mp_topk.specs.ScanLaws.{taken_quiet}
use Rattle.mp_topk.specs.ScanLaws.{taken_same, taken_stays, taken_then}

-- there are places for the windows of the one series that is meant, each with at most k windows
pub record FitsRanks (k m : ℕ) (a b : Series) (r : Ranked) : Type 0 where
  pub places : length r.lists ≡ windows_of m a
  pub few : AreFew k r.lists
  pub same : a ≡ b

abbrev pub may_offer : Ranked → ℕ → ℕ → ℕ → Type 0
may_offer r row column dist = (row < column) × (column < length r.lists)

-- the windows of each pair are offered to each other, in the same memory
pub record AreOffered (k m : ℕ) (a b : Series) (pairs : ℕ → ℕ → Bool) (old new : Ranked) : Type 0 where
  pub lists : AreTaken k (either_way pairs) m a old.lists new.lists
  pub spare : new.spare ≡ old.spare

-- a window at a distance gives the ranks of a place nothing
abbrev pub keeps_ranks : ℕ → Ranked → ℕ → ℕ → ℕ → Type 0
keeps_ranks k r i j d = GivesNothing k (get_or r.lists i []) (near_at j d)

-- ---- one pair

pair_first : (i j : ℕ) → either_way (only i j) i j ≡ true
pair_first i j = grind (arith, nat_tests)

pair_second : (i j : ℕ) → either_way (only i j) j i ≡ true
pair_second i j = grind (arith, nat_tests)

no_other_first : (i j c : ℕ) → i < j → c ≢ j → either_way (only i j) i c ≡ false
no_other_first i j c lt ne = grind (arith, nat_tests)

no_other_second : (i j c : ℕ) → i < j → c ≢ i → either_way (only i j) j c ≡ false
no_other_second i j c lt ne = grind (arith, nat_tests)

no_other : (i j r c : ℕ) → r ≢ i → r ≢ j → either_way (only i j) r c ≡ false
no_other i j r c ne ne' = grind (arith, nat_tests)

chosen_at : (may : ℕ → ℕ → Bool) (m : ℕ) (a : Series) (i j d : ℕ) → may i j ≡ true
    → distance m a i a j ≡ Some d
    → chosen may m a i j ≡ Some (near_at j d)
chosen_at may m a i j d e f = at (may i j) (distance m a i a j) e f
  where
    at : (t : Bool) (x : Option ℕ) → t ≡ true → x ≡ Some d
        → (if t then at_distance j x else None) ≡ Some (near_at j d)
    at true x e f = ap (at_distance j) f
    at false x e f = absurd (cc)

not_chosen : (may : ℕ → ℕ → Bool) (m : ℕ) (a : Series) (i j : ℕ) → may i j ≡ false
    → chosen may m a i j ≡ None
not_chosen may m a i j e = ap (λ t. if t then at_distance j (distance m a i a j) else None) e

one_put : (k : ℕ) (list : List Near) (x : Near) → take k (put_all list (x ∷ [])) ≡ take k (put x list)
unfolding put_all
one_put k list x = refl

nothing_put : (k : ℕ) (list : List Near) → take k (put_all list []) ≡ take k list
unfolding put_all
nothing_put k list = refl

pub pair_taken : (k i j d m : ℕ) (a : Series) (old : List (List Near)) → AreFew k old
    → length old ≡ windows_of m a
    → i < j → j < windows_of m a → distance m a i a j ≡ Some d
    → AreTaken k (either_way (only i j)) m a old (put_at k (put_at k old i (near_at j d)) j (near_at i d))
pair_taken k i j d m a old few long order lt is = record {
  places = length-set mid j second ∙ length-set old i first;
  at = λ r within. elim (cases_eq r i) [
    | inl same ↦ subst (λ n. get_or new n [] ≡ given n) (sym same) at_first
    | inr ne ↦ elim (cases_eq r j) [
      | inl same ↦ subst (λ n. get_or new n [] ≡ given n) (sym same) at_second
      | inr ne' ↦ get_or-set_other mid j r second [] ne' ∙ get_or-set_other old i r first [] ne ∙ sym (few r)
          ∙ sym (nothing_put k (get_or old r []))
          ∙ ap (λ xs. take k (put_all (get_or old r []) xs)) (sym (order_none (chosen (either_way (only i j)) m a r)
          (windows_of m a) (λ c less. not_chosen (either_way (only i j)) m a r c (no_other i j r c ne ne'))))
    ]
  ];
}
  where
    first : List Near
    first = take k (put (near_at j d) (get_or old i []))

    mid : List (List Near)
    mid = put_at k old i (near_at j d)

    second : List Near
    second = take k (put (near_at i d) (get_or mid j []))

    new : List (List Near)
    new = put_at k mid j (near_at i d)

    given : ℕ → List Near
    given r = take k (put_all (get_or old r []) (in_order (chosen (either_way (only i j)) m a r) (windows_of m a)))

    at_first : get_or new i [] ≡ given i
    at_first = get_or-set_other mid j i second [] (λ e. omega (arith, e, order))
        ∙ get_or-set_same old i first [] (omega (arith, order, lt, long))
        ∙ sym (one_put k (get_or old i []) (near_at j d))
        ∙ ap (λ xs. take k (put_all (get_or old i []) xs)) (sym (order_one (chosen (either_way (only i j)) m a i)
        (windows_of m a) j (near_at j d) lt
        (chosen_at (either_way (only i j)) m a i j d (pair_first i j) is)
        (λ c less ne. not_chosen (either_way (only i j)) m a i c (no_other_first i j c order ne))))

    at_second : get_or new j [] ≡ given j
    at_second = get_or-set_same mid j second [] (omega (arith, lt, long, length-set old i first))
        ∙ ap (λ list. take k (put (near_at i d) list))
        (get_or-set_other old i j first [] (λ e. omega (arith, e, order)))
        ∙ sym (one_put k (get_or old j []) (near_at i d))
        ∙ ap (λ xs. take k (put_all (get_or old j []) xs)) (sym (order_one (chosen (either_way (only i j)) m a j)
        (windows_of m a) i (near_at i d) (omega (arith, order, lt))
        (chosen_at (either_way (only i j)) m a j i d (pair_second i j) (symmetric m a j a i ∙ is))
        (λ c less ne. not_chosen (either_way (only i j)) m a j c (no_other_second i j c order ne))))

-- ---- tests

either_none : (p : ℕ → ℕ → Bool) → ((i j : ℕ) → p i j ≡ false) → (i j : ℕ)
    → either_way p i j ≡ false
either_none p none i j = ap (λ t. t || p j i) (none i j) ∙ none j i

either_same : (p q : ℕ → ℕ → Bool) (w : ℕ) → ((i j : ℕ) → i < w → j < w → p i j ≡ q i j)
    → (i j : ℕ) → i < w → j < w → either_way p i j ≡ either_way q i j
either_same p q w same i j lt lt' = ap (λ t. t || p j i) (same i j lt lt') ∙ ap (λ t. q i j || t) (same j i lt' lt)

or_pairs : (p q r s : Bool) → ((p || r) || (q || s)) ≡ ((p || q) || (r || s))
or_pairs true q r s = refl
or_pairs false true true s = refl
or_pairs false true false s = refl
or_pairs false false r s = refl

not_both : (t : Bool) → t ≡ false → t ≡ true → ⊥
not_both t e f = cc

-- the only pair is without a distance
pair_missing : (i j m : ℕ) (a : Series) → distance m a i a j ≡ None → (r c : ℕ)
    → either_way (only i j) r c ≡ true
    → distance m a r a c ≡ None
pair_missing i j m a missing r c is = elim (which i j r c is) [
  | inl e ↦ subst (λ n. distance m a n a c ≡ None) (sym e.0)
      (subst (λ n. distance m a i a n ≡ None) (sym e.1) missing)
  | inr e ↦ subst (λ n. distance m a n a c ≡ None) (sym e.0)
      (subst (λ n. distance m a j a n ≡ None) (sym e.1) (symmetric m a j a i ∙ missing))
]
  where
    which : (i j r c : ℕ) → either_way (only i j) r c ≡ true
        → ((r ≡ i) × (c ≡ j)) ⊎ ((r ≡ j) × (c ≡ i))
    which i j r c is = elim (cases_eq r i) [
      | inl e ↦ elim (cases_eq c j) [
        | inl f ↦ inl (e, f)
        | inr ne ↦ elim (cases_eq r j) [
          | inl g ↦ elim (cases_eq c i) [
            | inl h ↦ inr (g, h)
            | inr ne' ↦ absurd (not_both (either_way (only i j) r c) (neither i j r c ne ne') is)
          ]
          | inr ne' ↦ absurd (not_both (either_way (only i j) r c) (neither_row i j r c ne ne') is)
        ]
      ]
      | inr ne ↦ elim (cases_eq r j) [
        | inl g ↦ elim (cases_eq c i) [
          | inl h ↦ inr (g, h)
          | inr ne' ↦ absurd (not_both (either_way (only i j) r c) (neither_column i j r c ne ne') is)
        ]
        | inr ne' ↦ absurd (not_both (either_way (only i j) r c) (no_other i j r c ne ne') is)
      ]
    ]
      where
        neither : (i j r c : ℕ) → c ≢ j → c ≢ i → either_way (only i j) r c ≡ false
        neither i j r c ne ne' = grind (arith, nat_tests)

        neither_row : (i j r c : ℕ) → c ≢ j → r ≢ j → either_way (only i j) r c ≡ false
        neither_row i j r c ne ne' = grind (arith, nat_tests)

        neither_column : (i j r c : ℕ) → r ≢ i → c ≢ i → either_way (only i j) r c ≡ false
        neither_column i j r c ne ne' = grind (arith, nat_tests)

-- both windows are of one series
pub same_series : (m : ℕ) (a b : Series) (i j : ℕ) (d : Option ℕ) → a ≡ b → distance m a i b j ≡ d
    → distance m a i a j ≡ d
same_series m a b i j d e h = subst (λ (x : Series). distance m a i x j ≡ d) (sym e) h

pub same_windows : (m : ℕ) (a b : Series) → a ≡ b → windows_of m b ≡ windows_of m a
same_windows m a b e = ap (windows_of m) (sym e)

still_fits : (k m : ℕ) (a b : Series) (pairs : ℕ → ℕ → Bool) (old new : Ranked) → FitsRanks k m a b old
    → AreOffered k m a b pairs old new → FitsRanks k m a b new
still_fits k m a b pairs old new h s = record {
  places = s.lists.places ∙ h.places;
  few = still_few k (either_way pairs) m a old.lists new.lists h.few s.lists;
  same = h.same;
}

pub ranks_offer : (k : ℕ) → IsOffering 1 (FitsRanks k) may_offer (AreOffered k)
ranks_offer k = record {
  may = λ m a b r row column dist h lt lt' apart known.
      let same = same_windows m a b h.same in
      (omega (arith, apart), omega (arith, lt', same, h.places));
  still_fits = λ m a b pairs old new h s. still_fits k m a b pairs old new h s;
  none = λ m a b pairs r h none. record {
    lists = taken_none k (either_way pairs) m a r.lists h.few
        (λ i j is. absurd (not_both (either_way pairs i j) (either_none pairs none i j) is));
    spare = refl;
  };
  skipped = λ m a b row column r h lt lt' apart missing. record {
    lists = taken_none k (either_way (only row column)) m a r.lists h.few
        (pair_missing row column m a (same_series m a b row column None h.same missing));
    spare = refl;
  };
  both = λ m a b p q old mid new g h. record {
    lists = same_taken k p q m a old.lists new.lists
        (taken_then k (either_way p) (either_way q) m a old.lists mid.lists new.lists g.lists h.lists);
    spare = h.spare ∙ g.spare;
  };
  same = λ m a b p q old new h s same.
      let wide = same_windows m a b h.same in
      record {
        lists = taken_same k (either_way p) (either_way q) m a old.lists new.lists h.places s.lists
            (either_same p q (windows_of m a) (λ i j lt lt'. same i j lt (omega (arith, lt', wide))));
        spare = s.spare;
      };
}
  where
    same_taken : (k : ℕ) (p q : ℕ → ℕ → Bool) (m : ℕ) (a : Series) (old new : List (List Near))
        → AreTaken k (λ i j. either_way p i j || either_way q i j) m a old new
        → AreTaken k (either_way (λ i j. p i j || q i j)) m a old new
    same_taken k p q m a old new h = record {
      places = h.places;
      at = λ i lt. h.at i lt ∙ ap (λ xs. take k (put_all (get_or old i []) xs))
          (order_same (chosen (λ i j. either_way p i j || either_way q i j) m a i)
          (chosen (either_way (λ i j. p i j || q i j)) m a i) (windows_of m a)
          (λ j less. ap (λ t. if t then at_distance j (distance m a i a j) else None)
          (or_pairs (p i j) (q i j) (p j i) (q j i))));
    }

pub ranks_limit : (k : ℕ) → IsLimiting 1 (FitsRanks k) (AreOffered k) (keeps_ranks k) (keeps_ranks k)
ranks_limit k = record {
  quiet = λ m a b pairs r h order q.
      let wide = same_windows m a b h.same in
      record {
        lists = taken_quiet k (either_way pairs) m a r.lists h.few h.places
            (λ i j d lt lt' is dist. elim (or_cases (pairs i j) (pairs j i) is) [
              | inl here ↦ (q i j d lt (omega (arith, lt', wide)) here (in_other m a b i j d h.same dist)).0
              | inr back ↦ (q j i d lt' (omega (arith, lt, wide)) back
                  (in_other m a b j i d h.same (symmetric m a j a i ∙ dist))).1
            ]);
        spare = refl;
      };
  row_stays = λ m a b pairs old new h s i j d lt g.
      taken_stays k (either_way pairs) m a old.lists new.lists i (near_at j d) s.lists (omega (arith, lt, h.places)) g;
  column_stays = λ m a b pairs old new h s j i d lt g.
      let wide = same_windows m a b h.same in
      taken_stays k (either_way pairs) m a old.lists new.lists j (near_at i d) s.lists
      (omega (arith, lt, wide, h.places)) g;
}
  where
    in_other : (m : ℕ) (a b : Series) (i j d : ℕ) → a ≡ b → distance m a i a j ≡ Some d
        → distance m a i b j ≡ Some d
    in_other m a b i j d e h = subst (λ (x : Series). distance m a i x j ≡ Some d) e h

-- Why two windows whose value is within a limit pass: the k least residues are taken for no more than those of the k
-- channels that are nearest.
use Rattle.std.proofs.Common.{◌≡◌, ℕ, zero, suc, ◌+◌, ◌*◌, ◌<◌, ◌≤◌, inl, inr, refl, sym, ap, ◌∙◌, arith, subst}
use Rattle.std.proofs.Common.{List, [], ◌∷◌, length, get_or, take, max, sum, Bool, true, false, ℤ}
use Rattle.std.specs.Prelude.{Option, Some, None, MatchOption, negsuc, ◌≤ℤ◌, nat_le, if◌then◌else◌}
use Rattle.mp_defs.specs.Series.{Series}
use Rattle.mp_defs.specs.Distance.{plus}
use Rattle.mp_results.specs.Rising.{rising}
use Rattle.mp_results.specs.Multi.{channel_at, distance_in, pair_value}
use Rattle.mp_sums.specs.Limits.{IsWithin}
use Rattle.mp_sums.specs.Sums.{numbers_of, square_sum}
use Rattle.mp_sums.specs.Rounding.{rounded}
use Rattle.mp_sums.specs.Residues.{item, residue, residue_limit}
use Rattle.mp_sums.specs.Together.{sums_together, rounded_together, counted}
use Rattle.mp_sums.specs.SumLaws.{distances_are_sums}
use Rattle.mp_sums.specs.TogetherLaws.{sums_tell_together}
use Rattle.mp_multi.specs.Laws.{count_chosen, sum_chosen, HasFewer, IsLeastSum}
use Rattle.mp_multi.specs.LaneSums.{count_in, AreLeastSums}
use Rattle.mp_multi.specs.Lanes.{IsLane, AreChannelResidues, AreFloors}
use Rattle.mp_multi.proofs.LeastSums.{sum_is_least, some_none, some_same}

-- ---- the channels that are chosen

-- the numbers of the chosen ones of the first n channels
chosen_numbers : (ℕ → Bool) → List Series → ℕ → List (ℕ → ℤ)
chosen_numbers chosen channels zero = []
chosen_numbers chosen channels (suc n) =
    if chosen n then numbers_of (channel_at channels n) ∷ chosen_numbers chosen channels n
    else chosen_numbers chosen channels n

-- what two numbers that are there give together
record AreBoth (a b : Option ℕ) (s : ℕ) : Type 0 where
  one : ℕ
  other : ℕ
  one_is : a ≡ Some one
  other_is : b ≡ Some other
  sum_is : s ≡ one + other

both : (a b : Option ℕ) (s : ℕ) → plus a b ≡ Some s → AreBoth a b s
both None b s e = absurd (cc)
both (Some a) None s e = absurd (cc)
both (Some a) (Some b) s e = record { one = a; other = b; one_is = refl; other_is = refl; sum_is = cc }

-- what is known of the chosen ones of the first n channels: the sum of their distances, how many they are, and that the
-- lanes are taken for no more than their rounded sums
record AreChosen (m shift i j : ℕ) (channels : List Series) (g : ℕ → Option ℕ) (chosen : ℕ → Bool) (n v : ℕ)
    (xs : List (ℕ → ℤ)) : Type 0 where
  value : v ≡ sums_together m xs i j
  count : length xs ≡ count_chosen chosen n
  taken : ℕ
  taken_is : sum_chosen chosen g n ≡ Some taken
  few : taken ≤ rounded_together m shift xs i j

-- a channel that has a distance is taken for no more than its rounded sum
abbrev IsFew : ℕ → ℕ → ℕ → ℕ → List Series → (ℕ → Option ℕ) → ℕ → Type 0
IsFew m shift i j channels g c =
    (d : ℕ) → distance_in m channels i j c ≡ Some d → (q : ℕ) → g c ≡ Some q
    → q ≤ square_sum m (rounded shift (numbers_of (channel_at channels c))) i
    (rounded shift (numbers_of (channel_at channels c))) j

none_chosen : (m shift i j : ℕ) (channels : List Series) (g : ℕ → Option ℕ) (chosen : ℕ → Bool) (v : ℕ)
    → Some 0 ≡ Some v → AreChosen m shift i j channels g chosen 0 v []
none_chosen m shift i j channels g chosen v e =
    let zero_is : 0 ≡ v = some_same e in
    record {
      value = sym zero_is ∙ sym (sums_tell_together.no_series m i j);
      count = refl;
      taken = 0;
      taken_is = refl;
      few = omega arith;
    }

one_chosen : (m shift i j : ℕ) (channels : List Series) (g : ℕ → Option ℕ) (chosen : ℕ → Bool) (n v q : ℕ)
    (xs : List (ℕ → ℤ)) (parts : AreBoth (sum_chosen chosen (distance_in m channels i j) n)
    (distance_in m channels i j n) v) → chosen n ≡ true → g n ≡ Some q → IsFew m shift i j channels g n
    → AreChosen m shift i j channels g chosen n parts.one xs
    → AreChosen m shift i j channels g chosen (suc n) v (numbers_of (channel_at channels n) ∷ xs)
one_chosen m shift i j channels g chosen n v q xs parts is there few h =
    let x : ℕ → ℤ = numbers_of (channel_at channels n) in
    let d : parts.other ≡ square_sum m x i x j =
    distances_are_sums m (channel_at channels n) i (channel_at channels n) j parts.other parts.other_is in
    let here : q ≤ square_sum m (rounded shift x) i (rounded shift x) j = few parts.other parts.other_is q there in
    record {
      value = omega (arith, parts.sum_is, h.value, d, sums_tell_together.one_more m x xs i j);
      count = omega (arith, h.count, ap {B = ℕ} (λ (b : Bool). if b then 1 else 0) is);
      taken = h.taken + q;
      taken_is = ap (λ (b : Bool). if b then plus (sum_chosen chosen g n) (g n) else sum_chosen chosen g n) is
          ∙ ap (λ o. plus o (g n)) h.taken_is ∙ ap (plus (Some h.taken)) there;
      few = omega (arith, h.few, here, sums_tell_together.one_more_rounded m shift x xs i j);
    }

not_chosen : (m shift i j : ℕ) (channels : List Series) (g : ℕ → Option ℕ) (chosen : ℕ → Bool) (n v : ℕ)
    (xs : List (ℕ → ℤ)) → chosen n ≡ false → AreChosen m shift i j channels g chosen n v xs
    → AreChosen m shift i j channels g chosen (suc n) v xs
not_chosen m shift i j channels g chosen n v xs is h = record {
  value = h.value;
  count = omega (arith, h.count, ap {B = ℕ} (λ (b : Bool). if b then 1 else 0) is);
  taken = h.taken;
  taken_is = ap (λ (b : Bool). if b then plus (sum_chosen chosen g n) (g n) else sum_chosen chosen g n) is
      ∙ h.taken_is;
  few = h.few;
}

abbrev Chosen : ℕ → ℕ → ℕ → ℕ → List Series → (ℕ → Option ℕ) → (ℕ → Bool) → ℕ → ℕ → Type 0
Chosen m shift i j channels g chosen n v =
    (xs : List (ℕ → ℤ)) × AreChosen m shift i j channels g chosen n v xs

chosen_by : (m shift i j : ℕ) (channels : List Series) (g : ℕ → Option ℕ) (chosen : ℕ → Bool) (n v q : ℕ) (b : Bool)
    → chosen n ≡ b → g n ≡ Some q → IsFew m shift i j channels g n
    → ((w : ℕ) → sum_chosen chosen (distance_in m channels i j) n ≡ Some w
    → Chosen m shift i j channels g chosen n w)
    → sum_chosen chosen (distance_in m channels i j) (suc n) ≡ Some v
    → Chosen m shift i j channels g chosen (suc n) v
chosen_by m shift i j channels g chosen n v q true is there few before e =
    let f : ℕ → Option ℕ = distance_in m channels i j in
    let parts = both (sum_chosen chosen f n) (f n) v
    (sym (ap (λ (b : Bool). if b then plus (sum_chosen chosen f n) (f n) else sum_chosen chosen f n) is) ∙ e) in
    let h = before parts.one parts.one_is in (
      numbers_of (channel_at channels n) ∷ h.0,
      one_chosen m shift i j channels g chosen n v q h.0 parts is there
          few h.1,
    )
chosen_by m shift i j channels g chosen n v q false is there few before e =
    let f : ℕ → Option ℕ = distance_in m channels i j in
    let h = before v
    (sym (ap (λ (b : Bool). if b then plus (sum_chosen chosen f n) (f n) else sum_chosen chosen f n) is) ∙ e) in
    (h.0, not_chosen m shift i j channels g chosen n v h.0 is h.1)

are_chosen : (m shift i j : ℕ) (channels : List Series) (g : ℕ → ℕ) (chosen : ℕ → Bool) (n v : ℕ)
    → ((c : ℕ) → c < n → IsFew m shift i j channels (λ k. Some (g k)) c)
    → sum_chosen chosen (distance_in m channels i j) n ≡ Some v
    → Chosen m shift i j channels (λ k. Some (g k)) chosen n v
are_chosen m shift i j channels g chosen zero v few e =
    ([], none_chosen m shift i j channels (λ k. Some (g k)) chosen v e)
are_chosen m shift i j channels g chosen (suc n) v few e =
    chosen_by m shift i j channels (λ k. Some (g k)) chosen n v (g n) (chosen n) refl refl (few n (omega arith))
    (λ w is. are_chosen m shift i j channels g chosen n w (λ c lt. few c (omega (arith, lt))) is) e

-- ---- the least of all are no more

by_value : (o : Option ℕ) (v : ℕ) (n : Type 0) (s : ℕ → Type 0) → o ≡ Some v → MatchOption o n s → s v
by_value None v n s e h = absurd (cc)
by_value (Some w) v n s e h = subst s (some_same e) h

least_within : (g : ℕ → Option ℕ) (n k : ℕ) (chosen : ℕ → Bool) (t : ℕ) → count_chosen chosen n ≡ k
    → sum_chosen chosen g n ≡ Some t → sum (take k (rising g n)) ≤ t
least_within g n k chosen t count is =
    by_test (nat_le k (length (rising g n))) (sum_is_least g n k)
  where
    by_test : (b : Bool)
        → MatchOption (if b then Some (sum (take k (rising g n))) else None) (HasFewer g n k) (IsLeastSum g n k)
        → sum (take k (rising g n)) ≤ t
    by_test true h = h.none_less chosen t count is
    by_test false h = absurd (some_none (sym is ∙ h chosen count))

-- ---- lanes

not_there : {A : Type 0} (o : Option A) (d : A) → o ≡ Some d → o ≡ None → ⊥
not_there o d e f = some_none (sym e ∙ f)

floor_counts : (r floor : ℤ) → floor ≡ negsuc 2147483646 → max (counted r) (counted floor) ≡ counted r
floor_counts r floor e =
    let none : counted floor ≡ 0 = ap counted e in
    omega (arith, none)

is_few : (m shift i j t c : ℕ) (channels : List Series) (residues : List (List ℤ)) (floors : List ℤ)
    → AreChannelResidues m shift channels i j residues → AreFloors m channels i j floors → c < length channels → t < 32
    → IsFew m shift i (j + t) channels (count_in residues floors t) c
is_few m shift i j t c channels residues floors h f lt small d there q e =
    let x : ℕ → ℤ = rounded shift (numbers_of (channel_at channels c)) in
    let all : ℕ = square_sum m x i x (j + t) in
    let r : ℤ = item (get_or residues c []) t in
    let floor : item floors c ≡ negsuc 2147483646 =
    elim (f.each c t (omega (arith, lt, f.count)) small) [
      | inl is ↦ is
      | inr none ↦ absurd (not_there (distance_in m channels i (j + t) c) d there none)
    ] in
    let is : r ≡ residue all = (h.each c (omega (arith, lt, h.count))).each t small in
    let count : max (counted r) (counted (item floors c)) ≡ q = some_same e in
    let less : counted r ≤ all = subst (λ z. counted z ≤ all) (sym is) (sums_tell_together.counts all) in
    omega (arith, count, floor_counts r (item floors c) floor, less)

pub lane_passes : (m k shift i j t : ℕ) (channels : List Series) (residues : List (List ℤ)) (floors lanes : List ℤ)
    → AreChannelResidues m shift channels i j residues → AreFloors m channels i j floors
    → AreLeastSums k (length channels) residues floors lanes → t < 32
    → IsLane m k shift channels i (j + t) (item lanes t)
lane_passes m k shift i j t channels residues floors lanes h f least small = record {
  passes = λ limit v value within.
      let n : ℕ = length channels in
      let g : ℕ → Option ℕ = count_in residues floors t in
      let of_value = by_value (pair_value m k channels i (j + t)) v (HasFewer (distance_in m channels i (j + t)) n k)
      (IsLeastSum (distance_in m channels i (j + t)) n k) value
      (sum_is_least (distance_in m channels i (j + t)) n k) in
      let choice = of_value.by_choice in
      let chosen = are_chosen m shift i (j + t) channels
      (λ c. max (counted (item (get_or residues c []) t)) (counted (item floors c))) choice.0 n v
      (λ c lt. is_few m shift i j t c channels residues floors h f lt small) choice.2 in
      let xs : List (ℕ → ℤ) = chosen.0 in
      let few : sum (take k (rising g n)) ≤ rounded_together m shift xs i (j + t) =
      omega (arith, chosen.1.few, least_within g n k choice.0 chosen.1.taken choice.1 chosen.1.taken_is) in
      let passes : residue (sum (take k (rising g n))) ≤ℤ residue_limit (length xs * m) shift limit =
      sums_tell_together.passes m shift limit xs i (j + t) (sum (take k (rising g n)))
      (subst (IsWithin limit) chosen.1.value within) few in
      let as_many : length xs ≡ k = chosen.1.count ∙ choice.1 in
      subst (λ z. z ≤ℤ residue_limit (k * m) shift limit) (sym (least.each t small))
      (subst (λ c. residue (sum (take k (rising g n))) ≤ℤ residue_limit (c * m) shift limit) as_many passes);
}

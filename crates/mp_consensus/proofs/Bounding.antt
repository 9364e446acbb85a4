-- What the steps of lookers keep.
use Rattle.std.proofs.Common.{◌≡◌, ℕ, zero, suc, ◌<◌, ◌≤◌, inl, inr, min, List, [], ◌∷◌, ◌++◌, length, refl, sym, ap}
use Rattle.std.proofs.Common.{subst}
use Rattle.std.proofs.Common.{◌∙◌, arith, get_or-set_same}
use Rattle.std.specs.Prelude.{◌⊎◌, slice_index, Option, Some}
use Rattle.std.proofs.Math.ListN.{set, length-set}
use Rattle.atomic_table.specs.Table.{State, Me, Splits, Allows, step, keeps, opening}
use Rattle.atomic_table.proofs.Lists.{at_set, at_snoc}
use lib.ListN.{get_elem?}
use mathlib.Core.Option.{some, none, some-injective, some-ne-none}
use Rattle.mp_consensus.specs.declared.lookers.LookerView.{LookerView}
use Rattle.mp_consensus.specs.Bounds.{IsShared, HasLeast, Reads, Lowers, looker_view, no_bound}

word_set : (words : List ℕ) (n : ℕ) → length words ≡ 1 → slice_index (set words 0 n) 0 ≡ n
word_set words n one = get_or-set_same words 0 n _ (omega (arith, one))

-- what a looker sees, once the word is lowered to it or stays there
shared_after : (s : State (Unit {0}) LookerView) (looker : ℕ) (view : LookerView) (n : ℕ) → IsShared s
    → get_elem? s.views looker ≡ some view → n ≤ slice_index s.words 0 → (n ≡ no_bound) ⊎ HasLeast view.least n
    → IsShared record {
      words = set s.words 0 n;
      homes = s.homes;
      views = set s.views looker (looker_view n view.least);
    }
shared_after s looker view n shared there le bounded =
    let new = looker_view n view.least in
    let word = word_set s.words n shared.one_word in
    let agrees : (i : ℕ) (v : LookerView) → get_elem? (set s.views looker new) i ≡ some v → v.least ≡ view.least =
    λ i v d. elim (at_set s.views looker i new v d) [
      | inl same ↦ ap (λ (u : LookerView). u.least) (sym same.1)
      | inr apart ↦ shared.agree i looker v view apart.1 there
    ] in
    record {
      one_word = length-set s.words 0 n ∙ shared.one_word;
      agree = λ i j v w d e. agrees i v d ∙ sym (agrees j w e);
      bounded = subst (λ x. (x ≡ no_bound) ⊎ ((i : ℕ) (v : LookerView) → get_elem? (set s.views looker new) i ≡ some v
          → HasLeast v.least x)) (sym word) (elim bounded [
            | inl free ↦ inl free
            | inr has ↦ inr (λ i v d. subst (λ least. HasLeast least n) (sym (agrees i v d)) has)
          ]);
      seen = λ i v d. subst (λ x. x ≤ v.seen) (sym word) (elim (at_set s.views looker i new v d) [
        | inl same ↦ omega (arith, ap (λ (u : LookerView). u.seen) same.1)
        | inr apart ↦ omega (arith, le, shared.seen i v apart.1)
      ]);
    }

pub allows_read : (slots looker : ℕ) (me : Me (Unit {0}) LookerView)
    → Allows IsShared slots looker me 0 (λ n. n) (Reads (step slots 0 0 0 none) me)
allows_read slots looker me s shared homes there fits =
    let n : ℕ = slice_index s.words 0 in
    let bounded : (n ≡ no_bound) ⊎ HasLeast me.0.least n = elim shared.bounded [
      | inl free ↦ inl free
      | inr each ↦ inr (each looker me.0 there)
    ] in (
      looker_view n me.0.least,
      keeps,
      tt,
      shared_after s looker me.0 n shared there (omega arith) bounded,
      record { view = refl; slots = refl; bounded = bounded; seen = shared.seen looker me.0 there },
    )

same_least : (least : Option ℕ) (r q : ℕ) → least ≡ Some r → least ≡ Some q → r ≡ q
same_least least r q e f = cc

pub allows_lower : (slots looker radius : ℕ) (me : Me (Unit {0}) LookerView) → HasLeast me.0.least radius
    → radius < no_bound
    → Allows IsShared slots looker me 0 (λ n. min n radius) (Lowers (step slots 0 radius 0 none) me)
allows_lower slots looker radius me has small s shared homes there fits =
    let n : ℕ = slice_index s.words 0 in
    let within : has.0 ≤ n = elim shared.bounded [
      | inl free ↦ omega (arith, free, has.2, small)
      | inr each ↦
          let other = each looker me.0 there in
          omega (arith, same_least me.0.least has.0 other.0 has.1 other.1, other.2)
    ] in (
      looker_view (min n radius) me.0.least,
      keeps,
      tt,
      shared_after s looker me.0 (min n radius) shared there (omega arith)
          (inr (has.0, has.1, omega (arith, within, has.2))),
      record { view = refl; slots = refl; seen = shared.seen looker me.0 there },
    )

-- another looker that knows the same
pub splits : (looker : ℕ) (view : LookerView) → Splits IsShared looker view view view
splits looker view s shared there =
    let known : (i : ℕ) (v : LookerView) → get_elem? (set s.views looker view ++ view ∷ []) i ≡ some v
    → (j : ℕ) × (get_elem? s.views j ≡ some v) =
    λ i v d. elim (at_snoc (set s.views looker view) view v i d) [
      | inl before ↦ elim (at_set s.views looker i view v before) [
        | inl same ↦ (looker, there ∙ ap some same.1)
        | inr apart ↦ (i, apart.1)
      ]
      | inr new ↦ (looker, there ∙ ap some new)
    ] in
    record {
      one_word = shared.one_word;
      agree = λ i j v w d e.
          let first = known i v d in
          let second = known j w e in
          shared.agree first.0 second.0 v w first.1 second.1;
      bounded = elim shared.bounded [
        | inl free ↦ inl free
        | inr each ↦ inr (λ i v d. each (known i v d).0 v (known i v d).1)
      ];
      seen = λ i v d. shared.seen (known i v d).0 v (known i v d).1;
    }

only_one : (view v : LookerView) (i : ℕ) → get_elem? (view ∷ []) i ≡ some v → view ≡ v
only_one view v zero d = some-injective view v d
only_one view v (suc i) d = absurd (some-ne-none v (sym d))

-- a bound that is none, with its first looker
pub opens : (least : Option ℕ) → IsShared (opening (no_bound ∷ []) [] (looker_view no_bound least))
opens least =
    let first = looker_view no_bound least in
    record {
      one_word = refl;
      agree = λ i j v w d e. ap (λ (u : LookerView). u.least) (sym (only_one first v i d) ∙ only_one first w j e);
      bounded = inl refl;
      seen = λ i v d. omega (arith, ap (λ (u : LookerView). u.seen) (only_one first v i d));
    }

-- The windows of a piece, and the pieces that a worker drew.
use Rattle.std.proofs.Common.{◌≡◌, ℕ, ◌+◌, ◌<◌, ◌≤◌, List, [], ◌∷◌, ◌++◌, map, get_or, arith, rules, ap, ◌∙◌, sym}
use Rattle.std.proofs.Common.{subst}
use Rattle.std.proofs.Common.{inl, inr, ◌⊎◌, length}
use Rattle.std.specs.Prelude.{Option, Some, None, Result, Ok, Err, IfOk, IsOk, IfSome, nat_le, ◌==◌, if◌then◌else◌}
use Rattle.std.proofs.lemmas.Bool.Decides.{nat_tests}
use Rattle.std.proofs.lemmas.List.Sums.{sum_by_push, sum_by-append}
use Rattle.mp_workers.specs.Desks.{HasEachBelow, once_below, past, times}
use Rattle.mp_workers.specs.Teams.{HasPast}
use Rattle.mp_nums.specs.declared.samples.Sample.{Sample}
use Rattle.mp_defs.specs.Series.{series_of}
use Rattle.mp_defs.specs.SeriesLaws.{series_are_of_samples}
use Rattle.mp_defs.specs.Profile.{windows_of}
use Rattle.mp_results.specs.Consensus.{series_at}
use Rattle.mp_consensus.specs.declared.blocks.Block.{Block}
use Rattle.mp_consensus.specs.declared.candidates.Candidate.{Candidate}
use Rattle.mp_consensus.specs.declared.searchers.Search.{Search}
use Rattle.mp_consensus.specs.Searches.{Leads, piece_of}
use Rattle.mp_consensus.specs.Searchers.{HasFound, IsFound, series_in}
use Rattle.mp_consensus.specs.Blocks.{HoldsWindow, windows_at}
use Rattle.mp_consensus.proofs.Scanning.{series_there}

some_same : {A : Type 0} {x y : A} → Some x ≡ Some y → x ≡ y
some_same e = cc

none_some : {A : Type 0} {x : A} → None ≡ Some x → ⊥
none_some e = cc

-- the windows of a series of samples
pub windows_there : (m : ℕ) (list : List (List Sample)) (p : ℕ)
    → windows_at m list p ≡ windows_of m (series_at (map series_of list) p)
windows_there m list p =
    sym (series_are_of_samples.windows_are m (get_or list p [])) ∙ ap (windows_of m) (sym (series_there list p))

-- what holds of all windows of a block holds of each window that it holds
pub held : (P : ℕ → ℕ → Type 0) (found : Option Block) (block : Block) (p i : ℕ) → found ≡ Some block
    → HoldsWindow found p i → ((k : ℕ) → k < block.count → P block.place (block.start + k)) → P p i
held P found block p i is (b, there, place, k, lt, start) each =
    let same : block ≡ b = some_same (sym is ∙ there) in
    subst (λ j. P p j) (sym start) (subst (λ q. P q (b.start + k)) place
    (subst (λ (x : Block). (n : ℕ) → n < x.count → P x.place (x.start + n)) same each k lt))

pub none_held : (found : Option Block) (p i : ℕ) → found ≡ None → HoldsWindow found p i → ⊥
none_held found p i is h = none_some (sym is ∙ h.1)

pub is_ok : {A E : Type 0} (r : Result A E) (x : A) → r ≡ Ok x → IsOk r
is_ok r x e = grind (arith, rules)

pub if_ok : {A E : Type 0} (r : Result A E) (P Q : Type 0) → (P → Q) → IfOk r (λ _. P) → IfOk r (λ _. Q)
if_ok (Ok x) P Q f h = f h
if_ok (Err e) P Q f h = tt

-- ---- the numbers that were drawn

abbrev one_past : ℕ → ℕ → ℕ
one_past pieces number = if nat_le pieces number then 1 else 0

pub none_past : (pieces : ℕ) (drawn : List ℕ) (piece : ℕ) → past pieces drawn ≡ 0 → piece < pieces
    → past pieces (drawn ++ piece ∷ []) ≡ 0
none_past pieces drawn piece none lt =
    let no : one_past pieces piece ≡ 0 = grind (arith, nat_tests) in
    omega (arith, none, no, sum_by_push (one_past pieces) drawn piece)

-- where a number past the pieces was drawn, each piece was
pub all_drawn : (pieces next : ℕ) (drawn : List ℕ) → HasEachBelow next drawn → HasPast pieces drawn
    → (k : ℕ) → k < pieces → 1 ≤ times k drawn
all_drawn pieces next drawn each past k lt =
    let last : past.0 < next = below next past.0 (omega (arith, past.2, each past.0)) in
    let once : once_below next k ≡ 1 = is_once next k (omega (arith, lt, past.1, last)) in
    omega (arith, each k, once)
  where
    below : (next x : ℕ) → 1 ≤ once_below next x → x < next
    below next x le = grind (arith, nat_tests)

    is_once : (next x : ℕ) → x < next → once_below next x ≡ 1
    is_once next x lt = grind (arith, nat_tests)

-- ---- what two workers found

times_both : (k : ℕ) (xs ys zs : List ℕ) → zs ≡ xs ++ ys → times k zs ≡ times k xs + times k ys
times_both k xs ys zs e = ap (times k) e ∙ sum_by-append (λ number. if number == k then 1 else 0) xs ys

some_of_both : (a b n : ℕ) → n ≡ a + b → 1 ≤ n → (1 ≤ a) ⊎ (1 ≤ b)
some_of_both a b n e le = grind (arith, nat_tests)

pub both_found : (s : Search) (xs ys zs : List ℕ) (best found result : Option Candidate) → zs ≡ xs ++ ys
    → (result ≡ best) ⊎ (result ≡ found) → ((r p i : ℕ) → Leads best r p i → Leads result r p i)
    → ((r p i : ℕ) → Leads found r p i → Leads result r p i) → HasFound s xs best → HasFound s ys found
    → HasFound s zs result
both_found s xs ys zs best found result e either by_best by_found first second = record {
  sound = elim either [
    | inl is ↦ subst (λ b. IfSome b (IsFound s)) (sym is) first.sound
    | inr is ↦ subst (λ b. IfSome b (IsFound s)) (sym is) second.sound
  ];
  searched = λ p i place window drew r radius least.
      let k = piece_of (length (series_in s)) p i in
      elim (some_of_both (times k xs) (times k ys) (times k zs) (times_both k xs ys zs e) drew) [
        | inl there ↦ by_best r p i (first.searched p i place window there r radius least)
        | inr there ↦ by_found r p i (second.searched p i place window there r radius least)
      ];
}

pub both_past : (pieces : ℕ) (xs ys zs : List ℕ) → zs ≡ xs ++ ys → HasPast pieces ys → HasPast pieces zs
both_past pieces xs ys zs e past =
    (past.0, past.1, omega (arith, past.2, times_both past.0 xs ys zs e))

use Rattle.std.proofs.Common.{◌≡◌, ◌<◌, ◌++◌, ◌∷◌, [], ℕ, length, sym, ap, ◌∙◌, subst, rules}
use Rattle.std.proofs.Common.{arith, true, false, get_or, replicate, take, drop, heap_items}
use Rattle.std.specs.Int.{abs_diff}
use Rattle.std.specs.Prelude.{◌&&◌, nat_lt}
use Rattle.std.specs.List.Sorted.{IsPermutation}
use Rattle.std.proofs.lemmas.List.{get_or_read}
use Rattle.std.proofs.lemmas.List.Elements.{All-head}
use Rattle.std.proofs.lemmas.List.Sorted.{All-permutation}
use Rattle.mp_picks.specs.Candidates.{by_key, candidates, place_of}
use Rattle.mp_picks.specs.CandidateLaws.{by_key_total, candidate_has_key, candidates_told_apart}
use Rattle.mp_picks.proofs.Choosing.{IsChoosing, choosing_starts, passed_over, chosen_next, chosen_enough, chosen_all}
use Rattle.mp_picks.proofs.Choosing.{written_over}
use Rattle.mp_picks.proofs.picking.picks.Goals as goal
use Rattle.mp_picks.proofs.picking.picks.Goals.{else-loop-waiting-test, then-loop-waiting-test+in_default}

pub loop-waiting-init : goal.loop-waiting-init
loop-waiting-init g c =
    let cmp = g.K.Ord.cmp in
    let keys = c.args.keys.now in
    let free : c.in_ok-is_free.is_free.items ≡ replicate (length keys) true = search rules in
    let same = subst (λ xs. IsPermutation xs (heap_items c.from-waiting.result)) c.in_ok-candidates.ensures
    c.from-waiting.ensures.1 in
    subst (IsChoosing (by_key cmp) place_of c.args.zone c.args.count (candidates keys) c.in_ok-is_free.is_free.items
    (heap_items c.from-waiting.result)) (sym c.new-chosen.ensures.items)
    (choosing_starts (by_key cmp) place_of c.args.zone c.args.count (by_key_total cmp g.met.K.Ord.total)
    (candidates keys) (length keys) _ _ free same c.from-waiting.ensures.2
    (candidates_told_apart cmp keys) (λ x h. (candidate_has_key keys x h).0))

pub loop-waiting-preserved-in_ok-push : goal.loop-waiting-preserved-in_ok-push
loop-waiting-preserved-in_ok-push g c =
    let popped = c.in-Some.ensures in
    let cmp = g.K.Ord.cmp in
    let h = c.loop-waiting.invariant in
    let below = popped.heap_order h.heap in
    let r = c.in-Some.field-0 in
    let old = c.loop-waiting.is_free.items in
    let new = c.shut_out.new.is_free in
    let within = All-head (λ a. place_of a.0 < length old) r (heap_items c.pop.new.self)
    (All-permutation (λ a. place_of a.0 < length old) (heap_items c.loop-waiting.waiting)
    (r ∷ heap_items c.pop.new.self) popped.permutation h.within) in
    let free = sym (get_or_read old (place_of r.0) c.index.result.now within c.index.ensures false) ∙ c.if-index.true in
    let long : length new ≡ length old = omega
    (arith, c.shut_out.auto.is_free, c.as_mut_slice.ensures.len, c.loop-waiting.is_free.ok.0) in
    let written : take c.loop-waiting.is_free.len (new ++ drop (length new) old) ≡ new = written_over _ new old
    (omega (arith, long, c.loop-waiting.is_free.ok.0)) in
    let shut : (q : ℕ) → get_or new q false ≡ (get_or old q false && nat_lt c.args.zone (abs_diff (place_of r.0) q)) =
    λ q. c.shut_out.ensures q ∙ ap (λ xs. get_or xs q false && nat_lt c.args.zone (abs_diff (place_of r.0) q))
    c.as_mut_slice.ensures.value in
    let pushed : c.push.new.self.items ≡ c.loop-waiting.chosen.items ++ r.0 ∷ [] = c.in_ok-push.ensures.items in
    subst (λ xs. IsChoosing (by_key cmp) place_of c.args.zone c.args.count (candidates c.args.keys.now) xs
    (heap_items c.pop.new.self) c.push.new.self.items) (sym written)
    (subst (IsChoosing (by_key cmp) place_of c.args.zone c.args.count (candidates c.args.keys.now) new
    (heap_items c.pop.new.self)) (sym pushed)
    (chosen_next (by_key cmp) place_of c.args.zone c.args.count (by_key_total cmp g.met.K.Ord.total)
    (candidates c.args.keys.now) old new _ _ r _ h popped.permutation below.0 below.1 (omega arith) free long shut))

pub loop-waiting-preserved : goal.loop-waiting-preserved
loop-waiting-preserved g c =
    let popped = c.in-Some.ensures in
    let cmp = g.K.Ord.cmp in
    let h = c.loop-waiting.invariant in
    let r = c.in-Some.field-0 in
    let shut : get_or c.loop-waiting.is_free.items (place_of r.0) false ≡ false = search rules in
    passed_over (by_key cmp) place_of c.args.zone c.args.count (by_key_total cmp g.met.K.Ord.total)
    (candidates c.args.keys.now) _ _ _ r _ h popped.permutation (popped.heap_order h.heap).0 shut

pub returns : goal.returns
returns g c =
    let cmp = g.K.Ord.cmp in
    let h = c.loop-waiting.invariant in
    elim c.loop-waiting-test.branch [
      | else-loop-waiting-test w ↦ chosen_enough (by_key cmp) place_of c.args.zone c.args.count
          (candidates c.args.keys.now) _ _ _ h (omega arith)
      | then-loop-waiting-test+in_default w ↦ chosen_all (by_key cmp) place_of c.args.zone c.args.count
          (candidates c.args.keys.now) _ _ _ h (let ended = w.in_default.ensures in
          omega (arith, ended.none, c.loop-waiting.waiting.data.ok.0))
    ]

use Rattle.std.proofs.Common.{◌≡◌, ℕ, Bool, true, false, ◌∙◌}
use Rattle.std.proofs.lemmas.List.{map_push}
use Rattle.mp_nums.specs.Listed.{Listed}
use Rattle.mp_results.specs.Chains.{is_first, chain_from}
use Rattle.mp_chains.proofs.Names.{is_none-is}
use Rattle.mp_chains.proofs.Columns.{made_more_yes, made_more_no}
use Rattle.mp_chains.proofs.chains.all_chains.Goals as goal
use Rattle.mp_chains.proofs.chains.all_chains.Goals.{then-is_none+in_ok-anchored+in_ok-push, else-is_none}

pub loop-j-preserved : goal.loop-j-preserved
loop-j-preserved c =
    let f = chain_from c.args.left.now c.args.right.now in
    let p = is_first c.args.left.now c.args.right.now in
    let tells = λ (b : Bool) (is : c.is_none.result ≡ b).
    is_none-is _ _ _ b c.is_none.ensures is c.named_back.ensures in
    elim c.if-is_none.branch [
      | then-is_none+in_ok-anchored+in_ok-push w ↦
          let first : p c.loop-j.j ≡ true = tells true w.if-is_none.true in
          rw (w.chains-is, w.in_ok-push.ensures.items) (map_push (λ (chain : Listed ℕ). chain.items) _ _
          ∙ made_more_yes f p c.loop-j.j _ _ first w.in_ok-anchored.ensures c.loop-j.invariant)
      | else-is_none w ↦
          let later : p c.loop-j.j ≡ false = tells false w.if-is_none.false in
          rw w.chains-is (made_more_no f p c.loop-j.j _ later c.loop-j.invariant)
    ]

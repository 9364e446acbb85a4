use Rattle.std.proofs.Common.{ℕ, List, [], ◌∷◌, ◌++◌, ap, ◌∙◌, sym, arith}
use Rattle.std.proofs.lemmas.List.FromFn.{map-range_with_len_more}
use Rattle.mp_replies.specs.declared.refs.Ref.{Ref}
use Rattle.mp_requests.proofs.requests.multi_command.channels_of.Goals as goal

pub loop-channel-preserved : goal.loop-channel-preserved
loop-channel-preserved c =
    let at = c.loop-channel.channel in
    c.in_ok-push.ensures.items
    ∙ (ap (λ (list : List Ref). list ++ record { slot = c.args.slot; channel = at } ∷ []) c.loop-channel.invariant
    ∙ sym (map-range_with_len_more (λ (k : ℕ). record { slot = c.args.slot; channel = k }) 0 at at (omega arith)))

use Rattle.std.proofs.Common.{◌≡◌, map}
use Rattle.std.specs.List.{range_with_len}
use Rattle.mp_requests.proofs.requests.multi_command.channels_of.Given as goal

abbrev pub invariant-loop-channel : goal.invariant-loop-channel
invariant-loop-channel l =
    l.refs.items ≡ map (λ channel. record { slot = l.slot; channel = channel }) (range_with_len 0 l.channel)

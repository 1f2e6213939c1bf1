use Rattle.std.proofs.Common.{◌≡◌, ℕ, take}
use Rattle.queue_core.specs.Queue.{offered_candidates, offers_of, numbers_of}
use Rattle.queue_core.proofs.state.QueueState.offers_of.Given as goal

abbrev pub invariant-loop-number : goal.invariant-loop-number
invariant-loop-number l =
    (maximum : ℕ) → l.numbers ≡ numbers_of (offered_candidates l.self maximum) → l.offers ≡ offers_of l.self (take l.number-index (offered_candidates l.self maximum))

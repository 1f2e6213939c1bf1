use Rattle.std.proofs.Common.{◌≡◌, drop}
use Rattle.std.specs.List.{list_any}
use Rattle.queue_core.specs.Messages.{is_expired, periods_from, runs_out_in}
use Rattle.plain_queue.proofs.states.is_expired.Given as goal

abbrev pub invariant-loop-place : goal.invariant-loop-place
invariant-loop-place l =
    list_any (λ p. runs_out_in l.message p) (periods_from l.place l.settings l.clock (drop l.place l.lines)) ≡ is_expired l.lines l.clock l.message

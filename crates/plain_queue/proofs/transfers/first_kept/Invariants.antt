use Rattle.std.proofs.Common.{◌≡◌, drop, not}
use Rattle.std.specs.Prelude.{flat_map, option_to_list}
use Rattle.std.specs.List.{list_any, find}
use Rattle.queue_core.specs.Messages.{ends_transfer, kept_transfer}
use Rattle.plain_queue.proofs.transfers.first_kept.Given as goal

abbrev pub invariant-loop-message : goal.invariant-loop-message
invariant-loop-message l = find (λ t. not (list_any (λ later. ends_transfer t later.event) (drop l.from l.lines))) (flat_map (λ m. option_to_list (kept_transfer m)) (drop l.message-index l.messages))
    ≡ find (λ t. not (list_any (λ later. ends_transfer t later.event) (drop l.from l.lines))) (flat_map (λ m. option_to_list (kept_transfer m)) l.messages)

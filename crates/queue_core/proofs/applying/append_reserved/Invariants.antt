use Rattle.std.proofs.Common.{◌≡◌, ◌+◌, ◌++◌, take, deque_len, deque_capacity}
use Rattle.queue_core.proofs.applying.append_reserved.Given as goal

abbrev pub invariant-loop-number : goal.invariant-loop-number
invariant-loop-number l = record {
  items : l.queue.items ≡ l.initial.queue.items ++ take l.number-index l.numbers;
  len : deque_len l.queue ≡ deque_len l.initial.queue + l.number-index;
  capacity : deque_capacity l.queue ≡ deque_capacity l.initial.queue;
}

use Rattle.std.proofs.Common.{◌≡◌, ◌≤◌, length, take, map, vec_len, vec_capacity}
use Rattle.message.specs.Content.{content_size}
use Rattle.journal.specs.Base.{mark_message}
use Rattle.journal.proofs.base.marks_of.Given as goal

abbrev pub invariant-loop-message : goal.invariant-loop-message
invariant-loop-message l = record {
  counted : vec_len l.marks ≡ l.message-index;
  room : length l.messages ≤ vec_capacity l.marks;
  so_far : l.marks.items ≡ map (mark_message content_size) (take l.message-index l.messages);
}

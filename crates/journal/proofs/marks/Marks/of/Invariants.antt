use Rattle.std.proofs.Common.{◌≡◌, ◌≤◌, length, take, map, vec_len, vec_capacity}
use Rattle.message.specs.Content.{content_size}
use Rattle.journal.specs.Mark.{mark_of}
use Rattle.journal.proofs.marks.Marks.of.Given as goal

abbrev pub invariant-loop-line : goal.invariant-loop-line
invariant-loop-line l = record {
  counted : vec_len l.marks ≡ l.line-index;
  room : length l.lines ≤ vec_capacity l.marks;
  so_far : l.marks.items ≡ map (mark_of content_size) (take l.line-index l.lines);
}

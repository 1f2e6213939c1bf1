use Rattle.std.proofs.Common.{◌≡◌, ◌-◌, ◌≤◌, replicate, length}
use Rattle.board.proofs.publisher.Publisher.readers.Given as goal

abbrev pub invariant-loop-alloc : goal.invariant-loop-alloc
invariant-loop-alloc g l = (l.self ≡ l.fn.self) × (length l.all.items ≤ l.count)
    × (l.all.items ≡ replicate (length l.all.items) (record { given = l.given; book = l.fn.self.book; turns = l.fn.self.turns }))

abbrev pub decreases-loop-alloc : goal.decreases-loop-alloc
decreases-loop-alloc g l = l.count - length l.all.items

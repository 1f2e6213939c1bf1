-- The queues so far are those of the first places, and those that are served stay the same ones.
use Rattle.std.proofs.Common.{◌≡◌, map, take}
use Rattle.queue_actor.proofs.directory.DirectoryEntries.all.Given as goal

abbrev pub invariant-loop-place : goal.invariant-loop-place
invariant-loop-place g l = record {
  uids : map (λ queue. queue.uid) l.queues.items ≡ take l.place (map (λ queue. queue.uid) l.fn.self.served.items);
  same : map (λ queue. queue.uid) l.self.served.items ≡ map (λ queue. queue.uid) l.fn.self.served.items;
  catalog : l.self.catalog ≡ l.fn.self.catalog;
  keys : l.self.keys ≡ l.fn.self.keys;
}

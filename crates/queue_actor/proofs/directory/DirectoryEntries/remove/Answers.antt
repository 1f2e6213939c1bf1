use Rattle.std.proofs.Common.{◌≡◌, false, map, ap, ◌∙◌, nat_eq}
use Rattle.std.specs.List.{find, list_any}
use Rattle.redrive.specs.Catalog.{NameDirectory, uid_of_name}
use Rattle.redrive.proofs.KeyedLemmas.{absent-by, find-without}
use Rattle.queue_actor.proofs.DirectoryLemmas.{uids-without}
use Rattle.queue_actor.proofs.directory.DirectoryEntries.remove.Goals as goal

-- the names of those that are left have other uids
pub invariant_of-self : goal.invariant_of-self
invariant_of-self g c =
    let now = c.unserve-queue.new.self in
    let uid = c.args.uid in
    let none : list_any (λ u. nat_eq u uid) now.keys.uids ≡ false =
    absent-by (λ q. q.uid) (λ u. nat_eq u uid) now.keys.uids now.served.items now.uids
    (ap (find (λ q. nat_eq q.uid uid)) c.unserve-queue.ensures.left ∙ find-without (λ q. q.uid) uid c.args.self.now.served.items) in
    record {
      uids = now.uids;
      names = now.names;
      once = now.once;
      entered = ap (λ (d : NameDirectory). map (λ name. uid_of_name d name) now.keys.names) c.remove.ensures.state
          ∙ uids-without now.catalog uid now.keys.names now.keys.uids now.entered none;
    }

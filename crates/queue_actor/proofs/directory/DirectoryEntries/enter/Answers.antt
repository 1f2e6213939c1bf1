use Rattle.queue_actor.proofs.DirectoryLemmas.{uids-answered}
use Rattle.queue_actor.proofs.directory.DirectoryEntries.enter.Goals as goal

-- a name that is entered, or is not, changes no other name's uid
pub invariant_of-self-clause-entered : goal.invariant_of-self-clause-entered
invariant_of-self-clause-entered g c =
    let old = c.args.self.now in
    uids-answered old.catalog c.args.name c.add.new.self c.add.result old.keys.names old.keys.uids old.entered c.add.ensures.ok c.add.ensures.err

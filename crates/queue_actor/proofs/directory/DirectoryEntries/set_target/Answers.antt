use Rattle.std.proofs.Common.{map, ap, ◌∙◌}
use Rattle.redrive.specs.Catalog.{NameDirectory, uid_of_name}
use Rattle.queue_actor.proofs.DirectoryLemmas.{uids-retargeted}
use Rattle.queue_actor.proofs.directory.DirectoryEntries.set_target.Goals as goal

-- another target changes no name's uid
pub invariant_of-self-clause-entered : goal.invariant_of-self-clause-entered
invariant_of-self-clause-entered g c =
    let old = c.args.self.now in
    ap (λ (d : NameDirectory). map (λ name. uid_of_name d name) old.keys.names) c.set_target-2.ensures.state
    ∙ uids-retargeted old.catalog c.args.uid c.args.target old.keys.names ∙ old.entered

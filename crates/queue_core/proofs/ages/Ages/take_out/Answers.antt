use Rattle.std.proofs.Common.{refl}
use Rattle.queue_core.proofs.indexed.AgeLemmas.{taken_from_list}
use Rattle.queue_core.proofs.ages.Ages.take_out.Goals as goal

pub returns : goal.returns
returns c = taken_from_list c.args.number c.index.result.now c.args.self.now _ c.remove.result c.requires c.index.ensures c.remove.ensures.value c.remove.ensures.slots c.remove.ensures.spare refl

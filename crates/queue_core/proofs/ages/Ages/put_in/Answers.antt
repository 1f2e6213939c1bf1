use Rattle.std.proofs.Common.{refl}
use Rattle.queue_core.proofs.indexed.AgeLemmas.{put_in_list}
use Rattle.queue_core.proofs.ages.Ages.put_in.Goals as goal

pub returns : goal.returns
returns c = put_in_list c.args.number c.add-slot.result c.args.self.now _ c.requires c.add-slot.ensures.slots c.add-slot.ensures.spare refl

use Rattle.std.proofs.Common.{refl}
use Rattle.queue_core.proofs.indexed.SlotsIndexedLemmas.{indexed_none}
use Rattle.queue_core.proofs.indices.Indices.new.Goals as goal

pub returns : goal.returns
returns c = indexed_none _ c.new.ensures c.new-2.ensures c.new-3.ensures refl refl refl c.new-4.ensures

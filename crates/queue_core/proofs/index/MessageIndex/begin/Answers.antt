-- The message comes under the number of those that there were.
use Rattle.std.proofs.Common.{◌≡◌, arith}
use Rattle.queue_core.specs.private.Records.{born_in}
use Rattle.queue_core.proofs.records.KeptRecordLemmas.{can_begin, has_begun}
use Rattle.queue_core.proofs.costs.SpendingLemmas.{costs-begun}
use Rattle.queue_core.proofs.index.MessageIndex.begin.Goals as goal

pub replace-requires : goal.replace-requires
replace-requires c =
    let next : c.len-number.result ≡ born_in c.args.self.now = omega (arith, c.args.self.now.receives.ok.0) in
    can_begin c.args.self.now c.len-number.result c.args.kept.slot c.requires.indices c.requires.ready next

pub returns-clause-indices : goal.returns-clause-indices
returns-clause-indices c =
    let next : c.len-number.result ≡ born_in c.args.self.now = omega (arith, c.args.self.now.receives.ok.0) in
    has_begun c.args.self.now _ c.len-number.result c.args.kept c.requires.indices c.requires.ready next c.requires.sent c.replace.ensures.replaced c.put_record.ensures.records c.push_reserved.ensures.items

pub returns-clause-cost : goal.returns-clause-cost
returns-clause-cost c = costs-begun _ _ _ c.args.self.now c.replace.new.self c.args.kept.slot c.requires.indices c.put_record.ensures.len c.replace.ensures.cost

use Rattle.queue_core.proofs.indexed.VisibleLemmas.{pairs_given, strict_given, pairs_left}
use Rattle.queue_core.proofs.costs.SpendingLemmas.{len-put}
use Rattle.queue_core.proofs.indices.replace_pair.Goals as goal

pub returns-in-Some-clause-pairs : goal.returns-in-Some-clause-pairs
returns-in-Some-clause-pairs c =
    pairs_given c.args.number c.in-Some.moment c.args.after c.args.visible.now.pairs c.remove_pair.new.visible.pairs c.put.new.self.pairs c.remove_pair.ensures.pairs c.in-Some.is c.put.ensures.pairs

pub returns-in-Some-clause-strict : goal.returns-in-Some-clause-strict
returns-in-Some-clause-strict c =
    strict_given c.args.number c.in-Some.moment c.args.visible.now.pairs c.remove_pair.new.visible.pairs c.put.new.self.pairs c.remove_pair.ensures.pairs c.remove_pair.ensures.strict c.put.ensures.pairs

pub returns-in_default-clause-pairs : goal.returns-in_default-clause-pairs
returns-in_default-clause-pairs c =
    pairs_left c.args.number c.args.after c.args.visible.now.pairs c.remove_pair.new.visible.pairs c.remove_pair.ensures.pairs c.in_default.is

pub returns-in-Some-clause-len : goal.returns-in-Some-clause-len
returns-in-Some-clause-len c =
    len-put c.args.number c.in-Some.moment c.args.before c.args.after c.args.visible.now.pairs c.remove_pair.new.visible.pairs c.put.new.self.pairs c.remove_pair.ensures.len c.in-Some.is c.put.ensures.pairs

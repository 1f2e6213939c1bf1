use Rattle.queue_core.proofs.indexed.VisibleLemmas.{pairs_removed, strict_removed, pairs_kept}
use Rattle.queue_core.proofs.costs.SpendingLemmas.{len-removed}
use Rattle.queue_core.proofs.indices.remove_pair.Goals as goal

pub returns-in-Some-clause-pairs : goal.returns-in-Some-clause-pairs
returns-in-Some-clause-pairs c =
    pairs_removed c.args.number c.in-Some.moment c.args.before c.args.visible.now.pairs c.remove.new.self.pairs c.requires.strict c.requires.before c.in-Some.is c.remove.ensures.pairs

pub returns-in-Some-clause-strict : goal.returns-in-Some-clause-strict
returns-in-Some-clause-strict c =
    strict_removed c.args.number c.in-Some.moment c.args.visible.now.pairs c.remove.new.self.pairs c.requires.strict c.remove.ensures.pairs

pub returns-in_default-clause-pairs : goal.returns-in_default-clause-pairs
returns-in_default-clause-pairs c =
    pairs_kept c.args.number c.args.before c.args.visible.now.pairs c.requires.before c.in_default.is

pub returns-in-Some-clause-len : goal.returns-in-Some-clause-len
returns-in-Some-clause-len c =
    len-removed c.args.number c.in-Some.moment c.args.before c.args.visible.now.pairs c.remove.new.self.pairs c.requires.before c.in-Some.is c.remove.ensures.pairs

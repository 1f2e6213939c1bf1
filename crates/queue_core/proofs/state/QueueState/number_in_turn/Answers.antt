use Rattle.std.proofs.Common.{sym, ◌∙◌}
use Rattle.queue_core.proofs.indexed.ReceiveLemmas.{index_seen, number_at, none_missing}
use Rattle.queue_core.proofs.state.QueueState.number_in_turn.Goals as goal

pub unreachable-requires : goal.unreachable-requires
unreachable-requires c =
    none_missing c.args.self.now.lines c.args.self.now.clock c.self.inside.index (index_seen _ c.args.self.now c.self.inside.index c.self.view_is c.self.invariant.2) c.args.place c.requires
    (sym c.get.ensures ∙ c.in-None.is)

pub returns : goal.returns
returns c =
    number_at c.args.self.now.lines c.args.self.now.clock c.self.inside.index (index_seen _ c.args.self.now c.self.inside.index c.self.view_is c.self.invariant.2) c.args.place
    (c.in-Some.field-0-0, c.in-Some.number) (sym c.get.ensures ∙ c.in-Some.is)

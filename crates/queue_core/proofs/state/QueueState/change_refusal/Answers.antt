use Rattle.std.proofs.Common.{sym, ◌∙◌}
use Rattle.std.proofs.lemmas.Bool.{and_parts}
use Rattle.queue_core.proofs.state.QueueState.change_refusal.Goals as goal

pub passes_twelve_hours-requires : goal.passes_twelve_hours-requires
passes_twelve_hours-requires c = (and_parts _ _ (sym c.holds_in_flight.ensures ∙ c.if-not-holds_in_flight.false)).0

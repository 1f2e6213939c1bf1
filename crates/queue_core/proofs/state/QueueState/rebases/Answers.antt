use Rattle.queue_core.proofs.indexed.QuestionLemmas.{legal_of}
use Rattle.queue_core.proofs.state.QueueState.rebases.Goals as goal

pub returns-in-Some-clause-legal : goal.returns-in-Some-clause-legal
returns-in-Some-clause-legal c = legal_of _ _ c.self.view_is c.self.invariant.0.legal

pub returns-then-wants_open-clause-legal : goal.returns-then-wants_open-clause-legal
returns-then-wants_open-clause-legal c = legal_of _ _ c.self.view_is c.self.invariant.0.legal

pub returns-else-wants_open-clause-legal : goal.returns-else-wants_open-clause-legal
returns-else-wants_open-clause-legal c = legal_of _ _ c.self.view_is c.self.invariant.0.legal

use Rattle.desk.proofs.PassLemmas.{known_seen}
use Rattle.desk.proofs.desk.Desk.ask_now.Goals as goal

pub call_in_turn-requires-clause-known : goal.call_in_turn-requires-clause-known
call_in_turn-requires-clause-known g c = known_seen _ _ _ c.begin.ensures.seen

use Rattle.queue_core.proofs.entries.StopLemmas.{receive_stops, stops_there, offers_there, leaves_there}
use Rattle.queue_core.proofs.receive_laws.a_receive_stops_behind_its_last_offer.Goals as goal

pub returns : goal.returns
returns c = record { stops = receive_stops; only_there = stops_there; offered = offers_there; leaving = leaves_there }

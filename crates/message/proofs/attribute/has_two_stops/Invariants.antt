use Rattle.std.proofs.Common.{◌≡◌, drop}
use Rattle.message.specs.Attribute.{has_two_stops}
use Rattle.message.proofs.AttributeLemmas.{two_stops_after}
use Rattle.message.proofs.attribute.has_two_stops.Given as goal

abbrev pub invariant-loop-byte : goal.invariant-loop-byte
invariant-loop-byte l = has_two_stops l.name ≡ two_stops_after l.after_stop (drop l.byte-index l.name)

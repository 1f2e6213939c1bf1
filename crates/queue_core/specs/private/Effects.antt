-- What a change of the messages that are there or have left is, as the effect of an event has it.
use Rattle.std.specs.Prelude.{◌==◌, true, List, [], ◌∷◌, Option, Some, option_map, option_and_then, option_to_list}
use Rattle.message.specs.Content.{ContentText}
use Rattle.journal.specs.declared.base.TransferKey.{TransferKey}
use Rattle.queue_core.specs.Messages.{Birth, Effect, no_effect, key_of, base_births, since_base}
use Rattle.queue_core.specs.declared.effect.Change.{Change}
use Rattle.queue_core.specs.declared.effect.Change.TheVariants.{Nothing, Receive, Reschedule, Remove, RemoveAll, EndPeriod, Confirm, BringBack, Close, Base}

-- the transfers that a queue has accepted with a message that begins
abbrev pub accepted_with : Option (Birth ContentText) → List TransferKey
accepted_with birth = option_to_list (option_map key_of (option_and_then (λ b. b.origin) birth))

-- the effect of an event that makes a change, but for settings and opening; a message begins where nothing else changes
abbrev pub changed_by : Change → Option (Birth ContentText) → Effect ContentText
changed_by Nothing birth = record no_effect { births = option_to_list birth; accepted = accepted_with birth }
changed_by (Receive timeout offered leaving target) birth = record no_effect {
  offered = offered.now;
  rescheduled = offered.now;
  timeout = timeout;
  departures = leaving.now;
  target = target;
}
changed_by (Reschedule changed timeout) birth = record no_effect { rescheduled = changed ∷ []; timeout = timeout }
changed_by (Remove deleted) birth = record no_effect { removes = λ number. deleted == number }
changed_by RemoveAll birth = record no_effect { removes = λ number. true }
changed_by EndPeriod birth = record no_effect { closes_period = true }
changed_by (Confirm settled) birth = record no_effect { confirms = λ number. settled == number }
changed_by (BringBack target) birth = record no_effect { lost_target = Some target }
changed_by Close birth = record no_effect { closes = true; removes = λ number. true }
changed_by (Base base) birth = record no_effect { births = base_births base.now; accepted = base.now.accepted; since = Some (since_base base.now) }

-- What a checkpoint keeps of an index of messages.
use Rattle.std.specs.Prelude.{ℕ, ◌++◌, if◌then◌else◌, is_some, List, Option, Some, None, option_map, option_and_then}
use Rattle.std.specs.List.{filter_map, range_with_len}
use Rattle.message.specs.Content.{ContentText}
use Rattle.journal.specs.declared.base.KeptMessage.{KeptMessage}
use Rattle.queue_core.specs.declared.record.Record.{Record}
use Rattle.queue_core.specs.declared.index.MessageIndex.{MessageIndex}
use Rattle.queue_core.specs.private.Records.{records_in, born_in}
use Rattle.queue_core.specs.private.Indexed.{waits_in, known_record}
use Rattle.queue_core.specs.Rebase.{kept_with}

-- what is kept at a time of the message of a number, by a retention in seconds
abbrev pub kept_record : ℕ → ℕ → ℕ → Record → KeptMessage ContentText
kept_record retention clock number r = kept_with (known_record retention clock number r) r.content

-- where it is there, and where it is there or waits for a dead-letter queue
abbrev pub present_in : ℕ → ℕ → MessageIndex → ℕ → Option (KeptMessage ContentText)
present_in retention clock x number =
    option_and_then (λ r. if is_some (waits_in r.slot.stay) then None else Some (kept_record retention clock number r)) (records_in x number)

abbrev pub kept_in : ℕ → ℕ → MessageIndex → ℕ → Option (KeptMessage ContentText)
kept_in retention clock x number = option_map (kept_record retention clock number) (records_in x number)

-- those that are there, by number, and behind them those that wait, in the order in which they left
abbrev pub messages_kept : ℕ → ℕ → MessageIndex → List (KeptMessage ContentText)
messages_kept retention clock x =
    filter_map (present_in retention clock x) (range_with_len 0 (born_in x)) ++ filter_map (kept_in retention clock x) x.leaving.items

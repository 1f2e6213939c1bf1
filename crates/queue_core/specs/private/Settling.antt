-- What the passing of time makes of records in two steps: what is hidden and due is shown, and then what was sent long ago is let go.
use Rattle.std.specs.Prelude.{ℕ, ◌&&◌, not, nat_le, Bool, if◌then◌else◌, Option, Some, None}
use Rattle.queue_core.specs.declared.record.Record.{Record}
use Rattle.queue_core.specs.private.Slots.{is_hidden_stay}
use Rattle.queue_core.specs.private.Records.{with_stay, stay_at, is_left_record}

-- hidden, and due by a time
abbrev pub is_due : ℕ → Record → Bool
is_due at r = is_hidden_stay r.slot.stay && nat_le r.slot.due at

-- shown, where it is hidden and due by a time
abbrev pub shown_at : ℕ → Record → Record
shown_at at r = with_stay (stay_at at r.slot.stay r.slot.due) r

-- there, and first sent by a time
abbrev pub was_sent_by : ℕ → Record → Bool
was_sent_by moment r = not (is_left_record r) && nat_le r.first_send_time moment

-- nothing, where it is there and was first sent by a time
abbrev pub kept_since : ℕ → Record → Option Record
kept_since moment r = if was_sent_by moment r then None else Some r

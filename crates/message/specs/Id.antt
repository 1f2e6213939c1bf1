-- Message ids: the UUID of the number `uid * 2^64 + number`.
use Rattle.std.specs.Prelude.{ℕ, ◌+◌, ◌*◌, ◌/◌, ◌%◌, ◌^◌, List, Option, option_map}
use Rattle.std.specs.Int.{w128, to_be_bytes, from_be_bytes}
use Rattle.uuid.specs.Text.{lower, hyphenated_text, parsed}
use Rattle.message.specs.declared.id.MessageId.{MessageId}

-- its sixteen bytes, the first queue's uid before the number
abbrev pub message_id_bytes : MessageId → List ℕ
message_id_bytes id = to_be_bytes w128 (id.uid * 2 ^ 64 + id.number)

-- the halves of the number that sixteen bytes are
abbrev pub id_of_bytes : List ℕ → MessageId
id_of_bytes bytes = record { uid = from_be_bytes w128 bytes / 2 ^ 64; number = from_be_bytes w128 bytes % 2 ^ 64 }

-- the hyphenated lower-case text
abbrev pub message_id_text : MessageId → List ℕ
message_id_text id = hyphenated_text lower (message_id_bytes id)

-- the id that a text in one of a UUID's forms is
abbrev pub message_id_of : List ℕ → Option MessageId
message_id_of text = option_map id_of_bytes (parsed text)

-- What is sent, changed and deleted, singly or as the entries of a batch (Amazon SQS API Reference, SendMessageBatch, DeleteMessageBatch, ChangeMessageVisibilityBatch).
use Rattle.std.specs.Prelude.{ℕ, suc, ◌==◌, nat_lt, Bool, true, false, ◌||◌, ◌&&◌, is_some, if◌then◌else◌, List, [], ◌∷◌, sum_by, codes, Option, Some, None, Result, Ok, Err}
use Rattle.std.specs.Option.{option_map_or}
use Rattle.std.specs.Str.{bytes_eq}
use Rattle.message.specs.Content.{body_fault, content_of, content_size, unless_fault}
use Rattle.message.specs.Name.{queue_name_of}
use Rattle.message.specs.declared.fault.Fault.{Fault}
use Rattle.message.specs.declared.fault.Fault.TheVariants.{EmptyBatchRequest, TooManyEntriesInBatchRequest, BatchEntryIdsNotDistinct, InvalidBatchEntryId, BatchRequestTooLong}
use Rattle.queue_core.specs.Ranges.{longest_delay, longest_timeout}
use Rattle.queue_core.specs.declared.command.Command.{Command}
use Rattle.queue_core.specs.declared.command.Command.TheVariants as commands
use Rattle.receipt_handle.specs.declared.handle.Handle.{Handle}
use Rattle.receipt_handle.specs.Handle.{handle_of}
use Rattle.serde_json.specs.Data.{Data, Items, no_items, item}
use Rattle.serde_json.specs.Find.{get, as_array, as_object}
use Rattle.aws_json.specs.Steps.{◌>>=◌, result_map, refused_as, required}
use Rattle.aws_json.specs.Members.{text_in, members_in, number_in, within, is_null, Column, column, have_kinds}
use Rattle.aws_json.specs.Attributes.{attributes_given}
use Rattle.aws_json.specs.declared.batch.BatchEntry.{BatchEntry}
use Rattle.aws_json.specs.declared.batch.EntryKind.{EntryKind}
use Rattle.aws_json.specs.declared.batch.EntryKind.TheVariants as entries
use Rattle.aws_json.specs.declared.batch.GivenMessage.{GivenMessage}
use Rattle.aws_json.specs.declared.members.Kind.TheVariants.{Text, Number, MessageAttributes}

-- ---- one message

-- a body that is there, and may be one
abbrev pub given_body : Option (List ℕ) → Result (List ℕ) Fault
given_body body = do
  text ← required body
  unless_fault (body_fault text) text

-- a message to be sent: the body is judged before the delay, and the delay before the attributes
abbrev pub message_given : Data → Result GivenMessage Fault
message_given d = do
  body ← given_body (text_in (codes "MessageBody") d)
  seconds ← within 0 longest_delay (number_in (codes "DelaySeconds") d)
  whole ← content_of body (option_map_or attributes_given (members_in (codes "MessageAttributes") d) [])
  Ok (record { content = whole; delay = seconds })

-- the handle of a receive, which has to be there
abbrev pub given_handle : Option (List ℕ) → Result Handle Fault
given_handle text = do
  t ← required text
  handle_of t

-- a number that has to be there
abbrev pub required_within : ℕ → ℕ → Option (Option ℕ) → Result ℕ Fault
required_within least most number = do
  n ← within least most number
  required n

-- ---- entries of a batch

-- the members that tell of a message to be sent
abbrev pub message_columns : List Column
message_columns = column (codes "MessageBody") Text ∷ column (codes "DelaySeconds") Number ∷ column (codes "MessageAttributes") MessageAttributes ∷ []

abbrev pub handle_column : Column
handle_column = column (codes "ReceiptHandle") Text

-- the members that an entry knows, in the order in which they are judged
abbrev pub entry_columns : EntryKind → List Column
entry_columns entries.Send = column (codes "Id") Text ∷ message_columns
entry_columns entries.Delete = column (codes "Id") Text ∷ handle_column ∷ []
entry_columns entries.Change = column (codes "Id") Text ∷ handle_column ∷ column (codes "VisibilityTimeout") Number ∷ []

-- what an entry asks of the queue, or its first fault; each is judged as the action for one message is
abbrev pub entry_command : EntryKind → Data → Result Command Fault
entry_command entries.Send d = result_map (λ m. commands.Send m.content m.delay) (message_given d)
entry_command entries.Delete d = result_map commands.Delete (given_handle (text_in (codes "ReceiptHandle") d))
entry_command entries.Change d = do
  handle ← given_handle (text_in (codes "ReceiptHandle") d)
  seconds ← required_within 0 longest_timeout (number_in (codes "VisibilityTimeout") d)
  Ok (commands.Change handle seconds)

-- an entry's id, which is of the form of a queue's name
abbrev pub entry_id : Option (List ℕ) → Result (List ℕ) Fault
entry_id text = refused_as InvalidBatchEntryId (required text >>= queue_name_of)

-- an entry with its id; a fault of its own is kept with it
abbrev pub entry_of : EntryKind → Data → Result BatchEntry Fault
entry_of kind d = do
  name ← entry_id (text_in (codes "Id") d)
  Ok (record { id = name; command = entry_command kind d })

-- the entries, or that an id is missing or not one
abbrev pub entries_of : EntryKind → Items → Result (List BatchEntry) Fault
entries_of kind no_items = Ok []
entries_of kind (item d rest) = do
  entry ← entry_of kind d
  more ← entries_of kind rest
  Ok (entry ∷ more)

-- whether an entry of this id is among these
abbrev pub has_id : List ℕ → List BatchEntry → Bool
has_id id [] = false
has_id id (e ∷ es) = bytes_eq e.id id || has_id id es

-- whether two have one id
abbrev pub have_equal_ids : List BatchEntry → Bool
have_equal_ids [] = false
have_equal_ids (e ∷ es) = has_id e.id es || have_equal_ids es

-- how many bytes an entry sends; one that changes or deletes, or has a fault of its own, sends none
abbrev pub command_size : Result Command Fault → ℕ
command_size (Ok (commands.Send content delay)) = content_size content
command_size _ = 0

abbrev pub entry_size : BatchEntry → ℕ
entry_size e = command_size e.command

-- entries with ids of their own, which together are not too long
abbrev pub checked_entries : List BatchEntry → Result (List BatchEntry) Fault
checked_entries es =
    if have_equal_ids es then Err BatchEntryIdsNotDistinct
    else if nat_lt 1048576 (sum_by entry_size es) then Err BatchRequestTooLong
    else Ok es

abbrev pub item_count : Items → ℕ
item_count no_items = 0
item_count (item d rest) = suc (item_count rest)

-- the entries of a batch, or what is wrong with the whole of it
abbrev pub batch_of : EntryKind → Items → Result (List BatchEntry) Fault
batch_of kind items =
    if item_count items == 0 then Err EmptyBatchRequest
    else if nat_lt 10 (item_count items) then Err TooManyEntriesInBatchRequest
    else entries_of kind items >>= checked_entries

-- whether each item is an object whose members have their kinds
abbrev pub are_entries : EntryKind → Items → Bool
are_entries kind no_items = true
are_entries kind (item d rest) = (is_some (as_object d) && have_kinds (entry_columns kind) d) && are_entries kind rest

-- whether the entries of a batch have their kinds, as far as they are there
abbrev pub entries_have_kinds : Option EntryKind → Data → Bool
entries_have_kinds None d = true
entries_have_kinds (Some kind) d = option_map_or (λ v. is_null v || option_map_or (are_entries kind) (as_array v) false) (get (codes "Entries") d) true

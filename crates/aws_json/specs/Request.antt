-- The request that an action and a body are, or the first fault (Amazon SQS API Reference; the faults and their order are this project's own choice).
use Rattle.std.specs.Prelude.{ℕ, ◌==◌, Bool, ◌&&◌, unwrap_or, if◌then◌else◌, List, [], ◌∷◌, codes, Option, Some, None, option_map, Result, Ok, Err, ok_or}
use Rattle.std.specs.List.{after_last, position, slice_get}
use Rattle.std.specs.Str.{bytes_eq}
use Rattle.message.specs.Name.{queue_name_of}
use Rattle.message.specs.declared.fault.Fault.{Fault}
use Rattle.message.specs.declared.fault.Fault.TheVariants.{QueueDoesNotExist, UnsupportedOperation, SerializationException}
use Rattle.queue_config.specs.Named.{named_in}
use Rattle.queue_config.specs.Settings.{RequestedAttributes, no_requested_attributes, request_attribute}
use Rattle.queue_core.specs.Ranges.{longest_timeout, most_offers}
use Rattle.serde_json.specs.Data.{Data, Members, no_members, member}
use Rattle.serde_json.specs.Find.{as_str}
use Rattle.aws_json.specs.Steps.{◌>>=◌, result_map, refused_as, required}
use Rattle.aws_json.specs.Members.{object_of, text_in, items_in, members_in, number_in, within, Column, column, have_kinds}
use Rattle.aws_json.specs.AttributeNames.{asked_attribute_names, asked_names, patterns_of, or_no_items}
use Rattle.aws_json.specs.Entries.{message_given, given_handle, required_within, message_columns, handle_column, batch_of, entries_have_kinds}
use Rattle.aws_json.specs.declared.batch.EntryKind.{EntryKind}
use Rattle.aws_json.specs.declared.actions.Action.{Action}
use Rattle.aws_json.specs.declared.actions.Action.TheVariants as actions
use Rattle.aws_json.specs.declared.batch.EntryKind.TheVariants as entries
use Rattle.aws_json.specs.declared.members.Kind.TheVariants.{Text, Number, Texts, NamedTexts}
use Rattle.aws_json.specs.declared.request.Request.{Request}
use Rattle.aws_json.specs.declared.request.Request.TheVariants.{CreateQueue, SendMessage, GetQueueAttributes, SetQueueAttributes, PurgeQueue, DeleteQueue, GetQueueUrl, ListQueues, ListDeadLetterSourceQueues, ReceiveMessage, DeleteMessage, ChangeMessageVisibility, Batch}

-- ---- members

abbrev pub slash : ℕ
slash = 47

-- the text after the last slash, or all of it
abbrev pub name_part : List ℕ → List ℕ
name_part url = after_last (λ c. c == slash) url

-- the name of a queue that is looked for; a name that no queue can have is that of no queue
abbrev pub known_name : Option (List ℕ) → Result (List ℕ) Fault
known_name name = do
  text ← required name
  refused_as QueueDoesNotExist (queue_name_of text)

-- the queue that a QueueUrl names
abbrev pub named_queue : Option (List ℕ) → Result (List ℕ) Fault
named_queue url = known_name (option_map name_part url)

-- the name of a new queue
abbrev pub new_name : Option (List ℕ) → Result (List ℕ) Fault
new_name name = do
  text ← required name
  queue_name_of text

-- the requested attributes after one more member; a null asks for nothing
abbrev pub request_text : RequestedAttributes → List ℕ → Option (List ℕ) → Result RequestedAttributes Fault
request_text requested name None = Ok requested
request_text requested name (Some text) = request_attribute requested name text

-- the requested attributes after these members, which stand in byte order of their names
abbrev pub request_members : RequestedAttributes → Members → Result RequestedAttributes Fault
request_members requested no_members = Ok requested
request_members requested (member name d rest) = do
  more ← request_text requested name (as_str d)
  request_members more rest

abbrev pub requested_attributes : Option Members → Result RequestedAttributes Fault
requested_attributes None = Ok no_requested_attributes
requested_attributes (Some members) = request_members no_requested_attributes members

-- how many messages a receive asks for: 1 where it does not say
abbrev pub maximum_given : Option (Option ℕ) → Result ℕ Fault
maximum_given number = result_map (λ n. unwrap_or n 1) (within 1 most_offers number)

-- ---- actions: what each asks, or the first fault in the order in which its members are judged

-- of one that has a queue and no other members
abbrev pub queue_alone : (List ℕ → Request) → Data → Result Request Fault
queue_alone request d = do
  queue ← named_queue (text_in (codes "QueueUrl") d)
  Ok (request queue)

abbrev pub create_queue : Data → Result Request Fault
create_queue d = do
  name ← new_name (text_in (codes "QueueName") d)
  requested ← requested_attributes (members_in (codes "Attributes") d)
  Ok (CreateQueue name requested)

abbrev pub set_queue_attributes : Data → Result Request Fault
set_queue_attributes d = do
  queue ← named_queue (text_in (codes "QueueUrl") d)
  members ← required (members_in (codes "Attributes") d)
  requested ← request_members no_requested_attributes members
  Ok (SetQueueAttributes queue requested)

abbrev pub get_queue_url : Data → Result Request Fault
get_queue_url d = do
  name ← known_name (text_in (codes "QueueName") d)
  Ok (GetQueueUrl name)

-- without a prefix every name is listed
abbrev pub list_queues : Data → Result Request Fault
list_queues d = Ok (ListQueues (unwrap_or (text_in (codes "QueueNamePrefix") d) []))

abbrev pub get_queue_attributes : Data → Result Request Fault
get_queue_attributes d = do
  queue ← named_queue (text_in (codes "QueueUrl") d)
  names ← asked_attribute_names (items_in (codes "AttributeNames") d)
  Ok (GetQueueAttributes queue names)

abbrev pub send_message : Data → Result Request Fault
send_message d = do
  queue ← named_queue (text_in (codes "QueueUrl") d)
  message ← message_given d
  Ok (SendMessage queue message.content message.delay)

abbrev pub receive_message : Data → Result Request Fault
receive_message d = do
  queue ← named_queue (text_in (codes "QueueUrl") d)
  most ← maximum_given (number_in (codes "MaxNumberOfMessages") d)
  seconds ← within 0 longest_timeout (number_in (codes "VisibilityTimeout") d)
  wait ← within 0 20 (number_in (codes "WaitTimeSeconds") d)
  names ← asked_names d
  Ok (ReceiveMessage queue most seconds wait names (patterns_of (or_no_items (items_in (codes "MessageAttributeNames") d))))

abbrev pub delete_message : Data → Result Request Fault
delete_message d = do
  queue ← named_queue (text_in (codes "QueueUrl") d)
  handle ← given_handle (text_in (codes "ReceiptHandle") d)
  Ok (DeleteMessage queue handle)

abbrev pub change_message_visibility : Data → Result Request Fault
change_message_visibility d = do
  queue ← named_queue (text_in (codes "QueueUrl") d)
  handle ← given_handle (text_in (codes "ReceiptHandle") d)
  seconds ← required_within 0 longest_timeout (number_in (codes "VisibilityTimeout") d)
  Ok (ChangeMessageVisibility queue handle seconds)

abbrev pub batch : EntryKind → Data → Result Request Fault
batch kind d = do
  queue ← named_queue (text_in (codes "QueueUrl") d)
  items ← required (items_in (codes "Entries") d)
  entries ← batch_of kind items
  Ok (Batch queue entries)

-- the members that an action knows, with their kinds; of a batch, the kind of its entries, whose members have kinds too; and how they are judged
pub record ActionRow : Type 0 where
  pub columns : List Column
  pub entries : Option EntryKind
  pub judge : Data → Result Request Fault

-- the row of an action that has no entries
abbrev pub single : List Column → (Data → Result Request Fault) → ActionRow
single columns judge = record { columns = columns; entries = None; judge = judge }

abbrev pub url : Column
url = column (codes "QueueUrl") Text

-- the row of an action
abbrev pub row : Action → ActionRow
row actions.CreateQueue = single (column (codes "QueueName") Text ∷ column (codes "Attributes") NamedTexts ∷ []) create_queue
row actions.SetQueueAttributes = single (url ∷ column (codes "Attributes") NamedTexts ∷ []) set_queue_attributes
row actions.PurgeQueue = single (url ∷ []) (queue_alone PurgeQueue)
row actions.DeleteQueue = single (url ∷ []) (queue_alone DeleteQueue)
row actions.GetQueueUrl = single (column (codes "QueueName") Text ∷ []) get_queue_url
row actions.ListQueues = single (column (codes "QueueNamePrefix") Text ∷ []) list_queues
row actions.ListDeadLetterSourceQueues = single (url ∷ []) (queue_alone ListDeadLetterSourceQueues)
row actions.GetQueueAttributes = single (url ∷ column (codes "AttributeNames") Texts ∷ []) get_queue_attributes
row actions.SendMessage = single (url ∷ message_columns) send_message
row actions.ReceiveMessage =
    single (url ∷ column (codes "MaxNumberOfMessages") Number ∷ column (codes "VisibilityTimeout") Number ∷ column (codes "WaitTimeSeconds") Number
    ∷ column (codes "AttributeNames") Texts ∷ column (codes "MessageSystemAttributeNames") Texts ∷ column (codes "MessageAttributeNames") Texts ∷ [])
    receive_message
row actions.DeleteMessage = single (url ∷ handle_column ∷ []) delete_message
row actions.ChangeMessageVisibility = single (url ∷ handle_column ∷ column (codes "VisibilityTimeout") Number ∷ []) change_message_visibility
row (actions.Batch kind) = record { columns = url ∷ []; entries = Some kind; judge = batch kind }

-- the actions that are served, by their names, each at the place at which it is counted; those that are asked for most often come first
abbrev pub served_actions : List (List ℕ × Action)
served_actions =
    (codes "SendMessage", actions.SendMessage)
    ∷ (codes "ReceiveMessage", actions.ReceiveMessage)
    ∷ (codes "DeleteMessage", actions.DeleteMessage)
    ∷ (codes "SendMessageBatch", actions.Batch entries.Send)
    ∷ (codes "DeleteMessageBatch", actions.Batch entries.Delete)
    ∷ (codes "ChangeMessageVisibility", actions.ChangeMessageVisibility)
    ∷ (codes "ChangeMessageVisibilityBatch", actions.Batch entries.Change)
    ∷ (codes "GetQueueAttributes", actions.GetQueueAttributes)
    ∷ (codes "GetQueueUrl", actions.GetQueueUrl)
    ∷ (codes "CreateQueue", actions.CreateQueue)
    ∷ (codes "DeleteQueue", actions.DeleteQueue)
    ∷ (codes "ListQueues", actions.ListQueues)
    ∷ (codes "ListDeadLetterSourceQueues", actions.ListDeadLetterSourceQueues)
    ∷ (codes "SetQueueAttributes", actions.SetQueueAttributes)
    ∷ (codes "PurgeQueue", actions.PurgeQueue) ∷ []

-- the name at a place of a table
abbrev pub name_in : List (List ℕ × Action) → ℕ → Option (List ℕ)
name_in table place = option_map (λ served. served.0) (slice_get table place)

-- the action of a name, where it is served
abbrev pub action_named : List ℕ → Option Action
action_named name = named_in served_actions name

-- the place of a name, where it is served
abbrev pub action_place : List ℕ → Option ℕ
action_place name = position (λ served. bytes_eq name served.0) served_actions

-- the name at a place, where there is one
abbrev pub action_at : ℕ → Option (List ℕ)
action_at place = name_in served_actions place

-- the row of the action of a name, where it is served
abbrev pub action_row : List ℕ → Option ActionRow
action_row name = option_map row (action_named name)

-- whether the members that an action knows have their kinds, those of the entries of a batch among them
abbrev pub has_kinds : ActionRow → Data → Bool
has_kinds row d = entries_have_kinds row.entries d && have_kinds row.columns d

-- an action that is not served is refused before the body is looked at; the kinds of all members that are known, at any depth, come before the members one
-- after another
abbrev pub request_of : List ℕ → List ℕ → Result Request Fault
request_of action body = do
  row ← ok_or (action_row action) UnsupportedOperation
  d ← object_of body
  if has_kinds row d then row.judge d else Err SerializationException

-- ---- the queue that a body names, for an action that is none of these

-- by its URL, where that is there
abbrev pub queue_given : Option (List ℕ) → Result (Option (List ℕ)) Fault
queue_given None = Ok None
queue_given (Some text) = result_map Some (named_queue (Some text))

-- the same of a body, judged as that of an action whose one member is the QueueUrl
abbrev pub queue_of_body : List ℕ → Result (Option (List ℕ)) Fault
queue_of_body body = do
  d ← object_of body
  if have_kinds (url ∷ []) d then queue_given (text_in (codes "QueueUrl") d) else Err SerializationException

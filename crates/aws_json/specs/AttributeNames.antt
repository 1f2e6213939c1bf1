-- The attributes of queues and of messages that a client asks for by their names (Amazon SQS API Reference, GetQueueAttributes, ReceiveMessage).
use Rattle.std.specs.Prelude.{ℕ, Bool, true, false, ◌||◌, ◌&&◌, unwrap_or, if◌then◌else◌, List, [], ◌∷◌, map, filter, codes, Option, Some, None, Result, Ok, Err}
use Rattle.std.specs.Str.{bytes_eq}
use Rattle.message.specs.declared.fault.Fault.{Fault}
use Rattle.message.specs.declared.fault.Fault.TheVariants.{InvalidAttributeName}
use Rattle.queue_config.specs.SettingRows.{setting_row, all_settings}
use Rattle.queue_config.specs.Settings.{is_ignored_attribute}
use Rattle.serde_json.specs.Data.{Data, Items, no_items, item}
use Rattle.serde_json.specs.Find.{as_str}
use Rattle.aws_json.specs.Steps.{result_map}
use Rattle.aws_json.specs.Members.{items_in}
use Rattle.aws_json.specs.declared.attribute_names.QueueAttribute.{QueueAttribute}
use Rattle.aws_json.specs.declared.attribute_names.QueueAttribute.TheVariants as queues
use Rattle.aws_json.specs.declared.attribute_names.SystemAttribute.{SystemAttribute}
use Rattle.aws_json.specs.declared.attribute_names.SystemAttribute.TheVariants as messages
use Rattle.aws_json.specs.declared.request.AttributeNames.{AttributeNames}
use Rattle.aws_json.specs.declared.request.ReceiveNames.{ReceiveNames}

-- ---- lists of names

abbrev pub name_text : Data → List ℕ
name_text d = unwrap_or (as_str d) []

-- whether a list has a name
abbrev pub has_name : List ℕ → Items → Bool
has_name name no_items = false
has_name name (item d rest) = bytes_eq (name_text d) name || has_name name rest

-- whether a list asks for what has this name: by the name, or all at once
abbrev pub asks_for : Items → List ℕ → Bool
asks_for names name = has_name (codes "All") names || has_name name names

-- whether each name of a list is known
abbrev pub are_known : (List ℕ → Bool) → Items → Bool
are_known is_known no_items = true
are_known is_known (item d rest) = is_known (name_text d) && are_known is_known rest

-- the names of a list that may be absent
abbrev pub or_no_items : Option Items → Items
or_no_items names = unwrap_or names no_items

-- whether one of these attributes has the name
abbrev pub has_attribute : {A : Type 0} → (A → List ℕ) → List ℕ → List A → Bool
has_attribute name_of name [] = false
has_attribute name_of name (a ∷ rest) = bytes_eq (name_of a) name || has_attribute name_of name rest

-- those of these attributes whose names are asked for
abbrev pub attributes_for : {A : Type 0} → (A → List ℕ) → (List ℕ → Bool) → List A → List A
attributes_for name_of is_asked attributes = filter (λ a. is_asked (name_of a)) attributes

-- ---- attributes of queues

abbrev pub queue_attribute_name : QueueAttribute → List ℕ
queue_attribute_name queues.Visible = codes "ApproximateNumberOfMessages"
queue_attribute_name queues.Delayed = codes "ApproximateNumberOfMessagesDelayed"
queue_attribute_name queues.InFlight = codes "ApproximateNumberOfMessagesNotVisible"
queue_attribute_name queues.Created = codes "CreatedTimestamp"
queue_attribute_name queues.Modified = codes "LastModifiedTimestamp"
queue_attribute_name queues.Arn = codes "QueueArn"
queue_attribute_name queues.Redrive = codes "RedrivePolicy"
queue_attribute_name (queues.Setting setting) = (setting_row setting).name

unfoldable pub all_queue_attributes : List QueueAttribute
all_queue_attributes =
    queues.Visible ∷ queues.Delayed ∷ queues.InFlight ∷ queues.Created ∷ queues.Modified ∷ queues.Arn ∷ queues.Redrive ∷ map queues.Setting all_settings

-- names that a client may ask for; what is accepted without effect is not answered
abbrev pub is_queue_name : List ℕ → Bool
is_queue_name name =
    bytes_eq name (codes "All") || has_attribute queue_attribute_name name all_queue_attributes || is_ignored_attribute name

-- the attributes that a list of names asks for
abbrev pub asked_attributes_of : Items → Result AttributeNames Fault
asked_attributes_of names =
    if are_known is_queue_name names then Ok (record { asked = attributes_for queue_attribute_name (asks_for names) all_queue_attributes })
    else Err InvalidAttributeName

-- the same, where it has any name
abbrev pub asked_attribute_names : Option Items → Result (Option AttributeNames) Fault
asked_attribute_names None = Ok None
asked_attribute_names (Some no_items) = Ok None
asked_attribute_names (Some (item d rest)) = result_map Some (asked_attributes_of (item d rest))

-- ---- attributes that a queue gives its messages

abbrev pub system_attribute_name : SystemAttribute → List ℕ
system_attribute_name messages.FirstReceive = codes "ApproximateFirstReceiveTimestamp"
system_attribute_name messages.ReceiveCount = codes "ApproximateReceiveCount"
system_attribute_name messages.Source = codes "DeadLetterQueueSourceArn"
system_attribute_name messages.Sender = codes "SenderId"
system_attribute_name messages.Sent = codes "SentTimestamp"

unfoldable pub all_system_attributes : List SystemAttribute
all_system_attributes = messages.FirstReceive ∷ messages.ReceiveCount ∷ messages.Source ∷ messages.Sender ∷ messages.Sent ∷ []

-- names that are accepted and not answered: they speak of what does not exist here
abbrev pub is_unanswered : List ℕ → Bool
is_unanswered name =
    bytes_eq name (codes "SequenceNumber") || bytes_eq name (codes "MessageDeduplicationId") || bytes_eq name (codes "MessageGroupId")
    || bytes_eq name (codes "AWSTraceHeader")

-- names that a client may ask for
abbrev pub is_system_name : List ℕ → Bool
is_system_name name = bytes_eq name (codes "All") || has_attribute system_attribute_name name all_system_attributes || is_unanswered name

-- whether either list of names asks for what has this name
abbrev pub either_asks_for : Items → Items → List ℕ → Bool
either_asks_for names more name = asks_for names name || asks_for more name

-- the attributes that two lists of names ask for
abbrev pub asked_names_of : Items → Items → Result ReceiveNames Fault
asked_names_of names more =
    if are_known is_system_name names && are_known is_system_name more
    then Ok (record { asked = attributes_for system_attribute_name (either_asks_for names more) all_system_attributes })
    else Err InvalidAttributeName

-- the attributes that a receive asks for, in one list or the other
abbrev pub asked_names : Data → Result ReceiveNames Fault
asked_names d = asked_names_of (or_no_items (items_in (codes "AttributeNames") d)) (or_no_items (items_in (codes "MessageSystemAttributeNames") d))

-- ---- attributes that a sender gives a message, as a receive names them

abbrev pub patterns_of : Items → List (List ℕ)
patterns_of no_items = []
patterns_of (item d rest) = name_text d ∷ patterns_of rest

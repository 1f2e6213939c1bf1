-- Replies as JSON data (AWS JSON 1.0, Amazon SQS API Reference); keys stand in byte order.
use Rattle.std.specs.Prelude.{ℕ, ◌++◌, ◌==◌, ◌||◌, ◌/◌, [], ◌∷◌, length, Bool, false, is_some, if◌then◌else◌, List, codes, decimal, Option, Some, None, option_map, Result, Ok, Err}
use Rattle.attribute_md5.specs.Digest.{body_digest, attributes_digest}
use Rattle.base64.specs.Engines.{standard}
use Rattle.base64.specs.GeneralPurpose.{encode_of}
use Rattle.message.specs.Attribute.{AttributeText}
use Rattle.message.specs.Content.{ContentText}
use Rattle.message.specs.Fault.{is_of_sender}
use Rattle.message.specs.Id.{message_id_text}
use Rattle.message.specs.declared.fault.Fault.{Fault}
use Rattle.message.specs.declared.id.MessageId.{MessageId}
use Rattle.receipt_handle.specs.declared.handle.Handle.{Handle}
use Rattle.receipt_handle.specs.Handle.{handle_text}
use Rattle.queue_config.specs.Settings.{setting_value}
use Rattle.queue_config.specs.declared.policy.RedrivePolicy.{RedrivePolicy}
use Rattle.queue_core.specs.declared.offers.Offer.{Offer}
use Rattle.queue_core.specs.declared.reply.Look.{Look}
use Rattle.serde_json.specs.Data.{Data, unsigned, boolean, number, string, array, object, Items, no_items, item, Members, no_members, member, put}
use Rattle.serde_json.specs.Written.{compact_text}
use Rattle.aws_json.specs.Attributes.{asked_attributes}
use Rattle.aws_json.specs.FaultText.{fault_name, fault_message}
use Rattle.aws_json.specs.AttributeNames.{queue_attribute_name, system_attribute_name}
use Rattle.aws_json.specs.declared.attribute_names.QueueAttribute.{QueueAttribute}
use Rattle.aws_json.specs.declared.attribute_names.QueueAttribute.TheVariants as queues
use Rattle.aws_json.specs.declared.attribute_names.SystemAttribute.{SystemAttribute}
use Rattle.aws_json.specs.declared.attribute_names.SystemAttribute.TheVariants as messages
use Rattle.aws_json.specs.declared.request.ReceiveNames.{ReceiveNames}
use Rattle.aws_json.specs.declared.request.AttributeNames.{AttributeNames}
use Rattle.aws_json.specs.declared.batch.BatchAnswer.{BatchAnswer}
use Rattle.aws_json.specs.declared.batch.EntryReply.{EntryReply}
use Rattle.aws_json.specs.declared.batch.EntryReply.TheVariants as entries
use Rattle.aws_json.specs.declared.reply.ReplyShape.{ReplyShape}
use Rattle.aws_json.specs.declared.reply.ReplyShape.TheVariants.{QueueUrl, QueueUrls, SourceQueueUrls, Sent, Attributes, Messages, Batch, Nothing}

-- the URL of a queue where requests are answered at a port: host and account are this project's own choice, after ElasticMQ
abbrev pub queue_url : ℕ → List ℕ → List ℕ
queue_url port name = codes "http://localhost:" ++ decimal port ++ codes "/000000000000/" ++ name

-- the name by which policies and other services know a queue
abbrev pub queue_arn : List ℕ → List ℕ
queue_arn name = codes "arn:aws:sqs:elasticmq:000000000000:" ++ name

-- a text put among the members, where there is one
abbrev pub put_given : List ℕ → Option (List ℕ) → Members → Members
put_given name None members = members
put_given name (Some text) members = put name (string text) members

-- ---- attributes of a queue

-- the policy of a queue: the ARN of its dead-letter queue, and after how many receives a message goes there
abbrev pub policy_data : RedrivePolicy → Data
policy_data policy =
    object (member (codes "deadLetterTargetArn") (string (queue_arn policy.name))
    (member (codes "maxReceiveCount") (number (unsigned policy.max_receive_count)) no_members))

-- the policy as a JSON text
abbrev pub policy_text : RedrivePolicy → List ℕ
policy_text policy = compact_text (policy_data policy)

-- a text for each attribute that the queue has; it may have no policy
abbrev pub queue_attribute_text : List ℕ → Look → QueueAttribute → Option (List ℕ)
queue_attribute_text queue look queues.Visible = Some (decimal look.gauges.visible)
queue_attribute_text queue look queues.Delayed = Some (decimal look.gauges.delayed)
queue_attribute_text queue look queues.InFlight = Some (decimal look.gauges.in_flight)
queue_attribute_text queue look queues.Created = Some (decimal (look.created / 1000))
queue_attribute_text queue look queues.Modified = Some (decimal (look.modified / 1000))
queue_attribute_text queue look queues.Arn = Some (queue_arn queue)
queue_attribute_text queue look queues.Redrive = option_map policy_text look.settings.redrive_policy
queue_attribute_text queue look (queues.Setting setting) = Some (decimal (setting_value setting look.settings))

-- these attributes put among the members, each under its name
abbrev pub put_queue_attributes : List ℕ → Look → Members → List QueueAttribute → Members
put_queue_attributes queue look members [] = members
put_queue_attributes queue look members (a ∷ rest) =
    put_queue_attributes queue look (put_given (queue_attribute_name a) (queue_attribute_text queue look a) members) rest

-- an empty object where no name was asked
abbrev pub attributes_data : Option AttributeNames → List ℕ → Look → Data
attributes_data None queue look = object no_members
attributes_data (Some names) queue look = object (member (codes "Attributes") (object (put_queue_attributes queue look no_members names.asked)) no_members)

-- ---- URLs

-- the URL of a queue
abbrev pub url_data : ℕ → List ℕ → Data
url_data port name = object (member (codes "QueueUrl") (string (queue_url port name)) no_members)

abbrev pub url_items : ℕ → List (List ℕ) → Items
url_items port [] = no_items
url_items port (name ∷ names) = item (string (queue_url port name)) (url_items port names)

-- the URLs of queues, under a key
abbrev pub urls_data : ℕ → List ℕ → List (List ℕ) → Data
urls_data port key names = object (member key (array (url_items port names)) no_members)

-- ---- sends

-- the digests of a message's attributes, where it has some, and of its body, and the message's id, put among the members
abbrev pub put_sent : ContentText → MessageId → Members → Members
put_sent content id members =
    put (codes "MessageId") (string (message_id_text id))
    (put (codes "MD5OfMessageBody") (string (body_digest content.body))
    (put_given (codes "MD5OfMessageAttributes") (attributes_digest content.attributes) members))

abbrev pub sent_data : ContentText → MessageId → Data
sent_data content id = object (put_sent content id no_members)

-- ---- messages

-- an attribute of an offer, where it has it. The sender is always the one account. A dead letter alone has a source, the queue that it came from
abbrev pub system_attribute_text : Offer → SystemAttribute → Option (List ℕ)
system_attribute_text o messages.FirstReceive = Some (decimal o.first_receive)
system_attribute_text o messages.ReceiveCount = Some (decimal o.receipt)
system_attribute_text o messages.Source = option_map queue_arn o.source
system_attribute_text o messages.Sender = Some (codes "000000000000")
system_attribute_text o messages.Sent = Some (decimal o.sent)

-- these attributes of an offer put among the members, each under its name
abbrev pub put_system_attributes : Offer → Members → List SystemAttribute → Members
put_system_attributes o members [] = members
put_system_attributes o members (a ∷ rest) = put_system_attributes o (put_given (system_attribute_name a) (system_attribute_text o a) members) rest

-- the handle that an offer is changed and deleted by
abbrev pub handle_of_offer : ℕ → Offer → Handle
handle_of_offer uid o = record { uid = uid; number = o.number; receipt = o.receipt }

-- a value by its type: a text, or the base64 of raw bytes
abbrev pub attribute_data : AttributeText → Data
attribute_data a =
    if a.is_binary then object (member (codes "BinaryValue") (string (encode_of standard a.value)) (member (codes "DataType") (string a.kind) no_members))
    else object (member (codes "DataType") (string a.kind) (member (codes "StringValue") (string a.value) no_members))

-- these attributes put among the members, each under its name
abbrev pub put_attributes : Members → List AttributeText → Members
put_attributes members [] = members
put_attributes members (a ∷ rest) = put_attributes (put a.name (attribute_data a) members) rest

-- an object of attributes put among the members, where there are some
abbrev pub put_attributes_given : List AttributeText → Members → Members
put_attributes_given attributes members =
    if length attributes == 0 then members
    else put (codes "MessageAttributes") (object (put_attributes no_members attributes)) members

-- what every offer has, and the attributes that are asked for, with their digest, put among the members
abbrev pub put_offer : ℕ → List (List ℕ) → Offer → Members → Members
put_offer uid patterns o members =
    put (codes "ReceiptHandle") (string (handle_text (handle_of_offer uid o)))
    (put (codes "MessageId") (string (message_id_text o.id))
    (put_attributes_given (asked_attributes patterns o.content.attributes)
    (put_given (codes "MD5OfMessageAttributes") (attributes_digest (asked_attributes patterns o.content.attributes))
    (put (codes "MD5OfBody") (string (body_digest o.content.body))
    (put (codes "Body") (string o.content.body) members)))))

-- whether an offer has one of these attributes
abbrev pub has_some : Offer → List SystemAttribute → Bool
has_some o [] = false
has_some o (a ∷ rest) = is_some (system_attribute_text o a) || has_some o rest

-- an offer of the queue of a uid, with its attributes that are asked for, where it has one of them
abbrev pub message_data : ℕ → ReceiveNames → List (List ℕ) → Offer → Data
message_data uid names patterns o =
    if has_some o names.asked
    then object (put_offer uid patterns o (put (codes "Attributes") (object (put_system_attributes o no_members names.asked)) no_members))
    else object (put_offer uid patterns o no_members)

abbrev pub message_items : ℕ → ReceiveNames → List (List ℕ) → List Offer → Items
message_items uid names patterns [] = no_items
message_items uid names patterns (o ∷ os) = item (message_data uid names patterns o) (message_items uid names patterns os)

-- the offers of a receive; an empty object where there are none
abbrev pub messages_data : ℕ → ReceiveNames → List (List ℕ) → List Offer → Data
messages_data uid names patterns offers =
    if length offers == 0 then object no_members
    else object (member (codes "Messages") (array (message_items uid names patterns offers)) no_members)

-- ---- batches

-- what a client is told of an entry that was done: its id, and for a send what a send is told
abbrev pub done_data : List ℕ → EntryReply → Data
done_data id (entries.Sent content message_id) = object (put_sent content message_id (put (codes "Id") (string id) no_members))
done_data id entries.Done = object (put (codes "Id") (string id) no_members)

-- what a client is told of an entry that was refused, and whether the fault is the client's
abbrev pub failed_data : List ℕ → Fault → Data
failed_data id fault =
    object (member (codes "Code") (string (fault_name fault))
    (member (codes "Id") (string id)
    (member (codes "Message") (string (fault_message fault))
    (member (codes "SenderFault") (boolean (is_of_sender fault)) no_members))))

abbrev pub failed_item : List ℕ → Result EntryReply Fault → Items → Items
failed_item id (Ok reply) rest = rest
failed_item id (Err fault) rest = item (failed_data id fault) rest

-- the entries that were refused, in their order
abbrev pub failed_items : List BatchAnswer → Items
failed_items [] = no_items
failed_items (a ∷ rest) = failed_item a.id a.answer (failed_items rest)

abbrev pub done_item : List ℕ → Result EntryReply Fault → Items → Items
done_item id (Ok reply) rest = item (done_data id reply) rest
done_item id (Err fault) rest = rest

-- the entries that were done, in their order
abbrev pub done_items : List BatchAnswer → Items
done_items [] = no_items
done_items (a ∷ rest) = done_item a.id a.answer (done_items rest)

abbrev pub batch_data : List BatchAnswer → Data
batch_data answers = object (member (codes "Failed") (array (failed_items answers)) (member (codes "Successful") (array (done_items answers)) no_members))

-- one equation a reply, of who answers requests at a port
abbrev pub reply_data : ℕ → ReplyShape → Data
reply_data port (QueueUrl name) = url_data port name
reply_data port (Sent content id) = sent_data content id
reply_data port (QueueUrls names) = urls_data port (codes "QueueUrls") names
reply_data port (SourceQueueUrls names) = urls_data port (codes "queueUrls") names
reply_data port (Attributes names queue look) = attributes_data names queue look
reply_data port (Messages uid names patterns offers) = messages_data uid names patterns offers
reply_data port (Batch answers) = batch_data answers
reply_data port Nothing = object no_members

-- The table of refusals, and what a call answers where memory may run out.
use Rattle.std.specs.Prelude.{◌≡◌, ℕ, nat_eq, ⊤, Bool, true, false, List, codes, Result, Err, MatchBool}
use Rattle.message.specs.declared.fault.Fault.{Fault}
use Rattle.message.specs.declared.fault.Fault.TheVariants.{QueueDoesNotExist, QueueNameExists, InvalidAttributeName, InvalidAttributeValue, InvalidParameterValue, InvalidMessageContents, ReceiptHandleIsInvalid, MessageNotInflight, OverLimit, EmptyBatchRequest, TooManyEntriesInBatchRequest, BatchEntryIdsNotDistinct, InvalidBatchEntryId, BatchRequestTooLong, UnsupportedOperation, SerializationException, JournalFull, OutOfMemory, Spent, ActorGone}

-- a refusal's number, its status, its name as a client reads it and what it says in words
pub record FaultRow : Type 0 where
  pub code : ℕ
  pub status : ℕ
  pub name : List ℕ
  pub text : List ℕ

-- a row of the table, in this order
abbrev pub fault_row : ℕ → ℕ → List ℕ → List ℕ → FaultRow
fault_row code status name text = record { code = code; status = status; name = name; text = text }

-- The refusals: 400 is a fault of the client's, 500 one of the server's. The names are those of the Amazon SQS API Reference where it has one;
-- which refusals there are, their numbers, texts and statuses are this project's own choice.
abbrev pub refusal_row : Fault → FaultRow
refusal_row QueueDoesNotExist = fault_row 1 400 (codes "QueueDoesNotExist") (codes "The specified queue does not exist.")
refusal_row QueueNameExists = fault_row 2 400 (codes "QueueNameExists") (codes "A queue of this name exists with other attributes.")
refusal_row InvalidAttributeName = fault_row 3 400 (codes "InvalidAttributeName") (codes "Unknown attribute name.")
refusal_row InvalidAttributeValue = fault_row 4 400 (codes "InvalidAttributeValue") (codes "Attribute value not allowed.")
refusal_row InvalidParameterValue = fault_row 5 400 (codes "InvalidParameterValue") (codes "Parameter value not allowed.")
refusal_row InvalidMessageContents = fault_row 6 400 (codes "InvalidMessageContents") (codes "Characters not allowed in the message.")
refusal_row ReceiptHandleIsInvalid = fault_row 7 400 (codes "ReceiptHandleIsInvalid") (codes "The receipt handle is not valid.")
refusal_row MessageNotInflight = fault_row 8 400 (codes "MessageNotInflight") (codes "The message is not in flight.")
refusal_row OverLimit = fault_row 9 400 (codes "OverLimit") (codes "A limit is reached.")
refusal_row EmptyBatchRequest = fault_row 10 400 (codes "EmptyBatchRequest") (codes "The batch has no entries.")
refusal_row TooManyEntriesInBatchRequest = fault_row 11 400 (codes "TooManyEntriesInBatchRequest") (codes "The batch has more than 10 entries.")
refusal_row BatchEntryIdsNotDistinct = fault_row 12 400 (codes "BatchEntryIdsNotDistinct") (codes "Two entries have the same id.")
refusal_row InvalidBatchEntryId = fault_row 13 400 (codes "InvalidBatchEntryId") (codes "An entry id is not allowed.")
refusal_row BatchRequestTooLong = fault_row 14 400 (codes "BatchRequestTooLong") (codes "The batch is too long.")
refusal_row UnsupportedOperation = fault_row 15 400 (codes "UnsupportedOperation") (codes "The action is not supported.")
refusal_row SerializationException = fault_row 16 400 (codes "SerializationException") (codes "The request cannot be read.")
refusal_row JournalFull = fault_row 17 500 (codes "JournalFull") (codes "The journal of the queue is full.")
refusal_row OutOfMemory = fault_row 18 500 (codes "OutOfMemory") (codes "Out of memory.")
refusal_row Spent = fault_row 19 500 (codes "Spent") (codes "The desk is spent.")
refusal_row ActorGone = fault_row 20 500 (codes "ActorGone") (codes "The queue has stopped.")

abbrev pub fault_code : Fault → ℕ
fault_code fault = (refusal_row fault).code

abbrev pub fault_status : Fault → ℕ
fault_status fault = (refusal_row fault).status

-- whether a refusal is a fault of the client's
abbrev pub is_of_sender : Fault → Bool
is_of_sender fault = nat_eq (fault_status fault) 400

abbrev pub fault_name : Fault → List ℕ
fault_name fault = (refusal_row fault).name

abbrev pub fault_message : Fault → List ℕ
fault_message fault = (refusal_row fault).text

-- whether an answer says that memory ran out
abbrev pub is_out_of_memory : {T : Type 0} → Result T Fault → Bool
is_out_of_memory (Err OutOfMemory) = true
is_out_of_memory _ = false

-- the answer is the wanted one, unless memory ran out
abbrev pub Meets : {T : Type 0} → Result T Fault → Result T Fault → Type 0
Meets answer wanted = MatchBool (is_out_of_memory answer) ⊤ (answer ≡ wanted)

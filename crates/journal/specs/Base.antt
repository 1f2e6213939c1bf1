-- What stands for the entries that a checkpoint replaced (this project's own). What stands for a content is a parameter.
use Rattle.std.specs.Prelude.{ℕ, List, map}
use Rattle.queue_config.specs.Settings.{QueueSettings}
use Rattle.journal.specs.declared.base.TransferKey.{TransferKey}
use Rattle.journal.specs.declared.base.KeptMessage.{KeptMessage}
use Rattle.journal.specs.declared.base.KeptFlows.{KeptFlows}
use Rattle.journal.specs.declared.base.KeptRow.{KeptRow}

-- times are in milliseconds
pub record BaseOf (C : Type 0) : Type 0 where
  pub uid : ℕ
  pub settings : QueueSettings  -- those in force
  pub created : ℕ  -- when the queue was opened
  pub modified : ℕ  -- when it last got settings
  pub receives : List ℕ  -- how often each message was received that the queue ever had, by number
  pub accepted : List TransferKey  -- the transfers that it had accepted, in the order in which it accepted them
  pub messages : List (KeptMessage C)  -- those that were live, by number, and then those that waited for a dead-letter queue, in order of leaving
  pub rows : List KeptRow  -- of the minutes that were over, as far as they are shown, the oldest first
  pub flows : KeptFlows  -- of the minute that was not over

-- the same message, with the size in the place of its content
abbrev pub mark_message : {C : Type 0} → (C → ℕ) → KeptMessage C → KeptMessage ℕ
mark_message size m = record {
  number = m.number;
  came = m.came;
  sent = m.sent;
  due = m.due;
  is_expired = m.is_expired;
  is_returned = m.is_returned;
  first_receive = m.first_receive;
  last_receive = m.last_receive;
  origin = m.origin;
  content = size m.content;
  target = m.target;
}

-- the same, with the sizes in the place of the contents
abbrev pub mark_base : {C : Type 0} → (C → ℕ) → BaseOf C → BaseOf ℕ
mark_base size b = record {
  uid = b.uid;
  settings = b.settings;
  created = b.created;
  modified = b.modified;
  receives = b.receives;
  accepted = b.accepted;
  messages = map (mark_message size) b.messages;
  rows = b.rows;
  flows = b.flows;
}

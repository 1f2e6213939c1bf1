-- What a queue's own refusals leave.
use Rattle.std.specs.Prelude.{◌≡◌, ℕ, Bool, true, false}
use Rattle.std.specs.List.{All}
use Rattle.message.specs.declared.fault.Fault.{Fault}
use Rattle.message.specs.declared.fault.Fault.TheVariants.{InvalidParameterValue, ReceiptHandleIsInvalid, MessageNotInflight, OverLimit}
use Rattle.queue_core.specs.Messages.{messages, is_expired}
use Rattle.queue_core.specs.Queue.{QueueHistory, at_moment}
use Rattle.queue_core.specs.Lasting.{StandsAs}

-- whether it is the queue itself that refuses so, which is an entry of its journal
abbrev pub is_own_refusal : Fault → Bool
is_own_refusal InvalidParameterValue = true
is_own_refusal ReceiptHandleIsInvalid = true
is_own_refusal MessageNotInflight = true
is_own_refusal OverLimit = true
is_own_refusal _ = false

-- at every moment from now on it stands as another queue, and the same messages have expired
pub record LastsAs (q other : QueueHistory) : Type 0 where
  pub stands : (at : ℕ) → StandsAs (at_moment q at) (at_moment other at)
  pub expiry : (at : ℕ) → All (λ m. is_expired q.lines (at_moment q at).clock m ≡ is_expired other.lines (at_moment other at).clock m) (messages other.lines)

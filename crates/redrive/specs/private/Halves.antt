-- A confirmation by a queue that has to be there.
use Rattle.std.specs.Prelude.{ℕ, if◌then◌else◌, Result, Err}
use Rattle.message.specs.declared.fault.Fault.{Fault}
use Rattle.message.specs.declared.fault.Fault.TheVariants.{QueueDoesNotExist}
use Rattle.queue_core.specs.declared.reply.Reply.{Reply}
use Rattle.redrive.specs.House.{House, has_queue, confirm_answer}

-- the answer to a confirmation, where the source is there
abbrev pub confirmed : House → ℕ → ℕ → Result Reply Fault
confirmed w source at = if has_queue w source then confirm_answer w source at else Err QueueDoesNotExist

-- What two queues have in common that answer alike, whatever their journals are.
use Rattle.std.specs.Prelude.{◌≡◌, ℕ, Result, Ok}
use Rattle.message.specs.declared.fault.Fault.{Fault}
use Rattle.queue_core.specs.declared.command.Command.{Command}
use Rattle.queue_core.specs.declared.reply.Reply.{Reply}
use Rattle.queue_core.specs.declared.reply.Reply.TheVariants as replies
use Rattle.queue_core.specs.Queue.{QueueHistory, outcome_of}
use Rattle.queue_core.specs.Summary.{summary_of}

-- who they are, and what their journals come to
pub record StandsFor (q w : QueueHistory) : Type 0 where
  pub uid : q.uid ≡ w.uid
  pub name : q.name ≡ w.name
  pub in_flight : q.limits.in_flight ≡ w.limits.in_flight
  pub clock : q.clock ≡ w.clock
  pub summary : summary_of q.lines q.clock ≡ summary_of w.lines w.clock

-- a reply without the weight that a look tells
abbrev pub without_lines : Result Reply Fault → Result Reply Fault
without_lines (Ok (replies.Looked look)) = Ok (replies.Looked (record look { lines = 0 }))
without_lines reply = reply

-- a command adds the same entry to both, and has the same reply, but for the weight
pub record AnswersAs (q w : QueueHistory) (command : Command) : Type 0 where
  pub event : (outcome_of q command).event ≡ (outcome_of w command).event
  pub reply : without_lines (outcome_of q command).reply ≡ without_lines (outcome_of w command).reply

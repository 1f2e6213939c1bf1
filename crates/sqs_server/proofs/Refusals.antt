-- What becomes of a refusal.
use Rattle.std.proofs.Common.{◌≡◌, ◌≢◌, ℕ, Err, refl}
use Rattle.message.specs.declared.fault.Fault.{Fault}
use Rattle.message.specs.declared.fault.Fault.TheVariants.{QueueNameExists, ActorGone}
use Rattle.sqs_server.specs.declared.stage.Creation.{Creation}
use Rattle.sqs_server.specs.declared.stage.Next.{Next}
use Rattle.sqs_server.specs.Stages.{Looked, Unmade, refuses}

-- an order of a queue that was refused, though none of its name is there
pub made_refused : {R : Type 0} (port : ℕ) (creation : Creation) (fault : Fault) (next : Next R) → fault ≢ QueueNameExists → next ≡ refuses fault → Unmade port creation fault next
made_refused port creation QueueNameExists next other is = absurd (other refl)
made_refused port creation fault next other is = is

-- a look at a queue that was refused, though its actor goes on
pub look_refused : {R : Type 0} (port : ℕ) (creation : Creation) (fault : Fault) (next : Next R) → fault ≢ ActorGone → next ≡ refuses fault → Looked port creation (Err fault) next
look_refused port creation ActorGone next other is = absurd (other refl)
look_refused port creation fault next other is = is

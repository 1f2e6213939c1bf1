-- Why no queue is made.
use Rattle.std.proofs.Common.{◌≡◌, inr}
use Rattle.message.specs.declared.fault.Fault.{Fault}
use Rattle.message.specs.declared.fault.Fault.TheVariants.{OutOfMemory}
use Rattle.sqs_server.specs.Orders.{IsUnmade}

-- there is no memory for it
pub memory_unmade : (fault : Fault) → fault ≡ OutOfMemory → IsUnmade fault
memory_unmade fault is = inr (inr (inr is))

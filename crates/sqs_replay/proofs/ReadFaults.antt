-- Where a run ends since it could read no more.
use Rattle.std.proofs.Common.{◌≡◌, ℕ, false, Result, Ok, Err}
use Rattle.sqs_replay.specs.declared.fault.ReplayFault.{ReplayFault}
use Rattle.sqs_replay.specs.declared.fault.ReplayFault.TheVariants.{Read, Write, OutOfMemory}
use Rattle.sqs_replay.specs.Fault.{is_read_fault}
use Rattle.sqs_replay.specs.Failures.{counted, counted_if}
use Rattle.sqs_replay.specs.Progress.{OnReadFault}

-- a result of another kind says nothing of it
pub no_read_fault : {T : Type 0} (P : Type 0) (r : Result T ReplayFault) → is_read_fault r ≡ false → OnReadFault r P
no_read_fault P (Ok x) h = tt
no_read_fault P (Err Read) h = absurd cc
no_read_fault P (Err Write) h = tt
no_read_fault P (Err OutOfMemory) h = tt

-- a fault of another kind was passed on
pub other_fault : {T : Type 0} (U : Type 0) (P : Type 0) (r : Result T ReplayFault) (fault : ReplayFault) → r ≡ Err fault
    → is_read_fault {T = U} (Err fault) ≡ false → OnReadFault r P
other_fault U P (Ok x) fault e h = tt
other_fault U P (Err Read) Read e h = absurd cc
other_fault U P (Err Read) Write e h = absurd cc
other_fault U P (Err Read) OutOfMemory e h = absurd cc
other_fault U P (Err Write) fault e h = tt
other_fault U P (Err OutOfMemory) fault e h = tt

-- a read failed, and was counted
pub read_failed : {T : Type 0} (U : Type 0) (P : Type 0) (r : Result T ReplayFault) (fault : ReplayFault) (before now after : ℕ) → r ≡ Err fault
    → after ≡ counted_if (is_read_fault {T = U} (Err fault)) now → now ≡ before → (after ≡ counted 1 before → P) → OnReadFault r P
read_failed U P (Ok x) fault before now after e counts same f = tt
read_failed U P (Err Read) Read before now after e counts same f = f cc
read_failed U P (Err Read) Write before now after e counts same f = absurd cc
read_failed U P (Err Read) OutOfMemory before now after e counts same f = absurd cc
read_failed U P (Err Write) fault before now after e counts same f = tt
read_failed U P (Err OutOfMemory) fault before now after e counts same f = tt

-- Whether memory ran out.
use Rattle.std.proofs.Common.{◌≡◌, inl, inr, ◌⊎◌, Bool, false, Result, Ok, Err, MatchBool, refl, subst}
use Rattle.std.specs.Prelude.{⊤}
use Rattle.message.specs.declared.fault.Fault.{Fault}
use Rattle.message.specs.declared.fault.Fault.TheVariants as faults
use Rattle.message.specs.Fault.{is_out_of_memory, Meets}

-- an answer is for lack of memory, or another
pub memory_or_other : {T : Type 0} (answer : Result T Fault) → (answer ≡ Err faults.OutOfMemory) ⊎ (is_out_of_memory answer ≡ false)
memory_or_other (Ok x) = inr refl
memory_or_other (Err faults.QueueDoesNotExist) = inr refl
memory_or_other (Err faults.QueueNameExists) = inr refl
memory_or_other (Err faults.InvalidAttributeName) = inr refl
memory_or_other (Err faults.InvalidAttributeValue) = inr refl
memory_or_other (Err faults.InvalidParameterValue) = inr refl
memory_or_other (Err faults.InvalidMessageContents) = inr refl
memory_or_other (Err faults.ReceiptHandleIsInvalid) = inr refl
memory_or_other (Err faults.MessageNotInflight) = inr refl
memory_or_other (Err faults.OverLimit) = inr refl
memory_or_other (Err faults.EmptyBatchRequest) = inr refl
memory_or_other (Err faults.TooManyEntriesInBatchRequest) = inr refl
memory_or_other (Err faults.BatchEntryIdsNotDistinct) = inr refl
memory_or_other (Err faults.InvalidBatchEntryId) = inr refl
memory_or_other (Err faults.BatchRequestTooLong) = inr refl
memory_or_other (Err faults.UnsupportedOperation) = inr refl
memory_or_other (Err faults.SerializationException) = inr refl
memory_or_other (Err faults.JournalFull) = inr refl
memory_or_other (Err faults.OutOfMemory) = inl refl
memory_or_other (Err faults.Spent) = inr refl
memory_or_other (Err faults.ActorGone) = inr refl

-- where it did not, the answer is the wanted one
pub met : {T : Type 0} (answer wanted : Result T Fault) → is_out_of_memory answer ≡ false → Meets answer wanted → answer ≡ wanted
met answer wanted other meets = subst (λ (b : Bool). MatchBool b ⊤ (answer ≡ wanted)) other meets

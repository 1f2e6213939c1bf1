use Rattle.std.proofs.Common.{◌≡◌, ◌⊎◌, true, length}
use Rattle.request_plan.specs.Plan as plan
use Rattle.request_plan.proofs.plan.next_entry.Given as goal

-- the entries that are left, behind the answers so far, come to what all entries come to; where one was answered, the first had a fault
abbrev pub invariant-loop-id : goal.invariant-loop-id
invariant-loop-id l = (plan.next_entry l.initial.left l.initial.answers ≡ plan.next_entry l.left l.answers)
    × ((l.left ≡ l.initial.left) ⊎ (plan.begins_with_fault l.initial.left ≡ true))

abbrev pub decreases-loop-id : goal.decreases-loop-id
decreases-loop-id l = length l.left

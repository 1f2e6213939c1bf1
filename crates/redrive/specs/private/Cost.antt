-- That an act is done: its answer, what it leaves, what it counts.
use Rattle.std.specs.Prelude.{◌≡◌, ℕ, ◌+◌, ◌≤◌, false}
use Rattle.message.specs.Fault.{Meets}
use Rattle.redrive.specs.House.{House}
use Rattle.redrive.specs.HouseSteps.{HouseAnswer, Act, found_for, answer_of_act, house_changed}
use Rattle.redrive.specs.Cost.{ticks_of_change}

pub record IsDone (old : House) (act : Act) (answer : HouseAnswer) (new : House) (before after : ℕ) : Type 0 where
  pub meets : Meets answer (answer_of_act old act)
  pub exact : act.takes_memory (found_for old act) ≡ false → answer ≡ answer_of_act old act
  pub left : new ≡ house_changed old act.at act.change answer
  pub cost : after ≤ before + ticks_of_change old act.at act.change answer

-- The text of a refusal.
use Rattle.std.proofs.Common.{◌≡◌, ℕ, List, ◌++◌, Result, Ok, Err, ap, ◌∙◌}
use Rattle.std.specs.Prelude.{IfOk, codes, decimal}
use Rattle.std.specs.Global.{Vec}
use Rattle.message.specs.declared.fault.Fault.{Fault}
use Rattle.aws_json.specs.FaultText.{fault_body, fault_status}
use Rattle.sqs_replay.specs.declared.fault.ReplayFault.{ReplayFault}
use Rattle.sqs_replay.specs.Served.{answer_text}

pub refusal_written : (fault : Fault) (status : ℕ) (text : List ℕ) (r : Result (Vec ℕ) ReplayFault) → status ≡ fault_status fault → text ≡ fault_body fault
    → IfOk r (λ bytes. bytes.items ≡ decimal status ++ codes " " ++ text ++ codes "\n") → IfOk r (λ bytes. bytes.items ≡ answer_text (Err fault))
refusal_written fault status text (Ok bytes) s t h =
    h ∙ ap (λ (n : ℕ). decimal n ++ codes " " ++ text ++ codes "\n") s ∙ ap (λ (x : List ℕ). decimal (fault_status fault) ++ codes " " ++ x ++ codes "\n") t
refusal_written fault status text (Err e) s t h = tt

-- The line that a request has.
use Rattle.std.proofs.Common.{◌≡◌, ℕ, List, Option, Result, Ok, Err, IfOk, ap, refl, ◌∙◌}
use Rattle.aws_json.specs.Steps.{result_map}
use Rattle.message.specs.Fault.{Meets}
use Rattle.message.specs.declared.fault.Fault.{Fault}
use Rattle.request_log.specs.Line.{line_text}

one : (a : Result (List ℕ) Fault) (x y : List ℕ) → a ≡ Ok x → a ≡ Ok y → x ≡ y
one a x y first second = cc

-- one that was written, under another name of its action and another word for its queue
pub line_written : {X : Type 0} (r : Result X Fault) (text : X → List ℕ) (at : ℕ) (name action : List ℕ) (told queue : Option (List ℕ)) (status : ℕ) (refusal : Option (List ℕ × List ℕ))
    → Meets (result_map text r) (Ok (line_text at name told status refusal)) → name ≡ action → told ≡ queue
    → IfOk r (λ line. (f : Option (List ℕ × List ℕ)) × (text line ≡ line_text at action queue status f))
line_written (Ok line) text at name action told queue status refusal met same same_queue =
    let written = one (Ok (text line)) (text line) (line_text at name told status refusal) refl met in
    (refusal, written ∙ ap (λ (n : List ℕ). line_text at n told status refusal) same ∙ ap (λ (q : Option (List ℕ)). line_text at action q status refusal) same_queue)
line_written (Err fault) text at name action told queue status refusal met same same_queue = tt

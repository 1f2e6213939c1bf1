use Rattle.std.proofs.Common.{◌≡◌, ℕ, Bool, true, Result, refl, subst, sym, ap, ◌∙◌}
use Rattle.std.specs.Prelude.{IfSome}
use Rattle.message.specs.declared.fault.Fault.{Fault}
use Rattle.queue_core.specs.declared.command.Command.{Command}
use Rattle.queue_core.specs.declared.reply.Reply.{Reply}
use Rattle.queue_core.specs.Queue.{QueueHistory, reached, outcome_at, after_answer}
use Rattle.queue_core.specs.Legal.{IsLegal}
use Rattle.desk.specs.History.{IsAnswered}
use Rattle.desk.specs.Held.{Lying}
use Rattle.desk.specs.private.Held.{told_behind}
use Rattle.desk.specs.private.KeptRows.{AreRowsOf}
use Rattle.desk.specs.private.Printed.{IsPrinted}
use Rattle.desk.proofs.PrintLemmas.{printed_behind}
use Rattle.desk.proofs.RowLemmas.{rows_behind}
use Rattle.desk.proofs.held.Held.perform.Goals as goal

told_of : (told new : ℕ) (x q : QueueHistory) (at : ℕ) (command : Command) (b : Bool) (reply : Result Reply Fault) → x ≡ q → b ≡ (outcome_at x at command).rebases
    → new ≡ told_behind told b reply → new ≡ told_behind told (outcome_at q at command).rebases reply
told_of told new x q at command b reply same is now = now ∙ ap (λ (y : Bool). told_behind told y reply) (is ∙ ap (λ (y : QueueHistory). (outcome_at y at command).rebases) same)

left_of : (x q : QueueHistory) (at : ℕ) (command : Command) (reply : Result Reply Fault) (new : QueueHistory) → x ≡ q → new ≡ after_answer x at command reply → new ≡ after_answer q at command reply
left_of x q at command reply new same is = is ∙ ap (λ (y : QueueHistory). after_answer y at command reply) same

legal_of : (x q : QueueHistory) (at : ℕ) (command : Command) (b : Bool) → x ≡ q → b ≡ (outcome_at x at command).rebases → (b ≡ true → IsLegal (reached x at command))
    → (outcome_at q at command).rebases ≡ true → IsLegal (reached q at command)
legal_of x q at command b same is legal h =
    subst (λ (y : QueueHistory). IsLegal (reached y at command)) same (legal (is ∙ ap (λ (y : QueueHistory). (outcome_at y at command).rebases) same ∙ h))

pub invariant_of-self : goal.invariant_of-self
invariant_of-self g c =
    let q : QueueHistory = c.self.inside.state.value in let at : ℕ = c.args.at in let command = c.args.command.now in let reply = c.answer-reply.result.0 in
    let left : c.answer-reply.new.state ≡ after_answer q at command reply = left_of c.deref_mut.result.now q at command reply c.answer-reply.new.state c.deref_mut.ensures.value c.answer-reply.ensures.state in
    let told : c.told_behind-self-inside.result ≡ told_behind c.self.inside.told (outcome_at q at command).rebases reply =
    told_of c.self.inside.told c.told_behind-self-inside.result c.deref_mut.result.now q at command c.answer-reply.result.1 reply c.deref_mut.ensures.value c.answer-reply.ensures.rebases c.told_behind-self-inside.ensures in
    subst (λ x. IsPrinted (g.P.Press.stands c.self.inside.press) x c.told_behind-self-inside.result × IfSome c.self.inside.rows (λ k. AreRowsOf k x)) (sym left) (
      subst (λ (n : ℕ). IsPrinted (g.P.Press.stands c.self.inside.press) (after_answer q at command reply) n) (sym told)
          (printed_behind (g.P.Press.stands c.self.inside.press) q at command reply c.self.inside.told
          (subst (λ (x : QueueHistory). IsAnswered x at command reply) c.deref_mut.ensures.value c.answer-reply.ensures.answer)
          (legal_of c.deref_mut.result.now q at command c.answer-reply.result.1 c.deref_mut.ensures.value c.answer-reply.ensures.rebases c.answer-reply.ensures.legal) c.self.invariant.0),
      rows_behind c.self.inside.rows q at command reply c.self.invariant.1,
    )

pub returns-clause-state : goal.returns-clause-state
returns-clause-state g c = record {
  left =
      left_of c.deref_mut.result.now c.args.self.now.queue c.args.at c.args.command.now c.answer-reply.result.0 c.answer-reply.new.state
      (c.deref_mut.ensures.value ∙ ap (λ (l : Lying). l.queue) c.self.view_is) c.answer-reply.ensures.state;
  made = record { at = c.args.at; command = c.of.result; reply = c.of-2.result };
  last = refl;
  moment = refl;
  asked = c.of.ensures;
  answered = c.of-2.ensures;
}

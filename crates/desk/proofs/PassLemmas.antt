-- What a pass knows after a call, and what a last turn gives.
use Rattle.std.proofs.Common.{◌≡◌, ℕ, [], ◌∷◌, ◌++◌, Result, refl, sym, ap, ◌∙◌, subst}
use Rattle.message.specs.declared.fault.Fault.{Fault}
use Rattle.atomic_table.specs.Seated.{TableId}
use Rattle.queue_core.specs.declared.command.Command.{Command}
use Rattle.queue_core.specs.declared.reply.Reply.{Reply}
use Rattle.queue_core.specs.Queue.{QueueHistory}
use Rattle.desk.specs.declared.view.Call.{Call}
use Rattle.desk.specs.declared.view.View.{View}
use Rattle.desk.specs.declared.view.PassStage.TheVariants.{Drawn}
use Rattle.desk.specs.History.{IsAnswered, after_call, state_of, IsLegalHistory, calls_by, call}
use Rattle.desk.specs.Held.{Lying}
use Rattle.desk.specs.private.Held.{IsBehind}
use Rattle.desk.specs.Views.{IsKnown, pass_of, IsLastState}
use Rattle.desk.specs.private.Steps.{at_stage, counting, HasSeen, HasPerformed, call_of, behind_call, with_call}
use Rattle.desk.proofs.HistoryLemmas.{state_snoc, legal_snoc, own_call}

-- the queue that a pass takes in its last turn
pub last_state : (desk : TableId) (v u w : View) (ticket : ℕ) (queue : QueueHistory) → u ≡ at_stage (counting v ticket) (Drawn ticket) → HasSeen u w → queue ≡ state_of w.start w.seen → IsLastState (pass_of desk v) queue
last_state desk v u w ticket queue drawn seen left =
    let s = subst (λ (z : View). HasSeen z w) drawn seen in
    record { history = w.seen; legal = s.legal; goes_on = s.seen; own = s.own; state = left ∙ ap (λ (q : QueueHistory). state_of q w.seen) s.start }

-- a pass that has seen the history knows it
pub known_seen : (desk : TableId) (before v : View) → HasSeen before v → IsKnown (pass_of desk v)
known_seen desk before v s = record { legal = subst (λ (q : QueueHistory). IsLegalHistory q v.seen) (sym s.start) s.legal; own = ap (λ (n : ℕ). calls_by n v.seen) s.number ∙ s.own ∙ sym s.mine }

-- the call that was kept is the one that was made
kept : (number at : ℕ) (command : Command) (reply : Result Reply Fault) (x : Lying) (queue : QueueHistory) → (b : IsBehind queue at command reply x) → call_of number b.made ≡ call number at command reply
kept number at command reply x queue b = λ k. call number (b.moment k) (b.asked k) (b.answered k)

-- the view of a pass whose turn has ended
pub called : (v : View) (at : ℕ) (command : Command) (reply : Result Reply Fault) (x : Lying) (queue : QueueHistory) → IsBehind queue at command reply x
    → with_call v x.made ≡ behind_call v (call v.number at command reply)
called v at command reply x queue b = ap (with_call v) b.last ∙ ap (behind_call v) (kept v.number at command reply x queue b)

-- it knows the history behind its call too
pub known_behind : (desk : TableId) (v : View) (at : ℕ) (command : Command) (reply : Result Reply Fault) (queue : QueueHistory) → IsKnown (pass_of desk v) → queue ≡ state_of v.start v.seen
    → IsAnswered queue at command reply → IsKnown (pass_of desk (behind_call v (call v.number at command reply)))
known_behind desk v at command reply queue known is answered =
    let c : Call = call v.number at command reply in
    record { legal = legal_snoc v.start v.seen c known.legal (subst (λ (q : QueueHistory). IsAnswered q at command reply) is answered); own = own_call v.number v.seen v.mine c refl known.own }

-- the queue behind a call is what the history leaves, the call with it
pub left_behind : (v : View) (at : ℕ) (command : Command) (reply : Result Reply Fault) (x : Lying) (queue : QueueHistory) → queue ≡ state_of v.start v.seen → IsBehind queue at command reply x
    → x.queue ≡ state_of v.start (v.seen ++ call v.number at command reply ∷ [])
left_behind v at command reply x queue is b =
    let c : Call = call v.number at command reply in b.left ∙ ap (λ (q : QueueHistory). after_call q c) is ∙ sym (state_snoc v.start v.seen c)

-- what is put back is the queue that was taken, behind the call
pub performed : (v w : View) (at : ℕ) (command : Command) (reply : Result Reply Fault) (before here now : Lying) → w ≡ v → before.queue ≡ state_of v.start v.seen → before.place ≡ v.place
    → IsAnswered before.queue at command reply → IsBehind before.queue at command reply here → here.place ≡ before.place → now ≡ here → HasPerformed w now
performed v w at command reply before here now same is place answered b stays told =
    let q : QueueHistory = state_of v.start v.seen in let c : Call = call v.number at command reply in
    let made : c ≡ call_of v.number b.made = sym (kept v.number at command reply here before.queue b) in
    let done : HasPerformed v here = record {
      made = b.made;
      last = b.last;
      queue = b.left ∙ ap (λ (x : QueueHistory). after_call x c) is ∙ ap (λ (d : Call). after_call q d) made;
      place = stays ∙ place;
      answered = subst (λ (d : Call). IsAnswered q d.at d.command d.reply) made (subst (λ (x : QueueHistory). IsAnswered x at command reply) is answered);
    } in
    subst (λ (u : View). HasPerformed u now) (sym same) (subst (λ (x : Lying). HasPerformed v x) (sym told) done)

-- No command but a close closes a queue.
use Rattle.std.proofs.Common.{◌≡◌, ℕ, Bool, true, false, cond, Option, Some, None, Result, refl, ◌∙◌}
use Rattle.std.specs.Prelude.{IfSome}
use Rattle.std.proofs.lemmas.Bool.{or_from}
use Rattle.message.specs.declared.fault.Fault.{Fault}
use Rattle.message.specs.Fault.{is_out_of_memory}
use Rattle.message.specs.Content.{ContentText}
use Rattle.journal.specs.declared.entry.Event.{Event}
use Rattle.queue_core.specs.declared.command.Command.{Command}
use Rattle.queue_core.specs.declared.command.Command.TheVariants as commands
use Rattle.queue_core.specs.Messages.{closes, is_closed}
use Rattle.queue_core.specs.Queue.{QueueHistory, at_moment, leaves_clock, reached, outcome_at, rebased_where, with_optional_event, after_answer}
use Rattle.queue_core.proofs.CauseLemmas.{IsSoOfAdded, added}
use Rattle.queue_core.proofs.PushLemmas.{closed-push}
use Rattle.redrive.specs.private.ByPlace.{closes_queue}

unclosed-each : (q : QueueHistory) (command : Command) → closes_queue command ≡ false → IsSoOfAdded q (λ e. closes e ≡ false) command
unclosed-each q (commands.Change handle timeout) h = λ unrefused. refl
unclosed-each q (commands.Delete handle) h = (refl, refl)
unclosed-each q (commands.Arrive parcel) h = λ first. refl
unclosed-each q (commands.Settle number) h = λ pending. refl
unclosed-each q commands.Close h = absurd cc
unclosed-each q commands.FirstParcel h = tt
unclosed-each q commands.Look h = tt
unclosed-each q command h = refl

-- a checkpoint does not close a queue
unclosed-based : (rebases : Bool) (q : QueueHistory) → is_closed q.lines ≡ false → is_closed (rebased_where rebases q).lines ≡ false
unclosed-based true q h = refl
unclosed-based false q h = h

unclosed-optional : (q : QueueHistory) (event : Option (Event ContentText)) → IfSome event (λ e. closes e ≡ false) → is_closed q.lines ≡ false
    → is_closed (with_optional_event q event).lines ≡ false
unclosed-optional q None h k = k
unclosed-optional q (Some event) h k = closed-push q.lines (record { at = q.clock; event = event }) ∙ or_from (is_closed q.lines) (closes event) k h

unclosed-left : (b rebases : Bool) (q : QueueHistory) (event : Option (Event ContentText)) → IfSome event (λ e. closes e ≡ false) → is_closed q.lines ≡ false
    → is_closed (cond b q (with_optional_event (rebased_where rebases q) event)).lines ≡ false
unclosed-left true rebases q event h k = k
unclosed-left false rebases q event h k = unclosed-optional (rebased_where rebases q) event h (unclosed-based rebases q k)

unclosed-reached : (b : Bool) (q : QueueHistory) (at : ℕ) → is_closed q.lines ≡ false → is_closed (cond b q (at_moment q at)).lines ≡ false
unclosed-reached true q at h = h
unclosed-reached false q at h = h

pub unclosed-after_answer : {T : Type 0} (at : ℕ) (command : Command) (answer : Result T Fault) (q : QueueHistory) → closes_queue command ≡ false → is_closed q.lines ≡ false
    → is_closed (after_answer q at command answer).lines ≡ false
unclosed-after_answer at command answer q h k =
    let r : QueueHistory = reached q at command in
    let acts : QueueHistory = rebased_where (outcome_at q at command).rebases r in
    unclosed-left (is_out_of_memory answer) (outcome_at q at command).rebases r (outcome_at q at command).event (added (λ e. closes e ≡ false) acts (λ fault. refl) command (unclosed-each acts command h))
    (unclosed-reached (leaves_clock command) q at k)

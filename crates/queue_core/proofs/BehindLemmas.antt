-- A checkpoint before a refusal stands for the queue as it was, and comes before the queue's own refusals alone.
use Rattle.std.proofs.Common.{◌≡◌, ℕ, ◌+◌, max, Bool, true, false, not, cond, ◌&&◌, Option, Some, None, Ok, Err, refl, sym, ap, subst, ◌∙◌, arith}
use Rattle.std.specs.Prelude.{nat_lt, nat_le}
use Rattle.std.proofs.lemmas.Bool.{false≢true, and_parts}
use Rattle.message.specs.declared.fault.Fault.{Fault}
use Rattle.message.specs.declared.fault.Fault.TheVariants.{QueueDoesNotExist, InvalidParameterValue, ReceiptHandleIsInvalid, MessageNotInflight, OverLimit, JournalFull}
use Rattle.message.specs.Fault.{Meets, is_out_of_memory}
use Rattle.message.specs.Content.{ContentText, content_size}
use Rattle.journal.specs.declared.entry.Event.{Event}
use Rattle.journal.specs.declared.entry.Event.TheVariants.{Changed}
use Rattle.queue_core.specs.declared.command.Command.{Command}
use Rattle.queue_core.specs.declared.command.Command.TheVariants as commands
use Rattle.queue_core.specs.declared.reply.Reply.{Reply}
use Rattle.queue_core.specs.Messages.{settings_of, is_closed, has_accepted}
use Rattle.queue_core.specs.States.{kept_count}
use Rattle.queue_core.specs.Queue.{QueueHistory, Outcome, refusal, refused_or, unless_refused, first_refusal, done, in_flight_count, is_valid_handle, holds_in_flight, passes_twelve_hours, is_pending, is_at_limit, is_full, wants_open, unless_some, rebases, rebased, rebased_where, outcome_in, leaves_clock, at_moment, reached, outcome_at, after_answer}
use Rattle.queue_core.specs.Legal.{IsLegal}
use Rattle.queue_core.specs.Lasting.{StandsAs, left_by_refusal}
use Rattle.queue_core.specs.Refusals.{is_own_refusal}
use Rattle.queue_core.specs.Standing.{StandsFor}
use Rattle.queue_core.proofs.commands.LegalLemmas.{IsOrdered-later}
use Rattle.queue_core.proofs.LegalSoundLemmas.{stands_rebased}
use Rattle.queue_core.proofs.SoundLemmas.{IsSound, sound_later}
use Rattle.queue_core.proofs.checkpoints.WeightLemmas.{based_weight}
use Rattle.queue_core.proofs.commands.RefusalLemmas.{StandsAs-refusal}

legal_reached : (q : QueueHistory) (at : ℕ) (command : Command) → IsLegal q → IsLegal (reached q at command)
legal_reached q at command legal = by_clock (leaves_clock command)
  where
    by_clock : (b : Bool) → IsLegal (cond b q (at_moment q at))
    by_clock true = legal
    by_clock false = record { ordered = IsOrdered-later 0 q.lines q.clock (max q.clock at) (omega arith) legal.ordered; caused = legal.caused }

sound_reached : (q : QueueHistory) (at : ℕ) (command : Command) → IsSound q.lines q.clock → IsSound (reached q at command).lines (reached q at command).clock
sound_reached q at command sound = by_clock (leaves_clock command)
  where
    by_clock : (b : Bool) → let r : QueueHistory = cond b q (at_moment q at) in IsSound r.lines r.clock
    by_clock true = sound
    by_clock false = sound_later q.lines q.clock (max q.clock at) (omega arith) sound

-- a checkpoint is made of an open queue
pub open_where : (q : QueueHistory) (command : Command) → rebases q command ≡ true → is_closed q.lines ≡ false
open_where q command h = by_closed (is_closed q.lines) refl
  where
    by_closed : (b : Bool) → is_closed q.lines ≡ b → b ≡ false
    by_closed true e =
        absurd (false≢true
        (sym (ap (λ (c : Bool). unless_some (cond c (Some QueueDoesNotExist) (cond (is_full q) (Some JournalFull) None)) (wants_open command && is_at_limit q)) e) ∙ h))
    by_closed false e = refl

stands_itself : (q : QueueHistory) → StandsFor q q
stands_itself q = record { uid = refl; name = refl; in_flight = refl; clock = refl; summary = refl }

pub stands_left : (q : QueueHistory) (at : ℕ) (command : Command) (fault : Fault) → IsLegal q → StandsFor (left_by_refusal q at command fault) (reached q at command)
stands_left q at command fault legal = by_limit (reached q at command) (legal_reached q at command legal) (rebases (reached q at command) command) refl (not (is_out_of_memory {T = Reply} (Err fault)))
  where
    by_limit : (r : QueueHistory) → IsLegal r → (b : Bool) → rebases r command ≡ b → (kept : Bool) → StandsFor (rebased_where (b && kept) r) r
    by_limit r is true e true = stands_rebased r is (open_where r command e)
    by_limit r is true e false = stands_itself r
    by_limit r is false e kept = stands_itself r

pub stands_in_place : (q : QueueHistory) (at : ℕ) (command : Command) (fault : Fault) → Meets {T = Reply} (Err fault) (outcome_at q at command).reply → (outcome_at q at command).rebases ≡ false
    → StandsAs (after_answer {T = Reply} q at command (Err fault)) (reached q at command)
stands_in_place q at command fault meets never =
    subst (λ (b : Bool). StandsAs (after_answer {T = Reply} q at command (Err fault)) (rebased_where (b && not (is_out_of_memory {T = Reply} (Err fault))) (reached q at command))) never
    (StandsAs-refusal q at command fault meets)

-- ---- what refuses behind a checkpoint

-- the queue itself refuses so
pub record IsOwn (o : Outcome) : Type 0 where
  pub own : (fault : Fault) → o.reply ≡ Err fault → is_own_refusal fault ≡ true

own-answer : (o : Outcome) (reply : Reply) → o.reply ≡ Ok reply → IsOwn o
own-answer o reply is = record { own = λ fault h. absurd cc }

own-refusal : (first : Fault) → is_own_refusal first ≡ true → IsOwn (refusal first)
own-refusal first is = record { own = λ fault h. let same : first ≡ fault = cc in ap is_own_refusal (sym same) ∙ is }

own-either : (b : Bool) (one other : Outcome) → IsOwn one → IsOwn other → IsOwn (cond b one other)
own-either true one other h k = h
own-either false one other h k = k

own-change : (valid holds passes : Bool) (event : Event ContentText)
    → IsOwn (refused_or (cond valid (cond holds (cond passes (Some InvalidParameterValue) None) (Some MessageNotInflight)) (Some ReceiptHandleIsInvalid)) (done event))
own-change true true true event = own-refusal InvalidParameterValue refl
own-change true true false event = own-answer (done event) _ refl
own-change true false passes event = own-refusal MessageNotInflight refl
own-change false holds passes event = own-refusal ReceiptHandleIsInvalid refl

module _ (q : QueueHistory) (free : first_refusal q ≡ None) where
  own-room : (o : Outcome) → IsOwn o → IsOwn (unless_refused (first_refusal q) o)
  own-room o h = subst (λ (r : Option Fault). IsOwn (unless_refused r o)) (sym free) h

  pub own_in : (command : Command) → wants_open command ≡ true → IsOwn (outcome_in q command)
  own_in (commands.Send content delay) w =
      own-room _ (own-either (nat_lt (settings_of q.lines).maximum_message_size (content_size content)) _ _ (own-refusal InvalidParameterValue refl) (own-answer _ _ refl))
  own_in (commands.Receive maximum timeout) w = own-room _ (own-either (nat_le q.limits.in_flight (in_flight_count q)) _ _ (own-refusal OverLimit refl) (own-answer _ _ refl))
  own_in (commands.Change handle timeout) w =
      own-room _ (own-change (is_valid_handle q handle) (holds_in_flight q handle) (passes_twelve_hours q handle.number timeout) (Changed handle.number timeout))
  own_in (commands.Delete handle) w = own-room _ (own-either (is_valid_handle q handle) _ _ (own-answer _ _ refl) (own-refusal ReceiptHandleIsInvalid refl))
  own_in commands.Purge w = own-room _ (own-answer _ _ refl)
  own_in (commands.Set wish target) w = own-room _ (own-answer _ _ refl)
  own_in (commands.Arrive parcel) w = own-room _ (own-either (has_accepted q.lines parcel.origin.uid parcel.origin.number) _ _ (own-answer _ _ refl) (own-answer _ _ refl))
  own_in (commands.Settle number) w = own-room _ (own-either (is_pending q number) _ _ (own-answer _ _ refl) (own-answer _ _ refl))
  own_in (commands.Orphan target) w = own-room _ (own-answer _ _ refl)
  own_in commands.Close w = absurd (false≢true w)
  own_in commands.Look w = absurd (false≢true w)
  own_in commands.FirstParcel w = absurd (false≢true w)

-- a checkpoint makes room for the command that it comes before
pub record MakesRoom (q : QueueHistory) (command : Command) : Type 0 where
  pub wanted : wants_open command ≡ true
  pub at : is_at_limit q ≡ true
  pub unfull : is_full q ≡ false

room_by : (closed full wants limit : Bool) → unless_some (cond closed (Some QueueDoesNotExist) (cond full (Some JournalFull) None)) (wants && limit) ≡ true
    → (wants ≡ true) × ((limit ≡ true) × (full ≡ false))
room_by true full wants limit h = absurd (false≢true h)
room_by false true wants limit h = absurd (false≢true h)
room_by false false wants limit h = let parts = and_parts wants limit h in (parts.0, (parts.1, refl))

pub makes_room : (q : QueueHistory) (command : Command) → rebases q command ≡ true → MakesRoom q command
makes_room q command h =
    let parts = room_by (is_closed q.lines) (is_full q) (wants_open command) (is_at_limit q) h in
    record { wanted = parts.0; at = parts.1.0; unfull = parts.1.1 }

pub free_behind : (q : QueueHistory) → IsSound q.lines q.clock → is_closed q.lines ≡ false → is_at_limit q ≡ true → is_full q ≡ false → first_refusal (rebased q) ≡ None
free_behind q sound unclosed at unfull =
    let below : nat_le q.limits.max_lines (1 + kept_count q.lines q.clock) ≡ false = ap (λ (b : Bool). b && nat_le q.limits.max_lines (1 + kept_count q.lines q.clock)) (sym at) ∙ unfull in
    let lower : is_at_limit (rebased q) ≡ false = ap (nat_le q.limits.max_lines) (based_weight q.uid q.lines q.clock sound unclosed) ∙ below in
    ap (λ (b : Bool). cond (b && nat_le q.limits.max_lines (1 + kept_count (rebased q).lines q.clock)) (Some JournalFull) None) lower

-- so no other refusal comes behind one
pub others_in_place : (q : QueueHistory) (at : ℕ) (command : Command) (fault : Fault) → IsSound q.lines q.clock → (outcome_at q at command).reply ≡ Err fault → is_own_refusal fault ≡ false
    → (outcome_at q at command).rebases ≡ false
others_in_place q at command fault sound refused other = by_limit (reached q at command) (sound_reached q at command sound) (rebases (reached q at command) command) refl refused
  where
    by_limit : (r : QueueHistory) → IsSound r.lines r.clock → (b : Bool) → rebases r command ≡ b → (outcome_in (rebased_where (rebases r command) r) command).reply ≡ Err fault → b ≡ false
    by_limit r is true e refused =
        let room = makes_room r command e in
        let there : (outcome_in (rebased r) command).reply ≡ Err fault = subst (λ (b : Bool). (outcome_in (rebased_where b r) command).reply ≡ Err fault) e refused in
        absurd (false≢true (sym other ∙ (own_in (rebased r) (free_behind r is (open_where r command e) room.at room.unfull) command room.wanted).own fault there))
    by_limit r is false e refused = refl

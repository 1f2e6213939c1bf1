-- Which refusals are entries, and that such an entry changes nothing at any later moment.
use Rattle.std.proofs.Common.{◌≡◌, ℕ, zero, suc, ◌<◌, Bool, true, false, cond, ◌&&◌, ◌||◌, eqb, List, [], ◌∷◌, ◌++◌, length, Option, Some, None, Result, Ok, Err, MatchBool, refl, sym, ap, subst, ◌∙◌, arith}
use Rattle.std.specs.Prelude.{slice_get, nat_lt, nat_le}
use Rattle.std.specs.Option.{option_map_or}
use Rattle.std.specs.List.{All, AllByRecursion}
use Rattle.std.proofs.lemmas.Bool.{false≢true}
use Rattle.std.proofs.lemmas.List.{length-append}
use Rattle.std.proofs.lemmas.List.Elements.{All-weaker, recursion_from_All}
use Rattle.message.specs.declared.fault.Fault.{Fault}
use Rattle.message.specs.declared.fault.Fault.TheVariants.{QueueDoesNotExist, InvalidParameterValue, ReceiptHandleIsInvalid, MessageNotInflight, OverLimit, JournalFull, OutOfMemory}
use Rattle.message.specs.Fault.{is_out_of_memory}
use Rattle.message.specs.Content.{ContentText, content_size}
use Rattle.queue_config.specs.Settings.{QueueSettings, default_settings}
use Rattle.receipt_handle.specs.declared.handle.Handle.{Handle}
use Rattle.journal.specs.declared.entry.Entry.{Entry}
use Rattle.journal.specs.declared.entry.Event.{Event}
use Rattle.journal.specs.declared.entry.Event.TheVariants.{Changed, Refused}
use Rattle.queue_core.specs.declared.command.Command.{Command}
use Rattle.queue_core.specs.declared.command.Command.TheVariants as commands
use Rattle.queue_core.specs.declared.facts.Message.{Message}
use Rattle.queue_core.specs.declared.facts.MessageState.TheVariants.{InFlight}
use Rattle.queue_core.specs.declared.reply.Reply.{Reply}
use Rattle.queue_core.specs.Messages.{messages, settings_of, is_expired, receive_count, is_closed, has_accepted}
use Rattle.queue_core.specs.States.{is_live, is_in_state, is_numbered}
use Rattle.queue_core.specs.Queue.{QueueHistory, Outcome, at_moment, refusal, is_full, unless_refused, first_refusal, refused_or, done, in_flight_count, is_valid_handle, holds_in_flight, passes_twelve_hours, is_pending, rebased_where, outcome_in, reached, outcome_at, with_event, with_optional_event, after_answer}
use Rattle.queue_core.specs.Lasting.{StandsAs}
use Rattle.queue_core.specs.Refusals.{is_own_refusal, LastsAs}
use Rattle.queue_core.specs.private.Recorded.{ran_out_before, runs_out_by}
use Rattle.queue_core.proofs.PushLemmas.{or_false, settings_from-push, ran_out-push, expired-split}
use Rattle.queue_core.proofs.entries.AlikeLemmas.{Agree, IsAlike, agree-live, agree-state, gauges-alike, order-alike}
use Rattle.queue_core.proofs.commands.RefusalLemmas.{all-placed, StandsAs-refused}

-- ---- which refusals are entries

-- the own refusal of a queue is an entry, and no other; it is not for lack of memory
abbrev AddsFor : Option (Event ContentText) → Fault → Type 0
AddsFor event fault = MatchBool (is_own_refusal fault) (event ≡ Some (Refused fault)) ((event ≡ None) × (is_out_of_memory {T = Reply} (Err fault) ≡ false))

abbrev IsTold : Outcome → Type 0
IsTold o = (fault : Fault) → o.reply ≡ Err fault → AddsFor o.event fault

told_as : (first fault : Fault) (event : Option (Event ContentText)) → AddsFor event first → ◌≡◌ {A = Result Reply Fault} (Err first) (Err fault) → AddsFor event fault
told_as first fault event h is = let same : first ≡ fault = cc in subst (AddsFor event) same h

told-room : (closed full : Bool) (o : Outcome) → IsTold o → IsTold (unless_refused (cond closed (Some QueueDoesNotExist) (cond full (Some JournalFull) None)) o)
told-room true full o rest fault h = told_as QueueDoesNotExist fault None (refl, refl) h
told-room false true o rest fault h = told_as JournalFull fault None (refl, refl) h
told-room false false o rest fault h = rest fault h

told-answered : (event : Option (Event ContentText)) (reply : Reply) → IsTold (record { event = event; reply = Ok reply; rebases = false })
told-answered event reply fault h = absurd cc

told-either : (b : Bool) (one other : Outcome) → IsTold one → IsTold other → IsTold (cond b one other)
told-either true one other h k = h
told-either false one other h k = k

told-refusal : (first : Fault) → AddsFor (Some (Refused first)) first → IsTold (refusal first)
told-refusal first is fault h = told_as first fault (Some (Refused first)) is h

told-change : (valid holds passes : Bool) (event : Event ContentText)
    → IsTold (refused_or (cond valid (cond holds (cond passes (Some InvalidParameterValue) None) (Some MessageNotInflight)) (Some ReceiptHandleIsInvalid)) (done event))
told-change true true true event = told-refusal InvalidParameterValue refl
told-change true true false event = told-answered (Some event) _
told-change true false passes event = told-refusal MessageNotInflight refl
told-change false holds passes event = told-refusal ReceiptHandleIsInvalid refl

module _ (q : QueueHistory) where
  room : (o : Outcome) → IsTold o → IsTold (unless_refused (first_refusal q) o)
  room o h = told-room (is_closed q.lines) (is_full q) o h

  told_in : (command : Command) → IsTold (outcome_in q command)
  told_in (commands.Send content delay) =
      room _ (told-either (nat_lt (settings_of q.lines).maximum_message_size (content_size content)) _ _ (told-refusal InvalidParameterValue refl) (told-answered _ _))
  told_in (commands.Receive maximum timeout) =
      room _ (told-either (nat_le q.limits.in_flight (in_flight_count q)) _ _ (told-refusal OverLimit refl) (told-answered _ _))
  told_in (commands.Change handle timeout) =
      room _ (told-change (is_valid_handle q handle) (holds_in_flight q handle) (passes_twelve_hours q handle.number timeout) (Changed handle.number timeout))
  told_in (commands.Delete handle) =
      room _ (told-either (is_valid_handle q handle) _ _ (told-answered _ _) (told-refusal ReceiptHandleIsInvalid refl))
  told_in commands.Purge = room _ (told-answered _ _)
  told_in (commands.Set wish target) = room _ (told-answered _ _)
  told_in (commands.Arrive parcel) =
      room _ (told-either (has_accepted q.lines parcel.origin.uid parcel.origin.number) _ _ (told-answered _ _) (told-answered _ _))
  told_in (commands.Settle number) = room _ (told-either (is_pending q number) _ _ (told-answered _ _) (told-answered _ _))
  told_in (commands.Orphan target) = room _ (told-answered _ _)
  told_in commands.FirstParcel = told-answered _ _
  told_in commands.Close = told-either (is_closed q.lines) _ _ (λ fault h. told_as QueueDoesNotExist fault None (refl, refl) h) (told-answered _ _)
  told_in commands.Look = told-answered _ _

pub own-answered : (T : Type 0) (fault : Fault) → is_own_refusal fault ≡ true → is_out_of_memory {T = T} (Err fault) ≡ false
own-answered T InvalidParameterValue h = refl
own-answered T ReceiptHandleIsInvalid h = refl
own-answered T MessageNotInflight h = refl
own-answered T OverLimit h = refl
own-answered T fault h = absurd (false≢true h)

same_memory : (T : Type 0) (fault : Fault) → is_out_of_memory {T = T} (Err fault) ≡ is_out_of_memory {T = Reply} (Err fault)
same_memory T OutOfMemory = refl
same_memory T fault = refl

module _ (T : Type 0) (q : QueueHistory) (at : ℕ) (command : Command) (fault : Fault) (refused : (outcome_at q at command).reply ≡ Err fault) where
  -- the queue that it acts in
  abbrev there : QueueHistory
  there = rebased_where (outcome_at q at command).rebases (reached q at command)

  adds : AddsFor (outcome_at q at command).event fault
  adds = told_in there command fault refused

  left : (event : Option (Event ContentText)) → is_out_of_memory {T = T} (Err fault) ≡ false → (outcome_at q at command).event ≡ event
      → after_answer {T = T} q at command (Err fault) ≡ with_optional_event there event
  left event kept is =
      ap (λ (b : Bool). cond b (reached q at command) (with_optional_event there (outcome_at q at command).event)) kept
      ∙ ap (with_optional_event there) is

  pub own-entry : is_own_refusal fault ≡ true → after_answer {T = T} q at command (Err fault) ≡ with_event there (Refused fault)
  own-entry own =
      let event : (outcome_at q at command).event ≡ Some (Refused fault) =
      subst (λ (b : Bool). MatchBool b ((outcome_at q at command).event ≡ Some (Refused fault)) (((outcome_at q at command).event ≡ None) × (is_out_of_memory {T = Reply} (Err fault) ≡ false))) own adds in
      left (Some (Refused fault)) (own-answered T fault own) event

  pub no-entry : is_own_refusal fault ≡ false → after_answer {T = T} q at command (Err fault) ≡ there
  no-entry other =
      let none : ((outcome_at q at command).event ≡ None) × (is_out_of_memory {T = Reply} (Err fault) ≡ false) =
      subst (λ (b : Bool). MatchBool b ((outcome_at q at command).event ≡ Some (Refused fault)) (((outcome_at q at command).event ≡ None) × (is_out_of_memory {T = Reply} (Err fault) ≡ false))) other adds in
      left None (same_memory T fault ∙ none.1) none.0

-- ---- every later moment

numbered-same : {X : Type 0} (p q : X → Bool) (xs : List X) (i : ℕ) → Agree p q xs → option_map_or p (slice_get xs i) false ≡ option_map_or q (slice_get xs i) false
numbered-same p q [] i h = refl
numbered-same p q (x ∷ xs) zero h = h.0
numbered-same p q (x ∷ xs) (suc i) h = numbered-same p q xs i h.1

module _ (q : QueueHistory) (fault : Fault) where
  abbrev entry : Entry ContentText
  entry = record { at = q.clock; event = Refused fault }

  abbrev after : List (Entry ContentText)
  after = q.lines ++ entry ∷ []

  now : StandsAs (with_event q (Refused fault)) q
  now = StandsAs-refused q fault

  module _ (at : ℕ) where
    abbrev clock : ℕ
    clock = (at_moment q at).clock

    expired-same : (m : Message) → m.place < length q.lines → is_expired after clock m ≡ is_expired q.lines clock m
    expired-same m h =
        let count = length-append q.lines (entry ∷ []) in
        expired-split after clock m (omega arith)
        ∙ ap (λ (b : Bool). b || runs_out_by (settings_of after) clock m) (ran_out-push q.lines entry m h ∙ or_false (ran_out_before q.lines m))
        ∙ ap (λ (s : QueueSettings). ran_out_before q.lines m || runs_out_by s clock m) (settings_from-push default_settings q.lines entry)
        ∙ sym (expired-split q.lines clock m h)

    alike : AllByRecursion (IsAlike after q.lines clock) (messages q.lines)
    alike =
        recursion_from_All (IsAlike after q.lines clock) (messages q.lines)
        (All-weaker (λ m. m.place < length q.lines) (IsAlike after q.lines clock)
        (λ m h. record { course = now.courses m; expired = expired-same m h; receives = now.receives m.number }) (messages q.lines) (all-placed q.lines))

    numbered-alike : (p r : Message → Bool) (number : ℕ) → Agree p r (messages q.lines) → is_numbered p after number ≡ is_numbered r q.lines number
    numbered-alike p r number h =
        ap (λ (ms : List Message). option_map_or p (slice_get ms number) false) now.messages ∙ numbered-same p r (messages q.lines) number h

    both : (a b c d : Bool) → a ≡ b → c ≡ d → (a && c) ≡ (b && d)
    both a b c d h k = rw (h, k) refl

    latest : (h : Handle) → eqb h.receipt (receive_count after h.number) ≡ eqb h.receipt (receive_count q.lines h.number)
    latest h = ap (eqb h.receipt) (now.receives h.number)

    stands-later : StandsAs (at_moment (with_event q (Refused fault)) at) (at_moment q at)
    stands-later = record {
      counts = gauges-alike after q.lines clock now.messages alike;
      order = order-alike after q.lines clock now.messages alike;
      messages = now.messages;
      courses = now.courses;
      receives = now.receives;
      first_receives = now.first_receives;
      last_receives = now.last_receives;
      created = now.created;
      modified = now.modified;
      closed = now.closed;
      settings = now.settings;
      waiting = now.waiting;
      accepted = now.accepted;
      given = now.given;
      in_flight = λ h.
          both (is_numbered (λ m. is_in_state InFlight after clock m) after h.number) (is_numbered (λ m. is_in_state InFlight q.lines clock m) q.lines h.number)
          (eqb h.receipt (receive_count after h.number)) (eqb h.receipt (receive_count q.lines h.number))
          (numbered-alike (λ m. is_in_state InFlight after clock m) (λ m. is_in_state InFlight q.lines clock m) h.number (agree-state after q.lines clock now.messages alike InFlight)) (latest h);
      live = λ h.
          both (is_numbered (λ m. is_live after clock m) after h.number) (is_numbered (λ m. is_live q.lines clock m) q.lines h.number)
          (eqb h.receipt (receive_count after h.number)) (eqb h.receipt (receive_count q.lines h.number))
          (numbered-alike (λ m. is_live after clock m) (λ m. is_live q.lines clock m) h.number (agree-live after q.lines clock now.messages alike)) (latest h);
    }

    expires-later : All (λ m. is_expired after clock m ≡ is_expired q.lines clock m) (messages q.lines)
    expires-later =
        All-weaker (λ m. m.place < length q.lines) (λ m. is_expired after clock m ≡ is_expired q.lines clock m) expired-same (messages q.lines) (all-placed q.lines)

  pub lasts : LastsAs (with_event q (Refused fault)) q
  lasts = record { stands = stands-later; expiry = expires-later }

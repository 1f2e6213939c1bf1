-- An entry that records a refusal changes nothing, and a refused call adds no other.
use Rattle.std.proofs.Common.{◌≡◌, ℕ, suc, ◌<◌, Bool, true, false, not, cond, ◌&&◌, ◌||◌, eqb, zero, List, [], ◌∷◌, ◌++◌, length, drop, get_or, Option, Result, Err, refl, sym, ap, subst, ◌∙◌, arith}
use Rattle.std.specs.Prelude.{filter, slice_get}
use Rattle.std.specs.Option.{option_map_or}
use Rattle.std.specs.List.{All, AllByRecursion}
use Rattle.std.proofs.lemmas.List.{append-nil, drop_all, length-append}
use Rattle.std.proofs.lemmas.List.Elements.{All-weaker, recursion_from_All}
use Rattle.std.proofs.lemmas.Option.{slice_get-get_or}
use Rattle.message.specs.declared.fault.Fault.{Fault}
use Rattle.message.specs.declared.fault.Fault.TheVariants.{QueueDoesNotExist, JournalFull}
use Rattle.message.specs.Fault.{Meets, is_out_of_memory}
use Rattle.message.specs.Content.{ContentText}
use Rattle.queue_config.specs.Settings.{QueueSettings, default_settings}
use Rattle.receipt_handle.specs.declared.handle.Handle.{Handle}
use Rattle.journal.specs.declared.entry.Entry.{Entry}
use Rattle.journal.specs.declared.entry.Event.{Event}
use Rattle.journal.specs.declared.entry.Event.TheVariants.{Refused}
use Rattle.queue_core.specs.declared.facts.Message.{Message}
use Rattle.queue_core.specs.declared.facts.Course.{Course}
use Rattle.queue_core.specs.declared.facts.Status.{Status}
use Rattle.queue_core.specs.declared.facts.Status.TheVariants.{Present, Removed, Waiting, Transferred}
use Rattle.queue_core.specs.declared.facts.MessageState.TheVariants.{InFlight}
use Rattle.queue_core.specs.declared.command.Command.{Command}
use Rattle.queue_core.specs.declared.reply.Reply.{Reply}
use Rattle.queue_core.specs.Messages.{Since, effect_of, messages, settings_of, is_expired, receive_count, first_receive_time, last_receive_time, course_after, course_from, is_closed, opens, created_time, pending_transfers, has_accepted}
use Rattle.queue_core.specs.States.{is_live, is_in_state, is_numbered}
use Rattle.queue_core.specs.Queue.{QueueHistory, rebased_where, rebases, reached, outcome_of, outcome_at, with_event, with_optional_event, after_outcome, after_answer, is_valid_handle}
use Rattle.queue_core.specs.Lasting.{StandsAs, left_by_refusal, refusal_event}
use Rattle.queue_core.specs.private.Recorded.{ran_out_before, runs_out_by}
use Rattle.queue_core.proofs.PushLemmas.{count-upto, capped-same, first-alone, first-push, last-push, or_false, settings_from-push, closed-push, accepted-push, ran_out-push, expired-split, receives-push, messages-push, numbered-place}
use Rattle.queue_core.proofs.PendingLemmas.{filter_all, pending_transfers-push}
use Rattle.queue_core.proofs.entries.TallyLemmas.{modified_from-push}
use Rattle.queue_core.proofs.minutes.CountedLemmas.{recorded_in}
use Rattle.queue_core.proofs.entries.AlikeLemmas.{Agree, IsAlike, agree-live, agree-state, gauges-alike, order-alike}

numbered-agree : {X : Type 0} (p q : X → Bool) (xs : List X) (i : ℕ) → Agree p q xs → option_map_or p (slice_get xs i) false ≡ option_map_or q (slice_get xs i) false
numbered-agree p q [] i h = refl
numbered-agree p q (x ∷ xs) zero h = h.0
numbered-agree p q (x ∷ xs) (suc i) h = numbered-agree p q xs i h.1

-- ---- one entry more, which records a refusal

module _ (at : ℕ) (fault : Fault) where
  abbrev refused : Entry ContentText
  refused = record { at = at; event = Refused fault }

  receive_count-refused : (number : ℕ) (lines : List (Entry ContentText)) → receive_count (lines ++ refused ∷ []) number ≡ receive_count lines number
  receive_count-refused number lines = receives-push lines refused number refl ∙ capped-same (receive_count lines number) (count-upto lines number)

  first_receive-refused : (number : ℕ) (lines : List (Entry ContentText)) → first_receive_time (lines ++ refused ∷ []) number ≡ first_receive_time lines number
  first_receive-refused number lines = first-push lines refused number refl ∙ first-alone (first_receive_time lines number)

  last_receive-refused : (number : ℕ) (lines : List (Entry ContentText)) → last_receive_time (lines ++ refused ∷ []) number ≡ last_receive_time lines number
  last_receive-refused number lines = last-push lines refused number refl

  created_time-refused : (lines : List (Entry ContentText)) → created_time (lines ++ refused ∷ []) ≡ created_time lines
  created_time-refused [] = refl
  created_time-refused (e ∷ es) = ap (λ (n : ℕ). cond (opens e.event) e.at (option_map_or (λ (s : Since). s.created) (effect_of e.event).since n)) (created_time-refused es)

  pending-refused : (lines : List (Entry ContentText)) → pending_transfers (lines ++ refused ∷ []) ≡ pending_transfers lines
  pending-refused lines = pending_transfers-push lines refused ∙ append-nil (filter (λ t. true) (pending_transfers lines)) ∙ filter_all (pending_transfers lines)

  course_after-refused : (number : ℕ) (status : Status) (due : ℕ) (returned : Bool)
      → course_after number (record { status = status; due = due; returned = returned }) refused ≡ record { status = status; due = due; returned = returned }
  course_after-refused number Present due returned = refl
  course_after-refused number Removed due returned = refl
  course_after-refused number (Waiting target) due returned = refl
  course_after-refused number Transferred due returned = refl

  -- the course of a message, wherever it begins
  course_from-refused : (number : ℕ) (c : Course) (place : ℕ) (lines : List (Entry ContentText)) → course_from number c (drop place (lines ++ refused ∷ [])) ≡ course_from number c (drop place lines)
  course_from-refused number c zero [] = course_after-refused number c.status c.due c.returned
  course_from-refused number c (suc place) [] = ap (λ (es : List (Entry ContentText)). course_from number c es) (drop_all place [] (omega arith))
  course_from-refused number c zero (e ∷ es) = course_from-refused number (course_after number c e) zero es
  course_from-refused number c (suc place) (e ∷ es) = course_from-refused number c place es

  module _ (lines : List (Entry ContentText)) where
    abbrev more : List (Entry ContentText)
    more = lines ++ refused ∷ []

    expired-refused : (clock : ℕ) (m : Message) → m.place < length lines → is_expired more clock m ≡ is_expired lines clock m
    expired-refused clock m h =
        let count = length-append lines (refused ∷ []) in
        expired-split more clock m (omega arith)
        ∙ ap (λ (b : Bool). b || runs_out_by (settings_of more) clock m) (ran_out-push lines refused m h ∙ or_false (ran_out_before lines m))
        ∙ ap (λ (s : QueueSettings). ran_out_before lines m || runs_out_by s clock m) (settings_from-push default_settings lines refused)
        ∙ sym (expired-split lines clock m h)

    alike-refused : (clock : ℕ) (m : Message) → m.place < length lines → IsAlike more lines clock m
    alike-refused clock m h = record { course = course_from-refused m.number m.begun m.place lines; expired = expired-refused clock m h; receives = receive_count-refused m.number lines }

-- each message's place is that of an entry
pub all-placed : (lines : List (Entry ContentText)) → All (λ m. m.place < length lines) (messages lines)
all-placed lines k d below = numbered-place lines k (get_or (messages lines) k d) (slice_get-get_or (messages lines) k d below)

module _ (q : QueueHistory) (fault : Fault) where
  abbrev after : List (Entry ContentText)
  after = q.lines ++ record { at = q.clock; event = Refused fault } ∷ []

  messages-refused : messages after ≡ messages q.lines
  messages-refused = messages-push q.lines (refused q.clock fault) ∙ append-nil (messages q.lines)

  alike : AllByRecursion (IsAlike after q.lines q.clock) (messages q.lines)
  alike =
      recursion_from_All (IsAlike after q.lines q.clock) (messages q.lines)
      (All-weaker (λ m. m.place < length q.lines) (IsAlike after q.lines q.clock) (alike-refused q.clock fault q.lines q.clock) (messages q.lines) (all-placed q.lines))

  handle-refused : (h : Handle) → is_valid_handle (with_event q (Refused fault)) h ≡ is_valid_handle q h
  handle-refused h = rw (messages-refused, receive_count-refused q.clock fault h.number q.lines) refl

  numbered-refused : (p r : Message → Bool) (number : ℕ) → Agree p r (messages q.lines) → is_numbered p after number ≡ is_numbered r q.lines number
  numbered-refused p r number h =
      ap (λ (ms : List Message). option_map_or p (slice_get ms number) false) messages-refused ∙ numbered-agree p r (messages q.lines) number h

  holds-same : (a b c d : Bool) → a ≡ b → c ≡ d → (a && c) ≡ (b && d)
  holds-same a b c d h k = rw (h, k) refl

  latest-refused : (h : Handle) → eqb h.receipt (receive_count after h.number) ≡ eqb h.receipt (receive_count q.lines h.number)
  latest-refused h = ap (eqb h.receipt) (receive_count-refused q.clock fault h.number q.lines)

  pub StandsAs-refused : StandsAs (with_event q (Refused fault)) q
  StandsAs-refused = record {
    counts = gauges-alike after q.lines q.clock messages-refused alike;
    order = order-alike after q.lines q.clock messages-refused alike;
    messages = messages-refused;
    courses = λ m. course_from-refused q.clock fault m.number m.begun m.place q.lines;
    receives = λ number. receive_count-refused q.clock fault number q.lines;
    first_receives = λ number. first_receive-refused q.clock fault number q.lines;
    last_receives = λ number. last_receive-refused q.clock fault number q.lines;
    created = created_time-refused q.clock fault q.lines;
    modified = modified_from-push 0 q.lines (refused q.clock fault) refl;
    closed = closed-push q.lines (refused q.clock fault) ∙ or_false (is_closed q.lines);
    settings = settings_from-push default_settings q.lines (refused q.clock fault);
    waiting = pending-refused q.clock fault q.lines;
    accepted = λ uid number. accepted-push q.lines (refused q.clock fault) uid number ∙ or_false (has_accepted q.lines uid number);
    given = handle-refused;
    in_flight = λ h.
        holds-same (is_numbered (λ m. is_in_state InFlight after q.clock m) after h.number) (is_numbered (λ m. is_in_state InFlight q.lines q.clock m) q.lines h.number)
        (eqb h.receipt (receive_count after h.number)) (eqb h.receipt (receive_count q.lines h.number))
        (numbered-refused (λ m. is_in_state InFlight after q.clock m) (λ m. is_in_state InFlight q.lines q.clock m) h.number (agree-state after q.lines q.clock messages-refused alike InFlight)) (latest-refused h);
    live = λ h.
        holds-same (is_numbered (λ m. is_live after q.clock m) after h.number) (is_numbered (λ m. is_live q.lines q.clock m) q.lines h.number)
        (eqb h.receipt (receive_count after h.number)) (eqb h.receipt (receive_count q.lines h.number))
        (numbered-refused (λ m. is_live after q.clock m) (λ m. is_live q.lines q.clock m) h.number (agree-live after q.lines q.clock messages-refused alike)) (latest-refused h);
  }

-- ---- a refused call

StandsAs-itself : (q : QueueHistory) → StandsAs q q
StandsAs-itself q = record { counts = refl; order = refl; messages = refl; courses = λ m. refl; receives = λ number. refl; first_receives = λ number. refl; last_receives = λ number. refl; created = refl; modified = refl; closed = refl; settings = refl; waiting = refl; accepted = λ uid number. refl; given = λ h. refl; in_flight = λ h. refl; live = λ h. refl }

StandsAs-recorded : (q : QueueHistory) (fault : Fault) → StandsAs (with_optional_event q (refusal_event fault)) q
StandsAs-recorded q QueueDoesNotExist = StandsAs-itself q
StandsAs-recorded q JournalFull = StandsAs-itself q
StandsAs-recorded q fault = StandsAs-refused q fault

module _ (r : QueueHistory) (command : Command) where
  abbrev there : QueueHistory
  there = rebased_where (rebases r command) r

  kept_memory : (b : Bool) → (b && not false) ≡ b
  kept_memory true = refl
  kept_memory false = refl

  no_memory : (b : Bool) → (b && not true) ≡ false
  no_memory true = refl
  no_memory false = refl

  stands_by : (lost : Bool) (answer : Result Reply Fault) (fault : Fault) → is_out_of_memory answer ≡ lost → answer ≡ Err fault → Meets answer (outcome_of r command).reply
      → StandsAs (after_outcome r (outcome_of r command) answer) (rebased_where (rebases r command && not (is_out_of_memory answer)) r)
  stands_by true answer fault h is meets = rw (h, no_memory (rebases r command)) (StandsAs-itself r)
  stands_by false answer fault h is meets =
      rw (h, kept_memory (rebases r command)) (subst (λ (event : Option (Event ContentText)). StandsAs (with_optional_event there event) there)
      (sym (recorded_in there command fault (sym (rw h at meets) ∙ is))) (StandsAs-recorded there fault))

pub StandsAs-refusal : (q : QueueHistory) (at : ℕ) (command : Command) (fault : Fault) → Meets {T = Reply} (Err fault) (outcome_at q at command).reply
    → StandsAs (after_answer {T = Reply} q at command (Err fault)) (left_by_refusal q at command fault)
StandsAs-refusal q at command fault meets = stands_by (reached q at command) command (is_out_of_memory {T = Reply} (Err fault)) (Err fault) fault refl refl meets

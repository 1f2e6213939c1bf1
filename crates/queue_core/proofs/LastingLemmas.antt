-- What lasts, whatever commands follow: what is removed, what has expired, and the content of a number.
use Rattle.std.proofs.Common.{◌≡◌, ℕ, ◌+◌, ◌*◌, ◌≤◌, ◌<◌, max, Bool, true, false, not, cond, ◌&&◌, ◌||◌, leb, eqb, List, [], ◌∷◌, ◌++◌, length, drop, Option, Some, None, Result, Ok, refl, sym, ap, subst, inl, inr, ◌∙◌, arith}
use Rattle.std.specs.Prelude.{IfSome, ◌-◌, nat_lt, slice_get, unwrap_or, option_map, option_and_then}
use Rattle.std.specs.Option.{option_map_or}
use Rattle.std.specs.List.{All, Contains, list_any}
use Rattle.std.proofs.lemmas.List.{drop_all}
use Rattle.std.proofs.lemmas.List.Elements.{All-contains, All-weaker}
use Rattle.std.proofs.lemmas.Bool.{leb-true, le-ltb, lt-ltb, cases_lt, false≢true}
use Rattle.message.specs.declared.fault.Fault.{Fault}
use Rattle.message.specs.declared.fault.Fault.TheVariants.{InvalidParameterValue}
use Rattle.message.specs.Fault.{is_out_of_memory}
use Rattle.message.specs.Content.{ContentText, content_size}
use Rattle.journal.specs.declared.entry.Event.{Event}
use Rattle.journal.specs.declared.entry.Event.TheVariants.{Sent}
use Rattle.queue_core.specs.declared.facts.Message.{Message}
use Rattle.queue_core.specs.declared.facts.Candidate.{Candidate}
use Rattle.queue_core.specs.declared.facts.Course.{Course}
use Rattle.queue_core.specs.declared.facts.Status.{Status}
use Rattle.queue_core.specs.declared.facts.Status.TheVariants.{Present, Removed, Waiting, Transferred}
use Rattle.queue_core.specs.declared.facts.MessageState.TheVariants.{Visible, Delayed, InFlight}
use Rattle.queue_core.specs.declared.command.Command.{Command}
use Rattle.queue_core.specs.declared.command.Command.TheVariants as commands
use Rattle.queue_core.specs.declared.command.TimedCommand.{TimedCommand}
use Rattle.queue_core.specs.declared.reply.Reply.{Reply}
use Rattle.queue_core.specs.declared.reply.Reply.TheVariants as replies
use Rattle.queue_core.specs.declared.reply.Posted.{Posted}
use Rattle.queue_core.specs.Messages.{Birth, effect_of, message_in, contains_number, messages, message_count, own_id, contents, contents_in, content_of, settings_of, opens, retention_periods, runs_out_in, is_expired, course_from, course_of, is_removed_status, is_removed, receive_count, due_time, is_returned, returns}
use Rattle.queue_core.specs.States.{is_live, same_state, message_numbered}
use Rattle.queue_core.specs.Queue.{QueueHistory, Outcome, adding, at_moment, refusal, is_at_limit, rebased, rebased_where, rebases, unless_refused, first_refusal, offered_candidates, received_event, numbers_of, leaves_clock, reached, outcome_in, outcome_of, outcome_at, with_event, with_optional_event, after_outcome, after_answer, look_of}
use Rattle.queue_core.specs.Run.{AreExact, NeverRebases, after_all}
use Rattle.queue_core.specs.Turns.{IsVisibleCandidate}
use Rattle.queue_core.specs.Lasting.{content_numbered, is_gone, is_removed_number, is_gone_number, NamesOrLetGo}
use Rattle.queue_core.proofs.entries.AlikeLemmas.{in_state}
use Rattle.queue_core.proofs.OfferLemmas.{Contains-map, offered_visible}
use Rattle.queue_core.proofs.PendingLemmas.{contains-number}
use Rattle.queue_core.proofs.commands.InPlaceLemmas.{unwanted}
use Rattle.queue_core.proofs.CauseLemmas.{IsAbout, about-outcome}
use Rattle.queue_core.proofs.Scans.{StandsAlone}
use Rattle.queue_core.proofs.PushLemmas.{Line, slice_get-append, course-push, unexpired-past, content-push, contents-push, length-contents, numbered-push, numbered-number, numbered-place, numbered-below, numbered-kept, begun_at, newborn, removed_after, removed_from}
use Rattle.queue_core.proofs.records.RecordLemmas.{expired-later, expired-push}
use Rattle.queue_core.proofs.checkpoints.GoneLemmas.{removed_based, gone_based, content_based, none_based}
use Rattle.queue_core.proofs.commands.RefusalLemmas.{all-placed}

-- ---- what is removed

removed-push : (lines : List Line) (e : Line) (m : Message) → is_removed lines m ≡ true → is_removed (lines ++ e ∷ []) m ≡ true
removed-push lines e m h =
    elim (cases_lt m.place (length lines)) [
      | inl within ↦ ap (λ (c : Course). is_removed_status c.status) (course-push lines e m within) ∙ removed_after m.number (course_of lines m).status e.event h
      | inr past ↦
          removed_from m.number m.begun (drop m.place (lines ++ e ∷ []))
          (sym (ap (λ (es : List Line). is_removed_status (course_from m.number m.begun es).status) (drop_all m.place lines past)) ∙ h)
    ]

-- ---- what has expired

-- at its own entry already, or by the entries behind that
expired-placed : (lines : List Line) (clock : ℕ) (m : Message) → m.ran_out ≡ false → is_expired lines clock m ≡ true → m.place < length lines
expired-placed lines clock m new h =
    elim (cases_lt m.place (length lines)) [ inl within ↦ within | inr past ↦ absurd (false≢true (sym (unexpired-past lines clock m past ∙ new) ∙ h)) ]

-- ---- a property of queues that lasts

pub record Lasts (P : QueueHistory → Type 0) : Type 0 where
  pub later : (q : QueueHistory) (at : ℕ) → P q → P (at_moment q at)
  pub more : (q : QueueHistory) (event : Event ContentText) → opens event ≡ false → StandsAlone event → P q → P (with_event q event)

module _ (P : QueueHistory → Type 0) (lasts : Lasts P) where
  lasts_optional : (q : QueueHistory) (event : Option (Event ContentText)) → IfSome event (IsAbout q) → P q → P (with_optional_event q event)
  lasts_optional q None h p = p
  lasts_optional q (Some event) h p = lasts.more q event h.unopened h.alone p

  lasts_cond : (b : Bool) (q r : QueueHistory) → P q → P r → P (cond b q r)
  lasts_cond true q r p s = p
  lasts_cond false q r p s = s

  lasts_reached : (q : QueueHistory) (at : ℕ) (command : Command) → P q → P (reached q at command)
  lasts_reached q at command p = lasts_cond (leaves_clock command) q (at_moment q at) p (lasts.later q at p)

  -- behind a checkpoint, where one comes first
  lasts_there : (q : QueueHistory) (command : Command) (answer : Result Reply Fault) → P q → P (rebased_where (rebases q command) q) → P (after_outcome q (outcome_of q command) answer)
  lasts_there q command answer p there =
      let w : QueueHistory = rebased_where (rebases q command) q in
      lasts_cond (is_out_of_memory answer) q (with_optional_event w (outcome_in w command).event) p (lasts_optional w (outcome_in w command).event (about-outcome w command) there)

  -- as long as no checkpoint comes
  pub lasts_in_place : (q : QueueHistory) (steps : List TimedCommand) (answers : List (Result Reply Fault)) → NeverRebases q steps answers → P q → P (after_all q steps answers)
  lasts_in_place q [] answers never p = p
  lasts_in_place q (step ∷ steps) [] never p = p
  lasts_in_place q (step ∷ steps) (answer ∷ answers) never p =
      let r : QueueHistory = reached q step.at step.command in
      let there : P r = lasts_reached q step.at step.command p in
      lasts_in_place (after_answer q step.at step.command answer) steps answers never.1
      (lasts_there r step.command answer there (subst (λ (b : Bool). P (rebased_where b r)) (sym never.0) there))

  -- and through checkpoints
  module _ (through : (q : QueueHistory) → P q → P (rebased q)) where
    pub lasts_all : (q : QueueHistory) (steps : List TimedCommand) (answers : List (Result Reply Fault)) → P q → P (after_all q steps answers)
    lasts_all q [] answers p = p
    lasts_all q (step ∷ steps) [] p = p
    lasts_all q (step ∷ steps) (answer ∷ answers) p =
        let r : QueueHistory = reached q step.at step.command in
        let there : P r = lasts_reached q step.at step.command p in
        lasts_all (after_answer q step.at step.command answer) steps answers
        (lasts_there r step.command answer there (lasts_cond (rebases r step.command) (rebased r) r (through r there) there))

-- ---- what is gone

removed-numbered : (lines : List Line) (e : Line) (number : ℕ) → is_removed_number lines number ≡ true → is_removed_number (lines ++ e ∷ []) number ≡ true
removed-numbered lines e number h = by_message (message_numbered lines number) refl h
  where
    by_message : (o : Option Message) → message_numbered lines number ≡ o → option_map_or (λ m. is_removed lines m) o false ≡ true → is_removed_number (lines ++ e ∷ []) number ≡ true
    by_message None is h = absurd (false≢true h)
    by_message (Some m) is h =
        ap (λ (o : Option Message). option_map_or (λ m. is_removed (lines ++ e ∷ []) m) o false) (numbered-kept lines e number m is)
        ∙ removed-push lines e m h

pub removed_stays : (q : QueueHistory) (steps : List TimedCommand) (answers : List (Result Reply Fault)) (number : ℕ) → is_removed_number q.lines number ≡ true
    → is_removed_number (after_all q steps answers).lines number ≡ true
removed_stays q steps answers number h =
    lasts_all (λ r. is_removed_number r.lines number ≡ true)
    (record { later = λ r at p. p; more = λ r event o alone p. removed-numbered r.lines (record { at = r.clock; event = event }) number p })
    (λ r p. removed_based r.uid r.lines r.clock number p) q steps answers h

-- a message that is gone, and one entry more or a later clock
gone-either : (removed expired removed_then expired_then : Bool) → (removed ≡ true → removed_then ≡ true) → (expired ≡ true → expired_then ≡ true) → (removed || expired) ≡ true
    → (removed_then || expired_then) ≡ true
gone-either true expired true expired_then f g h = refl
gone-either true expired false expired_then f g h = absurd (false≢true (f refl))
gone-either false expired true expired_then f g h = refl
gone-either false expired false expired_then f g h = g h

gone-later : (lines : List Line) (clock later number : ℕ) → clock ≤ later → is_gone_number lines clock number ≡ true → is_gone_number lines later number ≡ true
gone-later lines clock later number rises h = by_message (message_numbered lines number) refl h
  where
    by_message : (o : Option Message) → message_numbered lines number ≡ o → option_map_or (λ m. is_gone lines clock m) o false ≡ true → option_map_or (λ m. is_gone lines later m) o false ≡ true
    by_message None is h = absurd (false≢true h)
    by_message (Some m) is h =
        gone-either (is_removed lines m) (is_expired lines clock m) (is_removed lines m) (is_expired lines later m) (λ e. e)
        (expired-later lines clock later m (numbered-place lines number m is) rises) h

gone-numbered : (lines : List Line) (clock : ℕ) (event : Event ContentText) (number : ℕ) → opens event ≡ false → StandsAlone event → is_gone_number lines clock number ≡ true
    → is_gone_number (lines ++ record { at = clock; event = event } ∷ []) clock number ≡ true
gone-numbered lines clock event number unopened alone h = by_message (message_numbered lines number) refl h
  where
    by_message : (o : Option Message) → message_numbered lines number ≡ o → option_map_or (λ m. is_gone lines clock m) o false ≡ true
        → is_gone_number (lines ++ record { at = clock; event = event } ∷ []) clock number ≡ true
    by_message None is h = absurd (false≢true h)
    by_message (Some m) is h =
        let e : Line = record { at = clock; event = event } in
        ap (λ (o : Option Message). option_map_or (λ m. is_gone (lines ++ e ∷ []) clock m) o false) (numbered-kept lines e number m is)
        ∙ gone-either (is_removed lines m) (is_expired lines clock m) (is_removed (lines ++ e ∷ []) m) (is_expired (lines ++ e ∷ []) clock m) (removed-push lines e m)
        (expired-push lines clock event m (numbered-place lines number m is) alone unopened) h

pub gone_stays : (q : QueueHistory) (steps : List TimedCommand) (answers : List (Result Reply Fault)) (number : ℕ) → is_gone_number q.lines q.clock number ≡ true
    → is_gone_number (after_all q steps answers).lines (after_all q steps answers).clock number ≡ true
gone_stays q steps answers number h =
    lasts_all (λ r. is_gone_number r.lines r.clock number ≡ true)
    (record {
      later = λ r at p. gone-later r.lines r.clock (max r.clock at) number (omega arith) p;
      more = λ r event o alone p. gone-numbered r.lines r.clock event number o alone p;
    })
    (λ r p. gone_based r.uid r.lines r.clock number p) q steps answers h

pub expired_stays : (q : QueueHistory) (steps : List TimedCommand) (answers : List (Result Reply Fault)) (m : Message) → NeverRebases q steps answers → is_expired q.lines q.clock m ≡ true
    → is_expired (after_all q steps answers).lines (after_all q steps answers).clock m ≡ true
expired_stays q steps answers m never h = by_begun m.ran_out refl
  where
    by_begun : (b : Bool) → m.ran_out ≡ b → is_expired (after_all q steps answers).lines (after_all q steps answers).clock m ≡ true
    by_begun true out = ap (λ (b : Bool). b || list_any (λ p. runs_out_in m p) (retention_periods (after_all q steps answers).lines (after_all q steps answers).clock)) out
    by_begun false new =
        lasts_in_place (λ r. is_expired r.lines r.clock m ≡ true)
        (record {
          later = λ r at p. expired-later r.lines r.clock (max r.clock at) m (expired-placed r.lines r.clock m new p) (omega arith) p;
          more = λ r event o alone p. expired-push r.lines r.clock event m (expired-placed r.lines r.clock m new p) alone o p;
        }) q steps answers never h

-- ---- the content of a number

content-numbered : (lines : List Line) (e : Line) (content : ContentText) (number : ℕ) (o : Option Message) → message_numbered lines number ≡ o
    → option_and_then (λ m. content_of lines m) o ≡ Some content → content_numbered (lines ++ e ∷ []) number ≡ Some content
content-numbered lines e content number None is h = absurd cc
content-numbered lines e content number (Some m) is h =
    ap (option_and_then (λ (x : Message). content_of (lines ++ e ∷ []) x)) (numbered-kept lines e number m is) ∙ content-push lines e m content h

-- none of a message that was removed stays none
none-numbered : (lines : List Line) (e : Line) (number : ℕ) → content_numbered lines number ≡ None → is_removed_number lines number ≡ true → content_numbered (lines ++ e ∷ []) number ≡ None
none-numbered lines e number none h = by_message (message_numbered lines number) refl none h
  where
    by_message : (o : Option Message) → message_numbered lines number ≡ o → option_and_then (λ m. content_of lines m) o ≡ None → option_map_or (λ m. is_removed lines m) o false ≡ true
        → content_numbered (lines ++ e ∷ []) number ≡ None
    by_message None is none h = absurd (false≢true h)
    by_message (Some m) is none h =
        let below : m.number < length (contents lines) = omega (arith, numbered-number lines number m is, numbered-below lines number m is, length-contents lines) in
        ap (option_and_then (λ (x : Message). content_of (lines ++ e ∷ []) x)) (numbered-kept lines e number m is)
        ∙ ap (λ (cs : List (Option ContentText)). unwrap_or (slice_get cs m.number) None) (contents-push lines e)
        ∙ ap (λ (o : Option (Option ContentText)). unwrap_or o None)
        (slice_get-append (contents lines) (contents_in e.event) m.number
        ∙ ap (λ (b : Bool). cond b (slice_get (contents lines) m.number) (slice_get (contents_in e.event) (m.number - length (contents lines)))) (lt-ltb m.number (length (contents lines)) below))
        ∙ none

names-numbered : (lines : List Line) (e : Line) (number : ℕ) (content : ContentText) → NamesOrLetGo lines number content → NamesOrLetGo (lines ++ e ∷ []) number content
names-numbered lines e number content (inl named) = inl (content-numbered lines e content number (message_numbered lines number) refl named)
names-numbered lines e number content (inr gone) = inr (none-numbered lines e number gone.0 gone.1, removed-numbered lines e number gone.1)

names-based : (q : QueueHistory) (number : ℕ) (content : ContentText) → NamesOrLetGo q.lines number content → NamesOrLetGo (rebased q).lines number content
names-based q number content (inl named) = content_based q.uid q.lines q.clock number content named
names-based q number content (inr gone) = inr (none_based q.uid q.lines q.clock number gone.0 gone.1, removed_based q.uid q.lines q.clock number gone.1)

pub content_stays : (q : QueueHistory) (steps : List TimedCommand) (answers : List (Result Reply Fault)) (number : ℕ) (content : ContentText) → content_numbered q.lines number ≡ Some content
    → NamesOrLetGo (after_all q steps answers).lines number content
content_stays q steps answers number content h =
    lasts_all (λ r. NamesOrLetGo r.lines number content)
    (record { later = λ r at p. p; more = λ r event o alone p. names-numbered r.lines (record { at = r.clock; event = event }) number content p })
    (λ r p. names-based r number content p) q steps answers (inl h)

pub content_stays_in_place : (q : QueueHistory) (steps : List TimedCommand) (answers : List (Result Reply Fault)) (number : ℕ) (content : ContentText) → NeverRebases q steps answers
    → content_numbered q.lines number ≡ Some content → content_numbered (after_all q steps answers).lines number ≡ Some content
content_stays_in_place q steps answers number content never h =
    lasts_in_place (λ r. content_numbered r.lines number ≡ Some content)
    (record { later = λ r at p. p; more = λ r event o alone p. content-numbered r.lines (record { at = r.clock; event = event }) content number (message_numbered r.lines number) refl p }) q steps answers never h

-- the message that an entry at the end begins
content-sent : (lines : List Line) (at delay : ℕ) (content : ContentText) → content_numbered (lines ++ record { at = at; event = Sent delay content } ∷ []) (message_count lines) ≡ Some content
content-sent lines at delay content =
    let x : Line = record { at = at; event = Sent delay content } in
    let count : ℕ = message_count lines in
    let birth : Birth ContentText = record { content = Some content; delay = delay; origin = None; past = None } in
    let first : slice_get (effect_of x.event).births (count - count) ≡ Some birth = let none : count - count ≡ 0 = omega arith in ap (slice_get (birth ∷ [])) none in
    let last : message_numbered (lines ++ x ∷ []) count ≡ Some (message_in (length lines) count at birth) =
    numbered-push lines x count
    ∙ (ap (λ (b : Bool). cond b (message_numbered lines count) (begun_at lines x count)) (le-ltb count count (omega arith)) ∙ ap (option_map (message_in (length lines) count at)) first) in
    ap (option_and_then (λ (m : Message). content_of (lines ++ x ∷ []) m)) last ∙ (newborn lines x count birth (omega arith) first).content

module _ (q : QueueHistory) (content : ContentText) (delay : ℕ) (posted : Posted) where
  abbrev sending : Outcome
  sending = adding (Sent delay content) (Ok (replies.Sent (record { number = message_count q.lines; id = own_id q.uid (message_count q.lines) })))

  content-posted : (r : Option Fault) (b : Bool) → (unless_refused r (cond b (refusal InvalidParameterValue) sending)).reply ≡ Ok (replies.Sent posted)
      → content_numbered (with_optional_event q (unless_refused r (cond b (refusal InvalidParameterValue) sending)).event).lines posted.number ≡ Some content
  content-posted (Some fault) b h = absurd cc
  content-posted None true h = absurd cc
  content-posted None false h =
      let is : message_count q.lines ≡ posted.number = cc in
      ap (content_numbered (with_event q (Sent delay content)).lines) (sym is) ∙ content-sent q.lines q.clock delay content

pub content_sent : (q : QueueHistory) (at : ℕ) (content : ContentText) (delay : Option ℕ) (posted : Posted) → (outcome_at q at (commands.Send content delay)).reply ≡ Ok (replies.Sent posted)
    → content_numbered (after_answer {T = Reply} q at (commands.Send content delay) (Ok (replies.Sent posted))).lines posted.number ≡ Some content
content_sent q at content delay posted h =
    let r : QueueHistory = at_moment q at in
    let w : QueueHistory = rebased_where (rebases r (commands.Send content delay)) r in
    content-posted w content (unwrap_or delay (settings_of w.lines).delay_seconds) posted (first_refusal w)
    (nat_lt (settings_of w.lines).maximum_message_size (content_size content)) h

-- ---- a look after all steps

abbrev looked : QueueHistory → Result Reply Fault
looked q = Ok (replies.Looked (look_of q))

pub look_after : (q : QueueHistory) (steps : List TimedCommand) (answers : List (Result Reply Fault)) (at : ℕ) (answer : Result Reply Fault)
    → AreExact q (steps ++ record { at = at; command = commands.Look } ∷ []) (answers ++ answer ∷ []) → answer ≡ Ok (replies.Looked (look_of (at_moment (after_all q steps answers) at)))
look_after q [] [] at answer h =
    let r : QueueHistory = at_moment q at in
    let placed : rebases r commands.Look ≡ false = unwanted (is_at_limit r) (first_refusal r) in
    h.0 (ap (λ (b : Bool). b || false || false) placed) ∙ ap (λ (b : Bool). looked (rebased_where b r)) placed
look_after q [] (a ∷ []) at answer h = absurd h.1
look_after q [] (a ∷ b ∷ answers) at answer h = absurd h.1
look_after q (step ∷ []) [] at answer h = absurd h.1
look_after q (step ∷ other ∷ steps) [] at answer h = absurd h.1
look_after q (step ∷ steps) (a ∷ answers) at answer h = look_after (after_answer q step.at step.command a) steps answers at answer h.1

-- ---- offers and due times

shown : (live due_now never : Bool) → option_map_or (λ s. same_state Visible s) (cond live (Some (cond due_now Visible (cond never Delayed InFlight))) None) false ≡ true → due_now ≡ true
shown live true never h = refl
shown true false true h = absurd cc
shown true false false h = absurd cc
shown false false never h = absurd cc

visible-due : (clock : ℕ) (live : Bool) (due count : ℕ) (returned : Bool) → in_state Visible clock live due count returned ≡ true → due ≤ clock
visible-due clock live due count returned h = leb-true due clock (shown live (leb due clock) (eqb count 0 && not returned) h)

candidate-due : (q : QueueHistory) (c : Candidate) → IsVisibleCandidate q.lines q.clock c → due_time q.lines c.message ≤ q.clock
candidate-due q c h =
    visible-due q.clock (is_live q.lines q.clock c.message) (due_time q.lines c.message) (receive_count q.lines c.message.number) (is_returned q.lines c.message) h.visible

pub offered_due : (q : QueueHistory) (maximum : ℕ) → All (λ c. due_time q.lines c.message ≤ q.clock) (offered_candidates q maximum)
offered_due q maximum =
    All-weaker (λ c. IsVisibleCandidate q.lines q.clock c) (λ c. due_time q.lines c.message ≤ q.clock) (candidate-due q) (offered_candidates q maximum) (offered_visible q maximum)

candidate-placed : (q : QueueHistory) (c : Candidate) → IsVisibleCandidate q.lines q.clock c → c.message.place < length q.lines
candidate-placed q c h =
    All-contains (λ m. m.place < length q.lines) (messages q.lines) c.message (all-placed q.lines) h.message

returns-received : (status : Status) (q : QueueHistory) (maximum timeout : ℕ) → returns status (received_event q maximum (Some timeout)) ≡ false
returns-received Present q maximum timeout = refl
returns-received Removed q maximum timeout = refl
returns-received (Waiting target) q maximum timeout = refl
returns-received Transferred q maximum timeout = refl

pub offered_again : (q : QueueHistory) (maximum timeout : ℕ) (c : Candidate) → Contains (offered_candidates q maximum) c
    → due_time (with_event q (received_event q maximum (Some timeout))).lines c.message ≡ q.clock + 1000 * timeout
offered_again q maximum timeout c h =
    let visible : IsVisibleCandidate q.lines q.clock c = All-contains (λ x. IsVisibleCandidate q.lines q.clock x) (offered_candidates q maximum) c (offered_visible q maximum) h in
    let within = candidate-placed q c visible in
    let contained : contains_number c.message.number (numbers_of (offered_candidates q maximum)) ≡ true = contains-number c.message.number (numbers_of (offered_candidates q maximum)) (Contains-map (λ (x : Candidate). x.message.number) (offered_candidates q maximum) c h) in
    ap (λ (x : Course). x.due) (course-push q.lines (record { at = q.clock; event = received_event q maximum (Some timeout) }) c.message within)
    ∙ rw (returns-received (course_of q.lines c.message).status q maximum timeout, contained) refl

-- The definitions of a queue's numbers do not look at a content: over marks they give what they give over lines.
use Rattle.std.proofs.Common.{◌≡◌, ℕ, suc, ◌+◌, ◌==◌, ◌||◌, min, Bool, true, false, cond, List, [], ◌∷◌, ◌++◌, length, map, drop, Option, Some, None, refl, sym, ap, ◌∙◌}
use Rattle.std.specs.Prelude.{sum_by, slice_get, unwrap_or, option_map, option_and_then, option_to_list, flat_map}
use Rattle.std.specs.Option.{option_map_or}
use Rattle.std.specs.List.{list_any, find, range_with_len, AllByRecursion}
use Rattle.std.proofs.lemmas.List.FromFn.{length-map-range_with_len}
use Rattle.std.proofs.lemmas.List.{drop-map}
use Rattle.std.proofs.lemmas.List.Sums.{sum_by-cons}
use Rattle.message.specs.Content.{ContentText, content_size}
use Rattle.queue_config.specs.Settings.{QueueSettings, default_settings}
use Rattle.journal.specs.declared.entry.Entry.{Entry}
use Rattle.journal.specs.declared.entry.Event.{Event}
use Rattle.journal.specs.declared.entry.Event.TheVariants.{Sent, Base}
use Rattle.journal.specs.declared.base.KeptMessage.{KeptMessage}
use Rattle.journal.specs.Base.{BaseOf, mark_message, mark_base}
use Rattle.metric_window.specs.Flows.{greatest, row_kept}
use Rattle.queue_core.specs.declared.facts.Transfer.{Transfer}
use Rattle.queue_core.specs.declared.facts.Message.{Message}
use Rattle.queue_core.specs.declared.facts.Course.{Course}
use Rattle.queue_core.specs.declared.facts.Status.{Status}
use Rattle.queue_core.specs.declared.facts.Status.TheVariants.{Present, Removed, Waiting, Transferred}
use Rattle.queue_core.specs.Messages.{Birth, Receives, Since, never_received, kept_numbered, kept_birth, gone_birth, base_receives, kept_transfer, effect_of, message_in, messages_in, messages_from, messages, settings_after, settings_from, RetentionPeriod, closes_period, periods_from, runs_out_in, opens, created_time, offers_number, receives_in, receive_count, status_after, returns, due_after, course_after, course_from, course_of, rows_known}
use Rattle.queue_core.specs.States.{gauges_of, receive_order}
use Rattle.queue_core.specs.private.Tally.{births}
use Rattle.journal.specs.Mark.{mark_event, mark_of}
use Rattle.queue_core.proofs.entries.AlikeLemmas.{IsAlike, gauges-alike, order-alike}

-- ---- one event

kept_first-mark : (b : Bool) (m : KeptMessage ContentText) (marked : Option (KeptMessage ℕ)) (rest : Option (KeptMessage ContentText)) → marked ≡ option_map (mark_message content_size) rest
    → cond b (Some (mark_message content_size m)) marked ≡ option_map (mark_message content_size) (cond b (Some m) rest)
kept_first-mark true m marked rest h = refl
kept_first-mark false m marked rest h = h

-- a checkpoint keeps the same message under a number
kept-mark : (number : ℕ) (ms : List (KeptMessage ContentText)) → find (λ m. m.number == number) (map (mark_message content_size) ms) ≡ option_map (mark_message content_size) (find (λ m. m.number == number) ms)
kept-mark number [] = refl
kept-mark number (m ∷ ms) = kept_first-mark (m.number == number) m _ _ (kept-mark number ms)

abbrev birth_kept : {C : Type 0} → BaseOf C → ℕ → Birth C
birth_kept base number = option_map_or kept_birth (kept_numbered base number) gone_birth

message-mark : (place number at : ℕ) (o : Option (KeptMessage ContentText))
    → message_in place number at (option_map_or kept_birth (option_map (mark_message content_size) o) gone_birth) ≡ message_in place number at (option_map_or kept_birth o gone_birth)
message-mark place number at None = refl
message-mark place number at (Some m) = refl

messages-mark : (place number at : ℕ) (base : BaseOf ContentText) (numbers : List ℕ) → messages_in place number at (map (birth_kept (mark_base content_size base)) numbers) ≡ messages_in place number at (map (birth_kept base) numbers)
messages-mark place number at base [] = refl
messages-mark place number at base (n ∷ ns) =
    λ i.
    (ap (λ (o : Option (KeptMessage ℕ)). message_in place number at (option_map_or kept_birth o gone_birth)) (kept-mark n base.messages) ∙ message-mark place number at (kept_numbered base n)) i
    ∷ messages-mark place (suc number) at base ns i

messages_in-mark : (place number at : ℕ) (event : Event ContentText) → messages_in place number at (effect_of (mark_event content_size event)).births ≡ messages_in place number at (effect_of event).births
messages_in-mark place number at (Sent delay content) = refl
messages_in-mark place number at (Base base) = messages-mark place number at base (range_with_len 0 (length base.receives))
messages_in-mark place number at event = refl

births-mark : (event : Event ContentText) → births (mark_event content_size event) ≡ births event
births-mark (Sent delay content) = refl
births-mark (Base base) =
    length-map-range_with_len (birth_kept (mark_base content_size base)) 0 (length base.receives) ∙ sym (length-map-range_with_len (birth_kept base) 0 (length base.receives))
births-mark event = refl

-- what it knows needs no content
receives-kept : (count : ℕ) (o : Option (KeptMessage ContentText))
    → record { count = count; first = option_and_then (λ m. m.first_receive) (option_map (mark_message content_size) o); last = option_map_or (λ m. m.last_receive) (option_map (mark_message content_size) o) 0 }
    ≡ (let r : Receives = record { count = count; first = option_and_then (λ m. m.first_receive) o; last = option_map_or (λ m. m.last_receive) o 0 } in r)
receives-kept count None = refl
receives-kept count (Some m) = refl

receives-mark : (base : BaseOf ContentText) (number : ℕ) → base_receives (mark_base content_size base) number ≡ base_receives base number
receives-mark base number =
    ap (λ (o : Option (KeptMessage ℕ)). let r : Receives = record { count = unwrap_or (slice_get base.receives number) 0; first = option_and_then (λ m. m.first_receive) o; last = option_map_or (λ m. m.last_receive) o 0 } in r)
    (kept-mark number base.messages)
    ∙ receives-kept (unwrap_or (slice_get base.receives number) 0) (kept_numbered base number)

pending-mark : (ms : List (KeptMessage ContentText)) → flat_map (λ m. option_to_list (kept_transfer m)) (map (mark_message content_size) ms) ≡ flat_map (λ m. option_to_list (kept_transfer m)) ms
pending-mark [] = refl
pending-mark (m ∷ ms) = ap (λ (ts : List Transfer). option_to_list (kept_transfer m) ++ ts) (pending-mark ms)

since-mark : (event : Event ContentText) → (effect_of (mark_event content_size event)).since ≡ (effect_of event).since
since-mark (Sent delay content) = refl
since-mark (Base base) =
    λ i.
    Some (record {
      created = base.created;
      modified = base.modified;
      receives = λ number. receives-mark base number i;
      pending = pending-mark base.messages i;
      rows = map row_kept base.rows;
    })
since-mark event = refl

settings_after-mark : (s : QueueSettings) (event : Event ContentText) → settings_after s (mark_event content_size event) ≡ settings_after s event
settings_after-mark s (Sent delay content) = refl
settings_after-mark s event = refl

closes_period-mark : (event : Event ContentText) → closes_period (mark_event content_size event) ≡ closes_period event
closes_period-mark (Sent delay content) = refl
closes_period-mark event = refl

opens-mark : (event : Event ContentText) → opens (mark_event content_size event) ≡ opens event
opens-mark (Sent delay content) = refl
opens-mark event = refl

offers_number-mark : (number : ℕ) (event : Event ContentText) → offers_number number (mark_event content_size event) ≡ offers_number number event
offers_number-mark number (Sent delay content) = refl
offers_number-mark number event = refl

due_after-mark : (number due at : ℕ) (event : Event ContentText) → due_after number due at (mark_event content_size event) ≡ due_after number due at event
due_after-mark number due at (Sent delay content) = refl
due_after-mark number due at event = refl

status_after-mark : (number : ℕ) (status : Status) (event : Event ContentText) → status_after number status (mark_event content_size event) ≡ status_after number status event
status_after-mark number Present (Sent delay content) = refl
status_after-mark number Present event = refl
status_after-mark number Removed event = refl
status_after-mark number (Waiting target) (Sent delay content) = refl
status_after-mark number (Waiting target) event = refl
status_after-mark number Transferred (Sent delay content) = refl
status_after-mark number Transferred event = refl

returns-mark : (status : Status) (event : Event ContentText) → returns status (mark_event content_size event) ≡ returns status event
returns-mark (Waiting target) (Sent delay content) = refl
returns-mark (Waiting target) event = refl
returns-mark status event = refl

course_after-mark : (number : ℕ) (c : Course) (e : Entry ContentText) → course_after number c (mark_of content_size e) ≡ course_after number c e
course_after-mark number c e = rw (status_after-mark number c.status e.event, due_after-mark number c.due e.at e.event, returns-mark c.status e.event) refl

-- ---- all entries

pub messages_from-marks : (place number : ℕ) (lines : List (Entry ContentText)) → messages_from place number (map (mark_of content_size) lines) ≡ messages_from place number lines
messages_from-marks place number [] = refl
messages_from-marks place number (e ∷ es) =
    rw (messages_in-mark place number e.at e.event, births-mark e.event, messages_from-marks (suc place) (number + births e.event) es) refl

pub settings_from-marks : (s : QueueSettings) (lines : List (Entry ContentText)) → settings_from s (map (mark_of content_size) lines) ≡ settings_from s lines
settings_from-marks s [] = refl
settings_from-marks s (e ∷ es) =
    ap (λ (t : QueueSettings). settings_from t (map (mark_of content_size) es)) (settings_after-mark s e.event) ∙ settings_from-marks (settings_after s e.event) es

pub created_time-marks : (lines : List (Entry ContentText)) → created_time (map (mark_of content_size) lines) ≡ created_time lines
created_time-marks [] = refl
created_time-marks (e ∷ es) = rw (opens-mark e.event, since-mark e.event, created_time-marks es) refl

pub periods_from-marks : (place : ℕ) (s : QueueSettings) (clock : ℕ) (lines : List (Entry ContentText)) → periods_from place s clock (map (mark_of content_size) lines) ≡ periods_from place s clock lines
periods_from-marks place s clock [] = refl
periods_from-marks place s clock (e ∷ es) =
    rw (closes_period-mark e.event, settings_after-mark s e.event, periods_from-marks (suc place) (settings_after s e.event) clock es) refl

receives_in-mark : (number : ℕ) (event : Event ContentText) → receives_in number (mark_event content_size event) ≡ receives_in number event
receives_in-mark number event =
    λ i. (option_map_or (λ (s : Since). s.receives number) (since-mark event i) never_received).count + cond (offers_number-mark number event i) 1 0

receives-marks : (number : ℕ) (lines : List (Entry ContentText)) → sum_by (λ (x : Entry ℕ). receives_in number x.event) (map (mark_of content_size) lines) ≡ sum_by (λ (x : Entry ContentText). receives_in number x.event) lines
receives-marks number [] = refl
receives-marks number (e ∷ es) =
    sum_by-cons (λ (x : Entry ℕ). receives_in number x.event) (mark_of content_size e) (map (mark_of content_size) es)
    ∙ (λ i. receives_in-mark number e.event i + receives-marks number es i)
    ∙ sym (sum_by-cons (λ (x : Entry ContentText). receives_in number x.event) e es)

pub receive_count-marks : (number : ℕ) (lines : List (Entry ContentText)) → receive_count (map (mark_of content_size) lines) number ≡ receive_count lines number
receive_count-marks number lines = ap (λ (k : ℕ). min k greatest) (receives-marks number lines)

pub rows_known-marks : (lines : List (Entry ContentText)) → rows_known (map (mark_of content_size) lines) ≡ rows_known lines
rows_known-marks [] = refl
rows_known-marks (e ∷ es) = λ i. option_map_or (λ (s : Since). s.rows) (since-mark e.event i) [] ++ rows_known-marks es i

pub course_from-marks : (number : ℕ) (c : Course) (lines : List (Entry ContentText)) → course_from number c (map (mark_of content_size) lines) ≡ course_from number c lines
course_from-marks number c [] = refl
course_from-marks number c (e ∷ es) =
    ap (λ (d : Course). course_from number d (map (mark_of content_size) es)) (course_after-mark number c e) ∙ course_from-marks number (course_after number c e) es

pub course_of-marks : (lines : List (Entry ContentText)) (m : Message) → course_of (map (mark_of content_size) lines) m ≡ course_of lines m
course_of-marks lines m =
    ap (course_from m.number m.begun) (drop-map (mark_of content_size) m.place lines) ∙ course_from-marks m.number m.begun (drop m.place lines)

-- ---- the counts, the age and the order

-- each message stands alike in both
alike-marks : (lines : List (Entry ContentText)) (clock : ℕ) (ms : List Message) → AllByRecursion (IsAlike (map (mark_of content_size) lines) lines clock) ms
alike-marks lines clock [] = tt
alike-marks lines clock (m ∷ ms) = (
  record {
    course = course_of-marks lines m;
    expired = ap (λ (periods : List RetentionPeriod). m.ran_out || list_any (λ p. runs_out_in m p) periods) (periods_from-marks 0 default_settings clock lines);
    receives = receive_count-marks m.number lines;
  },
  alike-marks lines clock ms,
)

pub gauges_of-marks : (lines : List (Entry ContentText)) (clock : ℕ) → gauges_of (map (mark_of content_size) lines) clock ≡ gauges_of lines clock
gauges_of-marks lines clock = gauges-alike (map (mark_of content_size) lines) lines clock (messages_from-marks 0 0 lines) (alike-marks lines clock (messages lines))

pub receive_order-marks : (lines : List (Entry ContentText)) (clock : ℕ) → receive_order (map (mark_of content_size) lines) clock ≡ receive_order lines clock
receive_order-marks lines clock = order-alike (map (mark_of content_size) lines) lines clock (messages_from-marks 0 0 lines) (alike-marks lines clock (messages lines))

-- ---- lists

pub map_agree : {X Y : Type 0} (f g : X → Y) → ((x : X) → f x ≡ g x) → (xs : List X) → map f xs ≡ map g xs
map_agree f g h [] = refl
map_agree f g h (x ∷ xs) = rw (h x, map_agree f g h xs) refl

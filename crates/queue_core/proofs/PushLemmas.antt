-- What two lists of entries, one behind the other, and one entry more make of what a journal says of its messages, and which messages it has by number.
use Rattle.std.proofs.Common.{◌≡◌, ℕ, zero, suc, ◌+◌, ◌*◌, ◌≤◌, ◌<◌, Bool, true, false, cond, ◌&&◌, ◌||◌, ltb, leb, List, [], ◌∷◌, ◌++◌, length, drop, Option, Some, None, refl, sym, ap, subst, inl, inr, ◌∙◌, arith}
use Rattle.std.specs.Prelude.{◌⊎◌, ◌-◌, min, nat_lt, slice_get, option_map, unwrap_or, sum_by}
use Rattle.std.specs.Option.{option_map_or}
use Rattle.std.specs.List.{list_any, range_with_len}
use Rattle.std.proofs.Math.Seq.{drop-append_seam}
use Rattle.std.proofs.lemmas.Bool.{false≢true, lt-ltb, le-ltb, ltb-false, cases_lt, and_left, and_right, or_from}
use Rattle.std.proofs.lemmas.Grind.{flat_map-append}
use Rattle.std.proofs.lemmas.List.{append-nil, append_assoc, drop-append-le, length-append, length-map}
use Rattle.std.proofs.lemmas.List.Folds.{list_any-append}
use Rattle.std.proofs.lemmas.List.Sums.{sum_by_push, sum_by-append}
use Rattle.std.proofs.lemmas.Option.{none-some, same_Some, slice_get-map, slice_get_past, slice_get_within}
use Rattle.message.specs.Content.{ContentText}
use Rattle.queue_config.specs.Settings.{QueueSettings, default_settings}
use Rattle.journal.specs.declared.entry.Entry.{Entry}
use Rattle.journal.specs.declared.entry.Event.{Event}
use Rattle.journal.specs.declared.entry.Event.TheVariants.{Sent, Arrived, Base}
use Rattle.journal.specs.declared.base.KeptMessage.{KeptMessage}
use Rattle.metric_window.specs.Flows.{greatest}
use Rattle.queue_core.specs.declared.facts.Message.{Message}
use Rattle.queue_core.specs.declared.facts.Course.{Course}
use Rattle.queue_core.specs.declared.facts.Status.{Status}
use Rattle.queue_core.specs.declared.facts.Status.TheVariants.{Present, Removed, Waiting, Transferred}
use Rattle.queue_core.specs.declared.facts.Transfer.{Transfer}
use Rattle.queue_core.specs.Messages.{Birth, Past, Receives, Since, never_received, kept_birth, gone_birth, kept_numbered, effect_of, no_past, message_in, messages_in, messages_from, messages, message_count, contents_in, contents, content_of, settings_after, settings_from, settings_of, RetentionPeriod, closes_period, periods_from, runs_out_in, is_expired, offers_number, receives_before, receives_in, receive_count, first_of_both, first_receive_in, first_receive_time, last_receive_by, last_receive_from, last_receive_time, is_removed_status, is_removed, status_after, course_after, course_from, course_of, ends_transfer, accepts, has_accepted, closes, is_closed}
use Rattle.queue_core.specs.private.Tally.{births}
use Rattle.queue_core.specs.States.{message_numbered}
use Rattle.queue_core.proofs.Scans.{StandsAlone, by_closing, length-messages_in, births_few}
use Rattle.queue_core.specs.private.Recorded.{closed_periods_from, ran_out_before, runs_out_by}

abbrev pub Line : Type 0
Line = Entry ContentText

-- ---- tests and places

pub or_false : (b : Bool) → (b || false) ≡ b
or_false true = refl
or_false false = refl

or_assoc : (a b c : Bool) → (a || (b || c)) ≡ ((a || b) || c)
or_assoc true b c = refl
or_assoc false b c = refl

pub slice_get-prefix : {X : Type 0} (xs ys : List X) (i : ℕ) (x : X) → slice_get xs i ≡ Some x → slice_get (xs ++ ys) i ≡ Some x
slice_get-prefix [] ys i x h = absurd (none-some x h)
slice_get-prefix (z ∷ xs) ys zero x h = h
slice_get-prefix (z ∷ xs) ys (suc i) x h = slice_get-prefix xs ys i x h

-- behind a list as long as k
pub slice_get-behind : {X : Type 0} (xs ys : List X) (i k : ℕ) → i ≡ length xs + k → slice_get (xs ++ ys) i ≡ slice_get ys k
slice_get-behind [] ys i k h = let same : i ≡ k = omega arith in ap (slice_get ys) same
slice_get-behind (z ∷ xs) ys zero k h = absurd (omega arith)
slice_get-behind (z ∷ xs) ys (suc i) k h = slice_get-behind xs ys i k (omega arith)

slice_get-before : {X : Type 0} (xs ys : List X) (i : ℕ) → i < length xs → slice_get (xs ++ ys) i ≡ slice_get xs i
slice_get-before [] ys i h = absurd (omega arith)
slice_get-before (z ∷ xs) ys zero h = refl
slice_get-before (z ∷ xs) ys (suc i) h = slice_get-before xs ys i (omega arith)

pub slice_get-append : {X : Type 0} (xs ys : List X) (i : ℕ) → slice_get (xs ++ ys) i ≡ cond (ltb i (length xs)) (slice_get xs i) (slice_get ys (i - length xs))
slice_get-append xs ys i = elim (cases_lt i (length xs)) [
  | inl before ↦ slice_get-before xs ys i before ∙ ap (λ (b : Bool). cond b (slice_get xs i) (slice_get ys (i - length xs))) (sym (lt-ltb i (length xs) before))
  | inr behind ↦
      slice_get-behind xs ys i (i - length xs) (omega arith)
      ∙ ap (λ (b : Bool). cond b (slice_get xs i) (slice_get ys (i - length xs))) (sym (le-ltb i (length xs) behind))
]

-- the only element
pub slice_get-only : {X : Type 0} (x y : X) (i : ℕ) → slice_get (x ∷ []) i ≡ Some y → (i ≡ 0) × (x ≡ y)
slice_get-only x y zero h = (refl, same_Some x y h)
slice_get-only x y (suc i) h = absurd (none-some y h)

-- what a mapped option has
pub mapped_some : {X Y : Type 0} (f : X → Y) (o : Option X) (y : Y) → option_map f o ≡ Some y → (x : X) × (o ≡ Some x) × (f x ≡ y)
mapped_some f None y h = absurd (none-some y h)
mapped_some f (Some x) y h = (x, refl, same_Some (f x) y h)

any-push : {X : Type 0} (test : X → Bool) (xs : List X) (x : X) → list_any test (xs ++ x ∷ []) ≡ (list_any test xs || test x)
any-push test xs x = list_any-append test xs (x ∷ []) ∙ ap (λ (b : Bool). list_any test xs || b) (or_false (test x))

-- ---- settings, the queue's end, and what was accepted

pub settings_from-append : (s : QueueSettings) (xs ys : List Line) → settings_from s (xs ++ ys) ≡ settings_from (settings_from s xs) ys
settings_from-append s [] ys = refl
settings_from-append s (x ∷ xs) ys = settings_from-append (settings_after s x.event) xs ys

pub settings_from-push : (s : QueueSettings) (lines : List Line) (e : Line) → settings_from s (lines ++ e ∷ []) ≡ settings_after (settings_from s lines) e.event
settings_from-push s lines e = settings_from-append s lines (e ∷ [])

pub closed-push : (lines : List Line) (e : Line) → is_closed (lines ++ e ∷ []) ≡ (is_closed lines || closes e.event)
closed-push lines e = any-push (λ (x : Line). closes x.event) lines e

pub accepted-push : (lines : List Line) (e : Line) (uid number : ℕ) → has_accepted (lines ++ e ∷ []) uid number ≡ (has_accepted lines uid number || accepts uid number e.event)
accepted-push lines e uid number = any-push (λ (x : Line). accepts uid number x.event) lines e

-- ---- where a message stands

pub course_from-append : (number : ℕ) (c : Course) (xs ys : List Line) → course_from number c (xs ++ ys) ≡ course_from number (course_from number c xs) ys
course_from-append number c [] ys = refl
course_from-append number c (x ∷ xs) ys = course_from-append number (course_after number c x) xs ys

pub course-push : (lines : List Line) (e : Line) (m : Message) → m.place < length lines → course_of (lines ++ e ∷ []) m ≡ course_after m.number (course_of lines m) e
course-push lines e m h =
    ap (course_from m.number m.begun) (drop-append-le m.place lines (e ∷ []) (omega arith)) ∙ course_from-append m.number m.begun (drop m.place lines) (e ∷ [])

-- ---- retention

abbrev period : ℕ → QueueSettings → ℕ → RetentionPeriod
period place s end = record { retention = s.retention_seconds; end = end; closing = place }

cond-append : (b : Bool) (here : RetentionPeriod) (xs ys : List RetentionPeriod) → cond b (here ∷ (xs ++ ys)) (xs ++ ys) ≡ cond b (here ∷ xs) xs ++ ys
cond-append true here xs ys = refl
cond-append false here xs ys = refl

-- the periods that are over in two lists of entries, one behind the other
pub closed_periods_from-append : (place : ℕ) (s : QueueSettings) (xs ys : List Line) (end : ℕ) → end ≡ place + length xs
    → closed_periods_from place s (xs ++ ys) ≡ closed_periods_from place s xs ++ closed_periods_from end (settings_from s xs) ys
closed_periods_from-append place s [] ys end h =
    let here : place ≡ end = omega arith in
    ap (λ (i : ℕ). closed_periods_from i s ys) here
closed_periods_from-append place s (x ∷ xs) ys end h =
    let after : QueueSettings = settings_after s x.event in
    ap (λ (ps : List RetentionPeriod). cond (closes_period x.event) (period place s x.at ∷ ps) ps) (closed_periods_from-append (suc place) after xs ys end (omega arith))
    ∙ cond-append (closes_period x.event) (period place s x.at) (closed_periods_from (suc place) after xs) (closed_periods_from end (settings_from after xs) ys)

module _ (test : RetentionPeriod → Bool) where
  -- the periods behind one entry, where those behind it are one more
  any-entry : (b : Bool) (here : RetentionPeriod) (xs ys : List RetentionPeriod) (last : Bool) → list_any test ys ≡ (list_any test xs || last)
      → list_any test (cond b (here ∷ ys) ys) ≡ (list_any test (cond b (here ∷ xs) xs) || last)
  any-entry b here xs ys last h =
      by_closing b test here ys
      ∙ (ap (λ (c : Bool). (b && test here) || c) h
      ∙ (or_assoc (b && test here) (list_any test xs) last ∙ ap (λ (c : Bool). c || last) (sym (by_closing b test here xs))))

  any-closed-push : (place : ℕ) (s : QueueSettings) (lines : List Line) (e : Line) (closing : ℕ) → closing ≡ place + length lines
      → list_any test (closed_periods_from place s (lines ++ e ∷ [])) ≡ (list_any test (closed_periods_from place s lines) || (closes_period e.event && test (period closing (settings_from s lines) e.at)))
  any-closed-push place s lines e closing h =
      ap (list_any test) (closed_periods_from-append place s lines (e ∷ []) closing h)
      ∙ (list_any-append test (closed_periods_from place s lines) (closed_periods_from closing (settings_from s lines) (e ∷ []))
      ∙ ap (λ (b : Bool). list_any test (closed_periods_from place s lines) || b)
      (by_closing (closes_period e.event) test (period closing (settings_from s lines) e.at) [] ∙ or_false (closes_period e.event && test (period closing (settings_from s lines) e.at))))

  -- all periods are those that are over, and the open one
  any-periods : (place : ℕ) (s : QueueSettings) (clock : ℕ) (lines : List Line) (closing : ℕ) → closing ≡ place + length lines
      → list_any test (periods_from place s clock lines) ≡ (list_any test (closed_periods_from place s lines) || test (period closing (settings_from s lines) clock))
  any-periods place s clock [] closing h =
      let here : place ≡ closing = omega arith in
      or_false (test (period place s clock)) ∙ ap (λ (i : ℕ). test (period i s clock)) here
  any-periods place s clock (x ∷ xs) closing h =
      any-entry (closes_period x.event) (period place s x.at) (closed_periods_from (suc place) (settings_after s x.event) xs) (periods_from (suc place) (settings_after s x.event) clock xs)
      (test (period closing (settings_from s (x ∷ xs)) clock)) (any-periods (suc place) (settings_after s x.event) clock xs closing (omega arith))

-- the period in force behind a message's entry
runs_out-behind : (lines : List Line) (end : ℕ) (m : Message) → m.place < length lines
    → runs_out_in m (period (length lines) (settings_of lines) end) ≡ runs_out_by (settings_of lines) end m
runs_out-behind lines end m h = ap (λ (b : Bool). b && runs_out_by (settings_of lines) end m) (lt-ltb m.place (length lines) h)

pub ran_out-push : (lines : List Line) (e : Line) (m : Message) → m.place < length lines
    → ran_out_before (lines ++ e ∷ []) m ≡ (ran_out_before lines m || (closes_period e.event && runs_out_by (settings_of lines) e.at m))
ran_out-push lines e m h =
    ap (λ (b : Bool). m.ran_out || b) (any-closed-push (λ p. runs_out_in m p) 0 default_settings lines e (length lines) (omega arith))
    ∙ or_assoc m.ran_out (list_any (λ p. runs_out_in m p) (closed_periods_from 0 default_settings lines)) (closes_period e.event && runs_out_in m (period (length lines) (settings_of lines) e.at))
    ∙ ap (λ (b : Bool). ran_out_before lines m || (closes_period e.event && b)) (runs_out-behind lines e.at m h)

pub expired-split : (lines : List Line) (clock : ℕ) (m : Message) → m.place < length lines
    → is_expired lines clock m ≡ (ran_out_before lines m || runs_out_by (settings_of lines) clock m)
expired-split lines clock m h =
    ap (λ (b : Bool). m.ran_out || b) (any-periods (λ p. runs_out_in m p) 0 default_settings clock lines (length lines) (omega arith))
    ∙ or_assoc m.ran_out (list_any (λ p. runs_out_in m p) (closed_periods_from 0 default_settings lines)) (runs_out_in m (period (length lines) (settings_of lines) clock))
    ∙ ap (λ (b : Bool). ran_out_before lines m || b) (runs_out-behind lines clock m h)

-- ---- receives

-- a sum that stops at the greatest number
capped-more : (most a b : ℕ) → min (a + b) most ≡ min (min a most + b) most
capped-more most a b = omega arith

-- a count is within it already
pub count-upto : (lines : List Line) (n : ℕ) → receive_count lines n ≤ greatest
count-upto lines n = omega arith

pub capped-same : (k : ℕ) → k ≤ greatest → min (k + 0) greatest ≡ k
capped-same k h = omega arith

-- two such sums together
capped-both : (most a b : ℕ) → min (a + b) most ≡ min (min a most + min b most) most
capped-both most a b = omega arith

pub receives-append : (xs ys : List Line) (n : ℕ) → receive_count (xs ++ ys) n ≡ min (receive_count xs n + receive_count ys n) greatest
receives-append xs ys n =
    ap (λ (k : ℕ). min k greatest) (sum_by-append (λ (x : Line). receives_in n x.event) xs ys)
    ∙ capped-both greatest (sum_by (λ (x : Line). receives_in n x.event) xs) (sum_by (λ (x : Line). receives_in n x.event) ys)

receives-told : (lines : List Line) (e : Line) (n : ℕ) → receive_count (lines ++ e ∷ []) n ≡ min (receive_count lines n + receives_in n e.event) greatest
receives-told lines e n =
    ap (λ (k : ℕ). min k greatest) (sum_by_push (λ (x : Line). receives_in n x.event) lines e)
    ∙ capped-more greatest (sum_by (λ (x : Line). receives_in n x.event) lines) (receives_in n e.event)

pub first-alone : (a : Option ℕ) → first_of_both a None ≡ a
first-alone None = refl
first-alone (Some time) = refl

first-assoc : (a b c : Option ℕ) → first_of_both a (first_of_both b c) ≡ first_of_both (first_of_both a b) c
first-assoc None b c = refl
first-assoc (Some time) b c = refl

pub first-append : (xs ys : List Line) (n : ℕ) → first_receive_time (xs ++ ys) n ≡ first_of_both (first_receive_time xs n) (first_receive_time ys n)
first-append [] ys n = refl
first-append (x ∷ xs) ys n =
    ap (first_of_both (first_receive_in n x)) (first-append xs ys n) ∙ first-assoc (first_receive_in n x) (first_receive_time xs n) (first_receive_time ys n)

first-told : (lines : List Line) (e : Line) (n : ℕ) → first_receive_time (lines ++ e ∷ []) n ≡ first_of_both (first_receive_time lines n) (first_receive_in n e)
first-told lines e n = first-append lines (e ∷ []) n ∙ ap (first_of_both (first_receive_time lines n)) (first-alone (first_receive_in n e))

pub last_receive_from-append : (n time : ℕ) (xs ys : List Line) → last_receive_from n time (xs ++ ys) ≡ last_receive_from n (last_receive_from n time xs) ys
last_receive_from-append n time [] ys = refl
last_receive_from-append n time (x ∷ xs) ys = last_receive_from-append n (last_receive_by n time x) xs ys

none-more : (k : ℕ) → 0 + k ≡ k
none-more k = omega arith

-- an event that is no checkpoint tells of its own receives
module _ {C : Type 0} (n : ℕ) (e : Entry C) (alone : StandsAlone e.event) where
  before-alone : receives_before n e.event ≡ never_received
  before-alone = ap (λ (s : Option Since). option_map_or (λ (x : Since). x.receives n) s never_received) alone

  pub receives_in-alone : receives_in n e.event ≡ cond (offers_number n e.event) 1 0
  receives_in-alone = ap (λ (r : Receives). r.count + cond (offers_number n e.event) 1 0) before-alone ∙ none-more (cond (offers_number n e.event) 1 0)

  pub first_receive_in-alone : first_receive_in n e ≡ cond (offers_number n e.event) (Some e.at) None
  first_receive_in-alone = ap (λ (r : Receives). cond (offers_number n e.event) (Some e.at) r.first) before-alone

  pub last_receive_by-alone : (time : ℕ) → last_receive_by n time e ≡ cond (offers_number n e.event) e.at time
  last_receive_by-alone time = ap (λ (s : Option Since). cond (offers_number n e.event) e.at (option_map_or (λ (x : Since). (x.receives n).last) s time)) alone

module _ (lines : List Line) (e : Line) (n : ℕ) (alone : StandsAlone e.event) where
  pub receives-push : receive_count (lines ++ e ∷ []) n ≡ min (receive_count lines n + cond (offers_number n e.event) 1 0) greatest
  receives-push = receives-told lines e n ∙ ap (λ (k : ℕ). min (receive_count lines n + k) greatest) (receives_in-alone n e alone)

  pub first-push : first_receive_time (lines ++ e ∷ []) n ≡ first_of_both (first_receive_time lines n) (cond (offers_number n e.event) (Some e.at) None)
  first-push = first-told lines e n ∙ ap (first_of_both (first_receive_time lines n)) (first_receive_in-alone n e alone)

  pub last-push : last_receive_time (lines ++ e ∷ []) n ≡ cond (offers_number n e.event) e.at (last_receive_time lines n)
  last-push = last_receive_from-append n 0 lines (e ∷ []) ∙ last_receive_by-alone n e alone (last_receive_time lines n)

-- ---- contents

pub contents-append : {C : Type 0} (xs ys : List (Entry C)) → contents (xs ++ ys) ≡ contents xs ++ contents ys
contents-append {C} xs ys = flat_map-append (λ (x : Entry C). contents_in x.event) xs ys

pub contents-push : {C : Type 0} (lines : List (Entry C)) (e : Entry C) → contents (lines ++ e ∷ []) ≡ contents lines ++ contents_in e.event
contents-push {C} lines e =
    contents-append lines (e ∷ []) ∙ ap (λ (cs : List (Option C)). contents lines ++ cs) (append-nil (contents_in e.event))

-- what is there of a content is there
pub contained : {C : Type 0} (o : Option (Option C)) (content : C) → unwrap_or o None ≡ Some content → o ≡ Some (Some content)
contained None content h = absurd (none-some content h)
contained (Some x) content h = ap (λ (c : Option _). Some c) h

pub content-push : (lines : List Line) (e : Line) (m : Message) (content : ContentText) → content_of lines m ≡ Some content → content_of (lines ++ e ∷ []) m ≡ Some content
content-push lines e m content h =
    ap (λ (o : Option (Option ContentText)). unwrap_or o None)
    (ap (λ (cs : List (Option ContentText)). slice_get cs m.number) (contents-push lines e)
    ∙ slice_get-prefix (contents lines) (contents_in e.event) m.number (Some content) (contained (slice_get (contents lines) m.number) content h))

-- ---- the messages by number

-- those of two lists of entries, one behind the other
pub messages_from-append : {C : Type 0} (place number : ℕ) (xs ys : List (Entry C)) (end next : ℕ) → end ≡ place + length xs → next ≡ number + length (messages_from place number xs)
    → messages_from place number (xs ++ ys) ≡ messages_from place number xs ++ messages_from end next ys
messages_from-append place number [] ys end next h k =
    let p : place ≡ end = omega arith in
    let n : number ≡ next = omega arith in
    ap (λ (i : ℕ). messages_from i number ys) p ∙ ap (λ (i : ℕ). messages_from end i ys) n
messages_from-append place number (x ∷ xs) ys end next h k =
    let begun = messages_in place number x.at (effect_of x.event).births in
    let rest = messages_from (suc place) (number + births x.event) xs in
    ap (λ (ms : List Message). begun ++ ms)
    (messages_from-append (suc place) (number + births x.event) xs ys end next (omega arith) (omega (arith, length-append begun rest, length-messages_in place number x.at (effect_of x.event).births)))
    ∙ sym (append_assoc begun rest (messages_from end next ys))

pub messages-append : {C : Type 0} (xs ys : List (Entry C)) → messages (xs ++ ys) ≡ messages xs ++ messages_from (length xs) (message_count xs) ys
messages-append xs ys = messages_from-append 0 0 xs ys (length xs) (message_count xs) (omega arith) (omega arith)

-- those that an entry begins behind others
abbrev pub begun_by : {C : Type 0} → List (Entry C) → Entry C → List Message
begun_by lines e = messages_in (length lines) (message_count lines) e.at (effect_of e.event).births

pub messages-push : {C : Type 0} (lines : List (Entry C)) (e : Entry C) → messages (lines ++ e ∷ []) ≡ messages lines ++ begun_by lines e
messages-push lines e = messages-append lines (e ∷ []) ∙ ap (λ (ms : List Message). messages lines ++ ms) (append-nil (begun_by lines e))

pub count-push : {C : Type 0} (lines : List (Entry C)) (e : Entry C) → message_count (lines ++ e ∷ []) ≡ message_count lines + births e.event
count-push lines e =
    ap (λ (ms : List Message). length ms) (messages-push lines e)
    ∙ (length-append (messages lines) (begun_by lines e)
    ∙ ap (λ (n : ℕ). message_count lines + n) (length-messages_in (length lines) (message_count lines) e.at (effect_of e.event).births))

pub numbered_in : {C : Type 0} (place number at : ℕ) (bs : List (Birth C)) (i n : ℕ) → n ≡ number + i → slice_get (messages_in place number at bs) i ≡ option_map (message_in place n at) (slice_get bs i)
numbered_in place number at [] i n h = refl
numbered_in place number at (b ∷ bs) zero n h = let same : number ≡ n = omega arith in ap (λ (k : ℕ). Some (message_in place k at b)) same
numbered_in place number at (b ∷ bs) (suc i) n h = numbered_in place (suc number) at bs i n (omega arith)

-- the message of a number, where an entry begins it behind others
abbrev pub begun_at : {C : Type 0} → List (Entry C) → Entry C → ℕ → Option Message
begun_at lines e n = option_map (message_in (length lines) n e.at) (slice_get (effect_of e.event).births (n - message_count lines))

pub numbered-push : {C : Type 0} (lines : List (Entry C)) (e : Entry C) (n : ℕ)
    → message_numbered (lines ++ e ∷ []) n ≡ cond (nat_lt n (message_count lines)) (message_numbered lines n) (begun_at lines e n)
numbered-push lines e n =
    ap (λ (ms : List Message). slice_get ms n) (messages-push lines e)
    ∙ (slice_get-append (messages lines) (begun_by lines e) n
    ∙ elim (cases_lt n (message_count lines)) [
      | inl before ↦ rw (lt-ltb n (message_count lines) before) refl
      | inr behind ↦ rw (le-ltb n (message_count lines) behind)
          (numbered_in (length lines) (message_count lines) e.at (effect_of e.event).births (n - message_count lines) n (omega arith))
    ])

-- a message's number is its place among the messages, and its own place one of the entries
abbrev IsPlaced : ℕ → ℕ → Message → Type 0
IsPlaced number end m = (m.number ≡ number) × (m.place < end)

placed_in : {C : Type 0} (place number at : ℕ) (bs : List (Birth C)) (rest : List Message) (end next : ℕ) (n : ℕ) (m : Message) → place < end → next ≡ number + length bs
    → ((k : ℕ) → slice_get rest k ≡ Some m → IsPlaced (next + k) end m) → slice_get (messages_in place number at bs ++ rest) n ≡ Some m → IsPlaced (number + n) end m
placed_in place number at [] rest end next n m below is f h = let p = f n h in (omega (arith, p.0), p.1)
placed_in place number at (b ∷ bs) rest end next zero m below is f h =
    let same = same_Some (message_in place number at b) m h in
    (let own = ap (λ (x : Message). x.number) (sym same) in omega arith, let own = ap (λ (x : Message). x.place) (sym same) in omega arith)
placed_in place number at (b ∷ bs) rest end next (suc n) m below is f h = let p = placed_in place (suc number) at bs rest end next n m below (omega arith) f h in (omega (arith, p.0), p.1)

placed_from : {C : Type 0} (place number : ℕ) (lines : List (Entry C)) (end : ℕ) → end ≡ place + length lines → (n : ℕ) (m : Message) → slice_get (messages_from place number lines) n ≡ Some m
    → IsPlaced (number + n) end m
placed_from place number [] end is n m h = absurd (none-some m h)
placed_from place number (x ∷ xs) end is n m h =
    placed_in place number x.at (effect_of x.event).births (messages_from (suc place) (number + births x.event) xs) end (number + births x.event) n m (omega arith) refl
    (λ k. placed_from (suc place) (number + births x.event) xs end (omega arith) k m) h

pub numbered-number : {C : Type 0} (lines : List (Entry C)) (n : ℕ) (m : Message) → message_numbered lines n ≡ Some m → m.number ≡ n
numbered-number lines n m h = let p = placed_from 0 0 lines (length lines) (omega arith) n m h in omega (arith, p.0)

pub numbered-place : {C : Type 0} (lines : List (Entry C)) (n : ℕ) (m : Message) → message_numbered lines n ≡ Some m → m.place < length lines
numbered-place lines n m h = let p = placed_from 0 0 lines (length lines) (omega arith) n m h in p.1

pub numbered-below : {C : Type 0} (lines : List (Entry C)) (n : ℕ) (m : Message) → message_numbered lines n ≡ Some m → n < message_count lines
numbered-below lines n m h = slice_get_within (messages lines) n m h

pub numbered-past : {C : Type 0} (lines : List (Entry C)) (n : ℕ) → message_count lines ≤ n → message_numbered lines n ≡ None
numbered-past lines n h = slice_get_past (messages lines) n h

-- ---- each message has a content

contents_from : {C : Type 0} (place number : ℕ) (lines : List (Entry C)) → length (contents lines) ≡ length (messages_from place number lines)
contents_from {C} place number [] = refl
contents_from {C} place number (e ∷ es) =
    let rest = contents_from (suc place) (number + births e.event) es in
    let one = length-append (contents_in e.event) (contents es) in
    let other = length-append (messages_in place number e.at (effect_of e.event).births) (messages_from (suc place) (number + births e.event) es) in
    omega (arith, length-map (effect_of e.event).births (λ (b : Birth C). b.content), length-messages_in place number e.at (effect_of e.event).births)

pub length-contents : {C : Type 0} (lines : List (Entry C)) → length (contents lines) ≡ message_count lines
length-contents lines = contents_from 0 0 lines

-- ---- the message of a number, one entry on

-- the message that an entry begins
abbrev pub IsNew : {C : Type 0} → List (Entry C) → Entry C → ℕ → Message → Type 0
IsNew lines e n m = (message_count lines ≤ n) × (begun_at lines e n ≡ Some m)

module _ (lines : List Line) (e : Line) (n : ℕ) (m : Message) where
  numbered_by : (b : Bool) → nat_lt n (message_count lines) ≡ b → cond b (message_numbered lines n) (begun_at lines e n) ≡ Some m → (message_numbered lines n ≡ Some m) ⊎ IsNew lines e n m
  numbered_by true is h = inl h
  numbered_by false is h = inr (ltb-false n (message_count lines) is, h)

  pub numbered-cases : message_numbered (lines ++ e ∷ []) n ≡ Some m → (message_numbered lines n ≡ Some m) ⊎ IsNew lines e n m
  numbered-cases h = numbered_by (nat_lt n (message_count lines)) refl (sym (numbered-push lines e n) ∙ h)

  pub numbered-kept : message_numbered lines n ≡ Some m → message_numbered (lines ++ e ∷ []) n ≡ Some m
  numbered-kept h =
      numbered-push lines e n ∙ ap (λ (b : Bool). cond b (message_numbered lines n) (begun_at lines e n)) (lt-ltb n (message_count lines) (numbered-below lines n m h)) ∙ h

  pub course-kept : message_numbered lines n ≡ Some m → course_of (lines ++ e ∷ []) m ≡ course_after n (course_of lines m) e
  course-kept h =
      course-push lines e m (numbered-place lines n m h)
      ∙ ap (λ (i : ℕ). course_after i (course_of lines m) e) (numbered-number lines n m h)

-- ---- a message at its own entry

pub record IsNewborn (lines : List Line) (e : Line) (text : Option ContentText) (m : Message) : Type 0 where
  pub content : content_of (lines ++ e ∷ []) m ≡ text
  pub course : course_of (lines ++ e ∷ []) m ≡ m.begun
  pub ran_out : ran_out_before (lines ++ e ∷ []) m ≡ m.ran_out

-- an event that begins a message leaves every message where it stands
course-birth : (number due at i : ℕ) (returned : Bool) (status : Status) (event : Event ContentText) (b : Birth ContentText) → slice_get (effect_of event).births i ≡ Some b
    → course_after number (record { status = status; due = due; returned = returned }) (record { at = at; event = event }) ≡ record { status = status; due = due; returned = returned }
course-birth number due at i returned Present (Sent delay content) b h = refl
course-birth number due at i returned Removed (Sent delay content) b h = refl
course-birth number due at i returned (Waiting target) (Sent delay content) b h = refl
course-birth number due at i returned Transferred (Sent delay content) b h = refl
course-birth number due at i returned Present (Arrived origin content) b h = refl
course-birth number due at i returned Removed (Arrived origin content) b h = refl
course-birth number due at i returned (Waiting target) (Arrived origin content) b h = refl
course-birth number due at i returned Transferred (Arrived origin content) b h = refl
course-birth number due at i returned Present (Base base) b h = refl
course-birth number due at i returned Removed (Base base) b h = refl
course-birth number due at i returned (Waiting target) (Base base) b h = refl
course-birth number due at i returned Transferred (Base base) b h = refl
course-birth number due at i returned status event b h = absurd cc

-- no period that ends up to a message's entry counts for it
none_ran_out : (place : ℕ) (s : QueueSettings) (lines : List Line) (m : Message) → place + length lines ≤ m.place + 1 → list_any (λ p. runs_out_in m p) (closed_periods_from place s lines) ≡ false
none_ran_out place s [] m h = refl
none_ran_out place s (x ∷ xs) m h =
    let before : place ≤ m.place = omega arith in
    let here = and_right (closes_period x.event) (runs_out_in m (period place s x.at)) (and_left (ltb m.place place) (leb (m.first_send_time + 1000 * s.retention_seconds) x.at) (le-ltb m.place place before)) in
    by_closing (closes_period x.event) (λ p. runs_out_in m p) (period place s x.at) (closed_periods_from (suc place) (settings_after s x.event) xs)
    ∙ or_from (closes_period x.event && runs_out_in m (period place s x.at)) (list_any (λ p. runs_out_in m p) (closed_periods_from (suc place) (settings_after s x.event) xs)) here
    (none_ran_out (suc place) (settings_after s x.event) xs m (omega arith))

-- what has not come has expired only where it had before
pub unexpired-past : (lines : List Line) (clock : ℕ) (m : Message) → length lines ≤ m.place → is_expired lines clock m ≡ m.ran_out
unexpired-past lines clock m h =
    let closed : List RetentionPeriod = closed_periods_from 0 default_settings lines in
    ap (λ (b : Bool). m.ran_out || b)
    (any-periods (λ p. runs_out_in m p) 0 default_settings clock lines (length lines) (omega arith)
    ∙ or_from (list_any (λ p. runs_out_in m p) closed) (runs_out_in m (period (length lines) (settings_of lines) clock)) (none_ran_out 0 default_settings lines m (omega arith))
    (and_left (ltb m.place (length lines)) (runs_out_by (settings_of lines) clock m) (le-ltb m.place (length lines) h)))
    ∙ or_false m.ran_out

pub newborn : (lines : List Line) (e : Line) (n : ℕ) (b : Birth ContentText) → message_count lines ≤ n → slice_get (effect_of e.event).births (n - message_count lines) ≡ Some b
    → IsNewborn lines e b.content (message_in (length lines) n e.at b)
newborn lines e n b past h =
    let m = message_in (length lines) n e.at b in
    let count = length-append lines (e ∷ []) in
    record {
      content =
          ap (λ (o : Option (Option ContentText)). unwrap_or o None)
          (ap (λ (cs : List (Option ContentText)). slice_get cs n) (contents-push lines e)
          ∙ (slice_get-behind (contents lines) (contents_in e.event) n (n - message_count lines) (omega (arith, length-contents lines))
          ∙ (slice_get-map (λ (x : Birth ContentText). x.content) (effect_of e.event).births (n - message_count lines) ∙ ap (option_map (λ (x : Birth ContentText). x.content)) h)));
      course =
          ap (course_from n m.begun) (drop-append_seam lines (e ∷ [])) ∙ course-birth n m.begun.due e.at (n - message_count lines) m.begun.returned m.begun.status e.event b h;
      ran_out = ap (λ (x : Bool). m.ran_out || x) (none_ran_out 0 default_settings (lines ++ e ∷ []) m (omega arith)) ∙ or_false m.ran_out;
    }

-- a message that an entry begins is that of a birth
pub new_birth : (lines : List Line) (e : Line) (n : ℕ) (m : Message) → IsNew lines e n m
    → (b : Birth ContentText) × (slice_get (effect_of e.event).births (n - message_count lines) ≡ Some b) × (message_in (length lines) n e.at b ≡ m)
new_birth lines e n m new = mapped_some (message_in (length lines) n e.at) (slice_get (effect_of e.event).births (n - message_count lines)) m new.1

-- and its number is the next one, where the entry is no checkpoint
pub new_number : (lines : List Line) (e : Line) (n : ℕ) (m : Message) → StandsAlone e.event → IsNew lines e n m → n ≡ message_count lines
new_number lines e n m alone new =
    let b = new_birth lines e n m new in
    let past = new.0 in
    let within = slice_get_within (effect_of e.event).births (n - message_count lines) b.0 b.1 in
    omega (arith, births_few e.event alone)

pub new_course : (lines : List Line) (e : Line) (n : ℕ) (m : Message) → IsNew lines e n m → course_of (lines ++ e ∷ []) m ≡ m.begun
new_course lines e n m new =
    let b = new_birth lines e n m new in
    subst (λ (x : Message). course_of (lines ++ e ∷ []) x ≡ x.begun) b.2 (newborn lines e n b.0 new.0 b.1).course

-- ---- a message that begins with an event that is no checkpoint

-- it was not there before, and has a content
pub record IsFresh {C : Type 0} (b : Birth C) : Type 0 where
  pub past : ◌≡◌ {A = Option Past} b.past None
  pub text : C
  pub contained : b.content ≡ Some text

pub fresh : {C : Type 0} (event : Event C) → StandsAlone event → (i : ℕ) (b : Birth C) → slice_get (effect_of event).births i ≡ Some b → IsFresh b
fresh {C} (Sent delay content) alone i b h =
    let same = (slice_get-only (record { content = Some content; delay = delay; origin = None; past = None }) b i h).1 in
    record { past = ap (λ (x : Birth C). x.past) (sym same); text = content; contained = ap (λ (x : Birth C). x.content) (sym same) }
fresh {C} (Arrived origin content) alone i b h =
    let same = (slice_get-only (record { content = Some content; delay = 0; origin = Some origin; past = None }) b i h).1 in
    record { past = ap (λ (x : Birth C). x.past) (sym same); text = content; contained = ap (λ (x : Birth C). x.content) (sym same) }
fresh (Base base) alone i b h = absurd cc
fresh event alone i b h = absurd cc

-- as a message that is there, and due after its delay
pub new_begun : (lines : List Line) (e : Line) (n : ℕ) (m : Message) → StandsAlone e.event → IsNew lines e n m → m.begun.status ≡ Present
new_begun lines e n m alone new =
    let b = new_birth lines e n m new in
    ap (λ (x : Message). x.begun.status) (sym b.2)
    ∙ ap (λ (o : Option Past). (unwrap_or o (no_past e.at b.0)).course.status) (fresh e.event alone (n - message_count lines) b.0 b.1).past

-- ---- what is not removed has a content

abbrev HasText : {C : Type 0} → Option (Option C) → Type 0
HasText {C} o = (content : C) × (o ≡ Some (Some content))

-- what a checkpoint has no content of is removed
kept_told : {C : Type 0} (at place n : ℕ) (o : Option (KeptMessage C)) (b : Birth C) → option_map_or kept_birth o gone_birth ≡ b
    → HasText (Some b.content) ⊎ ((message_in place n at b).begun.status ≡ Removed)
kept_told {C} at place n None b h = inr (ap (λ (x : Birth C). (message_in place n at x).begun.status) (sym h))
kept_told {C} at place n (Some m) b h = inl (m.content, ap (λ (x : Birth C). Some x.content) (sym h))

birth_told : {C : Type 0} (at place n : ℕ) (event : Event C) (i : ℕ) (b : Birth C) → slice_get (effect_of event).births i ≡ Some b
    → HasText (Some b.content) ⊎ ((message_in place n at b).begun.status ≡ Removed)
birth_told {C} at place n (Sent delay content) i b h = inl (content, ap (λ (x : Birth C). Some x.content) (sym (slice_get-only _ b i h).1))
birth_told {C} at place n (Arrived origin content) i b h = inl (content, ap (λ (x : Birth C). Some x.content) (sym (slice_get-only _ b i h).1))
birth_told {C} at place n (Base base) i b h =
    let one : ℕ → Birth C = λ k. option_map_or kept_birth (kept_numbered base k) gone_birth in
    let k = mapped_some one (slice_get (range_with_len 0 (length base.receives)) i) b (sym (slice_get-map one (range_with_len 0 (length base.receives)) i) ∙ h) in
    kept_told at place n (kept_numbered base k.0) b k.2
birth_told at place n event i b h = absurd cc

-- the messages and the contents side by side
told_from : {C : Type 0} (place number : ℕ) (lines : List (Entry C)) (k : ℕ) (m : Message) → slice_get (messages_from place number lines) k ≡ Some m
    → HasText (slice_get (contents lines) k) ⊎ (m.begun.status ≡ Removed)
told_from place number [] k m h = absurd (none-some m h)
told_from {C} place number (e ∷ es) k m h =
    let bs : List (Birth C) = (effect_of e.event).births in
    let begun = messages_in place number e.at bs in
    let later = messages_from (suc place) (number + births e.event) es in
    let many = length-messages_in place number e.at bs in
    let contained_many = length-map bs (λ (b : Birth C). b.content) in
    elim (cases_lt k (length bs)) [
      | inl below ↦
          let b = mapped_some (message_in place (number + k) e.at) (slice_get bs k) m
          (sym (numbered_in place number e.at bs k (number + k) (omega arith)) ∙ sym (slice_get-before begun later k (omega arith)) ∙ h) in
          let text : slice_get (contents (e ∷ es)) k ≡ Some b.0.content =
          slice_get-before (contents_in e.event) (contents es) k (omega arith) ∙ slice_get-map (λ (x : Birth C). x.content) bs k ∙ ap (option_map (λ (x : Birth C). x.content)) b.1 in
          elim (birth_told e.at place (number + k) e.event k b.0 b.1) [
            | inl has ↦ inl (has.0, text ∙ has.1)
            | inr gone ↦ inr (ap (λ (x : Message). x.begun.status) (sym b.2) ∙ gone)
          ]
      | inr behind ↦
          let there = told_from (suc place) (number + births e.event) es (k - length bs) m (sym (slice_get-behind begun later k (k - length bs) (omega arith)) ∙ h) in
          elim there [
            | inl has ↦ inl (has.0, slice_get-behind (contents_in e.event) (contents es) k (k - length bs) (omega arith) ∙ has.1)
            | inr gone ↦ inr gone
          ]
    ]

-- what is removed stays so
pub removed_after : {C : Type 0} (number : ℕ) (status : Status) (event : Event C) → is_removed_status status ≡ true → is_removed_status (status_after number status event) ≡ true
removed_after number Present event h = absurd (false≢true h)
removed_after number Removed event h = refl
removed_after number (Waiting target) event h = absurd (false≢true h)
removed_after number Transferred event h = absurd (false≢true h)

pub removed_from : {C : Type 0} (number : ℕ) (c : Course) (lines : List (Entry C)) → is_removed_status c.status ≡ true → is_removed_status (course_from number c lines).status ≡ true
removed_from number c [] h = h
removed_from number c (e ∷ es) h = removed_from number (course_after number c e) es (removed_after number c.status e.event h)

abbrev pub HasContent : {C : Type 0} → List (Entry C) → Message → Type 0
HasContent {C} lines m = (content : C) × (content_of lines m ≡ Some content)

pub content_numbered : {C : Type 0} (lines : List (Entry C)) (n : ℕ) (m : Message) → message_numbered lines n ≡ Some m → is_removed lines m ≡ false → HasContent lines m
content_numbered {C} lines n m h lasts = elim (told_from 0 0 lines n m h) [
  | inl has ↦ (has.0, ap (λ (i : ℕ). unwrap_or (slice_get (contents lines) i) None) (numbered-number lines n m h) ∙ ap (λ (o : Option (Option C)). unwrap_or o None) has.1)
  | inr gone ↦ absurd (false≢true (sym lasts ∙ removed_from m.number m.begun (drop m.place lines) (ap is_removed_status gone)))
]

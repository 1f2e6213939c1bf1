-- What the messages that are touched weigh, and how much an event adds to their weight at most.
use Rattle.std.proofs.Common.{◌≡◌, ℕ, zero, suc, ◌+◌, ◌*◌, ◌<◌, ◌≤◌, Bool, true, false, not, cond, ◌&&◌, ◌==◌, List, [], ◌∷◌, length, Option, Some, None, refl, sym, ap, ◌∙◌, min, arith}
use Rattle.std.specs.Prelude.{count_by, slice_get, option_and_then}
use Rattle.std.specs.Option.{option_map_or}
use Rattle.std.specs.List.{sum_by, range_with_len}
use Rattle.std.proofs.Math.Nat.{mul-add}
use Rattle.std.proofs.lemmas.Bool.{false≢true, eqb-true, eq-eqb, and_parts, and_left, and_right}
use Rattle.std.proofs.lemmas.Bool.Decides.{nat_tests}
use Rattle.std.proofs.lemmas.List.Sums.{sum_by-cons}
use Rattle.message.specs.Content.{ContentText}
use Rattle.journal.specs.declared.entry.Event.{Event}
use Rattle.journal.specs.declared.entry.Event.TheVariants.{Sent, Arrived, Received, Changed, Orphaned, Base}
use Rattle.metric_window.specs.Flows.{greatest}
use Rattle.queue_core.specs.declared.facts.Course.{Course}
use Rattle.queue_core.specs.declared.facts.Message.{Message}
use Rattle.queue_core.specs.declared.facts.MessageState.{MessageState}
use Rattle.queue_core.specs.declared.facts.MessageState.TheVariants.{Visible, Delayed, InFlight}
use Rattle.queue_core.specs.declared.facts.Status.{Status}
use Rattle.queue_core.specs.declared.facts.Status.TheVariants.{Present, Removed, Waiting, Transferred}
use Rattle.queue_core.specs.Messages.{messages, message_count, contains_number, receive_count, course_of, status_after, is_present_status, is_expired, awaits_status, awaits_transfer, is_waiting_status, waits_for}
use Rattle.queue_core.specs.States.{waiting_state, state_of, is_in_state, is_numbered, message_numbered}
use Rattle.queue_core.specs.Queue.{QueueHistory, at_moment, is_pending, waiting_count, with_event}
use Rattle.queue_core.specs.private.Slots.{one_if}
use Rattle.queue_core.specs.Standing.{StandsFor}
use Rattle.queue_core.specs.Cost.{same_standing, alike, state_numbered, due_numbered, same_due, same_count, is_touched, touched_count}
use Rattle.queue_core.specs.private.Spending.{event_adds, state_weight, queue_weight}
use Rattle.queue_core.proofs.indexed.SlotCountLemmas.{count_members}
use Rattle.queue_core.proofs.records.FactLemmas.{Line, IsAbout, course-push, receives-push, numbered-place, numbered-below}
use Rattle.queue_core.proofs.PushLemmas.{slice_get-prefix, messages-push, begun_by, count-push}
use Rattle.queue_core.proofs.checkpoints.StandingCountLemmas.{numbers, weight_numbered, waiting_numbered, numbers_same, awaits_same, counted_same}

-- ---- sums over numbers

sums : (f g h : ℕ → ℕ) (touched : ℕ → Bool) (ns : List ℕ) → ((n : ℕ) → f n + g n ≤ h n + 12 * one_if (touched n)) → sum_by f ns + sum_by g ns ≤ sum_by h ns + 12 * count_by touched ns
sums f g h touched [] each = omega arith
sums f g h touched (n ∷ ns) each =
    let first : f n + g n ≤ h n + 12 * one_if (touched n) = each n in
    let rest : sum_by f ns + sum_by g ns ≤ sum_by h ns + 12 * count_by touched ns = sums f g h touched ns each in
    omega (arith, sum_by-cons f n ns, sum_by-cons g n ns, sum_by-cons h n ns, sum_by-cons (λ x. one_if (touched x)) n ns)

sum_none : (ns : List ℕ) → sum_by (λ n. 0) ns ≡ 0
sum_none [] = refl
sum_none (n ∷ ns) = omega (arith, sum_by-cons (λ x. 0) n ns, sum_none ns)

sum_times : (k : ℕ) (test : ℕ → Bool) (ns : List ℕ) → sum_by (λ n. k * one_if (test n)) ns ≡ k * count_by test ns
sum_times k test [] = omega arith
sum_times k test (n ∷ ns) =
    let rest : sum_by (λ x. k * one_if (test x)) ns ≡ k * count_by test ns = sum_times k test ns in
    let all : count_by test (n ∷ ns) ≡ one_if (test n) + count_by test ns = sum_by-cons (λ x. one_if (test x)) n ns in
    let same : k * count_by test (n ∷ ns) ≡ k * (one_if (test n) + count_by test ns) = ap (λ (x : ℕ). k * x) all in
    omega (arith, sum_by-cons (λ x. k * one_if (test x)) n ns, mul-add k (one_if (test n)) (count_by test ns))

-- more numbers do not come to less
sum_more : (f : ℕ → ℕ) (start few many : ℕ) → few ≤ many → sum_by f (range_with_len start few) ≤ sum_by f (range_with_len start many)
sum_more f start zero many h = omega arith
sum_more f start (suc few) zero h = absurd (omega arith)
sum_more f start (suc few) (suc many) h =
    omega (arith, sum_by-cons f start (range_with_len (start + 1) few), sum_by-cons f start (range_with_len (start + 1) many), sum_more f (start + 1) few many (omega arith))

-- ---- the weight of a message

weight-upto : (s : Option MessageState) → state_weight s ≤ 6
weight-upto None = omega arith
weight-upto (Some Visible) = omega arith
weight-upto (Some Delayed) = omega arith
weight-upto (Some InFlight) = omega arith

weight-same : (s t : Option MessageState) → same_standing s t ≡ true → state_weight s ≡ state_weight t
weight-same None None h = refl
weight-same None (Some t) h = absurd (false≢true h)
weight-same (Some s) None h = absurd (false≢true h)
weight-same (Some Visible) (Some Visible) h = refl
weight-same (Some Visible) (Some Delayed) h = absurd (false≢true h)
weight-same (Some Visible) (Some InFlight) h = absurd (false≢true h)
weight-same (Some Delayed) (Some Visible) h = absurd (false≢true h)
weight-same (Some Delayed) (Some Delayed) h = refl
weight-same (Some Delayed) (Some InFlight) h = refl
weight-same (Some InFlight) (Some Visible) h = absurd (false≢true h)
weight-same (Some InFlight) (Some Delayed) h = refl
weight-same (Some InFlight) (Some InFlight) h = refl

weight-by : (s t : Option MessageState) (alike : Bool) → (alike ≡ true → same_standing s t ≡ true) → state_weight s ≤ state_weight t + 12 * one_if (not alike)
weight-by s t true h = let same = weight-same s t (h refl) in omega arith
weight-by s t false h = omega (arith, weight-upto s)

-- what is not touched weighs the same
weight-touched : (p r : QueueHistory) (n : ℕ) → state_weight (state_numbered p n) ≤ state_weight (state_numbered r n) + 12 * one_if (is_touched p r n)
weight-touched p r n =
    let standing = same_standing (state_numbered p n) (state_numbered r n) in
    let waiting = alike (is_pending p n) (is_pending r n) in
    let due = same_due (due_numbered p n) (due_numbered r n) in
    let received = same_count (receive_count p.lines n) (receive_count r.lines n) in
    weight-by (state_numbered p n) (state_numbered r n) (standing && waiting && due && received)
    (λ all. let rest = and_parts (standing && waiting && due) received all in (and_parts standing waiting (and_parts (standing && waiting) due rest.0).0).0)

touched_by-waiting : (standing waiting due received : Bool) → waiting ≡ false → not (standing && waiting && due && received) ≡ true
touched_by-waiting standing waiting due received h = ap not (and_left (standing && waiting && due) received (and_left (standing && waiting) due (and_right standing waiting h)))

touched_by-received : (standing waiting due received : Bool) → received ≡ false → not (standing && waiting && due && received) ≡ true
touched_by-received standing waiting due received h = ap not (and_right (standing && waiting && due) received h)

-- ---- from a queue to another that has no fewer messages

module _ (p r : QueueHistory) (more : message_count p.lines ≤ message_count r.lines) where
  added-sums : (adds : ℕ) (g : ℕ → ℕ) → adds ≤ sum_by g (numbers p) + 12
      → ((n : ℕ) → state_weight (state_numbered p n) + g n ≤ state_weight (state_numbered r n) + 12 * one_if (is_touched p r n))
      → queue_weight p + adds ≤ queue_weight r + 12 * (touched_count p r + 1)
  added-sums adds g few each =
      let all = sums (λ n. state_weight (state_numbered p n)) g (λ n. state_weight (state_numbered r n)) (λ n. is_touched p r n) (numbers p) each in
      let begun = sum_more (λ n. state_weight (state_numbered r n)) 0 (message_count p.lines) (message_count r.lines) more in
      omega (arith, weight_numbered p, weight_numbered r)

  -- what adds no more than twelve
  added-few : (adds : ℕ) → adds ≤ 12 → queue_weight p + adds ≤ queue_weight r + 12 * (touched_count p r + 1)
  added-few adds few = added-sums adds (λ n. 0) (omega arith) (λ n. omega (arith, weight-touched p r n))

  -- as time passes, nothing is added
  pub later-weight : queue_weight p ≤ queue_weight r + 12 * (touched_count p r + 1)
  later-weight = omega (arith, added-few 0 (omega arith))

-- ---- messages that are offered

-- a receive makes another count, but where the count was as great as can be told, which is the same as none
count-rises : (a b : ℕ) (offered : Bool) → b ≡ min (a + cond offered 1 0) greatest → offered ≡ true → same_count a b ≡ false
count-rises a b true is h = grind (arith, nat_tests)
count-rises a b false is h = absurd (false≢true h)

and-true : (b : Bool) → b ≡ (b && true)
and-true true = refl
and-true false = refl

count-all : (xs : List ℕ) → count_by (λ n. true) xs ≡ length xs
count-all [] = refl
count-all (x ∷ xs) = omega (arith, sum_by-cons (λ n. one_if true) x xs, count-all xs)

count-and_true : (test : ℕ → Bool) (ns : List ℕ) → count_by test ns ≡ count_by (λ n. test n && true) ns
count-and_true test ns = λ i. count_by (λ n. and-true (test n) i) ns

within : (lines : List Line) (test : Message → Bool) (n : ℕ) (found : Option Message) → message_numbered lines n ≡ found → option_map_or test found false ≡ true → n < message_count lines
within lines test n None is h = absurd (false≢true h)
within lines test n (Some m) is h = numbered-below lines n m is

-- ---- messages that come back

status-awaits : (target : ℕ) (status : Status) → is_waiting_status target status ≡ true → awaits_status status ≡ true
status-awaits target Present h = absurd (false≢true h)
status-awaits target Removed h = absurd (false≢true h)
status-awaits target (Waiting own) h = refl
status-awaits target Transferred h = absurd (false≢true h)

status-gone : (status : Status) → awaits_status status ≡ true → is_present_status status ≡ false
status-gone Present h = absurd (false≢true h)
status-gone Removed h = absurd (false≢true h)
status-gone (Waiting own) h = refl
status-gone Transferred h = absurd (false≢true h)

status-returned : (target number : ℕ) (status : Status) → is_waiting_status target status ≡ true → awaits_status (status_after {C = ContentText} number status (Orphaned target)) ≡ false
status-returned target number Present h = absurd (false≢true h)
status-returned target number Removed h = absurd (false≢true h)
status-returned target number (Waiting own) h = let same : (target == own) ≡ true = eq-eqb target own (sym (eqb-true own target h)) in rw same refl
status-returned target number Transferred h = absurd (false≢true h)

alike-differs : (x y : Bool) → x ≡ true → y ≡ false → alike x y ≡ false
alike-differs x y h k = rw (h, k) refl

-- what waits for a dead-letter queue weighs nothing
weight-gone : (present expired : Bool) (s : MessageState) → present ≡ false → state_weight (cond (present && not expired) (Some s) None) ≡ 0
weight-gone present expired s h = rw h refl

weight-waiting : (p : QueueHistory) (found : Option Message) → option_map_or (λ m. awaits_transfer p.lines m) found false ≡ true
    → state_weight (option_and_then (λ m. state_of p.lines p.clock m) found) ≡ 0
weight-waiting p None h = absurd (false≢true h)
weight-waiting p (Some m) h =
    weight-gone (is_present_status (course_of p.lines m).status) (is_expired p.lines p.clock m) (waiting_state p.lines p.clock m) (status-gone (course_of p.lines m).status h)

found-awaits : (lines : List Line) (target : ℕ) (found : Option Message) → option_map_or (λ m. waits_for lines target m) found false ≡ true → option_map_or (λ m. awaits_transfer lines m) found false ≡ true
found-awaits lines target None h = absurd (false≢true h)
found-awaits lines target (Some m) h = status-awaits target (course_of lines m).status h

-- ---- an event, in a queue that stands for another at a later moment

abbrev line_of : ℕ → Event ContentText → Line
line_of at event = record { at = at; event = event }

module _ (p q : QueueHistory) (at : ℕ) (same : StandsFor q (at_moment p at)) where
  numbers_are : message_count q.lines ≡ message_count p.lines
  numbers_are = numbers_same q (at_moment p at) same

  module _ (event : Event ContentText) where
    more_behind : message_count p.lines ≤ message_count (with_event q event).lines
    more_behind = omega (arith, numbers_are, count-push q.lines (line_of q.clock event))

    few-behind : (adds : ℕ) → adds ≤ 12 → queue_weight p + adds ≤ queue_weight (with_event q event) + 12 * (touched_count p (with_event q event) + 1)
    few-behind adds few = added-few p (with_event q event) more_behind adds few

  -- each message that is offered is touched
  module _ (timeout : ℕ) (offered leaving : List ℕ) (target : ℕ) (about : IsAbout q (Received timeout offered leaving target)) where
    abbrev received : QueueHistory
    received = with_event q (Received timeout offered leaving target)

    offered-below : (n : ℕ) → contains_number n offered ≡ true → n < message_count q.lines
    offered-below n h = within q.lines (λ m. is_in_state Visible q.lines q.clock m) n (message_numbered q.lines n) refl (about.offered n h)

    touched-offered : (n : ℕ) → contains_number n offered ≡ true → is_touched p received n ≡ true
    touched-offered n h =
        touched_by-received (same_standing (state_numbered p n) (state_numbered received n)) (alike (is_pending p n) (is_pending received n))
        (same_due (due_numbered p n) (due_numbered received n)) (same_count (receive_count p.lines n) (receive_count received.lines n))
        (count-rises (receive_count p.lines n) (receive_count received.lines n) (contains_number n offered)
        (receives-push q.lines (line_of q.clock (Received timeout offered leaving target)) n refl
        ∙ ap (λ (k : ℕ). min (k + cond (contains_number n offered) 1 0) greatest) (counted_same q (at_moment p at) same n (offered-below n h)))
        h)

    offered-weight : (n : ℕ) (b : Bool) → contains_number n offered ≡ b
        → state_weight (state_numbered p n) + 6 * one_if b ≤ state_weight (state_numbered received n) + 12 * one_if (is_touched p received n)
    offered-weight n true h =
        let touched : one_if (is_touched p received n) ≡ 1 = ap one_if (touched-offered n h) in
        omega (arith, weight-upto (state_numbered p n))
    offered-weight n false h = omega (arith, weight-touched p received n)

    -- each of distinct numbers of messages is one of all numbers
    offered-count : count_by (λ n. contains_number n offered) (numbers p) ≡ length offered
    offered-count =
        count-and_true (λ n. contains_number n offered) (numbers p)
        ∙ count_members (λ n. true) offered (message_count p.lines) about.offered_once
        (λ n h. omega (arith, numbers_are, offered-below n h))
        ∙ count-all offered

    added-received : queue_weight p + 6 * length offered ≤ queue_weight received + 12 * (touched_count p received + 1)
    added-received =
        let total = sum_times 6 (λ n. contains_number n offered) (numbers p) in
        added-sums p received (more_behind (Received timeout offered leaving target)) (6 * length offered) (λ n. 6 * one_if (contains_number n offered)) (omega (arith, total, offered-count))
        (λ n. offered-weight n (contains_number n offered) refl)

  -- and so is each that comes back, which weighed nothing
  module _ (target : ℕ) where
    abbrev orphaned : QueueHistory
    orphaned = with_event q (Orphaned target)

    abbrev waits : ℕ → Bool
    waits n = is_numbered (λ m. waits_for q.lines target m) q.lines n

    waited : (n : ℕ) → waits n ≡ true → is_pending p n ≡ true
    waited n h = sym (awaits_same q (at_moment p at) same n) ∙ found-awaits q.lines target (message_numbered q.lines n) h

    returned : (n : ℕ) → waits n ≡ true → is_pending orphaned n ≡ false
    returned n h = by_message (message_numbered q.lines n) refl h
      where
        by_message : (found : Option Message) → message_numbered q.lines n ≡ found → option_map_or (λ m. waits_for q.lines target m) found false ≡ true → is_pending orphaned n ≡ false
        by_message None is h = absurd (false≢true h)
        by_message (Some m) is h =
            let e : Line = line_of q.clock (Orphaned target) in
            let there : message_numbered orphaned.lines n ≡ Some m =
            ap (λ (ms : List Message). slice_get ms n) (messages-push q.lines e) ∙ slice_get-prefix (messages q.lines) (begun_by q.lines e) n m is in
            ap (λ (found : Option Message). option_map_or (λ m. awaits_transfer orphaned.lines m) found false) there
            ∙ ap (λ (c : Course). awaits_status c.status) (course-push q.lines e m (numbered-place q.lines n m is))
            ∙ status-returned target m.number (course_of q.lines m).status h

    waiting-weight : (n : ℕ) (b : Bool) → waits n ≡ b → state_weight (state_numbered p n) + 8 * one_if b ≤ state_weight (state_numbered orphaned n) + 12 * one_if (is_touched p orphaned n)
    waiting-weight n true h =
        let touched : one_if (is_touched p orphaned n) ≡ 1 =
        ap one_if
        (touched_by-waiting (same_standing (state_numbered p n) (state_numbered orphaned n)) (alike (is_pending p n) (is_pending orphaned n))
        (same_due (due_numbered p n) (due_numbered orphaned n)) (same_count (receive_count p.lines n) (receive_count orphaned.lines n))
        (alike-differs (is_pending p n) (is_pending orphaned n) (waited n h) (returned n h))) in
        let none : state_weight (state_numbered p n) ≡ 0 = weight-waiting p (message_numbered p.lines n) (waited n h) in
        omega arith
    waiting-weight n false h = omega (arith, weight-touched p orphaned n)

    added-orphaned : queue_weight p + 8 * waiting_count q target ≤ queue_weight orphaned + 12 * (touched_count p orphaned + 1)
    added-orphaned =
        let total = sum_times 8 waits (numbers p) in
        let all : count_by waits (numbers q) ≡ count_by waits (numbers p) = ap (λ (count : ℕ). count_by waits (range_with_len 0 count)) numbers_are in
        added-sums p orphaned (more_behind (Orphaned target)) (8 * waiting_count q target) (λ n. 8 * one_if (waits n)) (omega (arith, total, all, waiting_numbered q target))
        (λ n. waiting-weight n (waits n) refl)

  -- ---- every event

  pub added-weight : (event : Event ContentText) → IsAbout q event
      → queue_weight p + event_adds (λ target. waiting_count q target) event ≤ queue_weight (with_event q event) + 12 * (touched_count p (with_event q event) + 1)
  added-weight (Received timeout offered leaving target) about = omega (arith, added-received timeout offered leaving target about)
  added-weight (Orphaned target) about = omega (arith, added-orphaned target)
  added-weight (Changed number timeout) about = few-behind (Changed number timeout) 6 (omega arith)
  added-weight (Sent delay content) about = few-behind (Sent delay content) 8 (omega arith)
  added-weight (Arrived origin content) about = few-behind (Arrived origin content) 8 (omega arith)
  added-weight (Base base) about = let alone = about.alone in absurd cc
  added-weight event about = few-behind event 0 (omega arith)

-- What is told of messages by their numbers is the same of queues that stand for each other: and so is what the messages weigh, how many are kept or wait, and how many are touched.
use Rattle.std.proofs.Common.{◌≡◌, ℕ, zero, suc, ◌+◌, ◌<◌, Bool, true, false, not, cond, ◌&&◌, ◌||◌, List, [], ◌∷◌, length, Option, Some, None, inl, inr, refl, sym, ap, subst, ◌∙◌, arith}
use Rattle.std.specs.Prelude.{◌==◌, nat_le, slice_get, slice_index, is_some, option_and_then, count_by}
use Rattle.std.specs.Option.{option_map_or}
use Rattle.std.specs.List.{sum_by, range_with_len}
use Rattle.std.proofs.lemmas.Bool.{false≢true}
use Rattle.std.proofs.lemmas.List.Sums.{sum_by-cons}
use Rattle.queue_core.specs.declared.facts.Message.{Message}
use Rattle.queue_core.specs.declared.facts.MessageState.{MessageState}
use Rattle.queue_core.specs.declared.facts.MessageState.TheVariants.{Visible, Delayed, InFlight}
use Rattle.queue_core.specs.declared.facts.Status.{Status}
use Rattle.queue_core.specs.declared.facts.Status.TheVariants.{Present, Removed, Waiting, Transferred}
use Rattle.queue_core.specs.Messages.{messages, message_count, receive_count, course_of, is_expired, is_present_status, is_returned, due_time, is_waiting_status, awaits_status, awaits_transfer, waits_for}
use Rattle.queue_core.specs.States.{is_live, waiting_state, state_of, message_numbered, is_numbered}
use Rattle.queue_core.specs.Queue.{QueueHistory, is_pending, waiting_count}
use Rattle.queue_core.specs.Summary.{KnownMessage, Summary, known_message, summary_of}
use Rattle.queue_core.specs.Standing.{StandsFor}
use Rattle.queue_core.specs.Cost.{same_standing, alike, state_numbered, due_numbered, same_due, same_count, is_touched, touched_count}
use Rattle.queue_core.specs.private.Spending.{state_weight, queue_weight, queue_kept}
use Rattle.queue_core.proofs.records.FactLemmas.{Line, numbered-number, IsSound}
use Rattle.queue_core.proofs.entries.TallyLemmas.{received-count}
use Rattle.queue_core.proofs.entries.PairLemmas.{count_by-places}
use Rattle.queue_core.proofs.records.SummaryLemmas.{receives_within, receives_numbered}
use Rattle.queue_core.proofs.checkpoints.StandingLemmas.{each_is, known_so, received_same}

-- ---- a sum over a list is one over its places

pub sum_by-places : {X : Type 0} (f : X → ℕ) (g : ℕ → ℕ) (a : ℕ) (xs : List X) → ((k : ℕ) → option_map_or f (slice_get xs k) 0 ≡ g (a + k))
    → sum_by f xs ≡ sum_by g (range_with_len a (length xs))
sum_by-places f g a [] h = refl
sum_by-places f g a (x ∷ xs) h =
    let here : a + 0 ≡ a = omega arith in
    let first : f x ≡ g a = h 0 ∙ ap g here in
    let later : (k : ℕ) → a + suc k ≡ (a + 1) + k = λ k. omega arith in
    let rest : sum_by f xs ≡ sum_by g (range_with_len (a + 1) (length xs)) = sum_by-places f g (a + 1) xs (λ k. h (suc k) ∙ ap g (later k)) in
    sum_by-cons f x xs ∙ rw (first, rest) refl ∙ sym (sum_by-cons g a (range_with_len (a + 1) (length xs)))

-- two tests that agree on numbers count alike
count_within : (f g : ℕ → Bool) (start count : ℕ) → ((n : ℕ) → n < start + count → f n ≡ g n) → count_by f (range_with_len start count) ≡ count_by g (range_with_len start count)
count_within f g start zero same = refl
count_within f g start (suc count) same =
    let first : f start ≡ g start = same start (omega arith) in
    let rest : count_by f (range_with_len (start + 1) count) ≡ count_by g (range_with_len (start + 1) count) = count_within f g (start + 1) count (λ n below. same n (omega (arith, below))) in
    sum_by-cons (λ n. cond (f n) 1 0) start (range_with_len (start + 1) count) ∙ rw (first, rest) refl ∙ sym (sum_by-cons (λ n. cond (g n) 1 0) start (range_with_len (start + 1) count))

from_first : (k : ℕ) → k ≡ 0 + k
from_first k = omega arith

-- ---- one message

unawaited : (status : Status) (expired : Bool) → (is_present_status status && not expired) ≡ true → awaits_status status ≡ false
unawaited Present expired h = refl
unawaited Removed expired h = refl
unawaited (Waiting target) expired h = absurd (false≢true h)
unawaited Transferred expired h = refl

-- what does not wait does not wait for one of the queues
pub unwaiting_for : (target : ℕ) (status : Status) → awaits_status status ≡ false → is_waiting_status target status ≡ false
unwaiting_for target Present h = refl
unwaiting_for target Removed h = refl
unwaiting_for target (Waiting own) h = absurd (false≢true (sym h))
unwaiting_for target Transferred h = refl

-- what is known of a message tells its state, whether it waits for a dead-letter queue, and whether for that of a uid
abbrev state_known : List ℕ → ℕ → KnownMessage → Option MessageState
state_known receives clock k =
    cond (is_some k.target) None (Some (cond (nat_le k.due clock) Visible (cond ((slice_index receives k.number == 0) && not k.is_returned) Delayed InFlight)))

abbrev awaits_known : KnownMessage → Bool
awaits_known k = is_some k.target

abbrev waits_known : ℕ → KnownMessage → Bool
waits_known target k = option_map_or (λ own. own == target) k.target false

and_then-or : {X Y : Type 0} (f : X → Option Y) (o : Option X) → option_and_then f o ≡ option_map_or f o None
and_then-or f None = refl
and_then-or f (Some x) = refl

module _ (lines : List Line) (clock : ℕ) where
  abbrev told : Summary
  told = summary_of lines clock

  -- what is said of each message that is live or waits is said of what is known of it, and of what is gone as of what never was
  record Says {X : Type 0} (none : X) (f : Message → X) (g : KnownMessage → X) : Type 0 where
    there : (m : Message) → message_numbered lines m.number ≡ Some m → is_live lines clock m ≡ true → f m ≡ g (known_message lines clock None m)
    away : (m : Message) (target : ℕ) → (course_of lines m).status ≡ Waiting target → f m ≡ g (known_message lines clock (Some target) m)
    gone : (m : Message) → is_live lines clock m ≡ false → awaits_transfer lines m ≡ false → f m ≡ none

  said : {X : Type 0} (none : X) (f : Message → X) (g : KnownMessage → X) → Says none f g → (n : ℕ)
      → option_map_or f (message_numbered lines n) none ≡ option_map_or g (told.known n) none
  said {X} none f g says n = by_message (message_numbered lines n) refl
    where
      by_message : (o : Option Message) → message_numbered lines n ≡ o → option_map_or f o none ≡ option_map_or g (option_and_then (λ m. known_so lines clock m) o) none
      by_message None e = refl
      by_message (Some m) e =
          let own : message_numbered lines m.number ≡ Some m = subst (λ (k : ℕ). message_numbered lines k ≡ Some m) (sym (numbered-number lines n m e)) e in
          elim (each_is lines clock m) [
            | inl h ↦ says.there m own h.0 ∙ sym (ap (λ (o : Option KnownMessage). option_map_or g o none) h.1)
            | inr other ↦ elim other [
              | inl h ↦ says.away m h.0 h.1 ∙ sym (ap (λ (o : Option KnownMessage). option_map_or g o none) h.2)
              | inr h ↦ says.gone m h.0 h.1 ∙ sym (ap (λ (o : Option KnownMessage). option_map_or g o none) h.2)
            ]
          ]

  state_told : (n : ℕ) → option_and_then (λ m. state_of lines clock m) (message_numbered lines n) ≡ option_map_or (state_known told.receives clock) (told.known n) None
  state_told n =
      and_then-or (λ m. state_of lines clock m) (message_numbered lines n)
      ∙ said None (λ m. state_of lines clock m) (state_known told.receives clock)
      (record {
        there = λ m own live.
            ap (λ (b : Bool). cond b (Some (waiting_state lines clock m)) None) live
            ∙ ap (λ (k : ℕ). Some (cond (nat_le (due_time lines m) clock) Visible (cond ((k == 0) && not (is_returned lines m)) Delayed InFlight))) (sym (receives_numbered lines clock m.number m own));
        away = λ m target e. ap (λ (s : Status). cond (is_present_status s && not (is_expired lines clock m)) (Some (waiting_state lines clock m)) None) e;
        gone = λ m dead none. ap (λ (b : Bool). cond b (Some (waiting_state lines clock m)) None) dead;
      })
      n

  due_told : (n : ℕ) → option_and_then (λ m. cond (is_live lines clock m || awaits_transfer lines m) (Some (due_time lines m)) None) (message_numbered lines n)
      ≡ option_map_or (λ k. Some k.due) (told.known n) None
  due_told n =
      and_then-or (λ m. cond (is_live lines clock m || awaits_transfer lines m) (Some (due_time lines m)) None) (message_numbered lines n)
      ∙ said None (λ m. cond (is_live lines clock m || awaits_transfer lines m) (Some (due_time lines m)) None) (λ k. Some k.due)
      (record {
        there = λ m own live. ap (λ (b : Bool). cond (b || awaits_transfer lines m) (Some (due_time lines m)) None) live;
        away = λ m target e. ap (λ (s : Status). cond ((is_present_status s && not (is_expired lines clock m)) || awaits_status s) (Some (due_time lines m)) None) e;
        gone = λ m dead none.
            ap (λ (b : Bool). cond (b || awaits_transfer lines m) (Some (due_time lines m)) None) dead
            ∙ ap (λ (b : Bool). cond b (Some (due_time lines m)) None) none;
      })
      n

  awaits_told : (n : ℕ) → is_numbered (λ m. awaits_transfer lines m) lines n ≡ option_map_or awaits_known (told.known n) false
  awaits_told n =
      said false (λ m. awaits_transfer lines m) awaits_known
      (record {
        there = λ m own live. unawaited (course_of lines m).status (is_expired lines clock m) live;
        away = λ m target e. ap awaits_status e;
        gone = λ m dead none. none;
      })
      n

  waits_told : (target n : ℕ) → is_numbered (λ m. waits_for lines target m) lines n ≡ option_map_or (waits_known target) (told.known n) false
  waits_told target n =
      said false (λ m. waits_for lines target m) (waits_known target)
      (record {
        there = λ m own live. unwaiting_for target (course_of lines m).status (unawaited (course_of lines m).status (is_expired lines clock m) live);
        away = λ m own e. ap (is_waiting_status target) e;
        gone = λ m dead none. unwaiting_for target (course_of lines m).status none;
      })
      n

-- ---- one queue, by number

some_where : {X : Type 0} (b : Bool) (x : X) → b ≡ is_some (cond b (Some x) None)
some_where true x = refl
some_where false x = refl

module _ (q : QueueHistory) where
  -- the numbers that the queue's messages have
  abbrev pub numbers : List ℕ
  numbers = range_with_len 0 (message_count q.lines)

  weight_at : (o : Option Message) → option_map_or (λ m. state_weight (state_of q.lines q.clock m)) o 0 ≡ state_weight (option_and_then (λ m. state_of q.lines q.clock m) o)
  weight_at None = refl
  weight_at (Some m) = refl

  pub weight_numbered : queue_weight q ≡ sum_by (λ n. state_weight (state_numbered q n)) numbers
  weight_numbered =
      sum_by-places (λ m. state_weight (state_of q.lines q.clock m)) (λ n. state_weight (state_numbered q n)) 0 (messages q.lines)
      (λ k. weight_at (message_numbered q.lines k) ∙ ap (λ (n : ℕ). state_weight (state_numbered q n)) (from_first k))

  kept_at : (o : Option Message) → option_map_or (λ m. is_live q.lines q.clock m || awaits_transfer q.lines m) o false
      ≡ is_some (option_and_then (λ m. cond (is_live q.lines q.clock m || awaits_transfer q.lines m) (Some (due_time q.lines m)) None) o)
  kept_at None = refl
  kept_at (Some m) = some_where (is_live q.lines q.clock m || awaits_transfer q.lines m) (due_time q.lines m)

  -- what is kept has a due time
  pub kept_numbered : queue_kept q ≡ count_by (λ n. is_some (due_numbered q n)) numbers
  kept_numbered =
      count_by-places (λ m. is_live q.lines q.clock m || awaits_transfer q.lines m) (λ n. is_some (due_numbered q n)) 0 (messages q.lines)
      (λ k. kept_at (message_numbered q.lines k) ∙ ap (λ (n : ℕ). is_some (due_numbered q n)) (from_first k))

  pub waiting_numbered : (target : ℕ) → waiting_count q target ≡ count_by (λ n. is_numbered (λ m. waits_for q.lines target m) q.lines n) numbers
  waiting_numbered target =
      count_by-places (λ m. waits_for q.lines target m) (λ n. is_numbered (λ m. waits_for q.lines target m) q.lines n) 0 (messages q.lines)
      (λ k. ap (λ (n : ℕ). is_numbered (λ m. waits_for q.lines target m) q.lines n) (from_first k))

-- ---- two queues that stand for each other

module _ (q w : QueueHistory) (same : StandsFor q w) where
  pub numbers_same : message_count q.lines ≡ message_count w.lines
  numbers_same = sym (received-count q.lines q.clock) ∙ ap (λ (x : Summary). length x.receives) same.summary ∙ received-count w.lines w.clock

  pub state_same : (n : ℕ) → state_numbered q n ≡ state_numbered w n
  state_same n =
      state_told q.lines q.clock n
      ∙ (λ i. option_map_or (state_known (same.summary i).receives (same.clock i)) ((same.summary i).known n) None)
      ∙ sym (state_told w.lines w.clock n)

  pub due_same : (n : ℕ) → due_numbered q n ≡ due_numbered w n
  due_same n = due_told q.lines q.clock n ∙ ap (λ (x : Summary). option_map_or (λ k. Some k.due) (x.known n) None) same.summary ∙ sym (due_told w.lines w.clock n)

  pub awaits_same : (n : ℕ) → is_pending q n ≡ is_pending w n
  awaits_same n = awaits_told q.lines q.clock n ∙ ap (λ (x : Summary). option_map_or awaits_known (x.known n) false) same.summary ∙ sym (awaits_told w.lines w.clock n)

  pub weight_same : queue_weight q ≡ queue_weight w
  weight_same = weight_numbered q ∙ (λ i. sum_by (λ n. state_weight (state_same n i)) (range_with_len 0 (numbers_same i))) ∙ sym (weight_numbered w)

  pub kept_same : queue_kept q ≡ queue_kept w
  kept_same = kept_numbered q ∙ (λ i. count_by (λ n. is_some (due_same n i)) (range_with_len 0 (numbers_same i))) ∙ sym (kept_numbered w)

  pub waiting_same : (target : ℕ) → waiting_count q target ≡ waiting_count w target
  waiting_same target =
      waiting_numbered q target
      ∙ (λ i. count_by (λ n. waits_at n i) (range_with_len 0 (numbers_same i)))
      ∙ sym (waiting_numbered w target)
    where
      waits_at : (n : ℕ) → is_numbered (λ m. waits_for q.lines target m) q.lines n ≡ is_numbered (λ m. waits_for w.lines target m) w.lines n
      waits_at n =
          waits_told q.lines q.clock target n ∙ ap (λ (x : Summary). option_map_or (waits_known target) (x.known n) false) same.summary ∙ sym (waits_told w.lines w.clock target n)

  -- how often a message was received
  pub counted_same : (n : ℕ) → n < message_count q.lines → receive_count q.lines n ≡ receive_count w.lines n
  counted_same n below =
      sym (receives_within q.lines q.clock n below)
      ∙ ap (λ (x : Summary). slice_index x.receives n) same.summary
      ∙ receives_within w.lines w.clock n (omega (arith, below, numbers_same))

  -- what is touched between one of them and a queue is touched between the other and it
  pub touched_alike_from : (r : QueueHistory) → touched_count q r ≡ touched_count w r
  touched_alike_from r =
      count_within (λ n. is_touched q r n) (λ n. is_touched w r n) 0 (message_count q.lines)
      (λ n below.
      let counted = counted_same n (omega (arith, below)) in
      λ i.
      not (same_standing (state_same n i) (state_numbered r n) && alike (awaits_same n i) (is_pending r n) && same_due (due_same n i) (due_numbered r n)
      && same_count (counted i) (receive_count r.lines n)))
      ∙ ap (λ (count : ℕ). count_by (λ n. is_touched w r n) (range_with_len 0 count)) numbers_same

  module _ (sound : IsSound q.lines q.clock) (other : IsSound w.lines w.clock) where
    -- and the other way round
    pub touched_alike : (p : QueueHistory) → touched_count p q ≡ touched_count p w
    touched_alike p =
        λ i.
        count_by
        (λ n. not (same_standing (state_numbered p n) (state_same n i) && alike (is_pending p n) (awaits_same n i) && same_due (due_numbered p n) (due_same n i)
        && same_count (receive_count p.lines n) (received_same q w sound other same n i)))
        (range_with_len 0 (message_count p.lines))

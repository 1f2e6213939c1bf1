-- Two journals of the same messages, each of which stands alike in both: the counts, the age and the order of receives are the same.
use Rattle.std.proofs.Common.{◌≡◌, ℕ, ◌-◌, Bool, true, false, cond, ◌&&◌, leb, eqb, not, List, [], ◌∷◌, map, Option, Some, None, refl, sym, ap, ◌∙◌}
use Rattle.std.specs.Prelude.{◌/◌, nat_lt, count_by, filter}
use Rattle.std.specs.Option.{option_map_or}
use Rattle.std.specs.List.{find, AllByRecursion}
use Rattle.std.proofs.lemmas.List.Sums.{sum_by-cons}
use Rattle.journal.specs.declared.entry.Entry.{Entry}
use Rattle.queue_core.specs.declared.facts.Message.{Message}
use Rattle.queue_core.specs.declared.facts.Candidate.{Candidate}
use Rattle.queue_core.specs.declared.facts.Course.{Course}
use Rattle.queue_core.specs.declared.facts.MessageState.{MessageState}
use Rattle.queue_core.specs.declared.facts.MessageState.TheVariants.{Visible, Delayed, InFlight}
use Rattle.queue_core.specs.Messages.{messages, is_expired, receive_count, course_of, is_present_status, is_present, due_time, is_returned}
use Rattle.queue_core.specs.States.{is_live, has_age, same_state, is_in_state, count_in_state, oldest_age, gauges_of, candidate_of, comes_before, receive_order}
use Rattle.message.specs.Order.{sorted}

-- ---- tests that agree on the elements of a list

abbrev pub Agree : {X Y : Type 0} → (X → Y) → (X → Y) → List X → Type 0
Agree f g xs = AllByRecursion (λ x. f x ≡ g x) xs

count_by-agree : {X : Type 0} (p q : X → Bool) (xs : List X) → Agree p q xs → count_by p xs ≡ count_by q xs
count_by-agree p q [] h = refl
count_by-agree p q (x ∷ xs) h =
    sum_by-cons (λ y. cond (p y) 1 0) x xs ∙ rw (h.0, count_by-agree p q xs h.1) (sym (sum_by-cons (λ y. cond (q y) 1 0) x xs))

find-agree : {X : Type 0} (p q : X → Bool) (xs : List X) → Agree p q xs → find p xs ≡ find q xs
find-agree p q [] h = refl
find-agree p q (x ∷ xs) h = rw (h.0, find-agree p q xs h.1) refl

candidates-cond : (b : Bool) (c d : Candidate) (cs ds : List Candidate) → c ≡ d → cs ≡ ds → cond b (c ∷ cs) cs ≡ cond b (d ∷ ds) ds
candidates-cond b c d cs ds h k = rw (h, k) refl

map-cond : (f : Message → Candidate) (b : Bool) (m : Message) (ms : List Message) → map f (cond b (m ∷ ms) ms) ≡ cond b (f m ∷ map f ms) (map f ms)
map-cond f true m ms = refl
map-cond f false m ms = refl

candidates-agree : (p q : Message → Bool) (f g : Message → Candidate) (ms : List Message) → Agree p q ms → Agree f g ms → map f (filter p ms) ≡ map g (filter q ms)
candidates-agree p q f g [] h k = refl
candidates-agree p q f g (m ∷ ms) h k =
    map-cond f (p m) m (filter p ms)
    ∙ candidates-cond (p m) (f m) (g m) (map f (filter p ms)) (map g (filter q ms)) k.0 (candidates-agree p q f g ms h.1 k.1)
    ∙ ap (λ (b : Bool). cond b (g m ∷ map g (filter q ms)) (map g (filter q ms))) h.0
    ∙ sym (map-cond g (q m) m (filter q ms))

-- what follows from what is so of each element
agree-by : {X Y : Type 0} (P : X → Type 0) (f g : X → Y) → ((x : X) → P x → f x ≡ g x) → (xs : List X) → AllByRecursion P xs → Agree f g xs
agree-by P f g h [] k = tt
agree-by P f g h (x ∷ xs) k = (h x k.0, agree-by P f g h xs k.1)

-- ---- a message in both journals

-- whether a message is in a state, by whether it is live, its due time, its receives, and whether it came back
abbrev pub in_state : MessageState → ℕ → Bool → ℕ → ℕ → Bool → Bool
in_state state clock live due count returned =
    option_map_or (λ s. same_state state s) (cond live (Some (cond (leb due clock) Visible (cond (eqb count 0 && not returned) Delayed InFlight))) None) false

in_state-same : (state : MessageState) (clock : ℕ) (live' live : Bool) (due' due count' count : ℕ) (returned' returned : Bool) → live' ≡ live → due' ≡ due → count' ≡ count → returned' ≡ returned
    → in_state state clock live' due' count' returned' ≡ in_state state clock live due count returned
in_state-same state clock live' live due' due count' count returned' returned a b c d = rw (a, b, c, d) refl

module _ {C D : Type 0} (one : List (Entry C)) (other : List (Entry D)) (clock : ℕ) where
  -- it stands alike
  pub record IsAlike (m : Message) : Type 0 where
    pub course : course_of one m ≡ course_of other m
    pub expired : is_expired one clock m ≡ is_expired other clock m
    pub receives : receive_count one m.number ≡ receive_count other m.number

  live-alike : (m : Message) → IsAlike m → is_live one clock m ≡ is_live other clock m
  live-alike m h = ap (λ (c : Course). is_present_status c.status && not (is_expired one clock m)) h.course ∙ ap (λ (b : Bool). is_present other m && not b) h.expired

  ages-alike : (m : Message) → IsAlike m → has_age one clock m ≡ has_age other clock m
  ages-alike m h = ap (λ (b : Bool). b && nat_lt (receive_count one m.number) 3) (live-alike m h) ∙ ap (λ (n : ℕ). is_live other clock m && nat_lt n 3) h.receives

  state-alike : (state : MessageState) (m : Message) → IsAlike m → is_in_state state one clock m ≡ is_in_state state other clock m
  state-alike state m h =
      in_state-same state clock (is_live one clock m) (is_live other clock m) (due_time one m) (due_time other m) (receive_count one m.number) (receive_count other m.number)
      (is_returned one m) (is_returned other m) (live-alike m h) (ap (λ (c : Course). c.due) h.course) h.receives (ap (λ (c : Course). c.returned) h.course)

  candidate-alike : (m : Message) → IsAlike m → candidate_of one m ≡ candidate_of other m
  candidate-alike m h = ap (λ (c : Course). record { due = c.due; message = m }) h.course

  -- ---- all messages

  module _ (same : messages one ≡ messages other) (alike : AllByRecursion IsAlike (messages other)) where
    pub agree-live : Agree (λ m. is_live one clock m) (λ m. is_live other clock m) (messages other)
    agree-live = agree-by IsAlike (λ m. is_live one clock m) (λ m. is_live other clock m) live-alike (messages other) alike

    agree-age : Agree (λ m. has_age one clock m) (λ m. has_age other clock m) (messages other)
    agree-age = agree-by IsAlike (λ m. has_age one clock m) (λ m. has_age other clock m) ages-alike (messages other) alike

    pub agree-state : (state : MessageState) → Agree (λ m. is_in_state state one clock m) (λ m. is_in_state state other clock m) (messages other)
    agree-state state = agree-by IsAlike (λ m. is_in_state state one clock m) (λ m. is_in_state state other clock m) (state-alike state) (messages other) alike

    count-alike : (state : MessageState) → count_in_state state one clock ≡ count_in_state state other clock
    count-alike state =
        ap (count_by (λ m. is_in_state state one clock m)) same
        ∙ count_by-agree (λ m. is_in_state state one clock m) (λ m. is_in_state state other clock m) (messages other) (agree-state state)

    age-alike : oldest_age one clock ≡ oldest_age other clock
    age-alike =
        ap (λ (ms : List Message). option_map_or (λ m. (clock - m.enqueue_time) / 1000) (find (λ m. has_age one clock m) ms) 0) same
        ∙ ap (λ (found : Option Message). option_map_or (λ m. (clock - m.enqueue_time) / 1000) found 0)
        (find-agree (λ m. has_age one clock m) (λ m. has_age other clock m) (messages other) agree-age)

    pub gauges-alike : gauges_of one clock ≡ gauges_of other clock
    gauges-alike =
        gauges_from (count_in_state Visible one clock) (count_in_state Delayed one clock) (count_in_state InFlight one clock) (oldest_age one clock)
        (count-alike Visible) (count-alike Delayed) (count-alike InFlight) age-alike
      where
        gauges_from : (visible delayed in_flight age : ℕ) → visible ≡ count_in_state Visible other clock → delayed ≡ count_in_state Delayed other clock
            → in_flight ≡ count_in_state InFlight other clock → age ≡ oldest_age other clock
            → record { visible = visible; delayed = delayed; in_flight = in_flight; age = age } ≡ gauges_of other clock
        gauges_from visible delayed in_flight age a b c d = rw (a, b, c, d) refl

    pub order-alike : receive_order one clock ≡ receive_order other clock
    order-alike =
        ap (λ (ms : List Message). sorted comes_before (map (candidate_of one) (filter (λ m. is_in_state Visible one clock m) ms))) same
        ∙ ap (sorted comes_before)
        (candidates-agree (λ m. is_in_state Visible one clock m) (λ m. is_in_state Visible other clock m) (candidate_of one) (candidate_of other) (messages other) (agree-state Visible)
        (agree-by IsAlike (candidate_of one) (candidate_of other) candidate-alike (messages other) alike))

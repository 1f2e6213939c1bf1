-- What a command does that comes to a moment, makes room where that is wanted, and acts in the journal as it then stands.
use Rattle.std.proofs.Common.{◌≡◌, ℕ, ◌+◌, ◌*◌, ◌≤◌, Bool, true, false, not, cond, ◌&&◌, ◌||◌, Option, Some, None, Result, Ok, Err, refl, sym, ap, subst, ◌∙◌, arith}
use Rattle.std.specs.Prelude.{⊤, MatchBool, nat_le}
use Rattle.std.specs.Option.{ForSome, option_map_or}
use Rattle.std.proofs.lemmas.Bool.{false≢true, true≢false}
use Rattle.message.specs.declared.fault.Fault.{Fault}
use Rattle.message.specs.declared.fault.Fault.TheVariants.{QueueDoesNotExist, JournalFull}
use Rattle.message.specs.Fault.{Meets, is_out_of_memory}
use Rattle.journal.specs.Journal.{Lines}
use Rattle.queue_core.specs.declared.command.Command.{Command}
use Rattle.queue_core.specs.declared.reply.Reply.{Reply}
use Rattle.journal.specs.declared.entry.Event.TheVariants.{Purged, Set}
use Rattle.queue_config.specs.Settings.{settings_with}
use Rattle.queue_core.specs.declared.command.Command.TheVariants as commands
use Rattle.queue_core.specs.Messages.{is_closed, settings_of}
use Rattle.queue_core.specs.Queue.{QueueHistory, Outcome, adds_entry, hands_over, takes_memory, has_room, wants_place_alone, wants_room_alone, IsExact, IsExactWithRoom, at_moment, is_at_limit, is_full, first_refusal, unless_refused, unless_some, wants_open, uncounted_refusal, send_outcome, receive_outcome, change_outcome, delete_outcome, arrive_outcome, settle_outcome, orphan_outcome, done, rebased, rebased_where, rebases, outcome_in, outcome_of, with_optional_event, after_outcome, as_reply}
use Rattle.queue_core.specs.Legal.{IsLegal}
use Rattle.queue_core.specs.private.Replaced.{CanComeBack, put_back_in}
use Rattle.queue_core.specs.Standing.{StandsFor}
use Rattle.queue_core.specs.States.{kept_count}
use Rattle.queue_core.specs.Cost.{binary_digits, most_ticks}
use Rattle.queue_core.specs.private.Spending.{HasCome}
use Rattle.queue_core.proofs.records.FactLemmas.{IsSound}
use Rattle.queue_core.proofs.commands.InPlaceLemmas.{plain, in_place}
use Rattle.queue_core.proofs.LegalSoundLemmas.{unrefused, stands_rebased, sound_legal, sound_rebased, weight_rebased}
use Rattle.queue_core.proofs.checkpoints.StandingLemmas.{closed_same}
use Rattle.queue_core.proofs.checkpoints.StandingCountLemmas.{touched_alike}
use Rattle.queue_core.proofs.costs.CostLemmas.{come_alike}

-- ---- outcomes

-- a queue that refuses nothing at once acts as it is, or behind a checkpoint
module _ (q acting : QueueHistory) (command : Command) (wants : wants_open command ≡ true) (room : first_refusal q ≡ None) (acts : acting ≡ rebased_where (is_at_limit q) q) where
  comes-first : rebases q command ≡ is_at_limit q
  comes-first = ap (λ (r : Option Fault). unless_some r (wants_open command && is_at_limit q)) room ∙ ap (λ (b : Bool). b && is_at_limit q) wants

  is_outcome : outcome_of q command ≡ record (outcome_in acting command) { rebases = is_at_limit q }
  is_outcome =
      (λ i. record (outcome_in (rebased_where (comes-first i) q) command) { rebases = comes-first i })
      ∙ (λ i. record (outcome_in (sym acts i) command) { rebases = is_at_limit q })

  pub met : (answer : Result Reply Fault) → Meets answer (outcome_in acting command).reply → Meets answer (outcome_of q command).reply
  met answer h = subst (λ (o : Outcome). Meets answer o.reply) (sym is_outcome) h

  pub exact : (answer : Result Reply Fault) → IsExact (outcome_in acting command) answer → IsExact (outcome_of q command) answer
  exact answer h =
      subst (λ (o : Outcome). IsExact o answer) (sym is_outcome)
      (λ none. h (alike (is_at_limit q) (outcome_in acting command) (plain acting command) none))
    where
      alike : (limit : Bool) (o : Outcome) → o.rebases ≡ false → takes_memory (record o { rebases = limit }) ≡ false → takes_memory o ≡ false
      alike true o h k = absurd (by_rest (adds_entry o) (hands_over o.reply) k)
        where
          by_rest : (a b : Bool) → ((true || a) || b) ≡ false → ⊥
          by_rest a b k = true≢false k
      alike false o h k = ap (λ (b : Bool). (b || adds_entry o) || hands_over o.reply) h ∙ k

  in_room : (old : QueueHistory) → old.spare ≡ q.spare → (limit : Bool) → is_at_limit q ≡ limit → (answer : Result Reply Fault) → IsExactWithRoom acting (outcome_in acting command) answer
      → has_room old ≡ true → wants_room_alone (record (outcome_in acting command) { rebases = limit }) ≡ true → answer ≡ (outcome_in acting command).reply
  in_room old spare true at answer h place alone = absurd (by_rest (option_map_or wants_place_alone (outcome_in acting command).event true) (not (hands_over (outcome_in acting command).reply)) alone)
    where
      by_rest : (a b : Bool) → ((false && a) && b) ≡ true → ⊥
      by_rest a b k = false≢true k
  in_room old spare false at answer h place alone =
      let same : acting ≡ q = acts ∙ ap (λ (b : Bool). rebased_where b q) at in
      h (ap (λ (r : QueueHistory). nat_le 1 r.spare) same ∙ ap (nat_le 1) (sym spare) ∙ place)
      (ap (λ (b : Bool). (not b && option_map_or wants_place_alone (outcome_in acting command).event true) && not (hands_over (outcome_in acting command).reply)) (plain acting command) ∙ alone)

  pub exact_with_room : (old : QueueHistory) → old.spare ≡ q.spare → (answer : Result Reply Fault) → IsExactWithRoom acting (outcome_in acting command) answer → IsExactWithRoom old (outcome_of q command) answer
  exact_with_room old spare answer h =
      subst (λ (o : Outcome). IsExactWithRoom old o answer) (sym is_outcome) (λ place alone. in_room old spare (is_at_limit q) refl answer h place alone)

  -- what is left: the journal that a checkpoint replaced comes back where memory ran out
  pub left : {T : Type 0} (answer : Result T Fault) (replaced : Option Lines) (after new : QueueHistory) → after ≡ after_outcome acting (outcome_in acting command) answer
      → put_back_in replaced acting ≡ q → new ≡ cond (is_out_of_memory answer) (put_back_in replaced after) after → new ≡ after_outcome q (outcome_of q command) answer
  left {T} answer replaced after new is back put =
      put
      ∙ ap (λ (r : QueueHistory). cond (is_out_of_memory answer) (put_back_in replaced r) r) is
      ∙ by_memory (is_out_of_memory answer)
      ∙ sym (ap (λ (o : Outcome). after_outcome q o answer) is_outcome)
    where
      behind : QueueHistory
      behind = with_optional_event (rebased_where (outcome_in acting command).rebases acting) (outcome_in acting command).event

      by_memory : (b : Bool) → cond b (put_back_in replaced (cond b acting behind)) (cond b acting behind)
          ≡ cond b q (with_optional_event (rebased_where (is_at_limit q) q) (outcome_in acting command).event)
      by_memory true = back
      by_memory false =
          ap (λ (b : Bool). with_optional_event (rebased_where b acting) (outcome_in acting command).event) (plain acting command)
          ∙ ap (λ (r : QueueHistory). with_optional_event r (outcome_in acting command).event) acts

-- ---- what it costs

module _ (p q : QueueHistory) (legal : IsLegal q) (unclosed : is_closed q.lines ≡ false) where
  pub acting_stands : (b : Bool) → StandsFor (rebased_where b q) q
  acting_stands true = stands_rebased q legal unclosed
  acting_stands false = record { uid = refl; name = refl; in_flight = refl; clock = refl; summary = refl }

  acting_sound : (b : Bool) → IsSound (rebased_where b q).lines (rebased_where b q).clock
  acting_sound true = sound_rebased q legal unclosed
  acting_sound false = sound_legal q legal

  most_alike : (b : Bool) → most_ticks p (rebased_where b q) ≡ most_ticks p q
  most_alike b =
      ap (λ (n : ℕ). 24 * (binary_digits (kept_count p.lines p.clock + 1) + 1) * (n + 1)) (touched_alike (rebased_where b q) q (acting_stands b) (acting_sound b) (sound_legal q legal) p)

  pub come_acting : (t t' : ℕ) (acting : QueueHistory) (b : Bool) → acting ≡ rebased_where b q → HasCome t p t' q → HasCome t p t' acting
  come_acting t t' acting b is come = subst (λ (r : QueueHistory). HasCome t p t' r) (sym is) (come_alike t t' p q (rebased_where b q) (acting_stands b) come)

-- the cost is that of what is left, where the journal comes back too
pub cost_left : {T : Type 0} (t t' : ℕ) (p q acting after new : QueueHistory) (b : Bool) (answer : Result T Fault) (replaced : Option Lines) → IsLegal q → is_closed q.lines ≡ false → acting ≡ rebased_where b q
    → (is_out_of_memory answer ≡ true → after ≡ acting) → put_back_in replaced acting ≡ q → new ≡ cond (is_out_of_memory answer) (put_back_in replaced after) after
    → t' ≤ t + most_ticks p after → t' ≤ t + most_ticks p new
cost_left t t' p q acting after new b answer replaced legal unclosed acts unchanged back put cost = by_memory (is_out_of_memory answer) refl
  where
    by_memory : (m : Bool) → is_out_of_memory answer ≡ m → t' ≤ t + most_ticks p new
    by_memory true e =
        let is : new ≡ q = put ∙ ap (λ (c : Bool). cond c (put_back_in replaced after) after) e ∙ ap (put_back_in replaced) (unchanged e) ∙ back in
        let same = most_alike p q legal unclosed b in
        let then : most_ticks p after ≡ most_ticks p (rebased_where b q) = ap (most_ticks p) (unchanged e ∙ acts) in
        let there : most_ticks p new ≡ most_ticks p q = ap (most_ticks p) is in
        omega (arith, cost, same, then, there)
    by_memory false e =
        let is : new ≡ after = put ∙ ap (λ (c : Bool). cond c (put_back_in replaced after) after) e in
        let there : most_ticks p new ≡ most_ticks p after = ap (most_ticks p) is in
        omega (arith, cost, there)

-- ---- an open queue

not-closed : (closed full : Bool) → cond closed (Some QueueDoesNotExist) (cond full (Some JournalFull) None) ≡ None → (closed ≡ false) × (full ≡ false)
not-closed true full h = absurd cc
not-closed false true h = absurd cc
not-closed false false h = (refl, refl)

module _ (q : QueueHistory) (legal : IsLegal q) (room : first_refusal q ≡ None) where
  pub unclosed_of : is_closed q.lines ≡ false
  unclosed_of = (not-closed (is_closed q.lines) (is_full q) room).0

  pub unfull_of : is_full q ≡ false
  unfull_of = (not-closed (is_closed q.lines) (is_full q) room).1

  fits : is_at_limit q ≡ true → nat_le q.limits.max_lines (1 + kept_count q.lines q.clock) ≡ false
  fits at = ap (λ (b : Bool). b && nat_le q.limits.max_lines (1 + kept_count q.lines q.clock)) (sym at) ∙ unfull_of

  pub below_acting : (b : Bool) → is_at_limit q ≡ b → is_at_limit (rebased_where b q) ≡ false
  below_acting true at = ap (nat_le q.limits.max_lines) (weight_rebased q legal unclosed_of) ∙ fits at
  below_acting false at = at

  pub open_acting : (b : Bool) → is_at_limit q ≡ b → first_refusal (rebased_where b q) ≡ None
  open_acting true at = unrefused (rebased q) (closed_same (rebased q) q (sound_rebased q legal unclosed_of) (sound_legal q legal) (stands_rebased q legal unclosed_of) ∙ unclosed_of) (below_acting true at)
  open_acting false at = room

-- ---- a command, from the moment that it comes to on

module _ {T : Type 0} (f : T → Reply) (old : QueueHistory) (at : ℕ) (command : Command) (wants : wants_open command ≡ true) (q acting after new : QueueHistory) (replaced : Option Lines) (answer result : Result T Fault)
    (here : q ≡ at_moment old at) (room : first_refusal q ≡ None) (acts : acting ≡ rebased_where (is_at_limit q) q) (same : result ≡ answer) where
  pub finished_answer : Meets (as_reply f answer) (outcome_in acting command).reply → Meets (as_reply f result) (outcome_of (at_moment old at) command).reply
  finished_answer h =
      subst (λ (r : QueueHistory). Meets (as_reply f result) (outcome_of r command).reply) here
      (subst (λ (r : Result T Fault). Meets (as_reply f r) (outcome_of q command).reply) (sym same) (met q acting command wants room acts (as_reply f answer) h))

  pub finished_exact : IsExact (outcome_in acting command) (as_reply f answer) → IsExact (outcome_of (at_moment old at) command) (as_reply f result)
  finished_exact h =
      subst (λ (r : QueueHistory). IsExact (outcome_of r command) (as_reply f result)) here
      (subst (λ (r : Result T Fault). IsExact (outcome_of q command) (as_reply f r)) (sym same) (exact q acting command wants room acts (as_reply f answer) h))

  pub finished_room : IsExactWithRoom acting (outcome_in acting command) (as_reply f answer) → IsExactWithRoom old (outcome_of (at_moment old at) command) (as_reply f result)
  finished_room h =
      subst (λ (r : QueueHistory). IsExactWithRoom old (outcome_of r command) (as_reply f result)) here
      (subst (λ (r : Result T Fault). IsExactWithRoom old (outcome_of q command) (as_reply f r)) (sym same)
      (exact_with_room q acting command wants room acts old (sym (ap (λ (r : QueueHistory). r.spare) here)) (as_reply f answer) h))

  module _ (is : after ≡ after_outcome acting (outcome_in acting command) answer) (back : put_back_in replaced acting ≡ q) (put : new ≡ cond (is_out_of_memory answer) (put_back_in replaced after) after) where
    pub finished_state : new ≡ after_outcome (at_moment old at) (outcome_of (at_moment old at) command) result
    finished_state =
        left q acting command wants room acts answer replaced after new is back put
        ∙ ap (λ (r : Result T Fault). after_outcome q (outcome_of q command) r) (sym same)
        ∙ ap (λ (r : QueueHistory). after_outcome r (outcome_of r command) result) here

    unchanged : is_out_of_memory answer ≡ true → after ≡ acting
    unchanged e =
        is ∙ ap (λ (b : Bool). cond b acting (with_optional_event (rebased_where (outcome_in acting command).rebases acting) (outcome_in acting command).event)) e

    pub finished_cost : (t t' t'' : ℕ) → IsLegal q → HasCome t old t' q
        → ((p : QueueHistory) (before : ℕ) → HasCome before p t' acting → t'' ≤ before + most_ticks p after) → t'' ≤ t + most_ticks old new
    finished_cost t t' t'' legal come cost =
        let unclosed = unclosed_of q legal room in
        cost_left t t'' old q acting after new (is_at_limit q) answer replaced legal unclosed acts unchanged back put
        (cost old t (come_acting old q legal unclosed t t' acting (is_at_limit q) acts come))

-- where memory ran out, nothing but the journal was replaced
pub back_of : {T : Type 0} (acting after : QueueHistory) (o : Outcome) (replaced : Option Lines) (answer : Result T Fault) → after ≡ after_outcome acting o answer
    → ForSome replaced (λ journal. CanComeBack acting journal) → is_out_of_memory answer ≡ true → ForSome replaced (λ journal. CanComeBack after journal)
back_of acting after o replaced answer is h e =
    subst (λ (r : QueueHistory). ForSome replaced (λ journal. CanComeBack r journal))
    (sym (is ∙ ap (λ (b : Bool). cond b acting (with_optional_event (rebased_where o.rebases acting) o.event)) e)) h

-- ---- a command that is refused at once, and one that finds no memory for a checkpoint

not_both_limits : (limit rest more : Bool) → limit ≡ true → ((limit || rest) || more) ≡ false → ⊥
not_both_limits true rest more h k = true≢false k
not_both_limits false rest more h k = false≢true h

not_alone : (limit rest more : Bool) → limit ≡ true → ((not limit && rest) && more) ≡ true → ⊥
not_alone true rest more h k = false≢true k
not_alone false rest more h k = false≢true h

module _ (old : QueueHistory) (at : ℕ) (command : Command) (wants : wants_open command ≡ true) (q : QueueHistory) (here : q ≡ at_moment old at) where
  refused_in : (fault : Fault) → first_refusal q ≡ Some fault → outcome_in q command ≡ uncounted_refusal fault
  refused_in fault e = by_command command wants
    where
      by_command : (command : Command) → wants_open command ≡ true → outcome_in q command ≡ uncounted_refusal fault
      by_command (commands.Send content delay) w = ap (λ (r : Option Fault). unless_refused r (send_outcome q content delay)) e
      by_command (commands.Receive maximum timeout) w = ap (λ (r : Option Fault). unless_refused r (receive_outcome q maximum timeout)) e
      by_command (commands.Change handle timeout) w = ap (λ (r : Option Fault). unless_refused r (change_outcome q handle timeout)) e
      by_command (commands.Delete handle) w = ap (λ (r : Option Fault). unless_refused r (delete_outcome q handle)) e
      by_command commands.Purge w = ap (λ (r : Option Fault). unless_refused r (done Purged)) e
      by_command (commands.Set wish target) w = ap (λ (r : Option Fault). unless_refused r (done (Set (settings_with (settings_of q.lines) wish target)))) e
      by_command (commands.Arrive parcel) w = ap (λ (r : Option Fault). unless_refused r (arrive_outcome q parcel)) e
      by_command (commands.Settle number) w = ap (λ (r : Option Fault). unless_refused r (settle_outcome q number)) e
      by_command (commands.Orphan target) w = ap (λ (r : Option Fault). unless_refused r (orphan_outcome q target)) e
      by_command commands.Close w = absurd (false≢true w)
      by_command commands.Look w = absurd (false≢true w)
      by_command commands.FirstParcel w = absurd (false≢true w)

  pub refused_of : (fault : Fault) → first_refusal q ≡ Some fault → outcome_of q command ≡ uncounted_refusal fault
  refused_of fault e =
      let none : rebases q command ≡ false = ap (λ (r : Option Fault). unless_some r (wants_open command && is_at_limit q)) e in
      in_place q command none ∙ refused_in fault e

  module _ {T : Type 0} (f : T → Reply) (fault : Fault) (e : first_refusal q ≡ Some fault) where
    refused_there : outcome_of (at_moment old at) command ≡ uncounted_refusal fault
    refused_there = ap (λ (r : QueueHistory). outcome_of r command) (sym here) ∙ refused_of fault e

    met_itself : (b : Bool) (answer : Result Reply Fault) → MatchBool b ⊤ (answer ≡ answer)
    met_itself true answer = tt
    met_itself false answer = refl

    pub refused_answer : Meets (as_reply f (Err fault)) (outcome_of (at_moment old at) command).reply
    refused_answer = subst (λ (o : Outcome). Meets {T = Reply} (Err fault) o.reply) (sym refused_there) (met_itself (is_out_of_memory {T = Reply} (Err fault)) (Err fault))

    pub refused_exact : IsExact (outcome_of (at_moment old at) command) (as_reply f (Err fault))
    refused_exact = subst (λ (o : Outcome). IsExact o (Err fault)) (sym refused_there) (λ none. refl)

    pub refused_room : IsExactWithRoom old (outcome_of (at_moment old at) command) (as_reply f (Err fault))
    refused_room = subst (λ (o : Outcome). IsExactWithRoom old o (Err fault)) (sym refused_there) (λ place alone. refl)

    pub refused_state : q ≡ after_outcome {T = T} (at_moment old at) (outcome_of (at_moment old at) command) (Err fault)
    refused_state = here ∙ by_memory (is_out_of_memory {T = T} (Err fault)) ∙ sym (ap (λ (o : Outcome). after_outcome {T = T} (at_moment old at) o (Err fault)) refused_there)
      where
        by_memory : (b : Bool) → at_moment old at ≡ cond b (at_moment old at) (at_moment old at)
        by_memory true = refl
        by_memory false = refl

  module _ (room : first_refusal q ≡ None) (limit : is_at_limit q ≡ true) where
    comes : (outcome_of (at_moment old at) command).rebases ≡ true
    comes =
        ap (λ (r : QueueHistory). rebases r command) (sym here)
        ∙ ap (λ (r : Option Fault). unless_some r (wants_open command && is_at_limit q)) room
        ∙ ap (λ (b : Bool). b && is_at_limit q) wants
        ∙ limit

    pub short_exact : (answer : Result Reply Fault) → IsExact (outcome_of (at_moment old at) command) answer
    short_exact answer = λ none.
        absurd
        (not_both_limits (outcome_of (at_moment old at) command).rebases (adds_entry (outcome_of (at_moment old at) command)) (hands_over (outcome_of (at_moment old at) command).reply) comes none)

    pub short_room : (answer : Result Reply Fault) → IsExactWithRoom old (outcome_of (at_moment old at) command) answer
    short_room answer = λ place alone.
        absurd
        (not_alone (outcome_of (at_moment old at) command).rebases (option_map_or wants_place_alone (outcome_of (at_moment old at) command).event true)
        (not (hands_over (outcome_of (at_moment old at) command).reply)) comes alone)

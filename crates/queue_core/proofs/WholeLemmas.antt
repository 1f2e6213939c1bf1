-- Two queues that stand for each other, of which one makes its journal anew at its limit and the other has none, go on alike.
use Rattle.std.proofs.Common.{◌≡◌, ℕ, ◌+◌, ◌≤◌, max, Bool, true, false, cond, ◌&&◌, List, [], ◌∷◌, Option, Some, None, Result, Ok, Err, inl, inr, refl, sym, ap, subst, ◌∙◌, arith}
use Rattle.std.specs.Prelude.{◌⊎◌, ⊤, nat_le, IfSome, MatchBool}
use Rattle.std.proofs.lemmas.Bool.{false≢true, true≢false}
use Rattle.std.proofs.lemmas.Bool.Decides.{nat_tests}
use Rattle.message.specs.declared.fault.Fault.{Fault}
use Rattle.message.specs.declared.fault.Fault.TheVariants.{QueueDoesNotExist, JournalFull}
use Rattle.message.specs.Fault.{Meets, is_out_of_memory}
use Rattle.message.specs.Content.{ContentText}
use Rattle.journal.specs.declared.entry.Event.{Event}
use Rattle.journal.specs.declared.entry.Event.TheVariants.{Closed}
use Rattle.journal.specs.Weight.{weight_of}
use Rattle.queue_core.specs.declared.command.Command.{Command}
use Rattle.queue_core.specs.declared.command.Command.TheVariants as commands
use Rattle.queue_core.specs.declared.command.TimedCommand.{TimedCommand}
use Rattle.queue_core.specs.declared.reply.Reply.{Reply}
use Rattle.queue_core.specs.declared.reply.Reply.TheVariants as replies
use Rattle.queue_config.specs.Settings.{QueueSettings}
use Rattle.queue_config.specs.AlarmRules.{Rule}
use Rattle.queue_config.specs.Limits.{QueueLimits}
use Rattle.queue_core.specs.Kept.{opened_queue}
use Rattle.queue_core.specs.Messages.{is_closed, settings_of, has_accepted, pending_transfers}
use Rattle.queue_core.specs.States.{kept_count}
use Rattle.queue_core.specs.Summary.{summary_of}
use Rattle.queue_core.specs.Queue.{QueueHistory, Outcome, at_moment, is_at_limit, is_full, first_refusal, unless_some, adding, uncounted_refusal, wants_open, rebases, rebased, rebased_where, outcome_in, outcome_of, leaves_clock, reached, outcome_at, with_event, with_optional_event, after_outcome, after_answer, first_parcel_of}
use Rattle.queue_core.specs.Run.{AreAnswers, after_all}
use Rattle.queue_core.specs.Standing.{StandsFor, AnswersAs, without_lines}
use Rattle.queue_core.specs.Whole.{without_limit, is_journal_full, whole_after, whole_after_all, AnswersAsWhole, AnswerAsWhole}
use Rattle.queue_core.proofs.commands.InPlaceLemmas.{in_place, placed, unwanted}
use Rattle.queue_core.proofs.CauseLemmas.{IsAbout, about-outcome, about-closed}
use Rattle.queue_core.proofs.SoundLemmas.{IsSound, sound_behind, sound_later, sound_opened}
use Rattle.queue_core.proofs.checkpoints.StandingLemmas.{AnswersIn, closed_same, settings_same, accepted_same, first_same, transfers_same, answers_in}
use Rattle.queue_core.proofs.checkpoints.StandingStepLemmas.{stands_later, stands_behind}
use Rattle.queue_core.proofs.checkpoints.OpenLemmas.{open_summary}
use Rattle.queue_core.proofs.checkpoints.RebaseLemmas.{rebased_summary, sound_based}
use Rattle.queue_core.proofs.BehindLemmas.{open_where, makes_room, free_behind, own_in}
use Rattle.queue_core.proofs.commands.RoomLemmas.{refused_of}

-- ---- queues that stand for each other

pub record AreAlike (q w : QueueHistory) : Type 0 where
  pub sound : IsSound q.lines q.clock
  pub other : IsSound w.lines w.clock
  pub stands : StandsFor q w

pub later : (q w : QueueHistory) (at : ℕ) → AreAlike q w → AreAlike (at_moment q at) (at_moment w at)
later q w at h = record {
  sound = sound_later q.lines q.clock (max q.clock at) (omega arith) h.sound;
  other = sound_later w.lines w.clock (max w.clock at) (omega arith) h.other;
  stands = stands_later q w h.sound h.other h.stands at;
}

come : (q w : QueueHistory) (at : ℕ) (command : Command) → AreAlike q w → AreAlike (reached q at command) (reached w at command)
come q w at command h = by_clock (leaves_clock command)
  where
    by_clock : (b : Bool) → AreAlike (cond b q (at_moment q at)) (cond b w (at_moment w at))
    by_clock true = h
    by_clock false = later q w at h

-- the limit is none of it
unlimited : (q w : QueueHistory) → AreAlike q w → AreAlike q (without_limit w)
unlimited q w h = record {
  sound = h.sound;
  other = h.other;
  stands = record { uid = h.stands.uid; name = h.stands.name; in_flight = h.stands.in_flight; clock = h.stands.clock; summary = h.stands.summary };
}

under_limit : (w : QueueHistory) (at : ℕ) (command : Command) → is_at_limit (reached (without_limit w) at command) ≡ false
under_limit w at command = by_clock (leaves_clock command)
  where
    far : nat_le (max w.limits.max_lines (weight_of w.lines + 1)) (weight_of w.lines) ≡ false
    far = grind (arith, nat_tests)

    by_clock : (b : Bool) → is_at_limit (cond b (without_limit w) (at_moment (without_limit w) at)) ≡ false
    by_clock true = far
    by_clock false = far

pub before_entries : (q w : QueueHistory) → AreAlike q w → (o o' : Option (Event ContentText)) → o ≡ o' → IfSome o (IsAbout q) → IfSome o' (IsAbout w)
    → AreAlike (with_optional_event q o) (with_optional_event w o')
before_entries q w h o o' e about also =
    subst (λ (p : Option (Event ContentText)). AreAlike (with_optional_event q o) (with_optional_event w p)) e
    (by_entry o about (subst (λ (p : Option (Event ContentText)). IfSome p (IsAbout w)) (sym e) also))
  where
    by_entry : (o : Option (Event ContentText)) → IfSome o (IsAbout q) → IfSome o (IsAbout w) → AreAlike (with_optional_event q o) (with_optional_event w o)
    by_entry None about also = h
    by_entry (Some event) about also = record {
      sound = sound_behind q event h.sound about;
      other = sound_behind w event h.other also;
      stands = stands_behind q w h.sound h.other h.stands event about also;
    }

-- ---- a command at the clocks of both

-- below its limit a queue refuses at once only where it is closed
below_refusal : (q : QueueHistory) → is_at_limit q ≡ false → first_refusal q ≡ cond (is_closed q.lines) (Some QueueDoesNotExist) None
below_refusal q below = ap (λ (b : Bool). cond (is_closed q.lines) (Some QueueDoesNotExist) (cond (b && nat_le q.limits.max_lines (1 + kept_count q.lines q.clock)) (Some JournalFull) None)) below

module _ (a b : QueueHistory) (h : AreAlike a b) (command : Command) where
  alike_behind : (r : Bool) → (r ≡ true → is_closed a.lines ≡ false) → AreAlike (rebased_where r a) b
  alike_behind false unclosed = h
  alike_behind true unclosed =
      let is = open_summary a.lines a.clock h.sound (unclosed refl) in
      record {
        sound = sound_based a.uid (summary_of a.lines a.clock) a.clock is;
        other = h.other;
        stands = record {
          uid = h.stands.uid;
          name = h.stands.name;
          in_flight = h.stands.in_flight;
          clock = h.stands.clock;
          summary = rebased_summary a.uid (summary_of a.lines a.clock) a.clock is ∙ h.stands.summary;
        };
      }

  alike_acting : AreAlike (rebased_where (rebases a command) a) b
  alike_acting = alike_behind (rebases a command) (open_where a command)

module _ (a b : QueueHistory) (h : AreAlike a b) (below : is_at_limit b ≡ false) (command : Command) where
  abbrev acting : QueueHistory
  acting = rebased_where (rebases a command) a

  abbrev closed_alike : is_closed a.lines ≡ is_closed b.lines
  closed_alike = closed_same a b h.sound h.other h.stands

  -- what refuses it there, where the first queue's journal is not full
  by_refusal : (acts : QueueHistory) → AreAlike acts b → first_refusal acts ≡ first_refusal b → AnswersIn acts b command
  by_refusal acts k refusals = answers_in acts b k.sound k.other k.stands refusals command

  -- a command that no queue refuses at once asks for no limit
  free_alike : wants_open command ≡ false → AnswersIn a b command
  free_alike = by_command command
    where
      far : nat_le (max a.limits.max_lines (weight_of a.lines + 1)) (weight_of a.lines) ≡ false
      far = grind (arith, nat_tests)

      same : AreAlike (without_limit a) b
      same = record {
        sound = h.sound;
        other = h.other;
        stands = record { uid = h.stands.uid; name = h.stands.name; in_flight = h.stands.in_flight; clock = h.stands.clock; summary = h.stands.summary };
      }

      refusals : first_refusal (without_limit a) ≡ first_refusal b
      refusals =
          below_refusal (without_limit a) far ∙ ap (λ (c : Bool). cond c (Some QueueDoesNotExist) None) closed_alike ∙ sym (below_refusal b below)

      there : (command : Command) → AnswersIn (without_limit a) b command
      there command = answers_in (without_limit a) b same.sound same.other same.stands refusals command

      by_command : (command : Command) → wants_open command ≡ false → AnswersIn a b command
      by_command commands.Close w = record { event = (there commands.Close).event; reply = (there commands.Close).reply }
      by_command commands.Look w = record { event = (there commands.Look).event; reply = (there commands.Look).reply }
      by_command commands.FirstParcel w = record { event = (there commands.FirstParcel).event; reply = (there commands.FirstParcel).reply }
      by_command (commands.Send content delay) w = absurd (true≢false w)
      by_command (commands.Receive maximum timeout) w = absurd (true≢false w)
      by_command (commands.Change handle timeout) w = absurd (true≢false w)
      by_command (commands.Delete handle) w = absurd (true≢false w)
      by_command commands.Purge w = absurd (true≢false w)
      by_command (commands.Set wish target) w = absurd (true≢false w)
      by_command (commands.Arrive parcel) w = absurd (true≢false w)
      by_command (commands.Settle number) w = absurd (true≢false w)
      by_command (commands.Orphan target) w = absurd (true≢false w)

  unwanted_place : wants_open command ≡ false → rebases a command ≡ false
  unwanted_place w = ap (λ (b : Bool). unless_some (first_refusal a) (b && is_at_limit a)) w ∙ unwanted (is_at_limit a) (first_refusal a)

  -- it is answered as there
  record IsAnswered (acts : QueueHistory) : Type 0 where
    alike : AnswersIn acts b command
    unfilled : is_journal_full (outcome_in acts command).reply ≡ false

  free_unfilled : (command : Command) → wants_open command ≡ false → is_journal_full (outcome_in a command).reply ≡ false
  free_unfilled commands.Close w = by_closed (is_closed a.lines)
    where
      by_closed : (c : Bool) → is_journal_full (cond c (uncounted_refusal QueueDoesNotExist) (adding Closed (Ok replies.Done))).reply ≡ false
      by_closed true = refl
      by_closed false = refl
  free_unfilled commands.Look w = refl
  free_unfilled commands.FirstParcel w = refl
  free_unfilled (commands.Send content delay) w = absurd (true≢false w)
  free_unfilled (commands.Receive maximum timeout) w = absurd (true≢false w)
  free_unfilled (commands.Change handle timeout) w = absurd (true≢false w)
  free_unfilled (commands.Delete handle) w = absurd (true≢false w)
  free_unfilled commands.Purge w = absurd (true≢false w)
  free_unfilled (commands.Set wish target) w = absurd (true≢false w)
  free_unfilled (commands.Arrive parcel) w = absurd (true≢false w)
  free_unfilled (commands.Settle number) w = absurd (true≢false w)
  free_unfilled (commands.Orphan target) w = absurd (true≢false w)

  -- an open queue that is not full refuses nothing for its journal's sake
  own_unfilled : (acts : QueueHistory) → first_refusal acts ≡ None → wants_open command ≡ true → is_journal_full (outcome_in acts command).reply ≡ false
  own_unfilled acts free w = by_reply (outcome_in acts command).reply refl
    where
      by_reply : (r : Result Reply Fault) → (outcome_in acts command).reply ≡ r → is_journal_full r ≡ false
      by_reply (Err JournalFull) e = absurd (false≢true ((own_in acts free command w).own JournalFull e))
      by_reply (Ok x) e = refl
      by_reply (Err fault) e = refl

  here : a ≡ at_moment a 0
  here = ap (λ (clock : ℕ). record a { clock = clock }) (omega arith)

  comes : (outcome_of a command ≡ uncounted_refusal JournalFull) ⊎ IsAnswered acting
  comes = by_wants (wants_open command) refl
    where
      placed_as : (r : Bool) → rebases a command ≡ r → IsAnswered (rebased_where r a) → IsAnswered acting
      placed_as r e k = subst (λ (r : Bool). IsAnswered (rebased_where r a)) (sym e) k

      refusal_there : first_refusal b ≡ cond (is_closed a.lines) (Some QueueDoesNotExist) None
      refusal_there = below_refusal b below ∙ ap (λ (c : Bool). cond c (Some QueueDoesNotExist) None) (sym closed_alike)

      by_full : (f : Bool) → is_full a ≡ f → wants_open command ≡ true → is_closed a.lines ≡ false → (outcome_of a command ≡ uncounted_refusal JournalFull) ⊎ IsAnswered acting
      by_full true f w e =
          inl (refused_of a 0 command w a here JournalFull (λ i. cond (e i) (Some QueueDoesNotExist) (cond (f i) (Some JournalFull) None)))
      by_full false f w e = inr (by_limit (is_at_limit a) refl)
        where
          free : first_refusal a ≡ None
          free = λ i. cond (e i) (Some QueueDoesNotExist) (cond (f i) (Some JournalFull) None)

          there : first_refusal b ≡ None
          there = refusal_there ∙ ap (λ (c : Bool). cond c (Some QueueDoesNotExist) None) e

          place : (l : Bool) → is_at_limit a ≡ l → rebases a command ≡ l
          place l at = ap (λ (r : Option Fault). unless_some r (wants_open command && is_at_limit a)) free ∙ (λ i. w i && at i)

          by_limit : (l : Bool) → is_at_limit a ≡ l → IsAnswered acting
          by_limit true at =
              let behind = free_behind a h.sound e at f in
              placed_as true (place true at)
              (record { alike = by_refusal (rebased a) (alike_behind a b h command true (λ r. e)) (behind ∙ sym there); unfilled = own_unfilled (rebased a) behind w })
          by_limit false at = placed_as false (place false at) (record { alike = by_refusal a h (free ∙ sym there); unfilled = own_unfilled a free w })

      by_closed : (c : Bool) → is_closed a.lines ≡ c → wants_open command ≡ true → (outcome_of a command ≡ uncounted_refusal JournalFull) ⊎ IsAnswered acting
      by_closed true e w =
          let gone : first_refusal a ≡ Some QueueDoesNotExist = ap (λ (c : Bool). cond c (Some QueueDoesNotExist) (cond (is_full a) (Some JournalFull) None)) e in
          let there : first_refusal b ≡ Some QueueDoesNotExist = refusal_there ∙ ap (λ (c : Bool). cond c (Some QueueDoesNotExist) None) e in
          let none : rebases a command ≡ false = ap (λ (r : Option Fault). unless_some r (wants_open command && is_at_limit a)) gone in
          let refused : outcome_in a command ≡ uncounted_refusal QueueDoesNotExist = sym (in_place a command none) ∙ refused_of a 0 command w a here QueueDoesNotExist gone in
          inr (placed_as false none (record { alike = by_refusal a h (gone ∙ sym there); unfilled = ap (λ (o : Outcome). is_journal_full o.reply) refused }))
      by_closed false e w = by_full (is_full a) refl w e

      by_wants : (w : Bool) → wants_open command ≡ w → (outcome_of a command ≡ uncounted_refusal JournalFull) ⊎ IsAnswered acting
      by_wants false w = inr (placed_as false (unwanted_place w) (record { alike = free_alike w; unfilled = free_unfilled command w }))
      by_wants true w = by_closed (is_closed a.lines) refl w

  abbrev placed_there : rebases b command ≡ false
  placed_there = placed b command below

  pub answered : is_journal_full (outcome_of a command).reply ≡ false → AnswersAs a b command
  answered unfilled = by_case comes
    where
      there : outcome_in b command ≡ outcome_of b command
      there = sym (in_place b command placed_there)

      by_case : (outcome_of a command ≡ uncounted_refusal JournalFull) ⊎ IsAnswered acting → AnswersAs a b command
      by_case (inl full) = absurd (true≢false (sym (ap (λ (o : Outcome). is_journal_full o.reply) full) ∙ unfilled))
      by_case (inr k) = record {
        event = k.alike.event ∙ ap (λ (o : Outcome). o.event) there;
        reply = k.alike.reply ∙ ap (λ (o : Outcome). without_lines o.reply) there;
      }

  module _ {T : Type 0} (answer : Result T Fault) where
    pub goes_on : (is_out_of_memory answer ≡ false → is_journal_full (outcome_of a command).reply ≡ false)
        → AreAlike (after_outcome a (outcome_of a command) answer) (after_outcome b (outcome_of b command) answer)
    goes_on unfilled = by_memory (is_out_of_memory answer) refl
      where
        behind : (r : Bool) → QueueHistory
        behind r = with_optional_event (rebased_where r b) (outcome_in (rebased_where r b) command).event

        ahead : QueueHistory
        ahead = with_optional_event acting (outcome_in acting command).event

        by_case : (outcome_of a command ≡ uncounted_refusal JournalFull) ⊎ IsAnswered acting → is_journal_full (outcome_of a command).reply ≡ false → AreAlike ahead (behind (rebases b command))
        by_case (inl full) not = absurd (true≢false (sym (ap (λ (o : Outcome). is_journal_full o.reply) full) ∙ not))
        by_case (inr k) not =
            subst (λ (r : Bool). AreAlike ahead (behind r)) (sym placed_there)
            (before_entries acting b (alike_acting a b h command) (outcome_in acting command).event (outcome_in b command).event k.alike.event (about-outcome acting command) (about-outcome b command))

        by_memory : (m : Bool) → is_out_of_memory answer ≡ m → AreAlike (cond m a ahead) (cond m b (behind (rebases b command)))
        by_memory true e = h
        by_memory false e = by_case comes (unfilled e)

    -- a command that finds the journal full changes nothing
    pub stays : is_journal_full (outcome_of a command).reply ≡ true → after_outcome a (outcome_of a command) answer ≡ a
    stays filled = by_case comes
      where
        either : (m : Bool) → cond m a a ≡ a
        either true = refl
        either false = refl

        by_case : (outcome_of a command ≡ uncounted_refusal JournalFull) ⊎ IsAnswered acting → after_outcome a (outcome_of a command) answer ≡ a
        by_case (inl full) = ap (λ (o : Outcome). after_outcome a o answer) full ∙ either (is_out_of_memory answer)
        by_case (inr k) = absurd (false≢true (sym k.unfilled ∙ filled))

-- ---- a command at a moment

module _ (q w : QueueHistory) (h : AreAlike q w) (at : ℕ) (command : Command) where
  there : AreAlike (reached q at command) (reached (without_limit w) at command)
  there = come q (without_limit w) at command (unlimited q w h)

  pub answers_as_whole : AnswersAsWhole q w at command
  answers_as_whole = answered (reached q at command) (reached (without_limit w) at command) there (under_limit w at command) command

  module _ {T : Type 0} (answer : Result T Fault) (told : is_out_of_memory answer ≡ false → is_journal_full answer ≡ is_journal_full (outcome_at q at command).reply) where
    pub alike_after : AreAlike (after_answer q at command answer) (whole_after w at command answer)
    alike_after = by_full (is_journal_full answer) refl
      where
        full_memory : (r : Result T Fault) → is_journal_full r ≡ true → is_out_of_memory r ≡ false
        full_memory (Err JournalFull) e = refl
        full_memory (Ok x) e = refl
        full_memory (Err fault) e = absurd (false≢true e)

        by_full : (f : Bool) → is_journal_full answer ≡ f → AreAlike (after_answer q at command answer) (cond f (reached w at command) (after_answer (without_limit w) at command answer))
        by_full true e =
            subst (λ (r : QueueHistory). AreAlike r (reached w at command))
            (sym (stays (reached q at command) (reached (without_limit w) at command) there (under_limit w at command) command answer (sym (told (full_memory answer e)) ∙ e)))
            (come q w at command h)
        by_full false e =
            goes_on (reached q at command) (reached (without_limit w) at command) there (under_limit w at command) command answer (λ memory. sym (told memory) ∙ e)

-- the queue that a command comes to, with a checkpoint where one comes first, is alike the one without
module _ (q : QueueHistory) (at : ℕ) (command : Command) (sound : IsSound q.lines q.clock) where
  reach : AreAlike (reached q at command) (reached q at command)
  reach = come q q at command (record { sound = sound; other = sound; stands = record { uid = refl; name = refl; in_flight = refl; clock = refl; summary = refl } })

  pub acting_alike : AreAlike (rebased_where (outcome_at q at command).rebases (reached q at command)) (reached q at command)
  acting_alike = alike_acting (reached q at command) (reached q at command) reach command

-- what is left is sound, whatever is answered
pub sound_after : {T : Type 0} (q : QueueHistory) (at : ℕ) (command : Command) (answer : Result T Fault) → IsSound q.lines q.clock
    → IsSound (after_answer q at command answer).lines (after_answer q at command answer).clock
sound_after q at command answer sound = by_memory (is_out_of_memory answer)
  where
    acts : QueueHistory
    acts = rebased_where (rebases (reached q at command) command) (reached q at command)

    behind : (event : Option (Event ContentText)) → IfSome event (IsAbout acts) → IsSound (with_optional_event acts event).lines (with_optional_event acts event).clock
    behind None about = (acting_alike q at command sound).sound
    behind (Some event) about = sound_behind acts event (acting_alike q at command sound).sound about

    by_memory : (b : Bool) → let r : QueueHistory = cond b (reached q at command) (with_optional_event acts (outcome_in acts command).event) in IsSound r.lines r.clock
    by_memory true = (reach q at command sound).sound
    by_memory false = behind (outcome_in acts command).event (about-outcome acts command)

-- what is left of a whole journal, with no checkpoint in sight
pub whole_step : {T : Type 0} (w : QueueHistory) (at : ℕ) (command : Command) (answer : Result T Fault)
    → whole_after w at command answer ≡ cond (is_journal_full answer) (reached w at command)
    (cond (is_out_of_memory answer) (reached (without_limit w) at command) (with_optional_event (reached (without_limit w) at command) (outcome_in (reached (without_limit w) at command) command).event))
whole_step w at command answer =
    let b : QueueHistory = reached (without_limit w) at command in
    let none : rebases b command ≡ false = placed b command (under_limit w at command) in
    λ i. cond (is_journal_full answer) (reached w at command) (cond (is_out_of_memory answer) b (with_optional_event (rebased_where (none i) b) (outcome_in (rebased_where (none i) b) command).event))

-- ---- a list of commands

told_by : (answer wanted : Result Reply Fault) → Meets answer wanted → is_out_of_memory answer ≡ false → is_journal_full answer ≡ is_journal_full wanted
told_by answer wanted h memory = ap is_journal_full (subst (λ (b : Bool). MatchBool b ⊤ (answer ≡ wanted)) memory h)

pub all_alike : (q w : QueueHistory) (steps : List TimedCommand) (answers : List (Result Reply Fault)) → AreAlike q w → AreAnswers q steps answers
    → AnswerAsWhole q w steps answers × AreAlike (after_all q steps answers) (whole_after_all w steps answers)
all_alike q w [] [] h answered = (tt, h)
all_alike q w [] (answer ∷ answers) h answered = absurd answered
all_alike q w (step ∷ steps) [] h answered = absurd answered
all_alike q w (step ∷ steps) (answer ∷ answers) h answered =
    let next = alike_after q w h step.at step.command answer (told_by answer (outcome_at q step.at step.command).reply answered.0) in
    let rest = all_alike (after_answer q step.at step.command answer) (whole_after w step.at step.command answer) steps answers next answered.1 in
    ((answers_as_whole q w h step.at step.command, rest.0), rest.1)

-- ---- two queues under limits

refusal_acting : (q : QueueHistory) (command : Command) → IsSound q.lines q.clock → first_refusal (rebased_where (rebases q command) q) ≡ first_refusal q
refusal_acting q command sound = by_place (rebases q command) refl
  where
    by_place : (r : Bool) → rebases q command ≡ r → first_refusal (rebased_where r q) ≡ first_refusal q
    by_place false e = refl
    by_place true e =
        let room = makes_room q command e in
        let unclosed = open_where q command e in
        let free : first_refusal q ≡ None = λ i. cond (unclosed i) (Some QueueDoesNotExist) (cond (room.unfull i) (Some JournalFull) None) in
        free_behind q sound unclosed room.at room.unfull ∙ sym free

pub answers_same : (q w : QueueHistory) (sound : IsSound q.lines q.clock) (other : IsSound w.lines w.clock) (same : StandsFor q w) → is_full q ≡ is_full w → (command : Command) → AnswersAs q w command
answers_same q w sound other same full command =
    let refusals : first_refusal q ≡ first_refusal w = λ i. cond (closed_same q w sound other same i) (Some QueueDoesNotExist) (cond (full i) (Some JournalFull) None) in
    let here = alike_acting q w (record { sound = sound; other = other; stands = same }) command in
    let there = alike_acting w w (record { sound = other; other = other; stands = record { uid = refl; name = refl; in_flight = refl; clock = refl; summary = refl } }) command in
    let stands : StandsFor (rebased_where (rebases q command) q) (rebased_where (rebases w command) w) = record {
      uid = here.stands.uid ∙ sym there.stands.uid;
      name = here.stands.name ∙ sym there.stands.name;
      in_flight = here.stands.in_flight ∙ sym there.stands.in_flight;
      clock = here.stands.clock ∙ sym there.stands.clock;
      summary = here.stands.summary ∙ sym there.stands.summary;
    } in
    let k = answers_in (rebased_where (rebases q command) q) (rebased_where (rebases w command) w) here.sound there.sound stands
    (refusal_acting q command sound ∙ refusals ∙ sym (refusal_acting w command other)) command in
    record { event = k.event; reply = k.reply }

-- ---- what else is alike

pub opened_alike : (uid : ℕ) (name : List ℕ) (settings : QueueSettings) (limits : QueueLimits) (rules : List Rule) (at : ℕ)
    → AreAlike (opened_queue uid name settings limits rules at) (opened_queue uid name settings limits rules at)
opened_alike uid name settings limits rules at = record {
  sound = sound_opened uid at settings;
  other = sound_opened uid at settings;
  stands = record { uid = refl; name = refl; in_flight = refl; clock = refl; summary = refl };
}

pub closed_then : (q w : QueueHistory) → AreAlike q w → AreAlike (with_event q Closed) (with_event w Closed)
closed_then q w h = before_entries q w h (Some Closed) (Some Closed) refl (about-closed q) (about-closed w)

module _ (q w : QueueHistory) (h : AreAlike q w) where
  pub settings_alike : settings_of q.lines ≡ settings_of w.lines
  settings_alike = settings_same q w h.sound h.other h.stands

  pub accepted_alike : (uid number : ℕ) → has_accepted q.lines uid number ≡ has_accepted w.lines uid number
  accepted_alike = accepted_same q w h.sound h.other h.stands

  pub parcel_alike : first_parcel_of q ≡ first_parcel_of w
  parcel_alike = first_same q w h.sound h.other h.stands

  pub transfers_alike : pending_transfers q.lines ≡ pending_transfers w.lines
  transfers_alike = transfers_same q w h.sound h.other h.stands

-- Every legal journal stands for a whole one, and what is so of whole ones is so of it. A checkpoint of it is legal.
use Rattle.std.proofs.Common.{◌≡◌, ℕ, ◌+◌, ◌≤◌, ◌<◌, max, Bool, true, false, cond, ◌&&◌, List, [], ◌∷◌, ◌++◌, length, Option, Some, None, Ok, inl, inr, refl, sym, ap, subst, ◌∙◌, append_assoc, arith}
use Rattle.std.specs.Prelude.{◌⊎◌, nat_le, count_by}
use Rattle.std.specs.List.{range_with_len}
use Rattle.std.proofs.lemmas.Bool.{false≢true, true≢false}
use Rattle.std.proofs.lemmas.Bool.Decides.{nat_tests}
use Rattle.std.proofs.lemmas.List.{append-nil}
use Rattle.message.specs.declared.fault.Fault.{Fault}
use Rattle.message.specs.declared.fault.Fault.TheVariants.{QueueDoesNotExist, JournalFull}
use Rattle.message.specs.Content.{ContentText}
use Rattle.queue_config.specs.Settings.{QueueSettings, AreSettings, settings_with}
use Rattle.journal.specs.declared.entry.Entry.{Entry}
use Rattle.journal.specs.declared.entry.Event.{Event}
use Rattle.journal.specs.declared.entry.Event.TheVariants.{Closed, Base}
use Rattle.journal.specs.Journal.{based}
use Rattle.journal.specs.Weight.{weight_of}
use Rattle.queue_core.specs.declared.command.Command.{Command}
use Rattle.queue_core.specs.declared.command.Command.TheVariants as commands
use Rattle.queue_core.specs.declared.reply.Reply.TheVariants as replies
use Rattle.queue_core.specs.Messages.{is_closed}
use Rattle.queue_core.specs.States.{kept_count}
use Rattle.queue_core.specs.Summary.{Summary, summary_of}
use Rattle.queue_core.specs.Rebase.{base_in, base_of}
use Rattle.queue_core.specs.Queue.{QueueHistory, Outcome, at_moment, with_event, is_at_limit, is_full, first_refusal, unless_refused, with_room, send_outcome, receive_outcome, change_outcome, delete_outcome, arrive_outcome, settle_outcome, orphan_outcome, done, uncounted_refusal, adding, wants_open, unless_some, rebases, rebased, outcome_in}
use Rattle.queue_core.specs.Legal.{IsOrdered, IsAllowedIn, IsCausedIn, AreCaused, BeginsAndFollows, IsWhole, IsCheckpoint, GoesOn, IsLegal}
use Rattle.queue_core.specs.private.Kept.{IsKept}
use Rattle.queue_core.specs.Standing.{StandsFor}
use Rattle.queue_core.proofs.commands.InPlaceLemmas.{added_in, unlimited, unwanted, placed}
use Rattle.queue_core.proofs.CauseLemmas.{about-caused}
use Rattle.queue_core.proofs.commands.LegalLemmas.{caused_in, event_weight-caused, weight-push, whole_behind, whole_later, OpenFor, open_for}
use Rattle.queue_core.proofs.SoundLemmas.{IsSound, sound_whole, sound_behind, sound_later}
use Rattle.queue_core.proofs.checkpoints.StandingLemmas.{passes, kept_told, settings_same, closed_same, answers_in}
use Rattle.queue_core.proofs.checkpoints.StandingStepLemmas.{stands_later, stands_behind}
use Rattle.queue_core.proofs.AloneLemmas.{kept_whole}
use Rattle.queue_core.proofs.checkpoints.FewLemmas.{fewer_later, few_behind}
use Rattle.queue_core.proofs.checkpoints.OpenLemmas.{open_summary}
use Rattle.queue_core.proofs.checkpoints.RebaseLemmas.{rebased_summary, sound_based}
use Rattle.queue_core.proofs.checkpoints.WeightLemmas.{based_weight}

abbrev Line : Type 0
Line = Entry ContentText

-- ---- a higher limit

abbrev raised : QueueHistory → ℕ → QueueHistory
raised q n = record q { limits = record q.limits { max_lines = n } }

allowed-raise : (q : QueueHistory) (n : ℕ) (command : Command) → IsAllowedIn q command → IsAllowedIn (raised q n) command
allowed-raise q n (commands.Send content delay) h = h
allowed-raise q n (commands.Receive maximum timeout) h = h
allowed-raise q n (commands.Change handle timeout) h = h
allowed-raise q n (commands.Delete handle) h = h
allowed-raise q n commands.Purge h = h
allowed-raise q n (commands.Set wish target) h = h
allowed-raise q n (commands.Arrive parcel) h = h
allowed-raise q n (commands.Settle number) h = h
allowed-raise q n (commands.Orphan target) h = h
allowed-raise q n commands.Close h = h
allowed-raise q n commands.Look h = h
allowed-raise q n commands.FirstParcel h = h

-- a queue that is open and below its limit refuses nothing at once
pub unrefused : (q : QueueHistory) → is_closed q.lines ≡ false → is_at_limit q ≡ false → first_refusal q ≡ None
unrefused q unclosed below = rw unclosed (ap (λ (b : Bool). cond (b && nat_le q.limits.max_lines (1 + kept_count q.lines q.clock)) (Some JournalFull) None) below)

module _ (q : QueueHistory) (n : ℕ) (most : q.limits.max_lines ≤ n) where
  below-raised : is_at_limit q ≡ false → is_at_limit (raised q n) ≡ false
  below-raised h = grind (arith, nat_tests)

  -- what a command adds below the limit it adds below a higher one
  added-raise : (command : Command) (event : Event ContentText) → (outcome_in q command).event ≡ Some event → rebases q command ≡ false → (outcome_in (raised q n) command).event ≡ Some event
  added-raise command event added place = by_command command added place
    where
      refusals : OpenFor q → first_refusal (raised q n) ≡ first_refusal q
      refusals o = unrefused (raised q n) o.unclosed (below-raised o.below) ∙ sym (unrefused q o.unclosed o.below)

      in_room : (outcome : Outcome) → (with_room q outcome).event ≡ Some event → OpenFor q → (unless_refused (first_refusal (raised q n)) outcome).event ≡ Some event
      in_room outcome h o = ap (λ (r : Option Fault). (unless_refused r outcome).event) (refusals o) ∙ h

      by_command : (command : Command) → (outcome_in q command).event ≡ Some event → rebases q command ≡ false → (outcome_in (raised q n) command).event ≡ Some event
      by_command (commands.Send content delay) h k = in_room (send_outcome q content delay) h (open_for q (commands.Send content delay) event h k refl)
      by_command (commands.Receive maximum timeout) h k = in_room (receive_outcome q maximum timeout) h (open_for q (commands.Receive maximum timeout) event h k refl)
      by_command (commands.Change handle timeout) h k = in_room (change_outcome q handle timeout) h (open_for q (commands.Change handle timeout) event h k refl)
      by_command (commands.Delete handle) h k = in_room (delete_outcome q handle) h (open_for q (commands.Delete handle) event h k refl)
      by_command commands.Purge h k = in_room (done _) h (open_for q commands.Purge event h k refl)
      by_command (commands.Set wish target) h k = in_room (done _) h (open_for q (commands.Set wish target) event h k refl)
      by_command (commands.Arrive parcel) h k = in_room (arrive_outcome q parcel) h (open_for q (commands.Arrive parcel) event h k refl)
      by_command (commands.Settle number) h k = in_room (settle_outcome q number) h (open_for q (commands.Settle number) event h k refl)
      by_command (commands.Orphan target) h k = in_room (orphan_outcome q target) h (open_for q (commands.Orphan target) event h k refl)
      by_command commands.Close h k = h
      by_command commands.Look h k = h
      by_command commands.FirstParcel h k = h

  place-raise : (command : Command) → rebases q command ≡ false → (event : Event ContentText) → (outcome_in q command).event ≡ Some event → rebases (raised q n) command ≡ false
  place-raise command k event h = by_open (wants_open command) refl
    where
      by_open : (b : Bool) → wants_open command ≡ b → unless_some (first_refusal (raised q n)) (b && is_at_limit (raised q n)) ≡ false
      by_open true e = unlimited true (is_at_limit (raised q n)) (first_refusal (raised q n)) (below-raised (open_for q command event h k e).below)
      by_open false e = unwanted (is_at_limit (raised q n)) (first_refusal (raised q n))

  caused-raise : (event : Event ContentText) → IsCausedIn q event → IsCausedIn (raised q n) event
  caused-raise event k =
      let h = added_in q event k in
      caused_in (raised q n) event k.command (allowed-raise q n k.command k.allowed) (added-raise k.command event h k.in_place) (place-raise k.command k.in_place event h)

all_caused-raise : (q : QueueHistory) (n : ℕ) → q.limits.max_lines ≤ n → (before es : List Line) → AreCaused q before es → AreCaused (raised q n) before es
all_caused-raise q n most before [] h = tt
all_caused-raise q n most before (e ∷ es) h =
    (caused-raise (record q { clock = e.at; lines = before }) n most e.event h.0, all_caused-raise q n most (before ++ e ∷ []) es h.1)

begins-raise : (q : QueueHistory) (n : ℕ) → q.limits.max_lines ≤ n → (lines : List Line) → BeginsAndFollows q lines → BeginsAndFollows (raised q n) lines
begins-raise q n most [] h = absurd h
begins-raise q n most (e ∷ es) h = (h.0, all_caused-raise q n most (e ∷ []) es h.1)

whole-raise : (q : QueueHistory) (n : ℕ) → q.limits.max_lines ≤ n → IsWhole q → IsWhole (raised q n)
whole-raise q n most whole = record { ordered = whole.ordered; caused = begins-raise q n most q.lines whole.caused }

-- ---- an event of one queue in another that it stands for

module _ (q w : QueueHistory) (sound : IsSound q.lines q.clock) (other : IsSound w.lines w.clock) (same : StandsFor q w) (room : is_at_limit w ≡ false) where
  allowed-same : (command : Command) → IsAllowedIn q command → IsAllowedIn w command
  allowed-same (commands.Send content delay) h = h
  allowed-same (commands.Receive maximum timeout) h = h
  allowed-same (commands.Change handle timeout) h = h
  allowed-same (commands.Delete handle) h = h
  allowed-same commands.Purge h = h
  allowed-same (commands.Set wish target) h = subst (λ (s : QueueSettings). AreSettings (settings_with s wish target)) (settings_same q w sound other same) h
  allowed-same (commands.Arrive parcel) h = h
  allowed-same (commands.Settle number) h = h
  allowed-same (commands.Orphan target) h = h
  allowed-same commands.Close h = h
  allowed-same commands.Look h = h
  allowed-same commands.FirstParcel h = h

  also_added : (command : Command) (event : Event ContentText) → (outcome_in q command).event ≡ Some event → rebases q command ≡ false → (outcome_in w command).event ≡ Some event
  also_added command event h k = by_command command h k
    where
      behind : (command : Command) → wants_open command ≡ true → (outcome_in q command).event ≡ Some event → rebases q command ≡ false → (outcome_in w command).event ≡ Some event
      behind command wants h k =
          let o = open_for q command event h k wants in
          let closed : is_closed w.lines ≡ false = sym (closed_same q w sound other same) ∙ o.unclosed in
          let refusals : first_refusal q ≡ first_refusal w = unrefused q o.unclosed o.below ∙ sym (unrefused w closed room) in
          sym (answers_in q w sound other same refusals command).event ∙ h

      by_command : (command : Command) → (outcome_in q command).event ≡ Some event → rebases q command ≡ false → (outcome_in w command).event ≡ Some event
      by_command commands.Close h k =
          ap (λ (b : Bool). (cond b (uncounted_refusal QueueDoesNotExist) (let o : Outcome = adding Closed (Ok replies.Done) in o)).event) (sym (closed_same q w sound other same)) ∙ h
      by_command commands.Look h k = h
      by_command commands.FirstParcel h k = h
      by_command (commands.Send content delay) h k = behind (commands.Send content delay) refl h k
      by_command (commands.Receive maximum timeout) h k = behind (commands.Receive maximum timeout) refl h k
      by_command (commands.Change handle timeout) h k = behind (commands.Change handle timeout) refl h k
      by_command (commands.Delete handle) h k = behind (commands.Delete handle) refl h k
      by_command commands.Purge h k = behind commands.Purge refl h k
      by_command (commands.Set wish target) h k = behind (commands.Set wish target) refl h k
      by_command (commands.Arrive parcel) h k = behind (commands.Arrive parcel) refl h k
      by_command (commands.Settle number) h k = behind (commands.Settle number) refl h k
      by_command (commands.Orphan target) h k = behind (commands.Orphan target) refl h k

  pub also_caused : (event : Event ContentText) → IsCausedIn q event → IsCausedIn w event
  also_caused event k =
      caused_in w event k.command (allowed-same k.command k.allowed) (also_added k.command event (added_in q event k) k.in_place) (placed w k.command room)

-- ---- the whole journal that a legal one stands for

pub record StandsForWhole (q : QueueHistory) : Type 0 where
  pub whole : QueueHistory
  pub is_whole : IsWhole whole
  pub stands : StandsFor q whole
  pub sound : IsSound q.lines q.clock
  pub few : kept_count q.lines q.clock ≤ weight_of q.lines

-- equal summaries keep as many messages
kept_alike : (one another : List Line) (clock : ℕ) → summary_of one clock ≡ summary_of another clock → kept_count one clock ≡ kept_count another clock
kept_alike one another clock same =
    kept_told one clock
    ∙ ap (λ (s : Summary). count_by (passes (λ k. true) s.known) (range_with_len 0 (length s.receives))) same
    ∙ sym (kept_told another clock)

-- the room that is promised is none of this
respared : (q : QueueHistory) (n : ℕ) → StandsForWhole q → StandsForWhole (record q { spare = n })
respared q n h = record {
  whole = h.whole;
  is_whole = h.is_whole;
  stands = record { uid = h.stands.uid; name = h.stands.name; in_flight = h.stands.in_flight; clock = h.stands.clock; summary = h.stands.summary };
  sound = h.sound;
  few = h.few;
}

stands-later : (q : QueueHistory) (at : ℕ) → StandsForWhole q → StandsForWhole (at_moment q at)
stands-later q at h = record {
  whole = at_moment h.whole at;
  is_whole = whole_later h.whole at h.is_whole;
  stands = stands_later q h.whole h.sound (sound_whole h.whole h.is_whole) h.stands at;
  sound = sound_later q.lines q.clock (max q.clock at) (omega arith) h.sound;
  few = (let fewer = fewer_later q.lines q.clock (max q.clock at) (omega arith) in omega (arith, fewer, h.few));
}

stands-behind : (q : QueueHistory) (event : Event ContentText) → StandsForWhole q → IsCausedIn q event → StandsForWhole (with_event q event)
stands-behind q event h k =
    let n : ℕ = max h.whole.limits.max_lines (weight_of h.whole.lines + 1) in
    let w : QueueHistory = raised h.whole n in
    let whole : IsWhole w = whole-raise h.whole n (omega arith) h.is_whole in
    let sound : IsSound w.lines w.clock = sound_whole w whole in
    let same : StandsFor q w = record { uid = h.stands.uid; name = h.stands.name; in_flight = h.stands.in_flight; clock = h.stands.clock; summary = h.stands.summary } in
    let room : is_at_limit w ≡ false = grind (arith, nat_tests) in
    let also = also_caused q w h.sound sound same room event k in
    record {
      whole = with_event w event;
      is_whole = whole_behind w event whole also;
      stands = stands_behind q w h.sound sound same event (about-caused q event k) (about-caused w event also);
      sound = sound_behind q event h.sound (about-caused q event k);
      few = (let more = few_behind q event h.sound (about-caused q event k) in let one = event_weight-caused q event k in omega (arith, more, one, h.few, weight-push q.lines (record { at = q.clock; event = event })));
    }

stands-on : (q : QueueHistory) (before es : List Line) (since : ℕ) → IsOrdered since es q.clock → AreCaused q before es → StandsForWhole (record q { lines = before; clock = since })
    → StandsForWhole (record q { lines = before ++ es })
stands-on q before [] since ordered caused h =
    let there : max since q.clock ≡ q.clock = omega (arith, ordered) in
    subst (λ (lines : List Line). StandsForWhole (record q { lines = lines })) (sym (append-nil before))
    (subst (λ (clock : ℕ). StandsForWhole (record q { lines = before; clock = clock })) there (stands-later (record q { lines = before; clock = since }) q.clock h))
stands-on q before (e ∷ es) since ordered caused h =
    let there : max since e.at ≡ e.at = omega (arith, ordered.0) in
    let here : StandsForWhole (record q { lines = before; clock = e.at }) =
    subst (λ (clock : ℕ). StandsForWhole (record q { lines = before; clock = clock })) there (stands-later (record q { lines = before; clock = since }) e.at h) in
    let next = respared (with_event (record q { lines = before; clock = e.at }) e.event) q.spare (stands-behind (record q { lines = before; clock = e.at }) e.event here caused.0) in
    subst (λ (lines : List Line). StandsForWhole (record q { lines = lines })) (append_assoc before (e ∷ []) es)
    (stands-on q (before ++ e ∷ []) es e.at ordered.1 caused.1 next)

stands-begun : (q : QueueHistory) (e : Line) → IsCheckpoint q.uid q.name q.limits.in_flight e → StandsForWhole (record q { lines = e ∷ []; clock = e.at })
stands-begun q e h =
    let w : QueueHistory = h.whole in
    let s : Summary = summary_of w.lines w.clock in
    let is = open_summary w.lines w.clock (sound_whole w h.is_whole) h.unclosed in
    let lines : based w.clock (base_of w.uid w.lines w.clock) ≡ e ∷ [] = λ i. record { at = h.clock i; event = sym h.made i } ∷ [] in
    record {
      whole = w;
      is_whole = h.is_whole;
      stands = record {
        uid = sym h.same_uid;
        name = sym h.same_name;
        in_flight = sym h.same_in_flight;
        clock = sym h.clock;
        summary = (λ i. summary_of (sym lines i) (sym h.clock i)) ∙ rebased_summary w.uid s w.clock is;
      };
      few = (let weight = based_weight w.uid w.lines w.clock (sound_whole w h.is_whole) h.unclosed in
          let kept : kept_count (based w.clock (base_of w.uid w.lines w.clock)) w.clock ≡ kept_count w.lines w.clock = kept_alike (based w.clock (base_of w.uid w.lines w.clock)) w.lines w.clock (rebased_summary w.uid s w.clock is) in
          let at : kept_count (e ∷ []) e.at ≡ kept_count (based w.clock (base_of w.uid w.lines w.clock)) w.clock = λ i. kept_count (sym lines i) (sym h.clock i) in
          let heavy : weight_of (e ∷ []) ≡ weight_of (based w.clock (base_of w.uid w.lines w.clock)) = λ i. weight_of (sym lines i) in
          omega (arith, weight, kept, at, heavy));
      sound = (λ (both : IsSound (based w.clock (base_of w.uid w.lines w.clock)) w.clock). transported lines h.clock both) (sound_based w.uid s w.clock is);
    }
  where
    transported : {a b : List Line} {c d : ℕ} → a ≡ b → c ≡ d → IsSound a c → IsSound b d
    transported {a} {b} {c} {d} e f h = subst (λ (clock : ℕ). IsSound b clock) f (subst (λ (lines : List Line). IsSound lines c) e h)

pub whole_of : (q : QueueHistory) → IsLegal q → StandsForWhole q
whole_of q legal = by_cause q.lines legal.ordered legal.caused
  where
    by_cause : (lines : List Line) → IsOrdered 0 lines q.clock → BeginsAndFollows q lines ⊎ GoesOn q lines → StandsForWhole (record q { lines = lines })
    by_cause lines ordered (inl begins) = record {
      whole = record q { lines = lines };
      is_whole = record { ordered = ordered; caused = begins_in lines lines begins };
      stands = record { uid = refl; name = refl; in_flight = refl; clock = refl; summary = refl };
      sound = sound_whole (record q { lines = lines }) (record { ordered = ordered; caused = begins_in lines lines begins });
      few = kept_whole (record q { lines = lines }) (record { ordered = ordered; caused = begins_in lines lines begins });
    }
      where
        begins_in : (all lines : List Line) → BeginsAndFollows q lines → BeginsAndFollows (record q { lines = all }) lines
        begins_in all lines h = again all lines h
          where
            follows_in : (all before es : List Line) → AreCaused q before es → AreCaused (record q { lines = all }) before es
            follows_in all before [] h = tt
            follows_in all before (e ∷ es) h = (h.0, follows_in all (before ++ e ∷ []) es h.1)

            again : (all lines : List Line) → BeginsAndFollows q lines → BeginsAndFollows (record q { lines = all }) lines
            again all [] h = absurd h
            again all (e ∷ es) h = (h.0, follows_in all (e ∷ []) es h.1)
    by_cause [] ordered (inr goes) = absurd goes
    by_cause (e ∷ es) ordered (inr goes) = stands-on q (e ∷ []) es e.at ordered.1 goes.1 (stands-begun q e goes.0)

pub kept_few : (q : QueueHistory) → IsLegal q → kept_count q.lines q.clock ≤ weight_of q.lines
kept_few q legal = (whole_of q legal).few

pub sound_legal : (q : QueueHistory) → IsLegal q → IsSound q.lines q.clock
sound_legal q legal = (whole_of q legal).sound

-- ---- a checkpoint of a legal queue

module _ (q : QueueHistory) (legal : IsLegal q) (unclosed : is_closed q.lines ≡ false) where
  pub stands_rebased : StandsFor (rebased q) q
  stands_rebased = record {
    uid = refl;
    name = refl;
    in_flight = refl;
    clock = refl;
    summary = rebased_summary q.uid (summary_of q.lines q.clock) q.clock (open_summary q.lines q.clock (sound_legal q legal) unclosed);
  }

  pub sound_rebased : IsSound (rebased q).lines q.clock
  sound_rebased = sound_based q.uid (summary_of q.lines q.clock) q.clock (open_summary q.lines q.clock (sound_legal q legal) unclosed)

  pub legal_rebased : IsLegal (rebased q)
  legal_rebased =
      let h = whole_of q legal in
      record {
        ordered = (omega arith, omega arith);
        caused =
            inr (
              record {
                whole = h.whole;
                is_whole = h.is_whole;
                unclosed = sym (closed_same q h.whole h.sound (sound_whole h.whole h.is_whole) h.stands) ∙ unclosed;
                same_uid = sym h.stands.uid;
                same_name = sym h.stands.name;
                same_in_flight = sym h.stands.in_flight;
                clock = sym h.stands.clock;
                made = λ i. Base (base_in (h.stands.uid i) (h.stands.summary i));
              },
              tt,
            );
      }

  pub weight_rebased : weight_of (rebased q).lines ≡ 1 + kept_count q.lines q.clock
  weight_rebased = based_weight q.uid q.lines q.clock (sound_legal q legal) unclosed

  pub kept_rebased : (limit : ℕ) → IsKept q limit → is_at_limit q ≡ true → is_full q ≡ false → IsKept (rebased q) limit
  kept_rebased limit h at full =
      let below : nat_le q.limits.max_lines (1 + kept_count q.lines q.clock) ≡ false = ap (λ (b : Bool). b && nat_le q.limits.max_lines (1 + kept_count q.lines q.clock)) (sym at) ∙ full in
      let fits : 1 + kept_count q.lines q.clock < q.limits.max_lines = grind (arith, nat_tests) in
      record {
        room = h.room;
        within = omega (arith, weight_rebased, fits);
        place_left = λ unclosed. omega (arith, weight_rebased, fits);
        legal = legal_rebased;
      }

-- No entry of a whole journal offers a message that is not there yet, or tells of its receives.
use Rattle.std.proofs.Common.{◌≡◌, ℕ, ◌≤◌, min, Bool, false, cond, List, [], ◌∷◌, ◌++◌, Option, Some, None, refl, sym, ap, ◌∙◌, arith}
use Rattle.std.specs.Option.{option_map_or}
use Rattle.std.specs.Prelude.{sum_by}
use Rattle.std.specs.List.{All}
use Rattle.std.proofs.lemmas.Option.{slice_get_past}
use Rattle.std.proofs.lemmas.List.Elements.{All-nil, All-cons, All-head, All-tail, All-push}
use Rattle.std.proofs.lemmas.List.Sums.{sum_by-cons}
use Rattle.std.proofs.lemmas.Bool.{false≢true, false_from_ne_true}
use Rattle.message.specs.Content.{ContentText}
use Rattle.journal.specs.declared.entry.Entry.{Entry}
use Rattle.journal.specs.declared.entry.Event.{Event}
use Rattle.queue_core.specs.declared.facts.Message.{Message}
use Rattle.queue_core.specs.declared.facts.MessageState.TheVariants.{Visible}
use Rattle.metric_window.specs.Flows.{greatest}
use Rattle.queue_core.specs.Messages.{effect_of, messages, message_count, offers_number, receives_in, receive_count, first_of_both, first_receive_time, last_receive_from, last_receive_time}
use Rattle.queue_core.specs.States.{is_in_state}
use Rattle.queue_core.specs.Queue.{QueueHistory}
use Rattle.queue_core.specs.Legal.{IsWhole, IsOpening, IsCausedIn}
use Rattle.queue_core.proofs.CauseLemmas.{IsAbout, about-caused}
use Rattle.queue_core.proofs.entries.AlongLemmas.{holds_along}
use Rattle.queue_core.proofs.Scans.{StandsAlone}
use Rattle.queue_core.proofs.PushLemmas.{count-push, receives_in-alone, first_receive_in-alone, last_receive_by-alone}

-- a message that is not there yet was never received
pub record IsUnborn (lines : List (Entry ContentText)) (n : ℕ) : Type 0 where
  pub receives : receive_count lines n ≡ 0
  pub first : first_receive_time lines n ≡ None
  pub last : last_receive_time lines n ≡ 0

-- ---- where no entry offers a number

module _ (n : ℕ) where
  abbrev IsSilent : Entry ContentText → Type 0
  IsSilent e = StandsAlone e.event × (offers_number n e.event ≡ false)

  receives-silent : (lines : List (Entry ContentText)) → All IsSilent lines → sum_by (λ (x : Entry ContentText). receives_in n x.event) lines ≡ 0
  receives-silent [] h = refl
  receives-silent (e ∷ es) h =
      let here = All-head IsSilent e es h in
      let none : receives_in n e.event ≡ 0 = receives_in-alone n e here.0 ∙ ap (λ (b : Bool). cond b 1 0) here.1 in
      sum_by-cons (λ (x : Entry ContentText). receives_in n x.event) e es ∙ rw (none, receives-silent es (All-tail IsSilent e es h)) refl

  first-silent : (lines : List (Entry ContentText)) → All IsSilent lines → first_receive_time lines n ≡ None
  first-silent [] h = refl
  first-silent (e ∷ es) h =
      let here = All-head IsSilent e es h in
      ap (λ (o : Option ℕ). first_of_both o (first_receive_time es n)) (first_receive_in-alone n e here.0 ∙ ap (λ (b : Bool). cond b (Some e.at) None) here.1)
      ∙ first-silent es (All-tail IsSilent e es h)

  last-silent : (time : ℕ) (lines : List (Entry ContentText)) → All IsSilent lines → last_receive_from n time lines ≡ time
  last-silent time [] h = refl
  last-silent time (e ∷ es) h =
      let here = All-head IsSilent e es h in
      ap (λ (t : ℕ). last_receive_from n t es) (last_receive_by-alone n e here.0 time ∙ ap (λ (b : Bool). cond b e.at time) here.1)
      ∙ last-silent time es (All-tail IsSilent e es h)

-- ---- legal journals

abbrev IsSilentPast : List (Entry ContentText) → Type 0
IsSilentPast lines = (n : ℕ) → message_count lines ≤ n → All (IsSilent n) lines

silent-opening : (uid : ℕ) (e : Entry ContentText) → IsOpening uid e.event → IsSilentPast (e ∷ [])
silent-opening uid e h = λ n past.
    All-cons (IsSilent n) e [] (ap (λ (event : Event ContentText). (effect_of event).since) h.opened, ap (λ (event : Event ContentText). offers_number n event) h.opened) (All-nil (IsSilent n))

pub silent_about : (q : QueueHistory) (event : Event ContentText) (n : ℕ) → IsAbout q event → message_count q.lines ≤ n → offers_number n event ≡ false
silent_about q event n about past =
    false_from_ne_true (offers_number n event)
    (λ offers. false≢true
    (sym (ap (λ (o : Option Message). option_map_or (λ m. is_in_state Visible q.lines q.clock m) o false) (slice_get_past (messages q.lines) n past)) ∙ about.offered n offers))

silent-push : (q : QueueHistory) (lines : List (Entry ContentText)) (e : Entry ContentText) → IsCausedIn (record q { clock = e.at; lines = lines }) e.event → IsSilentPast lines
    → IsSilentPast (lines ++ e ∷ [])
silent-push q lines e caused h = λ n past.
    let before : message_count lines ≤ n = omega (arith, count-push lines e) in
    let here = record q { clock = e.at; lines = lines } in
    All-push (IsSilent n) lines e (h n before) ((about-caused here e.event caused).alone, silent_about here e.event n (about-caused here e.event caused) before)

pub unborn_past : (q : QueueHistory) (n : ℕ) → IsWhole q → message_count q.lines ≤ n → IsUnborn q.lines n
unborn_past q n legal past =
    let silent = holds_along q IsSilentPast (silent-opening q.uid) (silent-push q) q.lines legal.caused n past in
    record { receives = ap (λ (k : ℕ). min k greatest) (receives-silent n q.lines silent); first = first-silent n q.lines silent; last = last-silent n 0 q.lines silent }

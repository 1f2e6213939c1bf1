-- The messages of a journal, one after another, by the lines that begin them.
use Rattle.std.proofs.Common.{◌≡◌, ℕ, suc, ◌+◌, ◌-◌, ◌<◌, ◌≤◌, List, [], ◌∷◌, ◌++◌, length, take, drop, get_or, Option, Some, None, refl, sym, ap, inl, inr, ◌∙◌, arith}
use Rattle.std.specs.Prelude.{slice_get, option_map, unwrap_or}
use Rattle.std.specs.Option.{option_map_or}
use Rattle.std.proofs.lemmas.Bool.{cases_lt}
use Rattle.std.proofs.lemmas.List.{take-append-drop, take_all, take_more, length-take, length-append, length-map}
use Rattle.std.proofs.lemmas.List.FromFn.{length-map-range_with_len, get_or-map-range_with_len}
use Rattle.std.proofs.lemmas.Option.{none-some, slice_get-get_or, slice_get-map, slice_get_within, slice_get_past, get_or_from_slice_get}
use Rattle.message.specs.Content.{ContentText}
use Rattle.journal.specs.declared.entry.Entry.{Entry}
use Rattle.journal.specs.declared.base.KeptMessage.{KeptMessage}
use Rattle.journal.specs.Base.{BaseOf}
use Rattle.journal.specs.declared.entry.Event.{Event}
use Rattle.journal.specs.declared.entry.Event.TheVariants.{Base}
use Rattle.queue_core.specs.declared.facts.Message.{Message}
use Rattle.queue_core.specs.Messages.{Birth, kept_numbered, kept_birth, gone_birth, base_births, contents_in, effect_of, message_in, messages_in, messages_from, messages, message_count}
use Rattle.queue_core.specs.private.Tally.{births}
use Rattle.queue_core.proofs.PushLemmas.{slice_get-prefix, slice_get-behind, mapped_some, messages-append, count-push, numbered_in}
use Rattle.plain_queue.specs.private.Numbering.{births_at, IsAt}
use Rattle.plain_queue.proofs.ScanLemmas.{drop_entry}

-- ---- the births of a checkpoint

abbrev pub birth_kept : BaseOf ContentText → ℕ → Birth ContentText
birth_kept base number = option_map_or kept_birth (kept_numbered base number) gone_birth

pub base_many : (base : BaseOf ContentText) → length (base_births base) ≡ length base.receives
base_many base = length-map-range_with_len (birth_kept base) 0 (length base.receives)

pub base_birth : (base : BaseOf ContentText) (n : ℕ) → n < length base.receives → slice_get (base_births base) n ≡ Some (birth_kept base n)
base_birth base n below =
    slice_get-get_or (base_births base) n (birth_kept base n) (omega (arith, base_many base))
    ∙ ap (λ (b : Birth ContentText). Some b) (get_or-map-range_with_len (birth_kept base) 0 (length base.receives) n n (birth_kept base n) below (omega arith))

-- what a checkpoint says of one of its messages: that it is gone, or what is kept of it
pub base_message : (base : BaseOf ContentText) (place number at n : ℕ) → n < length base.receives
    → option_map (message_in place number at) (slice_get (base_births base) n) ≡ Some (message_in place number 0 (birth_kept base n))
base_message base place number at n below = ap (option_map (message_in place number at)) (base_birth base n below) ∙ ap (λ (m : Message). Some m) (same (kept_numbered base n))
  where
    same : (o : Option (KeptMessage ContentText)) → message_in place number at (option_map_or kept_birth o gone_birth) ≡ message_in place number 0 (option_map_or kept_birth o gone_birth)
    same None = refl
    same (Some kept) = refl

pub base_content : (base : BaseOf ContentText) (n : ℕ) (o : Option (KeptMessage ContentText)) → n < length base.receives → o ≡ kept_numbered base n
    → option_map (λ kept. kept.content) o ≡ unwrap_or (slice_get (contents_in (Base base)) n) None
base_content base n o below is =
    sym (ap (λ (c : Option (Option ContentText)). unwrap_or c None) (slice_get-map (λ (b : Birth ContentText). b.content) (base_births base) n ∙ ap (option_map (λ (b : Birth ContentText). b.content)) (base_birth base n below))
    ∙ (ap (λ (k : Option (KeptMessage ContentText)). (option_map_or kept_birth k gone_birth).content) (sym is) ∙ told o))
  where
    told : (k : Option (KeptMessage ContentText)) → (option_map_or kept_birth k gone_birth).content ≡ option_map (λ kept. kept.content) k
    told None = refl
    told (Some kept) = refl

-- behind the messages that begin with an event there is none
pub past_births : (event : Event ContentText) (n : ℕ) → births event ≤ n → slice_get (effect_of event).births n ≡ None
past_births event n past = slice_get_past (effect_of event).births n past

pub past_contents : (event : Event ContentText) (n : ℕ) → births event ≤ n → slice_get (contents_in event) n ≡ None
past_contents event n past = slice_get_past (contents_in event) n (omega (arith, length-map (effect_of event).births (λ (b : Birth ContentText). b.content)))

-- ---- no more messages among the first entries

pub count-take : (lines : List (Entry ContentText)) (place : ℕ) → message_count (take place lines) ≤ message_count lines
count-take lines place =
    let parts = ap (λ (ms : List (Entry ContentText)). message_count ms) (sym (take-append-drop place lines)) in
    let all = ap (λ (ms : List Message). length ms) (messages-append (take place lines) (drop place lines)) in
    omega (arith, length-append (messages (take place lines)) (messages_from (length (take place lines)) (message_count (take place lines)) (drop place lines)))

pub count-more : (lines : List (Entry ContentText)) (place : ℕ) (e : Entry ContentText) → slice_get lines place ≡ Some e → message_count (take (place + 1) lines) ≡ message_count (take place lines) + births e.event
count-more lines place e at =
    ap (λ (es : List (Entry ContentText)). message_count es)
    (take_more lines place e (slice_get_within lines place e at) ∙ ap (λ (x : Entry ContentText). take place lines ++ x ∷ []) (get_or_from_slice_get lines place e e at))
    ∙ count-push (take place lines) e

-- ---- one line

module _ (lines : List (Entry ContentText)) (place number before : ℕ) (e : Entry ContentText) (at : slice_get lines place ≡ Some e) (is : IsAt lines place number before) where
  abbrev base : ℕ
  base = message_count (take place lines)

  abbrev begun : List Message
  begun = messages_in place base e.at (effect_of e.event).births

  abbrev later : List Message
  later = messages_from (suc place) (base + births e.event) (drop (place + 1) lines)

  there : place < length lines
  there = slice_get_within lines place e at

  all : messages lines ≡ messages (take place lines) ++ (begun ++ later)
  all =
      let first : length (take place lines) ≡ place = let n = length-take place lines in omega (arith, there) in
      ap (λ (es : List (Entry ContentText)). messages es) (sym (take-append-drop place lines))
      ∙ messages-append (take place lines) (drop place lines)
      ∙ ap (λ (i : ℕ). messages (take place lines) ++ messages_from i base (drop place lines)) first
      ∙ ap (λ (es : List (Entry ContentText)). messages (take place lines) ++ messages_from place base es) (drop_entry lines place e at)

  pub found : (m : Message) → option_map (message_in place number e.at) (slice_get (effect_of e.event).births before) ≡ Some m → slice_get (messages lines) number ≡ Some m
  found m h =
      ap (λ (ms : List Message). slice_get ms number) all
      ∙ (slice_get-behind (messages (take place lines)) (begun ++ later) number before is.numbered
      ∙ slice_get-prefix begun later before m (numbered_in place base e.at (effect_of e.event).births before number is.numbered ∙ h))

  pub found_at : (m : Message) → option_map (message_in place number e.at) (slice_get (effect_of e.event).births before) ≡ Some m → IsAt lines place (number + 1) (before + 1)
  found_at m h =
      let b = mapped_some (message_in place number e.at) (slice_get (effect_of e.event).births before) m h in
      let below = slice_get_within (effect_of e.event).births before b.0 b.1 in
      let here : births_at lines place ≡ births e.event = ap (λ (o : Option (Entry ContentText)). option_map_or (λ x. births x.event) o 0) at in
      record { within = is.within; numbered = omega (arith, is.numbered); begun = omega (arith, below, here) }

  past_all : option_map (message_in place number e.at) (slice_get (effect_of e.event).births before) ≡ None → births e.event ≤ before
  past_all h = elim (cases_lt before (births e.event)) [
    | inl below ↦
        let b = get_or (effect_of e.event).births before (gone_birth) in
        absurd (none-some (message_in place number e.at b) (sym h ∙ ap (option_map (message_in place number e.at)) (slice_get-get_or (effect_of e.event).births before gone_birth below)))
    | inr past ↦ past
  ]

  pub missed_at : option_map (message_in place number e.at) (slice_get (effect_of e.event).births before) ≡ None → IsAt lines (place + 1) number 0
  missed_at h =
      let here : births_at lines place ≡ births e.event = ap (λ (o : Option (Entry ContentText)). option_map_or (λ x. births x.event) o 0) at in
      record {
        within = omega (arith, there);
        numbered = omega (arith, is.numbered, is.begun, here, past_all h, count-more lines place e at);
        begun = omega arith;
      }

-- behind the last line
pub none_left : (lines : List (Entry ContentText)) (place number before : ℕ) → IsAt lines place number before → length lines ≤ place → length (messages lines) ≤ number
none_left lines place number before is past =
    let count = ap (λ (es : List (Entry ContentText)). message_count es) (take_all place lines past) in
    omega (arith, is.numbered)

pub next_message : (ms : List Message) (number : ℕ) (m : Message) → slice_get ms number ≡ Some m → drop number ms ≡ m ∷ drop (number + 1) ms
next_message ms number m h = drop_entry ms number m h

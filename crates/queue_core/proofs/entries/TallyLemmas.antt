-- What entries behind others, and one entry more, make of what a journal comes to.
use Rattle.std.proofs.Common.{◌≡◌, ℕ, ◌+◌, cond, Option, ◌||◌, List, [], ◌∷◌, ◌++◌, length, refl, sym, ap, ◌∙◌}
use Rattle.std.proofs.lemmas.List.FromFn.{length-map-range_with_len}
use Rattle.queue_core.specs.declared.tally.Tally.{Tally}
use Rattle.std.specs.Option.{option_map_or}
use Rattle.queue_core.specs.Messages.{Since, message_count, settings_after, gives_settings, modified_by, modified_from, receive_count, closes}
use Rattle.queue_core.specs.private.Tally.{births, Tallies}
use Rattle.queue_core.specs.Summary.{summary_of}
use Rattle.queue_core.proofs.Scans.{StandsAlone}
use Rattle.queue_core.proofs.SoundLemmas.{Begins, created_time-push}
use Rattle.queue_core.proofs.PushLemmas.{Line, settings_from-push, closed-push, count-push}

pub modified_from-append : (time : ℕ) (xs ys : List Line) → modified_from time (xs ++ ys) ≡ modified_from (modified_from time xs) ys
modified_from-append time [] ys = refl
modified_from-append time (x ∷ xs) ys = modified_from-append (modified_by time x) xs ys

modified_from-told : (time : ℕ) (lines : List Line) (e : Line) → modified_from time (lines ++ e ∷ []) ≡ modified_by (modified_from time lines) e
modified_from-told time lines e = modified_from-append time lines (e ∷ [])

pub modified_from-push : (time : ℕ) (lines : List Line) (e : Line) → StandsAlone e.event → modified_from time (lines ++ e ∷ []) ≡ cond (gives_settings e.event) e.at (modified_from time lines)
modified_from-push time lines e alone =
    modified_from-told time lines e
    ∙ ap (λ (s : Option Since). option_map_or (λ (x : Since). x.modified) s (cond (gives_settings e.event) e.at (modified_from time lines))) alone

-- a tally behind one entry more is that of the entries with it
pub record GoesOn (t u : Tally) (count : ℕ) (e : Line) : Type 0 where
  pub settings : u.settings ≡ settings_after t.settings e.event
  pub created : u.created ≡ t.created
  pub modified : u.modified ≡ cond (gives_settings e.event) e.at t.modified
  pub closed : u.is_closed ≡ (t.is_closed || closes e.event)
  pub messages : u.messages ≡ count + births e.event

-- how many messages a journal has is how many counts of receives a summary of it has
pub received-count : (lines : List Line) (clock : ℕ) → length (summary_of lines clock).receives ≡ message_count lines
received-count lines clock = length-map-range_with_len (λ n. receive_count lines n) 0 (message_count lines)

-- a clock that moves changes nothing of it
pub tallies-later : (lines : List Line) (clock later : ℕ) (t : Tally) → Tallies t (summary_of lines clock) → Tallies t (summary_of lines later)
tallies-later lines clock later t is = record { settings = is.settings; created = is.created; modified = is.modified; closed = is.closed; messages = is.messages }

pub tallies-push : (lines : List Line) (clock : ℕ) (e : Line) (t u : Tally) → Begins lines → StandsAlone e.event → Tallies t (summary_of lines clock) → GoesOn t u (message_count lines) e
    → Tallies u (summary_of (lines ++ e ∷ []) clock)
tallies-push lines clock e t u begins alone is goes = record {
  settings = goes.settings ∙ ap (λ s. settings_after s e.event) is.settings ∙ sym (settings_from-push _ lines e);
  created = goes.created ∙ is.created ∙ sym (created_time-push lines e begins);
  modified = goes.modified ∙ ap (λ time. cond (gives_settings e.event) e.at time) is.modified ∙ sym (modified_from-push 0 lines e alone);
  closed = goes.closed ∙ ap (λ b. b || closes e.event) is.closed ∙ sym (closed-push lines e);
  messages = goes.messages ∙ sym (count-push lines e) ∙ sym (received-count (lines ++ e ∷ []) clock);
}

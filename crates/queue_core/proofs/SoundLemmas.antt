-- What is so of every journal, proved of whole ones: the entries are in order, of a queue that was opened before its clock, and tell nothing of a message
-- that is not there yet; transfers of the messages that wait, each once; and no row of a minute that is not over.
use Rattle.std.proofs.Common.{◌≡◌, ℕ, ◌≤◌, ◌<◌, Bool, true, false, cond, ◌||◌, List, [], ◌∷◌, ◌++◌, Option, Some, None, refl, sym, ap, subst, ◌∙◌, arith}
use Rattle.std.specs.Prelude.{is_some, unwrap_or}
use Rattle.std.specs.Option.{option_map_or}
use Rattle.std.proofs.lemmas.List.{append-nil}
use Rattle.std.proofs.lemmas.Grind.{flat_map-append}
use Rattle.message.specs.Content.{ContentText, content_size}
use Rattle.queue_config.specs.Settings.{QueueSettings}
use Rattle.journal.specs.declared.entry.Event.{Event}
use Rattle.journal.specs.declared.entry.Event.TheVariants.{Opened}
use Rattle.metric_window.specs.Flows.{minute_of}
use Rattle.metric_window.specs.KeptRows.{row_in}
use Rattle.metric_window.specs.declared.row.Row.{Row}
use Rattle.queue_core.specs.Messages.{Since, effect_of, opens, created_time, message_count, offers_number, rows_known}
use Rattle.queue_core.specs.Metrics.{told_row, metric_row}
use Rattle.queue_core.specs.Queue.{QueueHistory}
use Rattle.queue_core.specs.Legal.{IsOrdered, IsWhole, BeginsAndFollows}
use Rattle.queue_core.proofs.Scans.{StandsAlone, StandAlone}
use Rattle.queue_core.proofs.AloneLemmas.{alone_legal, rows-none}
use Rattle.queue_core.proofs.commands.LegalLemmas.{not_after, IsOrdered-later, IsOrdered-push}
use Rattle.queue_core.proofs.CauseLemmas.{IsAbout}
use Rattle.queue_core.proofs.entries.UnbornLemmas.{IsUnborn, unborn_past, silent_about}
use Rattle.queue_core.proofs.PendingLemmas.{IsPendingOf, IsPendingOf-push, IsPendingOf-opened, pending_legal}
use Rattle.queue_core.proofs.PushLemmas.{Line, count-push, receives-push, first-push, last-push}

-- the first entry opens the queue, or stands for one that did
abbrev pub Begins : List Line → Type 0
Begins [] = ⊥
Begins (e ∷ es) = (opens e.event || is_some (effect_of e.event).since) ≡ true

pub record IsSound (lines : List Line) (clock : ℕ) : Type 0 where
  pub ordered : IsOrdered 0 lines clock
  pub begun : Begins lines
  pub early : created_time lines ≤ clock
  pub unborn : (n : ℕ) → message_count lines ≤ n → IsUnborn lines n
  pub pending : IsPendingOf lines
  pub told : (minute : ℕ) → minute_of clock ≤ minute → row_in (rows_known lines) minute ≡ None

-- the row of a minute that is not over is as the entries tell it
pub row-told_now : (lines : List Line) (clock minute : ℕ) → IsSound lines clock → minute_of clock ≤ minute → metric_row content_size lines minute ≡ told_row content_size lines minute
row-told_now lines clock minute sound present = ap (λ (o : Option Row). unwrap_or o (told_row content_size lines minute)) (sound.told minute present)

-- ---- one entry more

Begins-push : (lines : List Line) (e : Line) → Begins lines → Begins (lines ++ e ∷ [])
Begins-push [] e h = absurd h
Begins-push (x ∷ xs) e h = h

created_by : (opened : Bool) (since : Option Since) (at a b : ℕ) → (opened || is_some since) ≡ true
    → cond opened at (option_map_or (λ (s : Since). s.created) since a) ≡ cond opened at (option_map_or (λ (s : Since). s.created) since b)
created_by true since at a b h = refl
created_by false (Some s) at a b h = refl
created_by false None at a b h = absurd cc

-- when the queue was created does not change
pub created_time-append : (xs ys : List Line) → Begins xs → created_time (xs ++ ys) ≡ created_time xs
created_time-append [] ys h = absurd h
created_time-append (x ∷ xs) ys h = created_by (opens x.event) (effect_of x.event).since x.at (created_time (xs ++ ys)) (created_time xs) h

pub created_time-push : (lines : List Line) (e : Line) → Begins lines → created_time (lines ++ e ∷ []) ≡ created_time lines
created_time-push lines e h = created_time-append lines (e ∷ []) h

known-push : (lines : List Line) (e : Line) → StandsAlone e.event → rows_known (lines ++ e ∷ []) ≡ rows_known lines
known-push lines e alone =
    let known : Option Since → List Row = λ s. option_map_or (λ (x : Since). x.rows) s [] in
    flat_map-append (λ (x : Line). known (effect_of x.event).since) lines (e ∷ [])
    ∙ ap (λ (s : Option Since). rows_known lines ++ (known s ++ [])) alone
    ∙ append-nil (rows_known lines)

IsUnborn-push : (lines : List Line) (e : Line) (n : ℕ) → StandsAlone e.event → offers_number n e.event ≡ false → IsUnborn lines n → IsUnborn (lines ++ e ∷ []) n
IsUnborn-push lines e n alone silent h = record {
  receives = receives-push lines e n alone ∙ rw (h.receives, silent) refl;
  first = first-push lines e n alone ∙ rw (h.first, silent) refl;
  last = last-push lines e n alone ∙ rw (silent, h.last) refl;
}

pub sound_behind : (q : QueueHistory) (event : Event ContentText) → IsSound q.lines q.clock → IsAbout q event → IsSound (q.lines ++ record { at = q.clock; event = event } ∷ []) q.clock
sound_behind q event sound about =
    let e : Line = record { at = q.clock; event = event } in
    let alone = about.alone in
    record {
      ordered = IsOrdered-push 0 q.lines q.clock event sound.ordered;
      begun = Begins-push q.lines e sound.begun;
      early = subst (λ (created : ℕ). created ≤ q.clock) (sym (created_time-push q.lines e sound.begun)) sound.early;
      unborn = λ n past.
          let before : message_count q.lines ≤ n = omega (arith, past, count-push q.lines e) in
          IsUnborn-push q.lines e n alone (silent_about q event n about before) (sound.unborn n before);
      pending = IsPendingOf-push q e about sound.pending;
      told = λ minute present. ap (λ (rows : List Row). row_in rows minute) (known-push q.lines e alone) ∙ sound.told minute present;
    }

pub sound_opened : (uid at : ℕ) (settings : QueueSettings) → IsSound (record { at = at; event = Opened uid settings } ∷ []) at
sound_opened uid at settings = record {
  ordered = (omega arith, omega arith);
  begun = refl;
  early = omega arith;
  unborn = λ n past. record { receives = refl; first = refl; last = refl };
  pending = IsPendingOf-opened at uid settings;
  told = λ minute present. refl;
}

pub sound_later : (lines : List Line) (clock later : ℕ) → clock ≤ later → IsSound lines clock → IsSound lines later
sound_later lines clock later rises sound = record {
  ordered = IsOrdered-later 0 lines clock later rises sound.ordered;
  begun = sound.begun;
  early = omega (arith, rises, sound.early);
  unborn = sound.unborn;
  pending = sound.pending;
  told = λ minute present. sound.told minute (omega (arith, rises, present));
}

-- ---- a journal that begins with the queue's opening

early_or : (opens : Bool) (at rest clock : ℕ) → at ≤ clock → rest ≤ clock → cond opens at rest ≤ clock
early_or true at rest clock h k = h
early_or false at rest clock h k = k

created_early : (from clock : ℕ) (lines : List Line) → StandAlone lines → IsOrdered from lines clock → created_time lines ≤ clock
created_early from clock [] alone h = omega arith
created_early from clock (e ∷ es) alone h =
    let rest : created_time es ≤ clock = created_early e.at clock es alone.1 h.1 in
    early_or (opens e.event) e.at (option_map_or (λ (s : Since). s.created) (effect_of e.event).since (created_time es)) clock (not_after e.at clock es h.1)
    (subst (λ (s : Option Since). option_map_or (λ (x : Since). x.created) s (created_time es) ≤ clock) (sym alone.0) rest)

begins_opened : (q : QueueHistory) (lines : List Line) → BeginsAndFollows q lines → Begins lines
begins_opened q [] h = absurd h
begins_opened q (e ∷ es) h = ap (λ (event : Event ContentText). opens event || is_some (effect_of event).since) h.0.opened

pub sound_whole : (q : QueueHistory) → IsWhole q → IsSound q.lines q.clock
sound_whole q legal = record {
  ordered = legal.ordered;
  begun = begins_opened q q.lines legal.caused;
  early = created_early 0 q.clock q.lines (alone_legal q legal) legal.ordered;
  unborn = λ n past. unborn_past q n legal past;
  pending = pending_legal q legal;
  told = λ minute present. ap (λ (rows : List Row). row_in rows minute) (rows-none q.lines (alone_legal q legal));
}

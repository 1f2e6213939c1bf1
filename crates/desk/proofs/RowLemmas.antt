-- The rows of a queue stay as long as a minute lasts, whatever is called.
use Rattle.std.proofs.Common.{◌≡◌, ℕ, ◌+◌, ◌-◌, ◌/◌, ◌<◌, ◌≤◌, max, Bool, true, false, cond, List, [], ◌∷◌, ◌++◌, map, zero, suc, Option, Some, None, Result, refl, sym, ap, ◌∙◌, arith}
use Rattle.std.specs.Prelude.{IfSome}
use Rattle.std.specs.List.{range_with_len}
use Rattle.message.specs.declared.fault.Fault.{Fault}
use Rattle.message.specs.Content.{ContentText, content_size}
use Rattle.journal.specs.declared.entry.Entry.{Entry}
use Rattle.journal.specs.declared.entry.Event.{Event}
use Rattle.metric_window.specs.declared.row.Row.{Row}
use Rattle.metric_window.specs.Window.{window_start, window_end}
use Rattle.queue_core.specs.declared.command.Command.{Command}
use Rattle.queue_core.specs.declared.reply.Reply.{Reply}
use Rattle.std.specs.Option.{option_map_or}
use Rattle.queue_core.specs.Messages.{Since, effect_of, opens, created_time}
use Rattle.queue_core.specs.Metrics.{metric_row}
use Rattle.queue_core.specs.Queue.{QueueHistory, at_moment, rebased, with_event, after_answer}
use Rattle.queue_core.proofs.Scans.{StandsAlone}
use Rattle.queue_core.proofs.LastingLemmas.{lasts_all}
use Rattle.queue_core.proofs.MetricLemmas.{metric_row-later, window_based}
use Rattle.desk.specs.private.KeptRows.{RowsOfMinute, AreRowsOf}

-- the rows that a function gives of a minute and those after it, and those that another gives
rows_agree : (f g : ℕ → Row) (first count : ℕ) → ((minute : ℕ) → first ≤ minute → minute < first + count → f minute ≡ g minute) → map f (range_with_len first count) ≡ map g (range_with_len first count)
rows_agree f g first zero same = refl
rows_agree f g first (suc count) same =
    ap (λ (row : Row). row ∷ map f (range_with_len (first + 1) count)) (same first (omega arith) (omega arith))
    ∙ ap (λ (rows : List Row). g first ∷ rows) (rows_agree f g (first + 1) count (λ minute le h. same minute (omega arith) (omega arith)))

-- what opens no queue and is no checkpoint changes nothing of when it was created
created-opened : (b : Bool) (at time : ℕ) → b ≡ false → cond b at time ≡ time
created-opened true at time h = absurd cc
created-opened false at time h = refl

created-push : (lines : List (Entry ContentText)) (e : Entry ContentText) → opens e.event ≡ false → StandsAlone e.event → created_time (lines ++ e ∷ []) ≡ created_time lines
created-push [] e h alone =
    created-opened (opens e.event) e.at (option_map_or (λ (s : Since). s.created) (effect_of e.event).since 0) h
    ∙ ap (λ (o : Option Since). option_map_or (λ (s : Since). s.created) o 0) alone
created-push (x ∷ xs) e h alone =
    ap (λ (time : ℕ). cond (opens x.event) x.at (option_map_or (λ (s : Since). s.created) (effect_of x.event).since time)) (created-push xs e h alone)

-- the rows at a clock depend on its minute alone
abbrev rows_in : List (Entry ContentText) → ℕ → ℕ → List Row
rows_in lines created minute = let first = max (created / 60000) (minute - 180) in map (λ m. metric_row content_size lines m) (range_with_len first (minute - first))

rows_later : (k : RowsOfMinute) (q : QueueHistory) (at : ℕ) → AreRowsOf k q → AreRowsOf k (at_moment q at)
rows_later k q at are =
    let before : k.minute ≤ window_end q.clock = are.not_later in
    record {
      not_later = omega arith;
      rows = λ is.
          let same : window_end q.clock ≡ window_end (max q.clock at) = omega arith in
          are.rows (omega arith) ∙ ap (rows_in q.lines (created_time q.lines)) same;
    }

rows_more : (k : RowsOfMinute) (q : QueueHistory) (event : Event ContentText) → opens event ≡ false → StandsAlone event → AreRowsOf k q → AreRowsOf k (with_event q event)
rows_more k q event o alone are =
    let e : Entry ContentText = record { at = q.clock; event = event } in
    let start : ℕ = window_start (created_time q.lines) q.clock in
    record {
      not_later = are.not_later;
      rows = λ is.
          are.rows is
          ∙ rows_agree (λ m. metric_row content_size q.lines m) (λ m. metric_row content_size (q.lines ++ e ∷ []) m) start (window_end q.clock - start)
          (λ minute le h. sym (metric_row-later content_size q.lines e minute alone (omega arith)))
          ∙ ap (λ (created : ℕ). map (λ m. metric_row content_size (q.lines ++ e ∷ []) m) (range_with_len (window_start created q.clock) (window_end q.clock - window_start created q.clock))) (sym (created-push q.lines e o alone));
    }

rows_based : (k : RowsOfMinute) (q : QueueHistory) → AreRowsOf k q → AreRowsOf k (rebased q)
rows_based k q are = record { not_later = are.not_later; rows = λ is. are.rows is ∙ sym (window_based q) }

pub rows_behind : (kept : Option RowsOfMinute) (q : QueueHistory) (at : ℕ) (command : Command) (answer : Result Reply Fault) → IfSome kept (λ k. AreRowsOf k q)
    → IfSome kept (λ k. AreRowsOf k (after_answer q at command answer))
rows_behind None q at command answer are = tt
rows_behind (Some k) q at command answer are =
    lasts_all (λ r. AreRowsOf k r) (record { later = λ r moment p. rows_later k r moment p; more = λ r event o alone p. rows_more k r event o alone p })
    (λ r p. rows_based k r p) q (record { at = at; command = command } ∷ []) (answer ∷ []) are

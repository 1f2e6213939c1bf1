-- One step of going through a journal for what became of a message.
use Rattle.std.proofs.Common.{◌≡◌, ℕ, zero, suc, ◌+◌, Bool, true, false, cond, ◌&&◌, ◌||◌, List, [], ◌∷◌, ◌++◌, drop, Some, refl, ap, ◌∙◌, add-one, ◌*◌}
use Rattle.std.specs.Prelude.{slice_get}
use Rattle.std.specs.List.{list_any}
use Rattle.queue_config.specs.Settings.{QueueSettings}
use Rattle.journal.specs.declared.entry.Entry.{Entry}
use Rattle.queue_core.specs.declared.facts.Course.{Course}
use Rattle.queue_core.specs.Messages.{settings_after, RetentionPeriod, closes_period, periods_from, course_after, course_from}
use Rattle.queue_core.proofs.Scans.{by_closing}

pub drop_entry : {X : Type 0} (xs : List X) (i : ℕ) (x : X) → slice_get xs i ≡ Some x → drop i xs ≡ x ∷ drop (i + 1) xs
drop_entry [] i x h = absurd cc
drop_entry (y ∷ xs) zero x h = ap (λ z. z ∷ xs) (let e : y ≡ x = cc in e)
drop_entry (y ∷ xs) (suc i) x h = rw add-one (rw add-one at (drop_entry xs i x h))

module _ {C : Type 0} (lines : List (Entry C)) (place : ℕ) (e : Entry C) (at : slice_get lines place ≡ Some e) where
  -- the first period that an entry closes, if any, and those after it
  pub list_any-periods_from : (p : RetentionPeriod → Bool) (s : QueueSettings) (clock : ℕ) → list_any p (periods_from place s clock (drop place lines))
      ≡ (closes_period e.event && p (record { retention = s.retention_seconds; end = e.at; closing = place }))
      || list_any p (periods_from (place + 1) (settings_after s e.event) clock (drop (place + 1) lines))
  list_any-periods_from p s clock = rw (drop_entry lines place e at) (simp add-one (by_closing (closes_period e.event) p _ _))

  pub list_any-periods_from-other : (p : RetentionPeriod → Bool) (s : QueueSettings) (clock : ℕ)
      → (closes_period e.event && p (record { retention = s.retention_seconds; end = e.at; closing = place })) ≡ false
      → list_any p (periods_from place s clock (drop place lines)) ≡ list_any p (periods_from (place + 1) (settings_after s e.event) clock (drop (place + 1) lines))
  list_any-periods_from-other p s clock h =
      list_any-periods_from p s clock ∙ ap (λ b. b || list_any p (periods_from (place + 1) (settings_after s e.event) clock (drop (place + 1) lines))) h

  pub list_any-periods_from-here : (p : RetentionPeriod → Bool) (s : QueueSettings) (clock : ℕ)
      → (closes_period e.event && p (record { retention = s.retention_seconds; end = e.at; closing = place })) ≡ true
      → list_any p (periods_from place s clock (drop place lines)) ≡ true
  list_any-periods_from-here p s clock h =
      list_any-periods_from p s clock ∙ ap (λ b. b || list_any p (periods_from (place + 1) (settings_after s e.event) clock (drop (place + 1) lines))) h

  pub course_from-entry : (number : ℕ) (c : Course) → course_from number c (drop place lines) ≡ course_from number (course_after number c e) (drop (place + 1) lines)
  course_from-entry number c = rw (drop_entry lines place e at) refl

-- One step of going through a journal: what is left at a place is the entry there and what is left after it.
use Rattle.std.proofs.Common.{◌≡◌, ℕ, ◌+◌, ◌-◌, ◌<◌, ◌≤◌, Bool, true, false, cond, List, [], ◌∷◌, ◌++◌, map, length, take, drop, Option, Some, refl, sym, ap, ◌∙◌, arith}
use Rattle.std.specs.Prelude.{◌==◌, slice_get, sum_by}
use Rattle.std.specs.Option.{option_map_or, option_or}
use Rattle.std.specs.List.{list_any}
use Rattle.std.proofs.lemmas.Bool.{lt-ltb}
use Rattle.std.proofs.lemmas.List.{map-append, take_more, length-map}
use Rattle.std.proofs.lemmas.List.Sums.{sum_by-cons}
use Rattle.std.proofs.lemmas.List.Folds.{find-append}
use Rattle.std.proofs.lemmas.Option.{get_or_from_slice_get}
use Rattle.queue_config.specs.Settings.{QueueSettings}
use Rattle.journal.specs.declared.entry.Entry.{Entry}
use Rattle.metric_window.specs.KeptRows.{row_in}
use Rattle.metric_window.specs.declared.row.Row.{Row}
use Rattle.queue_core.specs.Messages.{Birth, Since, effect_of, contents_in, contents, settings_after, settings_from, created_time, opens, modified_by, modified_from, receives_in, first_of_both, first_receive_in, first_receive_time, last_receive_by, last_receive_from, rows_known}
use Rattle.queue_core.specs.private.Tally.{births}
use Rattle.queue_core.proofs.PushLemmas.{slice_get-append, slice_get-behind}
use Rattle.plain_queue.proofs.ScanLemmas.{drop_entry}

module _ {C : Type 0} (lines : List (Entry C)) (place : ℕ) (e : Entry C) (at : slice_get lines place ≡ Some e) where
  pub settings_from-entry : (s : QueueSettings) → settings_from s (drop place lines) ≡ settings_from (settings_after s e.event) (drop (place + 1) lines)
  settings_from-entry s = rw (drop_entry lines place e at) refl

  pub created_time-entry : created_time (drop place lines) ≡ cond (opens e.event) e.at (option_map_or (λ (s : Since). s.created) (effect_of e.event).since (created_time (drop (place + 1) lines)))
  created_time-entry = rw (drop_entry lines place e at) refl

  pub modified_from-entry : (time : ℕ) → modified_from time (drop place lines) ≡ modified_from (modified_by time e) (drop (place + 1) lines)
  modified_from-entry time = rw (drop_entry lines place e at) refl

  pub first_receive-entry : (number : ℕ) → first_receive_time (drop place lines) number ≡ first_of_both (first_receive_in number e) (first_receive_time (drop (place + 1) lines) number)
  first_receive-entry number = rw (drop_entry lines place e at) refl

  pub last_receive_from-entry : (number time : ℕ) → last_receive_from number time (drop place lines) ≡ last_receive_from number (last_receive_by number time e) (drop (place + 1) lines)
  last_receive_from-entry number time = rw (drop_entry lines place e at) refl

  pub receives-entry : (number : ℕ) → sum_by (λ (x : Entry C). receives_in number x.event) (drop place lines) ≡ receives_in number e.event + sum_by (λ (x : Entry C). receives_in number x.event) (drop (place + 1) lines)
  receives-entry number = rw (drop_entry lines place e at) (sum_by-cons (λ (x : Entry C). receives_in number x.event) e (drop (place + 1) lines))

  pub any-here : (p : Entry C → Bool) → p e ≡ true → list_any p (drop place lines) ≡ true
  any-here p h = rw (drop_entry lines place e at, h) refl

  pub any-later : (p : Entry C → Bool) → p e ≡ false → list_any p (drop place lines) ≡ list_any p (drop (place + 1) lines)
  any-later p h = rw (drop_entry lines place e at, h) refl

  -- rows that are known, first that of the entry
  pub rows-entry : rows_known (drop place lines) ≡ option_map_or (λ (s : Since). s.rows) (effect_of e.event).since [] ++ rows_known (drop (place + 1) lines)
  rows-entry = rw (drop_entry lines place e at) refl

  pub row-entry : (minute : ℕ) (o : Option Row) → o ≡ row_in (option_map_or (λ (s : Since). s.rows) (effect_of e.event).since []) minute
      → row_in (rows_known (drop place lines)) minute ≡ option_or o (row_in (rows_known (drop (place + 1) lines)) minute)
  row-entry minute o is =
      let here : List Row = option_map_or (λ (s : Since). s.rows) (effect_of e.event).since [] in
      let later : List Row = rows_known (drop (place + 1) lines) in
      ap (λ (rows : List Row). row_in rows minute) rows-entry
      ∙ find-append (λ (row : Row). row.minute == minute) here later
      ∙ ap (λ (k : Option Row). option_or k (row_in later minute)) (sym is)

  -- contents by number: first those that the entry brings
  contents-entry : contents (drop place lines) ≡ contents_in e.event ++ contents (drop (place + 1) lines)
  contents-entry = rw (drop_entry lines place e at) refl

  as-many : length (contents_in e.event) ≡ births e.event
  as-many = length-map (effect_of e.event).births (λ (b : Birth C). b.content)

  pub content-here : (before : ℕ) → before < births e.event → slice_get (contents (drop place lines)) before ≡ slice_get (contents_in e.event) before
  content-here before h =
      ap (λ (cs : List (Option C)). slice_get cs before) contents-entry
      ∙ (slice_get-append (contents_in e.event) (contents (drop (place + 1) lines)) before
      ∙ ap (λ (b : Bool). cond b (slice_get (contents_in e.event) before) (slice_get (contents (drop (place + 1) lines)) (before - length (contents_in e.event)))) (lt-ltb before (length (contents_in e.event)) (omega (arith, as-many))))

  pub content-later : (before : ℕ) → births e.event ≤ before → slice_get (contents (drop place lines)) before ≡ slice_get (contents (drop (place + 1) lines)) (before - births e.event)
  content-later before h =
      ap (λ (cs : List (Option C)). slice_get cs before) contents-entry
      ∙ slice_get-behind (contents_in e.event) (contents (drop (place + 1) lines)) before (before - births e.event) (omega (arith, as-many))

-- one line more that was read
pub read_more : {X Y : Type 0} (f : X → Y) (xs : List X) (ys : List Y) (place : ℕ) (x : X) → place < length ys → slice_get ys place ≡ Some (f x) → map f xs ≡ take place ys
    → map f (xs ++ x ∷ []) ≡ take (place + 1) ys
read_more f xs ys place x inside at same =
    map-append f xs (x ∷ [])
    ∙ ap (λ firsts. firsts ++ f x ∷ []) same
    ∙ sym (take_more ys place (f x) inside ∙ ap (λ y. take place ys ++ y ∷ []) (get_or_from_slice_get ys place (f x) (f x) at))

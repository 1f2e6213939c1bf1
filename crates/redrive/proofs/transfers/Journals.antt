-- Where the message of a number stands one entry on, and which message an accepted transfer brought.
use Rattle.std.proofs.Common.{◌≡◌, ℕ, suc, ◌+◌, Bool, true, false, ◌&&◌, ◌||◌, List, [], ◌∷◌, ◌++◌, length, Option, Some, None, refl, sym, ap, inl, inr, ◌∙◌}
use Rattle.std.specs.Prelude.{◌⊎◌, ◌-◌, slice_get, option_map, nat_eq}
use Rattle.std.specs.Option.{option_map_or}
use Rattle.std.specs.List.{list_any}
use Rattle.std.proofs.lemmas.Bool.{false≢true}
use Rattle.std.proofs.lemmas.Option.{none-some, same_Some}
use Rattle.message.specs.Content.{ContentText}
use Rattle.journal.specs.declared.entry.Entry.{Entry}
use Rattle.journal.specs.declared.entry.Event.{Event}
use Rattle.journal.specs.declared.entry.Event.TheVariants.{Arrived, Base}
use Rattle.queue_core.specs.declared.facts.Message.{Message}
use Rattle.queue_core.specs.declared.facts.Course.{Course}
use Rattle.queue_core.specs.declared.facts.Status.{Status}
use Rattle.queue_core.specs.declared.facts.Status.TheVariants.{Present}
use Rattle.queue_core.specs.private.Tally.{births}
use Rattle.queue_core.specs.Messages.{Birth, effect_of, message_in, messages_in, messages_from, messages, message_count, status_after, course_of, accepts, has_accepted}
use Rattle.queue_core.specs.States.{message_numbered}
use Rattle.queue_core.proofs.PushLemmas.{or_false, slice_get-prefix, slice_get-behind, numbered_in, IsNew, numbered-cases, numbered-kept, new_birth, new_number, new_course, new_begun, accepted-push}
use Rattle.queue_core.proofs.Scans.{StandsAlone, StandAlone}
use Rattle.queue_core.proofs.PendingLemmas.{status-push}
use Rattle.redrive.specs.Places.{status_numbered, came_from}
pub use Rattle.queue_core.proofs.PushLemmas.{Line}

abbrev pub Lines : Type 0
Lines = List (Entry ContentText)

abbrev pub more : Lines → Line → Lines
more lines e = lines ++ e ∷ []

-- ---- where a message stands

-- the message of a number stands so
pub record Stands (lines : Lines) (n : ℕ) (m : Message) (s : Status) : Type 0 where
  pub numbered : message_numbered lines n ≡ Some m
  pub status : (course_of lines m).status ≡ s

numbered_status : (lines : Lines) (o : Option Message) (s : Status) → option_map (λ m. (course_of lines m).status) o ≡ Some s → (m : Message) × (o ≡ Some m) × ((course_of lines m).status ≡ s)
numbered_status lines None s h = absurd (none-some s h)
numbered_status lines (Some m) s h = (m, refl, same_Some (course_of lines m).status s h)

module _ (lines : Lines) (n : ℕ) where
  pub stands_from : (s : Status) → status_numbered lines n ≡ Some s → (m : Message) × Stands lines n m s
  stands_from s h = let p = numbered_status lines (message_numbered lines n) s h in (p.0, record { numbered = p.1; status = p.2 })

  pub stands_gives : (m : Message) (s : Status) → Stands lines n m s → status_numbered lines n ≡ Some s
  stands_gives m s h = ap (option_map (λ m. (course_of lines m).status)) h.numbered ∙ ap Some h.status

  pub stands_once : (m m' : Message) (s s' : Status) → Stands lines n m s → Stands lines n m' s' → s ≡ s'
  stands_once m m' s s' h k = same_Some s s' (sym (stands_gives m s h) ∙ stands_gives m' s' k)

module _ (lines : Lines) (e : Line) (n : ℕ) (m : Message) where
  pub stands_kept : (s : Status) → Stands lines n m s → Stands (more lines e) n m (status_after n s e.event)
  stands_kept s h = record {
    numbered = numbered-kept lines e n m h.numbered;
    status = status-push lines e n m h.numbered ∙ ap (λ (r : Status). status_after n r e.event) h.status;
  }

  -- as before the entry, but for what the entry does, or new
  pub data Stood (s : Status) : Type 0 where
    Before : (was : Status) → Stands lines n m was → status_after n was e.event ≡ s → Stood s
    New : IsNew lines e n m → s ≡ Present → Stood s

  stood_by : (s : Status) → StandsAlone e.event → Stands (more lines e) n m s → (message_numbered lines n ≡ Some m) ⊎ IsNew lines e n m → Stood s
  stood_by s alone h (inl old) =
      Before (course_of lines m).status (record { numbered = old; status = refl }) (sym (status-push lines e n m old) ∙ h.status)
  stood_by s alone h (inr new) = New new (sym h.status ∙ ap (λ (c : Course). c.status) (new_course lines e n m new) ∙ new_begun lines e n m alone new)

  pub stood : (s : Status) → StandsAlone e.event → Stands (more lines e) n m s → Stood s
  stood s alone h = stood_by s alone h (numbered-cases lines e n m h.numbered)

-- ---- what was accepted

pub accepted_kept : (lines : Lines) (e : Line) (u n : ℕ) → has_accepted lines u n ≡ true → has_accepted (more lines e) u n ≡ true
accepted_kept lines e u n h = accepted-push lines e u n ∙ ap (λ b. b || accepts u n e.event) h

-- the message that came by an accepted transfer
pub record Came (ms : List Message) (u n : ℕ) : Type 0 where
  pub place : ℕ
  pub message : Message
  pub numbered : slice_get ms place ≡ Some message
  pub came : came_from u n message ≡ true

-- an event begins a message so
abbrev pub Begins : Event ContentText → Birth ContentText → Type 0
Begins event b = (i : ℕ) × (slice_get (effect_of event).births i ≡ Some b)

-- a transfer that is accepted with an event which is no checkpoint brings a message
brought : (event : Event ContentText) (u n : ℕ) → StandsAlone event → accepts u n event ≡ true → (b : Birth ContentText) × Begins event b × (option_map_or (λ o. nat_eq o.uid u && nat_eq o.number n) b.origin false ≡ true)
brought (Base base) u n alone h = absurd cc
brought (Arrived origin content) u n alone h = (record { content = Some content; delay = 0; origin = Some origin; past = None }, (0, refl), sym (or_false (nat_eq origin.uid u && nat_eq origin.number n)) ∙ h)
brought event u n alone h = absurd (false≢true h)

came_here : (place number u n : ℕ) (x : Line) (rest : List Message) → StandsAlone x.event → accepts u n x.event ≡ true → Came (messages_in place number x.at (effect_of x.event).births ++ rest) u n
came_here place number u n x rest alone h =
    let p = brought x.event u n alone h in
    let i = p.1.0 in
    let bs = (effect_of x.event).births in
    record {
      place = i;
      message = message_in place (number + i) x.at p.0;
      numbered = slice_get-prefix (messages_in place number x.at bs) rest i (message_in place (number + i) x.at p.0)
          (numbered_in place number x.at bs i (number + i) refl ∙ ap (option_map (message_in place (number + i) x.at)) p.1.1);
      came = p.2;
    }

came_later : (u n : ℕ) (ms rest : List Message) → Came rest u n → Came (ms ++ rest) u n
came_later u n ms rest h = record {
  place = length ms + h.place;
  message = h.message;
  numbered = slice_get-behind ms rest (length ms + h.place) h.place refl ∙ h.numbered;
  came = h.came;
}

came_at : (place number u n : ℕ) (b : Bool) (x : Line) (xs : Lines) → StandsAlone x.event → accepts u n x.event ≡ b → (b || list_any (λ e. accepts u n e.event) xs) ≡ true
    → (list_any (λ e. accepts u n e.event) xs ≡ true → (i k : ℕ) → Came (messages_from i k xs) u n) → Came (messages_from place number (x ∷ xs)) u n
came_at place number u n true x xs alone e h f = came_here place number u n x (messages_from (suc place) (number + births x.event) xs) alone e
came_at place number u n false x xs alone e h f =
    came_later u n (messages_in place number x.at (effect_of x.event).births) (messages_from (suc place) (number + births x.event) xs) (f h (suc place) (number + births x.event))

came_from_entries : (u n : ℕ) (xs : Lines) → StandAlone xs → list_any (λ e. accepts u n e.event) xs ≡ true → (place number : ℕ) → Came (messages_from place number xs) u n
came_from_entries u n [] alone h place number = absurd (false≢true h)
came_from_entries u n (x ∷ xs) alone h place number = came_at place number u n (accepts u n x.event) x xs alone.0 refl h (λ k. came_from_entries u n xs alone.1 k)

-- an accepted transfer brought a message
pub accepted_came : (lines : Lines) (u n : ℕ) → StandAlone lines → has_accepted lines u n ≡ true → Came (messages lines) u n
accepted_came lines u n alone h = came_from_entries u n lines alone h 0 0

-- ---- a message that an entry begins

pub record IsBegun (lines : Lines) (e : Line) (n : ℕ) (m : Message) : Type 0 where
  pub birth : Birth ContentText
  pub begins : Begins e.event birth
  pub origin : m.origin ≡ birth.origin
  pub its_number : m.number ≡ n
  pub last : n ≡ message_count lines

pub begun : (lines : Lines) (e : Line) (n : ℕ) (m : Message) → StandsAlone e.event → IsNew lines e n m → IsBegun lines e n m
begun lines e n m alone new =
    let b = new_birth lines e n m new in
    record {
      birth = b.0;
      begins = (n - message_count lines, b.1);
      origin = ap (λ (x : Message). x.origin) (sym b.2);
      its_number = ap (λ (x : Message). x.number) (sym b.2);
      last = new_number lines e n m alone new;
    }

pub unbegun : (event : Event ContentText) (b : Birth ContentText) → (effect_of event).births ≡ [] → Begins event b → ⊥
unbegun event b none begins = none-some b (sym (ap (λ (bs : List (Birth ContentText)). slice_get bs begins.0) none) ∙ begins.1)

-- The transfers that no later entry ends, one entry on.
use Rattle.std.proofs.Common.{◌≡◌, ℕ, ◌+◌, Bool, true, false, cond, not, List, [], ◌∷◌, ◌++◌, drop, Option, Some, None, refl, sym, ap, ◌∙◌}
use Rattle.std.specs.Prelude.{slice_get, filter}
use Rattle.std.specs.Option.{option_or}
use Rattle.std.specs.List.{list_any, find}
use Rattle.journal.specs.declared.entry.Entry.{Entry}
use Rattle.queue_core.specs.declared.facts.Transfer.{Transfer}
use Rattle.queue_core.specs.Messages.{departures, ends_transfer, pending_transfers}
use Rattle.plain_queue.proofs.ScanLemmas.{drop_entry}

first-append : {X : Type 0} (xs ys : List X) → slice_get (xs ++ ys) 0 ≡ option_or (slice_get xs 0) (slice_get ys 0)
first-append [] ys = refl
first-append (x ∷ xs) ys = refl

first-kept : {X : Type 0} (b : Bool) (x : X) (ys : List X) (o : Option X) → slice_get ys 0 ≡ o → slice_get (cond b (x ∷ ys) ys) 0 ≡ cond b (Some x) o
first-kept true x ys o h = refl
first-kept false x ys o h = h

first-filter : {X : Type 0} (p : X → Bool) (xs : List X) → slice_get (filter p xs) 0 ≡ find p xs
first-filter p [] = refl
first-filter p (x ∷ xs) = first-kept (p x) x (filter p xs) (find p xs) (first-filter p xs)

module _ {C : Type 0} (lines : List (Entry C)) (place : ℕ) (e : Entry C) (at : slice_get lines place ≡ Some e) where
  abbrev is_open : Transfer → Bool
  is_open = λ t. not (list_any (λ later. ends_transfer t later.event) (drop (place + 1) lines))

  -- the first that the entry begins and no later one ends, and else the first behind it
  first-begun : (found : Option Transfer) → found ≡ find is_open (departures e.event)
      → slice_get (pending_transfers (drop place lines)) 0 ≡ option_or found (slice_get (pending_transfers (drop (place + 1) lines)) 0)
  first-begun found is =
      rw (drop_entry lines place e at) (first-append (filter is_open (departures e.event)) (pending_transfers (drop (place + 1) lines))
      ∙ ap (λ (o : Option Transfer). option_or o (slice_get (pending_transfers (drop (place + 1) lines)) 0)) (first-filter is_open (departures e.event) ∙ sym is))

  pub first-here : (t : Transfer) → Some t ≡ find is_open (departures e.event) → slice_get (pending_transfers (drop place lines)) 0 ≡ Some t
  first-here t is = first-begun (Some t) is

  pub first-later : None ≡ find is_open (departures e.event) → slice_get (pending_transfers (drop place lines)) 0 ≡ slice_get (pending_transfers (drop (place + 1) lines)) 0
  first-later is = first-begun None is

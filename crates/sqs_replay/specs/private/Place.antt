-- Where the queue stands that a line names.
use Rattle.std.specs.Prelude.{◌≡◌, ℕ, List, Option, option_and_then, IfSome}
use Rattle.std.specs.Option.{option_map}
use Rattle.redrive.specs.declared.place.QueuePlace.{QueuePlace}
use Rattle.redrive.specs.House.{House, found_uid, StandsAt}

-- a queue that was found is that of the name, if it names one that is there, and stands where it was found
abbrev pub IsPlaceOf : House → Option (List ℕ) → Option QueuePlace → Type 0
IsPlaceOf w queue place = (option_map (λ f. f.uid) place ≡ option_and_then (λ name. found_uid w name) queue) × IfSome place (λ f. StandsAt w f)

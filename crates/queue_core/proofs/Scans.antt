-- What periods and messages of a journal are made of, entry by entry.
use Rattle.std.proofs.Common.{◌≡◌, ℕ, suc, ◌+◌, ◌≤◌, Bool, true, false, cond, ◌&&◌, ◌||◌, List, [], ◌∷◌, length, Option, None, refl, ap, ◌∙◌, arith}
use Rattle.std.specs.Prelude.{⊤}
use Rattle.std.specs.List.{list_any}
use Rattle.std.proofs.lemmas.List.{length-append}
use Rattle.journal.specs.declared.entry.Entry.{Entry}
use Rattle.journal.specs.declared.entry.Event.{Event}
use Rattle.journal.specs.declared.entry.Event.TheVariants.{Sent, Arrived, Base}
use Rattle.queue_core.specs.Messages.{Birth, Since, effect_of, messages_in, messages_from, RetentionPeriod}
use Rattle.queue_core.specs.private.Tally.{births}

pub by_closing : (b : Bool) (p : RetentionPeriod → Bool) (first : RetentionPeriod) (others : List RetentionPeriod)
    → list_any p (cond b (first ∷ others) others) ≡ (b && p first) || list_any p others
by_closing true p first others = refl
by_closing false p first others = refl

pub length-messages_in : {C : Type 0} (place number at : ℕ) (bs : List (Birth C)) → length (messages_in place number at bs) ≡ length bs
length-messages_in place number at [] = refl
length-messages_in place number at (b ∷ bs) = let rest = length-messages_in place (suc number) at bs in omega arith

-- an event that is no checkpoint, and such entries
abbrev pub StandsAlone : {C : Type 0} → Event C → Type 0
StandsAlone event = ◌≡◌ {A = Option Since} (effect_of event).since None

abbrev pub StandAlone : {C : Type 0} → List (Entry C) → Type 0
StandAlone [] = ⊤
StandAlone (e ∷ es) = StandsAlone e.event × StandAlone es

-- no such event begins more than one message
pub births_few : {C : Type 0} (event : Event C) → StandsAlone event → births event ≤ 1
births_few (Sent delay content) alone = omega arith
births_few (Arrived origin content) alone = omega arith
births_few (Base base) alone = absurd cc
births_few event alone = omega arith

-- there are no more messages than such entries
pub length-messages_from : {C : Type 0} (place number : ℕ) (es : List (Entry C)) → StandAlone es → length (messages_from place number es) ≤ length es
length-messages_from place number [] alone = omega arith
length-messages_from place number (e ∷ es) alone =
    let rest = length-messages_from (suc place) (number + births e.event) es alone.1 in
    let both = length-append (messages_in place number e.at (effect_of e.event).births) (messages_from (suc place) (number + births e.event) es) in
    omega (arith, births_few e.event alone.0, length-messages_in place number e.at (effect_of e.event).births)

-- What a slot says: for how much it counts, and in which of the indices it has a moment.
use Rattle.std.proofs.Common.{◌≡◌, ℕ, ◌+◌, ◌-◌, ◌≤◌, Bool, true, false, not, cond, ◌&&◌, ◌==◌, nat_lt, Option, Some, None, is_some, refl, ap, arith}
use mir.Val.{bool_byte}
use Rattle.queue_core.specs.declared.slot.Stay.{Stay}
use Rattle.queue_core.specs.declared.slot.Stay.TheVariants.{Hidden, Shown, Left}
use Rattle.queue_core.specs.declared.slot.Slot.{Slot}
use Rattle.queue_core.specs.private.Slots.{is_hidden_stay, is_shown_stay, is_left_stay, is_hidden, is_shown, is_left, is_here, is_delayed, is_in_flight, has_age, is_failing, due_in, sent_in, shows, one_if}
use Rattle.queue_core.specs.private.Changes.{shown_in, is_at}

-- a slot is hidden, shown or left, and a hidden one delayed or in flight
pub record IsCounted (o : Option Slot) : Type 0 where
  pub hidden : one_if (is_delayed o) + one_if (is_in_flight o) ≡ one_if (is_hidden o)
  pub one : one_if (is_hidden o) + one_if (is_shown o) + one_if (is_left o) ≡ one_if (is_some o)
  pub here : one_if (is_here o) + one_if (is_left o) ≡ one_if (is_some o)
  pub age : one_if (has_age o) + one_if (is_failing o) + one_if (is_left o) ≡ one_if (is_some o)
  pub most : one_if (is_some o) ≤ 1

hidden_parts : (stay : Stay) (fresh : Bool) → one_if (is_hidden_stay stay && fresh) + one_if (is_hidden_stay stay && not fresh) ≡ one_if (is_hidden_stay stay)
hidden_parts Hidden true = refl
hidden_parts Hidden false = refl
hidden_parts Shown fresh = refl
hidden_parts (Left target ran_out) fresh = refl

stay_parts : (stay : Stay) → one_if (is_hidden_stay stay) + one_if (is_shown_stay stay) + one_if (is_left_stay stay) ≡ 1
stay_parts Hidden = refl
stay_parts Shown = refl
stay_parts (Left target ran_out) = refl

here_parts : (stay : Stay) → one_if (not (is_left_stay stay)) + one_if (is_left_stay stay) ≡ 1
here_parts Hidden = refl
here_parts Shown = refl
here_parts (Left target ran_out) = refl

age_parts : (stay : Stay) (tried : Bool) → one_if (not (is_left_stay stay) && tried) + one_if (not (is_left_stay stay) && not tried) + one_if (is_left_stay stay) ≡ 1
age_parts Hidden true = refl
age_parts Hidden false = refl
age_parts Shown true = refl
age_parts Shown false = refl
age_parts (Left target ran_out) tried = refl

pub counted : (o : Option Slot) → IsCounted o
counted None = record { hidden = refl; one = refl; here = refl; age = refl; most = omega arith }
counted (Some s) = record { hidden = hidden_parts s.stay s.is_fresh; one = stay_parts s.stay; here = here_parts s.stay; age = age_parts s.stay (nat_lt s.tries 3); most = omega arith }

-- a number has a moment in an index where its slot is of that kind

some_where : (b : Bool) (n : ℕ) → is_some (cond b (Some n) None) ≡ b
some_where true n = refl
some_where false n = refl

none_where : (b : Bool) (n : ℕ) → is_some (cond b None (Some n)) ≡ not b
none_where true n = refl
none_where false n = refl

pub is_some-due_in : (o : Option Slot) → is_some (due_in o) ≡ is_hidden o
is_some-due_in None = refl
is_some-due_in (Some s) = some_where (is_hidden_stay s.stay) s.due

pub is_some-sent_in : (o : Option Slot) → is_some (sent_in o) ≡ is_here o
is_some-sent_in None = refl
is_some-sent_in (Some s) = none_where (is_left_stay s.stay) s.sent

pub is_some-shown_in : (o : Option Slot) → is_some (shown_in o) ≡ is_shown o
is_some-shown_in None = refl
is_some-shown_in (Some s) = some_where (is_shown_stay s.stay) s.due

at_where : (b : Bool) (due moment : ℕ) → is_at (cond b (Some due) None) moment ≡ (b && (due == moment))
at_where true due moment = refl
at_where false due moment = refl

pub is_at-shown_in : (o : Option Slot) (moment : ℕ) → is_at (shown_in o) moment ≡ shows o moment
is_at-shown_in None moment = refl
is_at-shown_in (Some s) moment = at_where (is_shown_stay s.stay) s.due moment

-- room is taken where there is a moment
pub same_rooms : (o p : Option ℕ) (b c : Bool) (spare spare' : ℕ) → is_some o ≡ b → is_some p ≡ c → spare' + one_if (is_some p) ≡ spare + one_if (is_some o) → spare' + one_if c ≡ spare + one_if b
same_rooms o p b c spare spare' e f r =
    let before : one_if (is_some o) ≡ one_if b = ap one_if e in
    let after : one_if (is_some p) ≡ one_if c = ap one_if f in
    omega arith

-- a test as a number

pub bool_byte-one_if : (b : Bool) → bool_byte b ≡ one_if b
bool_byte-one_if true = refl
bool_byte-one_if false = refl

-- what a counter is once one is taken off and one added
pub recounted : (n less more : ℕ) (before after : Bool) → less ≡ bool_byte before → more ≡ bool_byte after → one_if before ≤ n → n - less + more + one_if before ≡ n + one_if after
recounted n less more before after l a h =
    let b : bool_byte before ≡ one_if before = bool_byte-one_if before in
    let f : bool_byte after ≡ one_if after = bool_byte-one_if after in
    omega arith

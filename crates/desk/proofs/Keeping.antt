-- The steps at a desk keep its rule.
use Rattle.std.proofs.Common.{◌≡◌, ℕ, zero, suc, ◌+◌, ◌%◌, ◌^◌, ◌<◌, ◌≤◌, eqb, ◌≢◌, ◌⊎◌, inl, inr, ⊎_elim, List, [], ◌∷◌, ◌++◌, length, set, slice_index, Option, Some, None, sym, refl, ap, ◌∙◌, subst, arith, length-set, length-append, append-nil, suc-ne-zero, le_refl, le_trans, lt_of_lt_of_le, zero-le, MatchBool, unwrap_or, ap₂, eq-eqb, ne_eqb}
use mathlib.Core.Option.{some, none, some-injective, some-ne-none}
use mathlib.Core.Option as maybe
use mathlib.Core.Logic.{dite}
use native.Mathlib.Decide.{ℕ_discrete}
use lib.ListN.{get_elem?}
use prog.Atomic.{either}
use Rattle.atomic_table.specs.Table.{State, Act, step, keeps, takes, gives, Allows, Valid, Splits, Joins, stepped, carried_after, put_back, rest, opening}
use Rattle.atomic_table.proofs.Lists.{at_set, at_snoc, at_longer, set_again, set_here, set_else, exchanged}
use Rattle.queue_core.specs.Queue.{QueueHistory}
use Rattle.desk.specs.declared.view.Call.{Call}
use Rattle.desk.specs.declared.view.View.{View}
use Rattle.desk.specs.declared.view.PassStage.{PassStage}
use Rattle.desk.specs.declared.view.PassStage.TheVariants.{Fresh, Idle, Drawn, Turn, Ended}
use Rattle.desk.specs.declared.made.Made.{Made}
use Rattle.desk.specs.History.{IsAnswered, after_call, state_of, IsLegalHistory, calls_by, GoesOnFrom}
use Rattle.desk.specs.Held.{Lying}
use Rattle.desk.specs.Views.{most_tickets}
use Rattle.desk.specs.private.Views.{first_view, ended_view, cut_off, hearing, absorbing}
use Rattle.desk.specs.private.Rule.{ticket_of, tickets_of, held_tickets, Follows, IsOwn, FitsStage, Fits, AreApart, IsHome, IsOut, IsInTurn}
use Rattle.desk.specs.private.Steps.{Holder, at_stage, counting, has_counted, has_drawn, has_begun, HasSeen, HasTurn, drawn_ticket, has_waited, has_looked, has_entered, made_in, call_of, with_call, has_ended}
use Rattle.desk.proofs.HistoryLemmas.{state_snoc, legal_snoc, own_call, other_call, goes_on, goes_whole}

abbrev Desk : Type 0
Desk = State (Option Lying) View

abbrev Homes : Type 0
Homes = List (maybe.Option (Option Lying))

-- ---- stages

abbrev turn_code : PassStage → ℕ
turn_code (Turn ticket) = 1
turn_code _ = 0

abbrev ticket_or_zero : Option ℕ → ℕ
ticket_or_zero (Some n) = n
ticket_or_zero None = 0

not_turn : (stage : PassStage) (t u : ℕ) → stage ≡ Drawn t → stage ≢ Turn u
not_turn stage t u drawn turn = suc-ne-zero 0 (ap turn_code (sym turn ∙ drawn))

-- more tickets
stage_more : (start : Lying) (log : List Call) (t u n : ℕ) (v : View) (stage : PassStage) → t ≤ u → FitsStage start log t n v stage → FitsStage start log u n v stage
stage_more start log t u n v Fresh le f = f
stage_more start log t u n v Idle le f = f
stage_more start log t u n v (Drawn k) le f = (f.0, f.1, f.2, lt_of_lt_of_le f.3 le)
stage_more start log t u n v (Turn k) le f = (f.0, f.1, f.2, lt_of_lt_of_le f.3 le, f.4)
stage_more start log t u n v Ended le f = tt

-- a pass that holds a ticket holds one that was drawn
ticket_drawn : (start : Lying) (log : List Call) (t n k : ℕ) (v : View) (stage : PassStage) → ticket_of stage ≡ Some k → FitsStage start log t n v stage → k < t
ticket_drawn start log t n k v Fresh is f = absurd cc
ticket_drawn start log t n k v Idle is f = absurd cc
ticket_drawn start log t n k v (Drawn j) is f = subst (λ (z : ℕ). z < t) (ap ticket_or_zero is) f.3
ticket_drawn start log t n k v (Turn j) is f = subst (λ (z : ℕ). z < t) (ap ticket_or_zero is) f.3
ticket_drawn start log t n k v Ended is f = absurd cc

follows_after : (start : Lying) (log : List Call) (v : View) (c : Call) → Follows start log v → Follows start (log ++ c ∷ []) v
follows_after start log v c f = record { opened = f.opened; placed = f.placed; seen = goes_on v.seen log c f.seen; heard = goes_on v.heard log c f.heard }

own_after : (log : List Call) (n : ℕ) (v : View) (c : Call) → c.by ≢ n → IsOwn log n v → IsOwn (log ++ c ∷ []) n v
own_after log n v c other o = (o.0, other_call n log v.mine c other o.1, o.2)

-- one call more, of another pass
stage_after : (start : Lying) (log : List Call) (t n : ℕ) (v : View) (c : Call) (stage : PassStage) → c.by ≢ n → ticket_of stage ≢ Some (length log) → FitsStage start log t n v stage
    → FitsStage start (log ++ c ∷ []) t n v stage
stage_after start log t n v c Fresh other held f = (follows_after start log v c f.0, other_call n log [] c other f.1, f.2, f.3)
stage_after start log t n v c Idle other held f = (follows_after start log v c f.0, own_after log n v c other f.1)
stage_after start log t n v c (Drawn k) other held f =
    let ne : k ≢ length log = λ e. held (ap Some e) in let le : length log ≤ k = f.2 in
    (follows_after start log v c f.0, own_after log n v c other f.1, (let g : length (log ++ c ∷ []) ≤ k = omega (arith, length-append log (c ∷ [])) in g), f.3)
stage_after start log t n v c (Turn k) other held f = absurd (held (ap Some f.2))
stage_after start log t n v c Ended other held f = tt

-- ---- how many tickets are held

held_set : (views : List View) (id : ℕ) (v w : View) → get_elem? views id ≡ some v → held_tickets (set views id w) + tickets_of v.stage ≡ held_tickets views + tickets_of w.stage
held_set [] id v w at = absurd (some-ne-none v (sym at))
held_set (x ∷ xs) zero v w at = let is : tickets_of x.stage ≡ tickets_of v.stage = ap (λ (z : View). tickets_of z.stage) (some-injective x v at) in omega (arith, is)
held_set (x ∷ xs) (suc id) v w at = let others = held_set xs id v w at in omega (arith, others)

held_snoc : (views : List View) (w : View) → held_tickets (views ++ w ∷ []) ≡ held_tickets views + tickets_of w.stage
held_snoc [] w = omega arith
held_snoc (x ∷ xs) w = let others = held_snoc xs w in omega (arith, others)

served : (start : Lying) (s : Desk) (r : IsInTurn start s) → length r.log ≤ r.tickets
served start s r = let all : length r.log + held_tickets s.views ≡ r.tickets = r.all in omega (arith, all)

-- a pass holds as many tickets as before
still_held : (start : Lying) (s : Desk) (r : IsInTurn start s) (id : ℕ) (v w : View) → get_elem? s.views id ≡ some v → tickets_of v.stage ≡ tickets_of w.stage
    → length r.log + held_tickets (set s.views id w) ≡ r.tickets
still_held start s r id v w at same =
    let views = held_set s.views id v w at in let all : length r.log + held_tickets s.views ≡ r.tickets = r.all in omega (arith, views, same, all)

-- ---- one view changes, and the history stays

abbrev HoldsAlone : List View → ℕ → PassStage → Type 0
HoldsAlone views id stage = (ticket : ℕ) → ticket_of stage ≡ Some ticket → (j : ℕ) (u : View) → j ≢ id → get_elem? views j ≡ some u → ticket_of u.stage ≢ Some ticket

apart_set : (views : List View) (id : ℕ) (w : View) → AreApart views → HoldsAlone views id w.stage → AreApart (set views id w)
apart_set views id w apart alone j k t a b at bt h g =
    ⊎_elim
    (λ (x : (j ≡ id) × (w ≡ a)).
    ⊎_elim (λ (y : (k ≡ id) × (w ≡ b)). x.0 ∙ sym y.0)
    (λ (y : (k ≢ id) × (get_elem? views k ≡ some b)). absurd (alone t (ap (λ (z : View). ticket_of z.stage) x.1 ∙ h) k b y.0 y.1 g)) (at_set views id k w b bt))
    (λ (x : (j ≢ id) × (get_elem? views j ≡ some a)).
    ⊎_elim (λ (y : (k ≡ id) × (w ≡ b)). absurd (alone t (ap (λ (z : View). ticket_of z.stage) y.1 ∙ g) j a x.0 x.1 h))
    (λ (y : (k ≢ id) × (get_elem? views k ≡ some b)). apart j k t a b x.1 y.1 h g) (at_set views id k w b bt))
    (at_set views id j w a at)

stands : (start : Lying) (s : Desk) (r : IsInTurn start s) (id tickets : ℕ) (w : View) (words : List ℕ) (homes : Homes)
    → words ≡ length r.log ∷ tickets ∷ [] → r.tickets ≤ tickets → tickets ≤ most_tickets
    → Fits start r.log tickets id w → w.begun ≤ tickets → HoldsAlone s.views id w.stage → IsHome start r.log homes ⊎ IsOut homes (set s.views id w)
    → length r.log + held_tickets (set s.views id w) ≡ tickets
    → IsInTurn start (record { words = words; homes = homes; views = set s.views id w })
stands start s r id tickets w words homes is more within fits begun alone home held = record {
  log = r.log;
  tickets = tickets;
  words = is;
  all = held;
  within = within;
  legal = r.legal;
  home = home;
  fits = λ k u at.
      ⊎_elim (λ (x : (k ≡ id) × (w ≡ u)). subst (λ (z : View). Fits start r.log tickets k z) x.1 (subst (λ (z : ℕ). Fits start r.log tickets z w) (sym x.0) fits))
      (λ (x : (k ≢ id) × (get_elem? s.views k ≡ some u)). stage_more start r.log r.tickets tickets k u u.stage more (r.fits k u x.1)) (at_set s.views id k w u at);
  counted = λ k u at. ⊎_elim (λ (x : (k ≡ id) × (w ≡ u)). subst (λ (z : View). z.begun ≤ tickets) x.1 begun) (λ (x : (k ≢ id) × (get_elem? s.views k ≡ some u)). le_trans (r.counted k u x.1) more) (at_set s.views id k w u at);
  apart = apart_set s.views id w r.apart alone;
  unborn = λ k le. r.unborn k (subst (λ (z : ℕ). z ≤ k) (length-set s.views id w) le);
}

-- where the queue was, it is
home_stays : (start : Lying) (log : List Call) (homes : Homes) (views : List View) (id : ℕ) (v w : View) → get_elem? views id ≡ some v → ((t : ℕ) → v.stage ≢ Turn t)
    → IsHome start log homes ⊎ IsOut homes views → IsHome start log homes ⊎ IsOut homes (set views id w)
home_stays start log homes views id v w at idle (inl h) = inl h
home_stays start log homes views id v w at idle (inr o) =
    let k : ℕ = o.1.0 in let t : ℕ = o.1.1 in let u : View = o.1.2 in
    let other : k ≢ id = λ e. idle t (ap (λ (z : View). z.stage) (some-injective v u (sym at ∙ ap (λ (z : ℕ). get_elem? views z) (sym e) ∙ o.1.3)) ∙ o.1.4) in
    inr (o.0, (k, t, u, set_else views id k w other ∙ o.1.3, o.1.4))

within : {A : Type 0} (l : List A) (i : ℕ) (a : A) → get_elem? l i ≡ some a → i < length l
within [] i a at = absurd (some-ne-none a (sym at))
within (x ∷ xs) zero a at = omega arith
within (x ∷ xs) (suc i) a at = let g : i < length xs = within xs i a at in omega arith

one_slot : (hs : Homes) (h : maybe.Option (Option Lying)) → length hs ≡ 1 → set hs 0 h ≡ h ∷ []
one_slot [] h is = absurd (omega arith)
one_slot (x ∷ []) h is = refl
one_slot (x ∷ y ∷ hs) h is = absurd (omega arith)

idle_holds_none : (stage : PassStage) (t : ℕ) → stage ≡ Idle → ticket_of stage ≢ Some t
idle_holds_none stage t idle holds = absurd cc

-- ---- a ticket is drawn

idle_is_not_turn : (v : View) → v.stage ≡ Idle → (t : ℕ) → v.stage ≢ Turn t
idle_is_not_turn v idle t turn = suc-ne-zero 0 (ap turn_code (sym turn ∙ idle))

of_idle : (start : Lying) (log : List Call) (t n : ℕ) (v : View) (stage : PassStage) → stage ≡ Idle → FitsStage start log t n v stage → Follows start log v × IsOwn log n v
of_idle start log t n v stage is f = let g : FitsStage start log t n v Idle = subst (FitsStage start log t n v) is f in g

follows_at : (start : Lying) (log : List Call) (v : View) (stage : PassStage) → Follows start log v → Follows start log (at_stage v stage)
follows_at start log v stage f = record { opened = f.opened; placed = f.placed; seen = f.seen; heard = f.heard }

follows_counting : (start : Lying) (log : List Call) (v : View) (tickets : ℕ) → Follows start log v → Follows start log (counting v tickets)
follows_counting start log v tickets f = record { opened = f.opened; placed = f.placed; seen = f.seen; heard = f.heard }

-- a pass that holds no ticket counts those that were drawn
stays_counted : (start : Lying) (s : Desk) (r : IsInTurn start s) (id : ℕ) (v : View) → get_elem? s.views id ≡ some v → v.stage ≡ Idle
    → IsInTurn start (record { words = set s.words 1 (slice_index s.words 1); homes = s.homes; views = set s.views id (counting v (slice_index s.words 1)) })
stays_counted start s r id v at idle =
    let y : ℕ = slice_index s.words 1 in let found : y ≡ r.tickets = ap (λ (ws : List ℕ). slice_index ws 1) r.words in
    let fit = of_idle start r.log r.tickets id v v.stage idle (r.fits id v at) in let w : View = counting v y in
    stands start s r id r.tickets w (set s.words 1 y) s.homes (ap (λ (ws : List ℕ). set ws 1 y) r.words ∙ ap (λ (z : ℕ). length r.log ∷ z ∷ []) found) (le_refl r.tickets) r.within
    (subst (FitsStage start r.log r.tickets id w) (sym idle) (follows_counting start r.log v y fit.0, fit.1)) (omega (arith, found)) (λ ticket is. absurd (idle_holds_none v.stage ticket idle is))
    (home_stays start r.log s.homes s.views id v w at (idle_is_not_turn v idle) r.home) (still_held start s r id v w at refl)

pub draws : (start : Lying) (slots id old : ℕ) (me : Holder) → me.0.stage ≡ Idle → old < most_tickets
    → Allows (IsInTurn start) slots id me 1 (λ n. either (eqb n old) (old + 1) n) (has_drawn (step slots 1 old (old + 1) none) me)
draws start slots id old me idle room s r wide at _ =
    let v : View = me.0 in let y : ℕ = slice_index s.words 1 in let found : y ≡ r.tickets = ap (λ (ws : List ℕ). slice_index ws 1) r.words in
    let fit = of_idle start r.log r.tickets id v v.stage idle (r.fits id v at) in
    let told = has_drawn (step slots 1 old (old + 1) none) me in
    exchanged y old (old + 1) (λ n. (w : View) × (a : Act (Option Lying)) × Valid s.homes me.1 a × IsInTurn start (stepped s 1 n id me.1 w a) × told y (w, carried_after me.1 a))
    (λ hit. let w : View = at_stage v (Drawn y) in (
      w,
      keeps,
      tt,
      stands start s r id (old + 1) w (set s.words 1 (old + 1)) s.homes (ap (λ (ws : List ℕ). set ws 1 (old + 1)) r.words) (omega (arith, found, hit)) (omega (arith, room))
          (follows_at start r.log v (Drawn y) fit.0, fit.1, (let g : length r.log ≤ y = omega (arith, served start s r, found) in g), (let g : y < old + 1 = omega (arith, hit) in g))
          (let b : v.begun ≤ r.tickets = r.counted id v at in omega (arith, found, hit))
          (λ ticket is j u other there holds.
          let same : y ≡ ticket = ap ticket_or_zero is in let drawn : ticket < r.tickets = ticket_drawn start r.log r.tickets j ticket u u.stage holds (r.fits j u there) in absurd (omega (arith, found)))
          (home_stays start r.log s.homes s.views id v w at (idle_is_not_turn v idle) r.home)
          (let views : held_tickets (set s.views id w) + tickets_of v.stage ≡ held_tickets s.views + 1 = held_set s.views id v w at in let empty : tickets_of v.stage ≡ 0 = ap tickets_of idle in
          let all : length r.log + held_tickets s.views ≡ r.tickets = r.all in omega (arith, views, empty, all, found, hit)),
      (
        (let b : v.begun ≤ r.tickets = r.counted id v at in omega (arith, found, b)),
        subst (λ b. MatchBool b (◌≡◌ {A = Holder} (w, me.1) (at_stage v (Drawn y), me.1)) ((y ≤ most_tickets) × ◌≡◌ {A = Holder} (w, me.1) (counting v y, me.1))) (sym (eq-eqb y old hit)) refl,
      ),
    ))
    (λ miss. (
      counting v y,
      keeps,
      tt,
      stays_counted start s r id v at idle,
      (
        (let b : v.begun ≤ r.tickets = r.counted id v at in omega (arith, found, b)),
        subst (λ b. MatchBool b (◌≡◌ {A = Holder} (counting v y, me.1) (at_stage v (Drawn y), me.1)) ((y ≤ most_tickets) × ◌≡◌ {A = Holder} (counting v y, me.1) (counting v y, me.1))) (sym (ne_eqb y old miss))
            ((let w : r.tickets ≤ most_tickets = r.within in omega (arith, found)), refl),
      ),
    ))

pub counts : (start : Lying) (slots id : ℕ) (me : Holder) → me.0.stage ≡ Idle → Allows (IsInTurn start) slots id me 1 (λ n. n) (has_counted (step slots 1 0 0 none) me)
counts start slots id me idle s r wide at _ =
    let y : ℕ = slice_index s.words 1 in let found : y ≡ r.tickets = ap (λ (ws : List ℕ). slice_index ws 1) r.words in (
      counting me.0 y,
      keeps,
      tt,
      stays_counted start s r id me.0 at idle,
      ((let b : me.0.begun ≤ r.tickets = r.counted id me.0 at in omega (arith, found, b)), (let w : r.tickets ≤ most_tickets = r.within in omega (arith, found)), refl),
    )

-- ---- a turn is waited for

of_drawn : (start : Lying) (log : List Call) (t n k : ℕ) (v : View) (stage : PassStage) → stage ≡ Drawn k → FitsStage start log t n v stage
    → Follows start log v × IsOwn log n v × (length log ≤ k) × (k < t)
of_drawn start log t n k v stage is f = let g : FitsStage start log t n v (Drawn k) = subst (FitsStage start log t n v) is f in g

of_turn : (start : Lying) (log : List Call) (t n k : ℕ) (v : View) (stage : PassStage) → stage ≡ Turn k → FitsStage start log t n v stage
    → Follows start log v × IsOwn log n v × (k ≡ length log) × (k < t) × (v.seen ≡ log)
of_turn start log t n k v stage is f = let g : FitsStage start log t n v (Turn k) = subst (FitsStage start log t n v) is f in g

-- who holds a ticket holds it alone
alone : (views : List View) (id t : ℕ) (v : View) (stage : PassStage) → AreApart views → get_elem? views id ≡ some v → ticket_of v.stage ≡ Some t → ticket_of stage ≡ Some t → HoldsAlone views id stage
alone views id t v stage apart at has is ticket same j u other there holds = other (sym (apart id j t v u at there has (holds ∙ sym same ∙ is)))

-- the history so far
abbrev seeing : View → List Call → PassStage → View
seeing v log stage = record v { seen = log; stage = stage }

has_seen : (start : Lying) (log : List Call) (id : ℕ) (v : View) (stage : PassStage) → Follows start log v → IsOwn log id v → IsLegalHistory start.queue log → HasSeen v (seeing v log stage)
has_seen start log id v stage fit own legal = record {
  start = refl;
  place = refl;
  number = refl;
  begun = refl;
  mine = refl;
  told = refl;
  seen = fit.seen;
  heard = fit.heard;
  legal = subst (λ q. IsLegalHistory q log) (sym fit.opened) legal;
  own = ap (λ (n : ℕ). calls_by n log) own.0 ∙ own.1;
  foreign = λ e. own.2 (e ∙ own.0);
  other = refl;
}

follows_whole : (start : Lying) (log : List Call) (v : View) (stage : PassStage) → Follows start log v → Follows start log (seeing v log stage)
follows_whole start log v stage fit = record { opened = fit.opened; placed = fit.placed; seen = goes_whole log; heard = fit.heard }

pub waits : (start : Lying) (slots id t : ℕ) (me : Holder) → me.0.stage ≡ Drawn t → me.1 ≡ [] → Allows (IsInTurn start) slots id me 0 (λ n. n) (has_waited (step slots 0 0 0 none) me)
waits start slots id t me drawn empty s r wide at _ =
    let v : View = me.0 in let y : ℕ = slice_index s.words 0 in let found : y ≡ length r.log = ap (λ (ws : List ℕ). slice_index ws 0) r.words in
    let own = of_drawn start r.log r.tickets id t v v.stage drawn (r.fits id v at) in let fit : Follows start r.log v = own.0 in let calls : IsOwn r.log id v = own.1 in
    let holds : ticket_of v.stage ≡ Some t = ap ticket_of drawn in
    let mine : drawn_ticket me ≡ t = ap (λ (z : PassStage). unwrap_or (ticket_of z) 0) drawn in
    let words : set s.words 0 y ≡ length r.log ∷ r.tickets ∷ [] = ap (λ (ws : List ℕ). set ws 0 y) r.words ∙ ap (λ (z : ℕ). z ∷ r.tickets ∷ []) found in
    dite (ℕ_discrete y t)
    (λ hit. let w : View = seeing v r.log (Turn y) in
    let fits : Fits start r.log r.tickets id w = (follows_whole start r.log v (Turn y) fit, calls, found, (let g : y < r.tickets = omega (arith, hit, own.3) in g), refl) in
    let only : HoldsAlone s.views id (Turn y) = alone s.views id t v (Turn y) r.apart at holds (ap Some hit) in
    ⊎_elim
    (λ (h : IsHome start r.log s.homes). let x : Lying = h.0 in (
      w,
      takes 0 (Some x),
      ap (λ (hs : Homes). get_elem? hs 0) h.1,
      stands start s r id r.tickets w (set s.words 0 y) (set s.homes 0 none) words (le_refl r.tickets) r.within fits (r.counted id v at) only
          (inr (ap (λ (hs : Homes). set hs 0 none) h.1, (id, y, w, set_here s.views id w (within s.views id v at), refl))) (still_held start s r id v w at (ap tickets_of drawn)),
      (
        has_seen start r.log id v (Turn y) fit calls r.legal,
        subst (λ b. MatchBool b (HasTurn (w, (0, Some x) ∷ me.1) y) ((w.stage ≡ v.stage) × ((0, Some x) ∷ me.1 ≡ []))) (sym (eq-eqb y (drawn_ticket me) (hit ∙ sym mine)))
            (refl, sym found, (x, ap (λ (c : List (ℕ × Option Lying)). (0, Some x) ∷ c) empty, h.2 ∙ ap (λ (q : QueueHistory). state_of q r.log) (sym fit.opened), h.3 ∙ sym fit.placed)),
      ),
    ))
    (λ (o : IsOut s.homes s.views).
    let k : ℕ = o.1.0 in let u : View = o.1.2 in let z : ℕ = o.1.1 in let is : u.stage ≡ Turn z = o.1.4 in let there : get_elem? s.views k ≡ some u = o.1.3 in
    let turn = of_turn start r.log r.tickets k z u u.stage is (r.fits k u there) in
    let same : z ≡ t = turn.2 ∙ sym found ∙ hit in
    let one : id ≡ k = r.apart id k t v u at there holds (ap ticket_of is ∙ ap Some same) in
    absurd (not_turn v.stage t z drawn (ap (λ (x : View). x.stage) (some-injective v u (sym at ∙ ap (λ (n : ℕ). get_elem? s.views n) one ∙ there)) ∙ is)))
    r.home)
    (λ miss. let w : View = seeing v r.log v.stage in (
      w,
      keeps,
      tt,
      stands start s r id r.tickets w (set s.words 0 y) s.homes words (le_refl r.tickets) r.within
          (subst (FitsStage start r.log r.tickets id w) (sym drawn) (follows_whole start r.log v v.stage fit, calls, own.2, own.3)) (r.counted id v at)
          (alone s.views id t v v.stage r.apart at holds holds) (home_stays start r.log s.homes s.views id v w at (λ u. not_turn v.stage t u drawn) r.home) (still_held start s r id v w at refl),
      (
        has_seen start r.log id v v.stage fit calls r.legal,
        subst (λ b. MatchBool b (HasTurn (w, me.1) y) ((w.stage ≡ v.stage) × (me.1 ≡ []))) (sym (ne_eqb y (drawn_ticket me) (λ e. miss (e ∙ mine)))) (refl, empty),
      ),
    ))

-- ---- a turn is begun at once

no_more : (l : List Call) → length l ≡ 0 → l ≡ []
no_more [] is = refl
no_more (x ∷ xs) is = absurd (omega (arith, is))

-- who has seen as many calls as there are has seen them all
sees_whole : (seen log : List Call) → GoesOnFrom seen log → length log ≡ length seen → seen ≡ log
sees_whole seen log g same =
    let longer : length log ≡ length (seen ++ g.0) = ap length g.1 in let none_more : g.0 ≡ [] = no_more g.0 (omega (arith, length-append seen g.0, longer, same)) in
    sym (g.1 ∙ ap (λ (l : List Call). seen ++ l) none_more ∙ append-nil seen)

-- who has the queue holds a ticket
none_out : (homes : Homes) (views : List View) → held_tickets views ≡ 0 → IsOut homes views → ⊥
none_out homes views free o =
    let u : View = o.1.2 in let one : tickets_of u.stage ≡ 1 = ap tickets_of o.1.4 in
    let gone : held_tickets (set views o.1.0 ended_view) + tickets_of u.stage ≡ held_tickets views + 0 = held_set views o.1.0 u ended_view o.1.3 in omega (arith, one, gone, free)

-- Where as many tickets are drawn as calls were seen, none is held: each that was drawn is held or has its call. So the turn of the next has come
pub begins : (start : Lying) (slots id old : ℕ) (me : Holder) → me.0.stage ≡ Idle → me.1 ≡ [] → old ≡ length me.0.seen → old < most_tickets
    → Allows (IsInTurn start) slots id me 1 (λ n. either (eqb n old) (old + 1) n) (has_begun (step slots 1 old (old + 1) none) me)
begins start slots id old me idle empty seen room s r wide at _ =
    let v : View = me.0 in let y : ℕ = slice_index s.words 1 in let found : y ≡ r.tickets = ap (λ (ws : List ℕ). slice_index ws 1) r.words in
    let fit = of_idle start r.log r.tickets id v v.stage idle (r.fits id v at) in
    let told = has_begun (step slots 1 old (old + 1) none) me in
    let all : length r.log + held_tickets s.views ≡ r.tickets = r.all in
    let more : length r.log ≡ length (v.seen ++ fit.0.seen.0) = ap length fit.0.seen.1 in
    let known : length v.seen ≤ length r.log = omega (arith, length-append v.seen fit.0.seen.0, more) in
    let counted : v.begun ≤ y = (let b : v.begun ≤ r.tickets = r.counted id v at in omega (arith, found, b)) in
    exchanged y old (old + 1) (λ n. (w : View) × (a : Act (Option Lying)) × Valid s.homes me.1 a × IsInTurn start (stepped s 1 n id me.1 w a) × told y (w, carried_after me.1 a))
    (λ hit. let w : View = at_stage (counting v y) (Turn y) in
    let count : length r.log ≡ length v.seen = omega (arith, all, known, found, hit, seen) in
    let free : held_tickets s.views ≡ 0 = omega (arith, all, count, found, hit, seen) in
    let whole : v.seen ≡ r.log = sees_whole v.seen r.log fit.0.seen count in
    let queue : state_of v.start v.seen ≡ state_of start.queue r.log = ap (λ (q : QueueHistory). state_of q v.seen) fit.0.opened ∙ ap (λ (l : List Call). state_of start.queue l) whole in
    let fits : Fits start r.log (old + 1) id w = (follows_at start r.log (counting v y) (Turn y) (follows_counting start r.log v y fit.0), fit.1, (let g : y ≡ length r.log = omega (arith, count, hit, seen) in g), (let g : y < old + 1 = omega (arith, hit) in g), whole) in
    ⊎_elim
    (λ (h : IsHome start r.log s.homes). let x : Lying = h.0 in (
      w,
      takes 0 (Some x),
      ap (λ (hs : Homes). get_elem? hs 0) h.1,
      stands start s r id (old + 1) w (set s.words 1 (old + 1)) (set s.homes 0 none) (ap (λ (ws : List ℕ). set ws 1 (old + 1)) r.words) (omega (arith, found, hit)) (omega (arith, room)) fits (omega (arith, hit))
          (λ ticket is j u other there holds.
          let same : y ≡ ticket = ap ticket_or_zero is in let drawn : ticket < r.tickets = ticket_drawn start r.log r.tickets j ticket u u.stage holds (r.fits j u there) in absurd (omega (arith, found)))
          (inr (ap (λ (hs : Homes). set hs 0 none) h.1, (id, y, w, set_here s.views id w (within s.views id v at), refl)))
          (let views : held_tickets (set s.views id w) + tickets_of v.stage ≡ held_tickets s.views + 1 = held_set s.views id v w at in let none_held : tickets_of v.stage ≡ 0 = ap tickets_of idle in
          omega (arith, views, none_held, all, found, hit)),
      (
        counted,
        subst (λ b. MatchBool b ((w ≡ at_stage (counting v y) (Turn y)) × HasTurn (w, (0, Some x) ∷ me.1) y) ((old < y) × ◌≡◌ {A = Holder} (w, (0, Some x) ∷ me.1) (counting v y, me.1))) (sym (eq-eqb y old hit))
            (refl, (refl, (let g : length v.seen ≡ y = omega (arith, hit, seen) in g), (x, ap (λ (c : List (ℕ × Option Lying)). (0, Some x) ∷ c) empty, h.2 ∙ sym queue, h.3 ∙ sym fit.0.placed))),
      ),
    ))
    (λ (o : IsOut s.homes s.views). absurd (none_out s.homes s.views free o))
    r.home)
    (λ miss. (
      counting v y,
      keeps,
      tt,
      stays_counted start s r id v at idle,
      (
        counted,
        subst (λ b. MatchBool b ((counting v y ≡ at_stage (counting v y) (Turn y)) × HasTurn (counting v y, me.1) y) ((old < y) × ◌≡◌ {A = Holder} (counting v y, me.1) (counting v y, me.1))) (sym (ne_eqb y old miss))
            ((let g : old < y = omega (arith, all, known, found, miss, seen) in g), refl),
      ),
    ))

-- ---- a turn ends

pub ends : (start : Lying) (slots id t : ℕ) (me : Holder) (x : Lying) (made : Made) → slots ≡ 1 → me.0.stage ≡ Turn t → me.1 ≡ (0, Some x) ∷ [] → x.made ≡ Some made
    → x.queue ≡ after_call (state_of me.0.start me.0.seen) (call_of me.0.number made) → x.place ≡ me.0.place → IsAnswered (state_of me.0.start me.0.seen) made.at made.command.value made.reply.value
    → Allows (IsInTurn start) slots id me 0 (λ n. (n + 1) % 2 ^ 64) (has_ended (step slots 0 1 0 none) me)
ends start slots id t me x made one turn carried last after placed answered s r wide at _ =
    let v : View = me.0 in let y : ℕ = slice_index s.words 0 in let found : y ≡ length r.log = ap (λ (ws : List ℕ). slice_index ws 0) r.words in
    let own = of_turn start r.log r.tickets id t v v.stage turn (r.fits id v at) in let fit : Follows start r.log v = own.0 in
    let number : v.number ≡ id = own.1.0 in let calls : calls_by id r.log ≡ v.mine = own.1.1 in let whole : v.seen ≡ r.log = own.4 in
    let c : Call = call_of v.number made in let log : List Call = r.log ++ c ∷ [] in
    let holds : ticket_of v.stage ≡ Some t = ap ticket_of turn in
    let w : View = with_call v (Some made) in
    let queue : state_of v.start v.seen ≡ state_of start.queue r.log = ap (λ (q : QueueHistory). state_of q v.seen) fit.opened ∙ ap (λ (l : List Call). state_of start.queue l) whole in
    let here : id < length s.views = within s.views id v at in
    let longer : length log ≡ length r.log + 1 = length-append r.log (c ∷ []) in
    let drawn : length r.log < r.tickets = subst (λ (z : ℕ). z < r.tickets) own.2 own.3 in
    let next : (y + 1) % 2 ^ 64 ≡ length log = omega (arith, found, longer, drawn, r.within) in (
      w,
      gives,
      tt,
      record {
        log = log;
        tickets = r.tickets;
        words = ap (λ (ws : List ℕ). set ws 0 ((y + 1) % 2 ^ 64)) r.words ∙ ap (λ (z : ℕ). z ∷ r.tickets ∷ []) next;
        all = (let views : held_tickets (set s.views id w) + tickets_of v.stage ≡ held_tickets s.views + 0 = held_set s.views id v w at in let one : tickets_of v.stage ≡ 1 = ap tickets_of turn in
            let all : length r.log + held_tickets s.views ≡ r.tickets = r.all in omega (arith, views, one, all, longer));
        within = r.within;
        legal = legal_snoc start.queue r.log c r.legal (subst (λ q. IsAnswered q made.at made.command.value made.reply.value) queue answered);
        home = inl (x, ap (λ (carry : List (ℕ × Option Lying)). put_back s.homes carry) carried ∙ one_slot s.homes (some (Some x)) (wide ∙ one), after ∙ ap (λ (q : QueueHistory). after_call q c) queue ∙ sym (state_snoc start.queue r.log c), placed ∙ fit.placed);
        fits = λ k u there.
            ⊎_elim
            (λ (z : (k ≡ id) × (w ≡ u)). subst (λ (n : View). Fits start log r.tickets k n) z.1 (subst (λ (n : ℕ). Fits start log r.tickets n w) (sym z.0) (
              record {
                opened = fit.opened;
                placed = fit.placed;
                seen = ([], ap (λ (l : List Call). l ++ c ∷ []) (sym whole) ∙ sym (append-nil (v.seen ++ c ∷ [])));
                heard = goes_on v.heard r.log c fit.heard;
              },
              (number, own_call id r.log v.mine c number calls, own.1.2),
            )))
            (λ (z : (k ≢ id) × (get_elem? s.views k ≡ some u)). stage_after start r.log r.tickets k u c u.stage (λ e. z.0 (sym e ∙ number))
            (λ e. z.0 (sym (r.apart id k t v u at z.1 holds (e ∙ ap Some (sym own.2))))) (r.fits k u z.1)) (at_set s.views id k w u there);
        counted = λ k u there. ⊎_elim (λ (z : (k ≡ id) × (w ≡ u)). subst (λ (x : View). x.begun ≤ r.tickets) z.1 (r.counted id v at)) (λ (z : (k ≢ id) × (get_elem? s.views k ≡ some u)). r.counted k u z.1) (at_set s.views id k w u there);
        apart = apart_set s.views id w r.apart (λ ticket is. absurd cc);
        unborn = λ k le. other_call k r.log [] c (λ e. let le' : length s.views ≤ k = subst (λ (z : ℕ). z ≤ k) (length-set s.views id w) le in absurd (omega (arith, e, number, here)))
            (r.unborn k (subst (λ (z : ℕ). z ≤ k) (length-set s.views id w) le));
      },
      ap₂ (λ (a : View) (b : List (ℕ × Option Lying)). (a, b)) (ap (with_call v) (sym (ap made_in carried ∙ last))) (ap (λ (carry : List (ℕ × Option Lying)). rest carry) carried),
    )

-- ---- a desk is made

only_first : (start : Lying) (n : ℕ) (v : View) → get_elem? (first_view start ∷ []) n ≡ some v → (n ≡ 0) × (first_view start ≡ v)
only_first start zero v at = (refl, some-injective (first_view start) v at)
only_first start (suc n) v at = absurd (some-ne-none v (sym at))

pub opens : (start x : Lying) → x ≡ start → IsInTurn start (opening (0 ∷ 0 ∷ []) (Some x ∷ []) (first_view start))
opens start x is = record {
  log = [];
  tickets = 0;
  words = refl;
  all = refl;
  within = zero-le;
  legal = tt;
  home = inl (x, refl, ap (λ (l : Lying). l.queue) is, ap (λ (l : Lying). l.place) is);
  fits = λ n v at. let f = only_first start n v at in subst (λ (z : View). Fits start [] 0 n z) f.1
      (record { opened = refl; placed = refl; seen = ([], refl); heard = ([], refl) }, (sym f.0, refl, (λ e. suc-ne-zero 0 (e ∙ f.0))));
  counted = λ n v at. subst (λ (z : View). z.begun ≤ 0) (only_first start n v at).1 zero-le;
  apart = λ j k t v w a b. (λ _ _. (only_first start j v a).0 ∙ sym (only_first start k w b).0);
  unborn = λ k le. refl;
}

-- ---- passes that are cut off, joined and told

-- a look: the history so far is seen, and the turns that have ended are its calls
pub looks : (start : Lying) (slots id : ℕ) (me : Holder) → me.0.stage ≡ Idle → Allows (IsInTurn start) slots id me 0 (λ n. n) (has_looked (step slots 0 0 0 none) me)
looks start slots id me idle s r wide at _ =
    let v : View = me.0 in let y : ℕ = slice_index s.words 0 in let found : y ≡ length r.log = ap (λ (ws : List ℕ). slice_index ws 0) r.words in
    let own = of_idle start r.log r.tickets id v v.stage idle (r.fits id v at) in let w : View = seeing v r.log v.stage in
    let words : set s.words 0 y ≡ length r.log ∷ r.tickets ∷ [] = ap (λ (ws : List ℕ). set ws 0 y) r.words ∙ ap (λ (z : ℕ). z ∷ r.tickets ∷ []) found in (
      w,
      keeps,
      tt,
      stands start s r id r.tickets w (set s.words 0 y) s.homes words (le_refl r.tickets) r.within
          (subst (FitsStage start r.log r.tickets id w) (sym idle) (follows_whole start r.log v v.stage own.0, own.1)) (r.counted id v at) (λ ticket is. absurd (idle_holds_none v.stage ticket idle is))
          (home_stays start r.log s.homes s.views id v w at (idle_is_not_turn v idle) r.home) (still_held start s r id v w at refl),
      (has_seen start r.log id v v.stage own.0 own.1 r.legal, found, refl, refl),
    )

of_fresh : (start : Lying) (log : List Call) (t n : ℕ) (v : View) (stage : PassStage) → stage ≡ Fresh → FitsStage start log t n v stage → Follows start log v × (calls_by n log ≡ []) × (v.mine ≡ []) × (v.other < n)
of_fresh start log t n v stage is f = let g : FitsStage start log t n v Fresh = subst (FitsStage start log t n v) is f in g

fresh_is_not_turn : (v : View) → v.stage ≡ Fresh → (t : ℕ) → v.stage ≢ Turn t
fresh_is_not_turn v fresh t turn = suc-ne-zero 0 (ap turn_code (sym turn ∙ fresh))

-- a pass that was cut off gets the number of its seat
pub enters : (start : Lying) (slots id : ℕ) (me : Holder) → me.0.stage ≡ Fresh → Allows (IsInTurn start) slots id me 0 (λ n. n) (has_entered (step slots 0 0 0 none) me)
enters start slots id me fresh s r wide at _ =
    let v : View = me.0 in let y : ℕ = slice_index s.words 0 in let found : y ≡ length r.log = ap (λ (ws : List ℕ). slice_index ws 0) r.words in
    let own = of_fresh start r.log r.tickets id v v.stage fresh (r.fits id v at) in let fit : Follows start r.log v = own.0 in
    let w : View = record v { number = id; seen = r.log; stage = Idle } in
    let words : set s.words 0 y ≡ length r.log ∷ r.tickets ∷ [] = ap (λ (ws : List ℕ). set ws 0 y) r.words ∙ ap (λ (z : ℕ). z ∷ r.tickets ∷ []) found in (
      w,
      keeps,
      tt,
      stands start s r id r.tickets w (set s.words 0 y) s.homes words (le_refl r.tickets) r.within
          (record { opened = fit.opened; placed = fit.placed; seen = goes_whole r.log; heard = fit.heard }, (refl, own.1 ∙ sym own.2, (λ e. let below : v.other < id = own.3 in absurd (omega (arith, e))))) (r.counted id v at) (λ ticket is. absurd cc)
          (home_stays start r.log s.homes s.views id v w at (fresh_is_not_turn v fresh) r.home) (still_held start s r id v w at (ap tickets_of fresh)),
      (
        record {
          start = refl;
          place = refl;
          mine = own.2;
          seen = fit.seen;
          legal = subst (λ q. IsLegalHistory q r.log) (sym fit.opened) r.legal;
          own = own.1;
          other = λ e. let below : v.other < id = own.3 in absurd (omega (arith, e));
          stage = refl;
        },
        refl,
      ),
    )

-- a seat more, which holds no ticket and no queue
apart_more : (views : List View) (w : View) → AreApart views → ((t : ℕ) → ticket_of w.stage ≢ Some t) → AreApart (views ++ w ∷ [])
apart_more views w apart holds j k t a b at bt h g =
    ⊎_elim
    (λ (x : get_elem? views j ≡ some a). ⊎_elim (λ (y : get_elem? views k ≡ some b). apart j k t a b x y h g) (λ (y : w ≡ b). absurd (holds t (ap (λ (z : View). ticket_of z.stage) y ∙ g))) (at_snoc views w b k bt))
    (λ (x : w ≡ a). absurd (holds t (ap (λ (z : View). ticket_of z.stage) x ∙ h))) (at_snoc views w a j at)

out_more : (start : Lying) (log : List Call) (homes : Homes) (views : List View) (w : View) → IsHome start log homes ⊎ IsOut homes views → IsHome start log homes ⊎ IsOut homes (views ++ w ∷ [])
out_more start log homes views w (inl h) = inl h
out_more start log homes views w (inr o) = inr (o.0, (o.1.0, o.1.1, o.1.2, at_longer views (w ∷ []) o.1.0 o.1.2 o.1.3, o.1.4))

-- the last seat of a longer list
at_end : (views : List View) (w u : View) (k : ℕ) → get_elem? (views ++ w ∷ []) k ≡ some u → (get_elem? views k ≡ some u) ⊎ ((k ≡ length views) × (w ≡ u))
at_end [] w u zero at = inr (refl, some-injective w u at)
at_end [] w u (suc k) at = absurd (some-ne-none u (sym at))
at_end (x ∷ xs) w u zero at = inl at
at_end (x ∷ xs) w u (suc k) at = ⊎_elim (λ e. inl e) (λ (e : (k ≡ length xs) × (w ≡ u)). inr ((let same : k ≡ length xs = e.0 in omega arith), e.1)) (at_end xs w u k at)

-- a pass is cut off from another, which stays as it is
pub splits : (start : Lying) (id : ℕ) (v : View) → v.stage ≡ Idle → Splits (IsInTurn start) id v v (cut_off v)
splits start id v idle s r at =
    let own = of_idle start r.log r.tickets id v v.stage idle (r.fits id v at) in let fit : Follows start r.log v = own.0 in
    let same : set s.views id v ≡ s.views = set_again s.views id v at in let w : View = cut_off v in
    let number : v.number ≡ id = own.1.0 in let here : id < length s.views = within s.views id v at in
    subst (λ (views : List View). IsInTurn start (record { words = s.words; homes = s.homes; views = views ++ w ∷ [] })) (sym same)
    (record {
      log = r.log;
      tickets = r.tickets;
      words = r.words;
      all = (let views : held_tickets (s.views ++ w ∷ []) ≡ held_tickets s.views + 0 = held_snoc s.views w in let all : length r.log + held_tickets s.views ≡ r.tickets = r.all in omega (arith, views, all));
      within = r.within;
      legal = r.legal;
      home = out_more start r.log s.homes s.views w r.home;
      fits = λ k u there. ⊎_elim (λ (e : get_elem? s.views k ≡ some u). r.fits k u e)
          (λ (e : (k ≡ length s.views) × (w ≡ u)). subst (λ (z : View). Fits start r.log r.tickets k z) e.1
          (let last : k ≡ length s.views = e.0 in
          (record { opened = fit.opened; placed = fit.placed; seen = fit.seen; heard = (r.log, refl) }, r.unborn k (omega (arith, last)), refl, (let g : v.number < k = omega (arith, last, number, here) in g)))) (at_end s.views w u k there);
      counted = λ k u there. ⊎_elim (λ (e : get_elem? s.views k ≡ some u). r.counted k u e) (λ (e : (k ≡ length s.views) × (w ≡ u)). subst (λ (x : View). x.begun ≤ r.tickets) e.1 (r.counted id v at)) (at_end s.views w u k there);
      apart = apart_more s.views w r.apart (λ t is. absurd cc);
      unborn = λ k le. r.unborn k (let longer : length (s.views ++ w ∷ []) ≡ length s.views + 1 = length-append s.views (w ∷ []) in let le' : length (s.views ++ w ∷ []) ≤ k = le in omega arith);
    })

-- ---- two passes become one

-- a seat is given up
gives_up : (start : Lying) (s : Desk) (r : IsInTurn start s) (id : ℕ) (v : View) → get_elem? s.views id ≡ some v → ((t : ℕ) → v.stage ≢ Turn t) → tickets_of v.stage ≡ 0
    → IsInTurn start (record { words = s.words; homes = s.homes; views = set s.views id ended_view })
gives_up start s r id v at idle empty =
    stands start s r id r.tickets ended_view s.words s.homes r.words (le_refl r.tickets) r.within tt zero-le (λ ticket is. absurd cc)
    (home_stays start r.log s.homes s.views id v ended_view at idle r.home) (still_held start s r id v ended_view at empty)

-- what another pass has seen is heard, and a number kept that is not the pass's own
abbrev joined : View → View → ℕ → View
joined v w n = record v { heard = w.seen; other = n }

joins_with : (start : Lying) (id other n : ℕ) (v w : View) → v.stage ≡ Idle → (w.stage ≡ Idle) ⊎ (w.stage ≡ Fresh)
    → ((log : List Call) → id ≢ other → IsOwn log id v → ((w.stage ≡ Idle) → IsOwn log other w) → n ≢ id) → Joins (IsInTurn start) id v other w (joined v w n) ended_view
joins_with start id other n v w idle rests foreign s r at apart there =
    let own = of_idle start r.log r.tickets id v v.stage idle (r.fits id v at) in let fit : Follows start r.log v = own.0 in
    let both : View = joined v w n in
    let from : get_elem? s.views other ≡ some w = ⊎_elim (λ (e : (other ≡ id) × (both ≡ w)). absurd (apart e.0)) (λ (e : (other ≢ id) × (get_elem? s.views other ≡ some w)). e.1) (at_set s.views id other both w there) in
    let theirs : Follows start r.log w = ⊎_elim (λ (e : w.stage ≡ Idle). (of_idle start r.log r.tickets other w w.stage e (r.fits other w from)).0)
    (λ (e : w.stage ≡ Fresh). (of_fresh start r.log r.tickets other w w.stage e (r.fits other w from)).0) rests in
    let number : n ≢ id = foreign r.log (λ e. apart (sym e)) own.1 (λ e. (of_idle start r.log r.tickets other w w.stage e (r.fits other w from)).1) in
    let first = stands start s r id r.tickets both s.words s.homes r.words (le_refl r.tickets) r.within
    (subst (FitsStage start r.log r.tickets id both) (sym idle) (record { opened = fit.opened; placed = fit.placed; seen = fit.seen; heard = theirs.seen }, (own.1.0, own.1.1, number))) (r.counted id v at)
    (λ ticket is. absurd (idle_holds_none v.stage ticket idle is)) (home_stays start r.log s.homes s.views id v both at (idle_is_not_turn v idle) r.home) (still_held start s r id v both at refl) in
    gives_up start (record { words = s.words; homes = s.homes; views = set s.views id both }) first other w there
    (⊎_elim (λ (e : w.stage ≡ Idle). idle_is_not_turn w e) (λ (e : w.stage ≡ Fresh). fresh_is_not_turn w e) rests) (⊎_elim (λ (e : w.stage ≡ Idle). ap tickets_of e) (λ (e : w.stage ≡ Fresh). ap tickets_of e) rests)

-- a note is met
pub hears : (start : Lying) (id other : ℕ) (v w : View) → v.stage ≡ Idle → w.stage ≡ Fresh → Joins (IsInTurn start) id v other w (hearing v w) ended_view
hears start id other v w idle fresh = joins_with start id other v.other v w idle (inr fresh) (λ log apart own theirs. own.2)

-- another pass ends
pub absorbs : (start : Lying) (id other : ℕ) (v w : View) → v.stage ≡ Idle → w.stage ≡ Idle → Joins (IsInTurn start) id v other w (absorbing v w) ended_view
absorbs start id other v w idle rests = joins_with start id other w.number v w idle (inl rests) (λ log apart own theirs. (λ e. apart (sym e ∙ (theirs rests).0)))

-- The statistics of all queues, by name: the same as those of the names that are listed.
use Rattle.std.proofs.Common.{◌≡◌, ℕ, ◌+◌, ◌<◌, ◌≤◌, Bool, true, false, cond, List, [], ◌∷◌, ◌++◌, length, get_or, take, map, max, Option, Some, Result, Ok, Err, inl, inr, refl, sym, ap, subst, ◌∙◌, arith}
use Rattle.std.specs.Prelude.{nat_eq, filter}
use Rattle.std.specs.Option.{option_map_or}
use Rattle.std.specs.List.{find, starts_with, IsDistinct, AllByRecursion}
use Rattle.std.specs.Str.{bytes_eq}
use Rattle.std.proofs.lemmas.Cmp.{nat_eq_equiv}
use Rattle.std.proofs.lemmas.List.Elements.{All-from_recursion}
use Rattle.std.proofs.lemmas.List.{length-map, get_or-map, take_more, take_all}
use Rattle.redrive.proofs.RegistryLemmas.{some_queue}
use Rattle.std.proofs.lemmas.Slice.Eq.{bytes_eq-Decides}
use Rattle.message.specs.declared.fault.Fault.{Fault}
use Rattle.message.specs.declared.fault.Fault.TheVariants.{QueueDoesNotExist, OutOfMemory}
use Rattle.message.specs.Fault.{Meets}
use Rattle.message.specs.Order.{text_before}
use Rattle.message.proofs.SortedLemmas.{all-sorted, map-sorted}
use Rattle.board.specs.Sheet.{Sheet}
use Rattle.board.specs.Queue.{sheet_of}
use Rattle.queue_core.specs.Queue.{QueueHistory, at_moment}
use Rattle.redrive.specs.Listing.{in_order}
use Rattle.redrive.specs.House.{House, queue_named, queue_of_uid, names_in_house, with_queue_changed, house_at_moment, IsRegistry}
use Rattle.sqs_replay.specs.Sheets.{sheets_of}
use Rattle.sqs_replay.specs.Served.{sheet_served, named_sheet_served}
use Rattle.sqs_replay.proofs.SheetLemmas.{look-left, look-queue}
use Rattle.sqs_replay.proofs.Memory.{memory_or_other, met}

-- ---- names

no-prefix : (names : List (List ℕ)) → filter (λ n. starts_with nat_eq n []) names ≡ names
no-prefix [] = refl
no-prefix (n ∷ names) = ap (λ (l : List (List ℕ)). n ∷ l) (no-prefix names)

names-of-sheets : (queues : List QueueHistory) → map (λ q. q.name) queues ≡ map (λ s. s.name) (map sheet_of queues)
names-of-sheets [] = refl
names-of-sheets (q ∷ queues) = ap (λ (l : List (List ℕ)). q.name ∷ l) (names-of-sheets queues)

-- every name is listed, in the order of the sheets
pub listed-sheets : (w : House) → names_in_house w [] ≡ map (λ s. s.name) (sheets_of w)
listed-sheets w =
    ap in_order (no-prefix (map (λ q. q.name) w.queues) ∙ names-of-sheets w.queues)
    ∙ sym (map-sorted (λ (s : Sheet). s.name) text_before (map sheet_of w.queues))

-- ---- found by a key

module _ {X K : Type 0} (e : K → K → Bool) (same : (k : K) → e k k ≡ true) (key : X → K) where
  -- an element is found by its key
  IsFound : List X → X → Type 0
  IsFound xs x = find (λ y. e (key y) (key x)) xs ≡ Some x

  found-behind : (x : X) (xs ys : List X) → AllByRecursion (λ k. e (key x) k ≡ false) (map key ys) → AllByRecursion (IsFound xs) ys → AllByRecursion (IsFound (x ∷ xs)) ys
  unfolding IsFound
  found-behind x xs [] differ h = tt
  found-behind x xs (y ∷ ys) differ h = (rw differ.0 h.0, found-behind x xs ys differ.1 h.1)

  found-all : (xs : List X) → IsDistinct e (map key xs) → AllByRecursion (IsFound xs) xs
  unfolding IsDistinct IsFound
  found-all [] h = tt
  found-all (x ∷ xs) h = (rw (same (key x)) refl, found-behind x xs xs h.0 (found-all xs h.1))

-- ---- a house at a moment

module _ (w : House) (at : ℕ) where
  map-at : (queues : List QueueHistory) → map (λ q. at_moment q at) (map (λ q. at_moment q at) queues) ≡ map (λ q. at_moment q at) queues
  map-at [] = refl
  map-at (q ∷ queues) =
      let same : max (max q.clock at) at ≡ max q.clock at = omega arith in
      rw (map-at queues, same) refl

  -- a second time nothing changes
  pub at-moment-twice : house_at_moment (house_at_moment w at) at ≡ house_at_moment w at
  at-moment-twice = ap (λ (queues : List QueueHistory). record w { queues = queues }) (map-at w.queues)

cond-still : {X : Type 0} (b : Bool) (x y : X) → y ≡ x → cond b y x ≡ x
cond-still true x y h = h
cond-still false x y h = refl

IsAt : ℕ → QueueHistory → Type 0
IsAt at q = at_moment q at ≡ q

-- each queue is at the moment
each-still : (at : ℕ) (queues : List QueueHistory) → queues ≡ map (λ q. at_moment q at) queues → AllByRecursion (IsAt at) queues
unfolding IsAt
each-still at [] h = tt
each-still at (q ∷ queues) h =
    let first : q ≡ at_moment q at = cc in
    let rest : queues ≡ map (λ x. at_moment x at) queues = cc in
    (sym first, each-still at queues rest)

changed-still : (at uid : ℕ) (queues : List QueueHistory) → AllByRecursion (IsAt at) queues → map (λ q. cond (nat_eq q.uid uid) (at_moment q at) q) queues ≡ queues
unfolding IsAt
changed-still at uid [] h = refl
changed-still at uid (q ∷ queues) h =
    ap (λ (x : QueueHistory). x ∷ map (λ y. cond (nat_eq y.uid uid) (at_moment y at) y) queues) (cond-still (nat_eq q.uid uid) q (at_moment q at) h.0)
    ∙ ap (λ (l : List QueueHistory). q ∷ l) (changed-still at uid queues h.1)

-- ---- each sheet, where every queue is at the moment

module _ (w : House) (at : ℕ) where
  -- the statistics of its name are these, and nothing changes by looking
  pub record IsServed (s : Sheet) : Type 0 where
    pub answer : (named_sheet_served w at s.name).answer ≡ Ok s
    pub stays : (named_sheet_served w at s.name).house ≡ w

  module _ (all : AllByRecursion (IsAt at) w.queues) (q : QueueHistory) (still : at_moment q at ≡ q) (named : queue_named w q.name ≡ Some q) (here : queue_of_uid w q.uid ≡ Some q) where
    named-served : named_sheet_served w at q.name ≡ sheet_served w q.uid at
    named-served = rw named refl

    looked-still : with_queue_changed w q.uid (λ x. at_moment x at) ≡ w
    looked-still = ap (λ (queues : List QueueHistory). record w { queues = queues }) (changed-still at q.uid w.queues all)

    served-sheet : IsServed (sheet_of q)
    served-sheet = record {
      answer =
          ap (λ s. s.answer) named-served
          ∙ ap (λ (o : Option QueueHistory). option_map_or (λ x. Ok (sheet_of x)) o (Err QueueDoesNotExist)) (look-queue w q.uid at q here)
          ∙ ap (λ (x : QueueHistory). Ok (sheet_of x)) still;
      stays = ap (λ s. s.house) named-served ∙ look-left w q.uid at q here ∙ looked-still;
    }

  served-each : AllByRecursion (IsAt at) w.queues → (queues : List QueueHistory) → AllByRecursion (IsAt at) queues
      → AllByRecursion (IsFound bytes_eq (λ k. (bytes_eq-Decides k k).1 refl) (λ (q : QueueHistory). q.name) w.queues) queues
      → AllByRecursion (IsFound nat_eq (λ k. nat_eq_equiv.refl k) (λ (q : QueueHistory). q.uid) w.queues) queues
      → AllByRecursion IsServed (map sheet_of queues)
  unfolding IsAt IsFound
  served-each all [] still names uids = tt
  served-each all (q ∷ queues) still names uids = (served-sheet all q still.0 names.0 uids.0, served-each all queues still.1 names.1 uids.1)

  -- so are all of them
  pub served-at : w ≡ house_at_moment w at → IsRegistry w → (i : ℕ) (d : Sheet) → i < length (sheets_of w) → IsServed (get_or (sheets_of w) i d)
  served-at same h i d l =
      let all : AllByRecursion (IsAt at) w.queues = each-still at w.queues (ap (λ (v : House). v.queues) same) in
      All-from_recursion IsServed (sheets_of w)
      (all-sorted (λ s t. text_before s.name t.name) IsServed (map sheet_of w.queues)
      (served-each all w.queues all
      (found-all bytes_eq (λ k. (bytes_eq-Decides k k).1 refl) (λ (q : QueueHistory). q.name) w.queues h.names)
      (found-all nat_eq (λ k. nat_eq_equiv.refl k) (λ (q : QueueHistory). q.uid) w.queues h.uids))) i d l

-- where a value is there, lack of memory is the only fault
pub only-memory : {T : Type 0} (fault : Fault) (wanted : Result T Fault) (x : T) → Meets {T = T} (Err fault) wanted → wanted ≡ Ok x → fault ≡ OutOfMemory
only-memory {T} fault wanted x meets is =
    elim (memory_or_other {T = T} (Err fault)) [
      | inl memory ↦ cc
      | inr other ↦
          absurd (let no : ◌≡◌ {A = Result T Fault} (Err fault) (Ok x) = met (Err fault) wanted other meets ∙ is in cc)
    ]

-- ---- one name further

module _ (w : House) (at : ℕ) (same : w ≡ house_at_moment w at) (h : IsRegistry w) (names : List (List ℕ)) (listed : names ≡ map (λ s. s.name) (sheets_of w)) where
  as-many : length names ≡ length (sheets_of w)
  as-many = ap (λ (l : List (List ℕ)). length l) listed ∙ length-map (sheets_of w) (λ (s : Sheet). s.name)

  pub sheets-all : (i : ℕ) (sheets : List Sheet) → length names ≤ i → sheets ≡ take i (sheets_of w) → sheets ≡ sheets_of w
  sheets-all i sheets past is = is ∙ take_all i (sheets_of w) (omega (arith, as-many))

  module _ (house : House) (now : house ≡ w) (i : ℕ) (l : i < length names) (d name : List ℕ) (is : name ≡ get_or names i d) where
    one : Sheet
    one = get_or (sheets_of w) i (sheet_of some_queue)

    one-name : name ≡ one.name
    unfolding one
    one-name =
        is ∙ ap (λ (n : List (List ℕ)). get_or n i d) listed
        ∙ get_or-map (λ (s : Sheet). s.name) (sheets_of w) i (sheet_of some_queue) d (omega (arith, as-many))

    one-served : IsServed w at one
    unfolding one
    one-served = served-at w at same h i (sheet_of some_queue) (omega (arith, as-many))

    one-answer : (named_sheet_served house at name).answer ≡ Ok one
    one-answer =
        subst (λ (v : House). (named_sheet_served v at name).answer ≡ Ok one) (sym now)
        (subst (λ (n : List ℕ). (named_sheet_served w at n).answer ≡ Ok one) (sym one-name) one-served.answer)

    pub next-stays : (x : House) → x ≡ (named_sheet_served house at name).house → x ≡ w
    next-stays x is =
        is ∙ ap (λ (v : House). (named_sheet_served v at name).house) now ∙ ap (λ (n : List ℕ). (named_sheet_served w at n).house) one-name ∙ one-served.stays

    pub next-fault : (fault : Fault) → Meets {T = Sheet} (Err fault) (named_sheet_served house at name).answer → fault ≡ OutOfMemory
    next-fault fault meets = only-memory fault (named_sheet_served house at name).answer one meets one-answer

    pub next-sheets : (sheet : Sheet) (sheets new : List Sheet) → ◌≡◌ {A = Result Sheet Fault} (Ok sheet) (named_sheet_served house at name).answer
        → sheets ≡ take i (sheets_of w) → new ≡ sheets ++ sheet ∷ [] → new ≡ take (i + 1) (sheets_of w)
    unfolding one
    next-sheets sheet sheets new told before more =
        let e : ◌≡◌ {A = Result Sheet Fault} (Ok sheet) (Ok one) = told ∙ one-answer in
        let it : sheet ≡ one = cc in
        more ∙ ap (λ (x : List Sheet). x ++ sheet ∷ []) before ∙ ap (λ (x : Sheet). take i (sheets_of w) ++ x ∷ []) it
        ∙ sym (take_more (sheets_of w) i (sheet_of some_queue) (omega (arith, as-many)))

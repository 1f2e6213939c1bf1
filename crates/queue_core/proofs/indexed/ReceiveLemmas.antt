-- What a receive reads of the index of messages is what the journal says.
use Rattle.std.proofs.Common.{◌≡◌, ℕ, zero, suc, ◌+◌, ◌≤◌, ◌<◌, Bool, true, false, not, ◌||◌, eqb, List, [], ◌∷◌, ◌++◌, map, filter, length, take, drop, get_or, Option, Some, None, inl, inr, refl, sym, ap, subst, ◌∙◌, append_assoc, add-one, arith}
use Rattle.std.specs.Prelude.{◌-◌, ◌⊎◌, option_map, slice_get, nat_le}
use Rattle.std.specs.Option.{option_map_or}
use Rattle.std.specs.List.{All, Contains, range_with_len}
use Rattle.std.proofs.lemmas.Bool.{cases_lt}
use Rattle.std.proofs.lemmas.List.{append-nil, length-map, drop_all}
use Rattle.std.proofs.lemmas.List.Elements.{All-contains, All-contains_itself, All-weaker}
use Rattle.std.proofs.lemmas.List.FromFn.{get_or-map-range_with_len, length-map-range_with_len}
use Rattle.std.proofs.lemmas.Option.{none-some, same_Some, slice_get-get_or, slice_get_past}
use Rattle.queue_core.specs.declared.facts.Candidate.{Candidate}
use Rattle.queue_core.specs.declared.index.MessageIndex.{MessageIndex}
use Rattle.queue_core.specs.declared.offers.Offer.{Offer}
use Rattle.queue_core.specs.declared.record.Record.{Record}
use Rattle.message.specs.Content.{ContentText}
use Rattle.queue_core.specs.Messages.{message_count, receive_count, settings_of, content_of}
use Rattle.queue_core.specs.States.{receive_order}
use Rattle.queue_core.specs.Queue.{QueueHistory, is_exhausted, scanned, offered_candidates, offer_of, offers_of, numbers_of}
use Rattle.queue_core.specs.private.Slots.{AreIndexed}
use Rattle.queue_core.specs.private.Records.{records_in, slots_in, born_in}
use Rattle.queue_core.specs.private.Recorded.{IsRecordOf}
use Rattle.queue_core.specs.private.Indexed.{IsIndexOf}
use Rattle.queue_core.proofs.records.SummaryLemmas.{records-kept}
use Rattle.queue_core.proofs.records.FactLemmas.{Line, IsSound}
use Rattle.queue_core.proofs.indexed.IndexedLemmas.{pair_of, IsOffered, IsTurn, offered, order_is, turn_at}
use Rattle.queue_core.proofs.OfferLemmas.{All-offered, scan-leaving, scan-offered, scan-stop, stops}
use Rattle.queue_core.proofs.entries.OrderLemmas.{filter_map-more_some}

-- ---- a queue as contracts see it

pub index_seen : (q r : QueueHistory) (x : MessageIndex) → q ≡ r → IsIndexOf q.lines q.clock x → IsIndexOf r.lines r.clock x
index_seen q r x e is = subst (λ (p : QueueHistory). IsIndexOf p.lines p.clock x) e is

-- ---- how often a message was received

module _ (q : QueueHistory) (sound : IsSound q.lines q.clock) (counts : List ℕ) (are : counts ≡ map (λ n. receive_count q.lines n) (range_with_len 0 (message_count q.lines))) where
  many : length counts ≡ message_count q.lines
  many = ap length are ∙ length-map-range_with_len (λ n. receive_count q.lines n) 0 (message_count q.lines)

  count_below : (n : ℕ) → n < message_count q.lines → slice_get counts n ≡ Some (receive_count q.lines n)
  count_below n below =
      let here : n < length counts = omega (arith, many) in
      slice_get-get_or counts n 0 here
      ∙ ap (λ (c : ℕ). Some c) (ap (λ (cs : List ℕ). get_or cs n 0) are ∙ get_or-map-range_with_len (λ k. receive_count q.lines k) 0 (message_count q.lines) n n 0 below (omega arith))

  count_past : (n : ℕ) → message_count q.lines ≤ n → slice_get counts n ≡ None
  count_past n past = slice_get_past counts n (omega (arith, many))

  pub count_found : (n count : ℕ) → slice_get counts n ≡ Some count → count ≡ receive_count q.lines n
  count_found n count found = elim (cases_lt n (message_count q.lines)) [
    | inl below ↦ same_Some count (receive_count q.lines n) (sym found ∙ count_below n below)
    | inr past ↦ absurd (none-some count (sym (count_past n past) ∙ found))
  ]

  pub count_missing : (n : ℕ) → slice_get counts n ≡ None → 0 ≡ receive_count q.lines n
  count_missing n missing = elim (cases_lt n (message_count q.lines)) [
    | inl below ↦ absurd (none-some (receive_count q.lines n) (sym missing ∙ count_below n below))
    | inr past ↦ sym (sound.unborn n past).receives
  ]

-- ---- the order of receives

module _ (lines : List Line) (clock : ℕ) (x : MessageIndex) (is : IsIndexOf lines clock x) where
  pub born_is : born_in x ≡ message_count lines
  born_is = ap length is.receives ∙ length-map-range_with_len (λ n. receive_count lines n) 0 (message_count lines)

  indices_are : AreIndexed (slots_in x) (message_count lines) x.indices
  indices_are = subst (λ (count : ℕ). AreIndexed (slots_in x) count x.indices) born_is is.indexed.indices.indices

  pub turns_are : length x.indices.visible.pairs ≡ length (receive_order lines clock)
  turns_are = ap length (order_is lines clock (records_in x) (records-kept lines clock x is) is.settled x.indices indices_are) ∙ length-map (receive_order lines clock) pair_of

  turn_in : (place : ℕ) (pair : ℕ × ℕ) → slice_get x.indices.visible.pairs place ≡ Some pair → IsTurn lines clock (records_in x) place pair
  turn_in place pair h = turn_at lines clock (records_in x) (records-kept lines clock x is) is.settled x.indices indices_are place pair h

  pub number_at : (place : ℕ) (pair : ℕ × ℕ) → slice_get x.indices.visible.pairs place ≡ Some pair → option_map (λ c. c.message.number) (slice_get (receive_order lines clock) place) ≡ Some pair.1
  number_at place pair h =
      let turn = turn_in place pair h in
      ap (λ (o : Option Candidate). option_map (λ c. c.message.number) o) turn.turn ∙ ap (λ (p : ℕ × ℕ). Some p.1) turn.pair_is

  pub none_missing : (place : ℕ) → place < length (receive_order lines clock) → slice_get x.indices.visible.pairs place ≡ None → ⊥
  none_missing place within missing =
      none-some (get_or x.indices.visible.pairs place (0, 0)) (sym missing ∙ slice_get-get_or x.indices.visible.pairs place (0, 0) (omega (arith, turns_are)))

-- ---- the scan, one candidate on

-- the candidate of a number at a place, and those from there on
record IsNext (cs : List Candidate) (place number : ℕ) : Type 0 where
  candidate : Candidate
  rest : drop place cs ≡ candidate ∷ drop (suc place) cs
  number_is : candidate.message.number ≡ number

next_at : (cs : List Candidate) (place number : ℕ) → option_map (λ c. c.message.number) (slice_get cs place) ≡ Some number → IsNext cs place number
next_at [] place number h = absurd (none-some number h)
next_at (c ∷ cs) zero number h = record { candidate = c; rest = refl; number_is = same_Some c.message.number number h }
next_at (c ∷ cs) (suc place) number h = let next = next_at cs place number h in record { candidate = next.candidate; rest = next.rest; number_is = next.number_is }

-- the numbers that were kept of the candidates so far, and those that are kept of the others
pub record IsScanned (p : Candidate → Bool) (all : List Candidate) (offered leaving : List ℕ) (rest : List Candidate) : Type 0 where
  pub offered_is : numbers_of (filter (λ c. not (p c)) all) ≡ offered ++ numbers_of (filter (λ c. not (p c)) rest)
  pub leaving_is : numbers_of (filter (λ c. p c) all) ≡ leaving ++ numbers_of (filter (λ c. p c) rest)

module _ (p : Candidate → Bool) (all : List Candidate) where
  scan_ends : (offered leaving : List ℕ) (rest : List Candidate) → rest ≡ [] → IsScanned p all offered leaving rest
      → (offered ≡ numbers_of (filter (λ c. not (p c)) all)) × (leaving ≡ numbers_of (filter (λ c. p c) all))
  scan_ends offered leaving rest e s = (sym (s.offered_is ∙ rw e (append-nil offered)), sym (s.leaving_is ∙ rw e (append-nil leaving)))

  pub scan_stops : (offered leaving : List ℕ) (a b : ℕ) (rest : List Candidate) → (a ≡ 0) ⊎ ((a ≡ 0 → ⊥) × (b ≡ 0)) → IsScanned p all offered leaving (scanned p a b rest)
      → (offered ≡ numbers_of (filter (λ c. not (p c)) all)) × (leaving ≡ numbers_of (filter (λ c. p c) all))
  scan_stops offered leaving a b rest h s = scan_ends offered leaving (scanned p a b rest) (scan-stop p a b rest (stops p a b h)) s

  pub scan_all : (offered leaving : List ℕ) (a b : ℕ) (cs : List Candidate) (place : ℕ) → length cs ≤ place → IsScanned p all offered leaving (scanned p a b (drop place cs))
      → (offered ≡ numbers_of (filter (λ c. not (p c)) all)) × (leaving ≡ numbers_of (filter (λ c. p c) all))
  scan_all offered leaving a b cs place h s = scan_ends offered leaving (scanned p a b (drop place cs)) (ap (scanned p a b) (drop_all place cs h)) s

  kept_leaving : (offered leaving : List ℕ) (rest next : List Candidate) (x : Candidate) → rest ≡ x ∷ next → p x ≡ true
      → IsScanned p all offered leaving rest → IsScanned p all offered (leaving ++ x.message.number ∷ []) next
  kept_leaving offered leaving rest next x e is s = record {
    offered_is = s.offered_is ∙ rw (e, is) refl;
    leaving_is = s.leaving_is ∙ rw (e, is, append_assoc leaving (x.message.number ∷ []) (numbers_of (filter (λ c. p c) next))) refl;
  }

  kept_offered : (offered leaving : List ℕ) (rest next : List Candidate) (x : Candidate) → rest ≡ x ∷ next → p x ≡ false
      → IsScanned p all offered leaving rest → IsScanned p all (offered ++ x.message.number ∷ []) leaving next
  kept_offered offered leaving rest next x e is s = record {
    offered_is = s.offered_is ∙ rw (e, is, append_assoc offered (x.message.number ∷ []) (numbers_of (filter (λ c. not (p c)) next))) refl;
    leaving_is = s.leaving_is ∙ rw (e, is) refl;
  }

  module _ (cs : List Candidate) (place number a b : ℕ) (at : option_map (λ c. c.message.number) (slice_get cs place) ≡ Some number) (going : (eqb a 0 || eqb b 0) ≡ false) where
    pub step_leaving : (offered leaving : List ℕ) → ((c : Candidate) → c.message.number ≡ number → p c ≡ true)
        → IsScanned p all offered leaving (scanned p a b (drop place cs)) → IsScanned p all offered (leaving ++ number ∷ []) (scanned p a (b - 1) (drop (place + 1) cs))
    step_leaving offered leaving is s =
        let next = next_at cs place number at in
        let leaves : p next.candidate ≡ true = is next.candidate next.number_is in
        let more : scanned p a b (drop place cs) ≡ next.candidate ∷ scanned p a (b - 1) (drop (suc place) cs) =
        ap (scanned p a b) next.rest ∙ scan-leaving p a b next.candidate (drop (suc place) cs) going leaves in
        rw (add-one place)
        (subst (λ (n : ℕ). IsScanned p all offered (leaving ++ n ∷ []) (scanned p a (b - 1) (drop (suc place) cs))) next.number_is
        (kept_leaving offered leaving (scanned p a b (drop place cs)) (scanned p a (b - 1) (drop (suc place) cs)) next.candidate more leaves s))

    pub step_offered : (offered leaving : List ℕ) → ((c : Candidate) → c.message.number ≡ number → p c ≡ false)
        → IsScanned p all offered leaving (scanned p a b (drop place cs)) → IsScanned p all (offered ++ number ∷ []) leaving (scanned p (a - 1) b (drop (place + 1) cs))
    step_offered offered leaving is s =
        let next = next_at cs place number at in
        let stays : p next.candidate ≡ false = is next.candidate next.number_is in
        let more : scanned p a b (drop place cs) ≡ next.candidate ∷ scanned p (a - 1) b (drop (suc place) cs) =
        ap (scanned p a b) next.rest ∙ scan-offered p a b next.candidate (drop (suc place) cs) going stays in
        rw (add-one place)
        (subst (λ (n : ℕ). IsScanned p all (offered ++ n ∷ []) leaving (scanned p (a - 1) b (drop (suc place) cs))) next.number_is
        (kept_offered offered leaving (scanned p a b (drop place cs)) (scanned p (a - 1) b (drop (suc place) cs)) next.candidate more stays s))

-- whether a candidate is exhausted depends on its number
pub exhausted_by : (q : QueueHistory) (number : ℕ) (b : Bool)
    → b ≡ option_map_or (λ p. nat_le p.max_receive_count (receive_count q.lines number)) (settings_of q.lines).redrive_policy false
    → (c : Candidate) → c.message.number ≡ number → is_exhausted q c ≡ b
exhausted_by q number b h c e =
    ap (λ (n : ℕ). option_map_or (λ p. nat_le p.max_receive_count (receive_count q.lines n)) (settings_of q.lines).redrive_policy false) e ∙ sym h

-- ---- offers

-- the candidate at a place, of the number at that place
record IsPlaced (cs : List Candidate) (place : ℕ) : Type 0 where
  candidate : Candidate
  at : candidate ≡ get_or cs place candidate
  number_is : candidate.message.number ≡ get_or (numbers_of cs) place 0

placed : (cs : List Candidate) (place : ℕ) → place < length cs → IsPlaced cs place
placed [] place h = absurd (omega arith)
placed (c ∷ cs) zero h = record { candidate = c; at = refl; number_is = refl }
placed (c ∷ cs) (suc place) h = let rest = placed cs place (omega arith) in record { candidate = rest.candidate; at = rest.at; number_is = rest.number_is }

pub as_many : (numbers : List ℕ) (cs : List Candidate) → numbers ≡ numbers_of cs → length numbers ≡ length cs
as_many numbers cs are = ap length are ∙ length-map cs (λ c. c.message.number)

module _ (q : QueueHistory) (x : MessageIndex) (is : IsIndexOf q.lines q.clock x) (maximum : ℕ) (numbers : List ℕ) (are : numbers ≡ numbers_of (offered_candidates q maximum)) where
  abbrev candidates : List Candidate
  candidates = offered_candidates q maximum

  count_is : length numbers ≡ length candidates
  count_is = as_many numbers candidates are

  all_offered : All (λ c. IsOffered q.lines (records_in x) c) candidates
  all_offered =
      All-offered (λ c. IsOffered q.lines (records_in x) c) q maximum
      (All-weaker (λ c. Contains (receive_order q.lines q.clock) c) (λ c. IsOffered q.lines (records_in x) c)
      (λ c there. offered q.lines q.clock (records_in x) (records-kept q.lines q.clock x is) is.settled c there) (receive_order q.lines q.clock) (All-contains_itself (receive_order q.lines q.clock)))

  module _ (place : ℕ) (within : place < length numbers) where
    here : IsPlaced candidates place
    here = placed candidates place (omega (arith, count_is))

    number_here : here.candidate.message.number ≡ get_or numbers place 0
    number_here = here.number_is ∙ ap (λ (ns : List ℕ). get_or ns place 0) (sym are)

    offered_here : IsOffered q.lines (records_in x) here.candidate
    offered_here =
        let inside : place < length candidates = omega (arith, count_is) in
        All-contains (λ c. IsOffered q.lines (records_in x) c) candidates here.candidate all_offered (place, inside, sym here.at)

    found_here : records_in x (get_or numbers place 0) ≡ Some offered_here.kept
    found_here = ap (records_in x) (sym number_here) ∙ offered_here.found

    -- each number that is offered has a record
    pub offer_missing : records_in x (get_or numbers place 0) ≡ None → ⊥
    offer_missing missing = none-some offered_here.kept (sym missing ∙ found_here)

    -- and the offer of one candidate more
    pub offer_more : (kept : Record) → records_in x (get_or numbers place 0) ≡ Some kept → (offer : Offer)
        → ((c : Candidate) → c.message.number ≡ get_or numbers place 0 → IsRecordOf q.lines c.message kept → offer ≡ offer_of q c kept.content)
        → offers_of q (take (place + 1) candidates) ≡ offers_of q (take place candidates) ++ offer ∷ []
    offer_more kept found offer is_of =
        let one : Candidate → Option Offer = λ c. option_map (λ content. offer_of q c content) (content_of q.lines c.message) in
        let same : offered_here.kept ≡ kept = same_Some offered_here.kept kept (sym found_here ∙ found) in
        let of : IsRecordOf q.lines here.candidate.message kept = subst (λ (r : Record). IsRecordOf q.lines here.candidate.message r) same offered_here.of in
        let offers : one here.candidate ≡ Some offer =
        ap (option_map (λ (text : ContentText). offer_of q here.candidate text)) of.content ∙ ap (λ (o : Offer). Some o) (sym (is_of here.candidate number_here of)) in
        filter_map-more_some one candidates place here.candidate offer (omega (arith, count_is)) here.at offers

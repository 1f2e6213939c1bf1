-- What a step leaves of the whole history: no uid is used twice, and every deleted queue is closed.
use Rattle.std.proofs.Common.{◌≡◌, ℕ, ◌+◌, ◌<◌, Bool, true, false, not, cond, List, [], ◌∷◌, ◌++◌, map, Option, Some, None, Ok, refl, sym, ap, subst, ◌∙◌, arith, append_assoc, eqb-true}
use Rattle.std.specs.Prelude.{nat_eq, filter}
use Rattle.std.specs.List.{find, AllByRecursion, IsDistinct}
use Rattle.std.specs.Option.{option_map_or}
use Rattle.std.proofs.lemmas.Cmp.{nat_eq_equiv}
use Rattle.std.proofs.lemmas.List.{map-append}
use Rattle.std.proofs.lemmas.List.Elements.{All-nil, All-cons, All-append, All-weaker}
use Rattle.message.specs.Fault.{is_out_of_memory}
use Rattle.queue_core.specs.Messages.{is_closed}
use Rattle.queue_core.specs.Queue.{QueueHistory, at_moment, after_answer}
use Rattle.redrive.specs.declared.steps.HouseStep.{HouseStep}
use Rattle.redrive.specs.House.{House, queue_of_uid, with_queue, next_queue, closed_queue, without_queue, with_queue_changed, IsRegistry}
use Rattle.redrive.specs.History.{AllQueues, IsWholeHistory}
use Rattle.redrive.specs.HouseSteps.{HouseAnswer, HouseChange, Nothing, Performs, Opens, Closes, Passes, act_of, all_changed, all_after}
use Rattle.redrive.proofs.KeyedLemmas.{differ-filter, differ-found, IsDistinct-push, IsDistinct-filter, map-key, find-unused, find-passes, find-holds}
use Rattle.redrive.proofs.RegistryLemmas.{after_answer-uid, at_uid-keeps, without-none}
use Rattle.redrive.proofs.DeletionLemmas.{closed_queue-closed}

abbrev uid_of : QueueHistory → ℕ
uid_of q = q.uid

-- ---- uids that differ

-- a uid that differs from all differs from that of a queue which is found
pub differs-found : (k own : ℕ) (earlier xs : List QueueHistory) (q : QueueHistory) → AllByRecursion (λ y. nat_eq k y ≡ false) (map uid_of (earlier ++ xs))
    → find (λ q. nat_eq q.uid own) xs ≡ Some q → nat_eq k own ≡ false
differs-found k own [] xs q h is =
    subst (λ (u : ℕ). nat_eq k u ≡ false) (eqb-true q.uid own (find-passes (λ q. nat_eq q.uid own) xs q is)) (differ-found nat_eq uid_of k (λ q. nat_eq q.uid own) xs q h is)
differs-found k own (d ∷ earlier) xs q h is = differs-found k own earlier xs q h.1 is

differs-kept : (own : ℕ) (b : Bool) (x : QueueHistory) (xs : List QueueHistory) → nat_eq x.uid own ≡ b → AllByRecursion (λ y. nat_eq own y ≡ false) (map uid_of xs)
    → AllByRecursion (λ y. nat_eq own y ≡ false) (map uid_of (cond (not b) (x ∷ xs) xs))
differs-kept own true x xs e h = h
differs-kept own false x xs e h = (nat_eq_equiv.symm own x.uid ∙ e, h)

differs-without : (own : ℕ) (xs : List QueueHistory) → AllByRecursion (λ y. nat_eq own y ≡ false) (map uid_of (filter (λ q. not (nat_eq q.uid own)) xs))
differs-without own [] = tt
differs-without own (x ∷ xs) = differs-kept own (nat_eq x.uid own) x (filter (λ q. not (nat_eq q.uid own)) xs) refl (differs-without own xs)

-- what is taken out differs from everything else
own-differs : (own : ℕ) (earlier xs : List QueueHistory) (q : QueueHistory) → IsDistinct nat_eq (map uid_of (earlier ++ xs)) → find (λ q. nat_eq q.uid own) xs ≡ Some q
    → AllByRecursion (λ y. nat_eq own y ≡ false) (map uid_of (earlier ++ filter (λ q. not (nat_eq q.uid own)) xs))
unfolding IsDistinct
own-differs own [] xs q h is = differs-without own xs
own-differs own (d ∷ earlier) xs q h is = (nat_eq_equiv.symm own d.uid ∙ differs-found d.uid own earlier xs q h.0 is, own-differs own earlier xs q h.1 is)

module _ (p : QueueHistory → Bool) where
  fewer-differ : (k : ℕ) (earlier xs : List QueueHistory) → AllByRecursion (λ y. nat_eq k y ≡ false) (map uid_of (earlier ++ xs))
      → AllByRecursion (λ y. nat_eq k y ≡ false) (map uid_of (earlier ++ filter p xs))
  fewer-differ k [] xs h = differ-filter nat_eq uid_of k p xs h
  fewer-differ k (d ∷ earlier) xs h = (h.0, fewer-differ k earlier xs h.1)

  fewer-distinct : (earlier xs : List QueueHistory) → IsDistinct nat_eq (map uid_of (earlier ++ xs)) → IsDistinct nat_eq (map uid_of (earlier ++ filter p xs))
  unfolding IsDistinct
  fewer-distinct [] xs h = IsDistinct-filter nat_eq uid_of p xs h
  fewer-distinct (d ∷ earlier) xs h = (fewer-differ d.uid earlier xs h.0, fewer-distinct earlier xs h.1)

-- ---- what the history becomes

pub IsWholeHistory-first : (w : House) → IsRegistry w → IsWholeHistory (record { house = w; deleted = [] })
IsWholeHistory-first w h = record { uids = h.uids; used = All-nil _; closed = All-nil _ }

-- the same uids in the registry
keeps-uids : (all : AllQueues) (w : House) → map uid_of w.queues ≡ map uid_of all.house.queues → w.next_uid ≡ all.house.next_uid → IsWholeHistory all
    → IsWholeHistory (record { house = w; deleted = all.deleted })
keeps-uids all w uids next h = record {
  uids = subst (λ (us : List ℕ). IsDistinct nat_eq us)
      (map-append uid_of all.deleted all.house.queues ∙ ap (λ (us : List ℕ). map uid_of all.deleted ++ us) (sym uids) ∙ sym (map-append uid_of all.deleted w.queues)) h.uids;
  used = rw next h.used;
  closed = h.closed;
}

opened-history : (all : AllQueues) (q : QueueHistory) → q.uid ≡ all.house.next_uid → IsRegistry all.house → IsWholeHistory all
    → IsWholeHistory (record { house = with_queue all.house q; deleted = all.deleted })
opened-history all q uid registry h = record {
  uids = subst (λ (qs : List QueueHistory). IsDistinct nat_eq (map uid_of qs)) (append_assoc all.deleted all.house.queues (q ∷ []))
      (IsDistinct-push nat_eq uid_of (all.deleted ++ all.house.queues) q h.uids
      (rw uid (find-unused uid_of all.house.next_uid (all.deleted ++ all.house.queues) (All-append (λ q. q.uid < all.house.next_uid) all.deleted all.house.queues h.used registry.used))));
  used = All-weaker (λ q. q.uid < all.house.next_uid) (λ q. q.uid < all.house.next_uid + 1) (λ q l. omega arith) all.deleted h.used;
  closed = h.closed;
}

deleted-history : (all : AllQueues) (own at : ℕ) (q : QueueHistory) → queue_of_uid all.house own ≡ Some q → IsRegistry all.house → IsWholeHistory all
    → IsWholeHistory (record { house = without_queue all.house own; deleted = closed_queue q at ∷ all.deleted })
unfolding IsDistinct
deleted-history all own at q here registry h =
    let uid : q.uid ≡ own = eqb-true q.uid own (find-passes (λ q. nat_eq q.uid own) all.house.queues q here) in
    record {
      uids = (
        subst (λ (u : ℕ). AllByRecursion (λ y. nat_eq u y ≡ false) (map uid_of (all.deleted ++ filter (λ q. not (nat_eq q.uid own)) all.house.queues))) (sym uid)
            (own-differs own all.deleted all.house.queues q h.uids here),
        fewer-distinct (λ q. not (nat_eq q.uid own)) all.deleted all.house.queues h.uids,
      );
      used = All-cons (λ q. q.uid < all.house.next_uid) (closed_queue q at) all.deleted (find-holds (λ q. nat_eq q.uid own) (λ q. q.uid < all.house.next_uid) all.house.queues q registry.used here) h.used;
      closed = All-cons (λ q. is_closed q.lines ≡ true) (closed_queue q at) all.deleted (closed_queue-closed q at) h.closed;
    }

-- ---- a change

changed-history : (all : AllQueues) (own : ℕ) (f : QueueHistory → QueueHistory) → ((q : QueueHistory) → (f q).uid ≡ q.uid) → IsWholeHistory all
    → IsWholeHistory (record { house = with_queue_changed all.house own f; deleted = all.deleted })
changed-history all own f keeps h =
    keeps-uids all (with_queue_changed all.house own f)
    (map-key nat_eq uid_of (λ q. cond (nat_eq q.uid own) (f q) q) (λ q. at_uid-keeps (λ q. q.uid) (nat_eq q.uid own) q (f q) (keeps q)) all.house.queues) refl h

opened-by : (all : AllQueues) (q : QueueHistory) (failed : Bool) → q.uid ≡ all.house.next_uid → IsRegistry all.house → IsWholeHistory all
    → IsWholeHistory (record { house = cond failed all.house (with_queue all.house q); deleted = all.deleted })
opened-by all q true uid registry h = h
opened-by all q false uid registry h = opened-history all q uid registry h

closed-by : (all : AllQueues) (own at : ℕ) (failed : Bool) (o : Option QueueHistory) → queue_of_uid all.house own ≡ o → IsRegistry all.house → IsWholeHistory all
    → IsWholeHistory (record {
      house = cond failed (with_queue_changed all.house own (λ q. at_moment q at)) (without_queue all.house own);
      deleted = cond failed all.deleted (option_map_or (λ q. closed_queue q at ∷ all.deleted) o all.deleted);
    })
closed-by all own at true o here registry h = changed-history all own (λ q. at_moment q at) (λ q. refl) h
closed-by all own at false None here registry h =
    subst (λ (w : House). IsWholeHistory (record { house = w; deleted = all.deleted })) (sym (without-none all.house own here)) h
closed-by all own at false (Some q) here registry h = deleted-history all own at q here registry h

changed-whole : (all : AllQueues) (at : ℕ) (change : HouseChange) (answer : HouseAnswer) → IsRegistry all.house → IsWholeHistory all → IsWholeHistory (all_changed all at change answer)
changed-whole all at Nothing answer registry h = h
changed-whole all at (Performs own command) answer registry h = changed-history all own (λ q. after_answer q at command answer) (after_answer-uid at command answer) h
changed-whole all at (Opens name settings) answer registry h = opened-by all (next_queue all.house at name settings []) (is_out_of_memory answer) refl registry h
changed-whole all at (Closes own) answer registry h = closed-by all own at (is_out_of_memory answer) (queue_of_uid all.house own) refl registry h
changed-whole all at Passes answer registry h = keeps-uids all _ (map-key nat_eq uid_of (λ q. at_moment q at) (λ q. refl) all.house.queues) refl h

pub IsWholeHistory-after : (all : AllQueues) (step : HouseStep) (answer : HouseAnswer) → IsRegistry all.house → IsWholeHistory all → IsWholeHistory (all_after all step answer)
IsWholeHistory-after all step answer registry h = changed-whole all (act_of all.house step).at (act_of all.house step).change answer registry h

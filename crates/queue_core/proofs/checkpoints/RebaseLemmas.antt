-- The journal of one entry that stands for others comes to what they come to.
use Rattle.std.proofs.Common.{◌≡◌, ℕ, zero, suc, ◌+◌, ◌-◌, ◌*◌, ◌≤◌, ◌<◌, Bool, true, false, not, cond, ◌&&◌, ◌||◌, List, [], ◌∷◌, ◌++◌, map, length, Option, Some, None, inl, inr, refl, sym, ap, subst, ◌∙◌, arith}
use Rattle.std.specs.Prelude.{◌==◌, nat_eq, nat_le, nat_lt, min, slice_get, slice_index, is_some, unwrap_or, option_map, option_and_then, option_to_list, filter, filter_map, flat_map, find}
use Rattle.std.specs.Option.{option_map_or, option_or}
use Rattle.std.specs.List.{AllByRecursion, AllPairs, Contains, cons_option, list_any, range_with_len}
use Rattle.std.proofs.lemmas.Bool.{false≢true, eqb-true, lt-ltb, cases_lt}
use Rattle.std.proofs.lemmas.Bool.Decides.{nat_tests}
use Rattle.std.proofs.lemmas.List.{append-nil, get_or_past}
use Rattle.std.proofs.lemmas.List.FromFn.{length-range_with_len, get_or-range_with_len, length-map-range_with_len, fill_by_all}
use Rattle.std.proofs.lemmas.List.Elements.{All-map, All-weaker, All-contains, All-contains_itself, recursion_from_All}
use Rattle.std.proofs.lemmas.List.Folds.{find-append}
use Rattle.std.proofs.lemmas.List.Sums.{sum_by-cons}
use Rattle.std.proofs.lemmas.Grind.{flat_map-append}
use Rattle.std.proofs.lemmas.Option.{none-some, same_Some, slice_get-map, slice_get-get_or, slice_get_past, unwrap_or-slice_get}
use Rattle.message.specs.Content.{ContentText, content_size}
use Rattle.journal.specs.declared.entry.Entry.{Entry}
use Rattle.journal.specs.declared.entry.Event.TheVariants.{Base}
use Rattle.journal.specs.declared.base.KeptMessage.{KeptMessage}
use Rattle.journal.specs.Base.{BaseOf}
use Rattle.journal.specs.Journal.{based}
use Rattle.metric_window.specs.declared.flows.Flows.{Flows}
use Rattle.metric_window.specs.declared.row.Row.{Row}
use Rattle.metric_window.specs.Flows.{minute_of, minute_flows, greatest, added, capped, row_kept}
use Rattle.metric_window.specs.KeptRows.{row_in}
use Rattle.metric_window.specs.Window.{window_start}
use Rattle.metric_window.proofs.KeptLemmas.{row_in-from}
use Rattle.metric_window.proofs.FlowLemmas.{none-added}
use Rattle.metric_window.proofs.MinuteLemmas.{minute_flows-push, minute_flows-none}
use Rattle.queue_core.specs.declared.facts.Message.{Message}
use Rattle.queue_core.specs.declared.facts.Status.{Status}
use Rattle.queue_core.specs.declared.facts.Status.TheVariants.{Removed, Waiting}
use Rattle.queue_core.specs.declared.facts.Transfer.{Transfer}
use Rattle.queue_core.specs.Messages.{Birth, messages_in, message_in, message_count, base_births, kept_numbered, kept_birth, gone_birth, kept_transfer, kept_status, contents, content_of, is_expired, is_returned, due_time, receives_in, receive_count, first_of_both, first_receive_in, first_receive_time, last_receive_time, course_of, pending_transfers, rows_known}
use Rattle.queue_core.specs.States.{message_numbered}
use Rattle.queue_core.specs.Metrics.{told_row, metric_row}
use Rattle.queue_core.specs.Summary.{KnownMessage, Summary, known_message, known_where, known_at, summary_of}
use Rattle.queue_core.specs.Rebase.{kept_with, kept_of, live_at, kept_at, kept_live, kept_waiting, kept_row, base_in}
use Rattle.queue_core.proofs.checkpoints.OpenLemmas.{IsOpen}
use Rattle.queue_core.proofs.OfferLemmas.{Contains-map}
use Rattle.queue_core.proofs.entries.PairLemmas.{AllPairs-map}
use Rattle.queue_core.proofs.PendingLemmas.{IsPendingOf, contains-number}
use Rattle.queue_core.proofs.entries.UnbornLemmas.{IsUnborn}
use Rattle.queue_core.proofs.SoundLemmas.{IsSound}

filter_all : {X : Type 0} (xs : List X) → filter (λ x. true) xs ≡ xs
filter_all [] = refl
filter_all (x ∷ xs) = ap (λ (ys : List _). x ∷ ys) (filter_all xs)

-- ---- finding by number

abbrev Kept : Type 0
Kept = KeptMessage ContentText

abbrev is_of : ℕ → Kept → Bool
is_of n m = m.number == n

module _ (f : ℕ → Option Kept) (named : (i : ℕ) (m : Kept) → f i ≡ Some m → m.number ≡ i) (n : ℕ) where
  later_none : (b : Bool) → ◌≡◌ {A = Option Kept} (cond b None None) None
  later_none true = refl
  later_none false = refl

  found_first : (a : ℕ) (o : Option Kept) (rest : List Kept) (later : Bool) → f a ≡ o → find (is_of n) rest ≡ cond later (f n) None
      → find (is_of n) (cons_option o rest) ≡ cond ((a == n) || later) (f n) None
  found_first a None rest later e h = h ∙ by_same (a == n) refl
    where
      by_same : (b : Bool) → (a == n) ≡ b → cond later (f n) None ≡ cond (b || later) (f n) None
      by_same true same =
          let gone : f n ≡ None = ap f (sym (eqb-true a n same)) ∙ e in
          ap (λ (o : Option Kept). cond later o None) gone ∙ later_none later ∙ sym gone
      by_same false other = refl
  found_first a (Some m) rest later e h = by_same (a == n) refl
    where
      test : (m.number == n) ≡ (a == n)
      test = ap (λ (i : ℕ). i == n) (named a m e)

      by_same : (b : Bool) → (a == n) ≡ b → cond (m.number == n) (Some m) (find (is_of n) rest) ≡ cond (b || later) (f n) None
      by_same true same = ap (λ (c : Bool). cond c (Some m) (find (is_of n) rest)) (test ∙ same) ∙ sym e ∙ ap f (eqb-true a n same)
      by_same false other = ap (λ (c : Bool). cond c (Some m) (find (is_of n) rest)) (test ∙ other) ∙ h

  found_among : (ns : List ℕ) → find (is_of n) (filter_map f ns) ≡ cond (list_any (λ i. i == n) ns) (f n) None
  found_among [] = refl
  found_among (a ∷ ns) = found_first a (f a) (filter_map f ns) (list_any (λ i. i == n) ns) refl (found_among ns)

among_range : (n a count : ℕ) → list_any (λ i. i == n) (range_with_len a count) ≡ (nat_le a n && nat_lt n (a + count))
among_range n a zero = grind (arith, nat_tests)
among_range n a (suc count) =
    ap (λ (b : Bool). (a == n) || b) (among_range n (a + 1) count) ∙ grind (arith, nat_tests)

module _ (uid : ℕ) (s : Summary) (clock : ℕ) (is : IsOpen s clock) where
  abbrev base : BaseOf ContentText
  base = base_in uid s

  abbrev lines : List (Entry ContentText)
  lines = based clock base

  abbrev count : ℕ
  count = length s.receives

  -- ---- the message of a number

  live_named : (i : ℕ) (m : Kept) → live_at s i ≡ Some m → m.number ≡ i
  live_named i m h = by_known (s.known i) refl h
    where
      by_target : (k : KnownMessage) → s.known i ≡ Some k → (target : Option ℕ) → cond (is_some target) None (kept_of k) ≡ Some m → m.number ≡ i
      by_target k e (Some target) h = absurd (none-some m h)
      by_target k e None h =
          let content = is.contained i k e in
          let same : kept_with k content.0 ≡ m = same_Some (kept_with k content.0) m (sym (ap (option_map (kept_with k)) content.1) ∙ h) in
          sym (ap (λ (x : Kept). x.number) same) ∙ is.number i k e

      by_known : (o : Option KnownMessage) → s.known i ≡ o → option_and_then (λ k. cond (is_some k.target) None (kept_of k)) o ≡ Some m → m.number ≡ i
      by_known None e h = absurd (none-some m h)
      by_known (Some k) e h = by_target k e k.target h

  kept_named : (i : ℕ) (m : Kept) → kept_at s i ≡ Some m → m.number ≡ i
  kept_named i m h = by_known (s.known i) refl h
    where
      by_known : (o : Option KnownMessage) → s.known i ≡ o → option_and_then kept_of o ≡ Some m → m.number ≡ i
      by_known None e h = absurd (none-some m h)
      by_known (Some k) e h =
          let content = is.contained i k e in
          let same : kept_with k content.0 ≡ m = same_Some (kept_with k content.0) m (sym (ap (option_map (kept_with k)) content.1) ∙ h) in
          sym (ap (λ (x : Kept). x.number) same) ∙ is.number i k e

  found : (n : ℕ) → kept_numbered base n ≡ option_or (cond (nat_lt n count) (live_at s n) None) (cond (list_any (λ i. i == n) s.leaving) (kept_at s n) None)
  found n =
      let before : (nat_le 0 n && nat_lt n (0 + count)) ≡ nat_lt n count = grind (arith, nat_tests) in
      find-append (is_of n) (kept_live s) (kept_waiting s)
      ∙ ap (λ (o : Option Kept). option_or o (find (is_of n) (kept_waiting s)))
      (found_among (live_at s) live_named n (range_with_len 0 count) ∙ ap (λ (b : Bool). cond b (live_at s n) None) (among_range n 0 count ∙ before))
      ∙ ap (λ (o : Option Kept). option_or (cond (nat_lt n count) (live_at s n) None) o) (found_among (kept_at s) kept_named n s.leaving)

  found_none : (n : ℕ) → s.known n ≡ None → kept_numbered base n ≡ None
  found_none n e =
      found n
      ∙ ap (λ (o : Option KnownMessage). option_or (cond (nat_lt n count) (option_and_then (λ k. cond (is_some k.target) None (kept_of k)) o) None) (cond (list_any (λ i. i == n) s.leaving) (option_and_then kept_of o) None)) e
      ∙ neither (nat_lt n count) (list_any (λ i. i == n) s.leaving)
    where
      neither : (a b : Bool) → ◌≡◌ {A = Option Kept} (option_or (cond a None None) (cond b None None)) None
      neither true true = refl
      neither true false = refl
      neither false true = refl
      neither false false = refl

  found_some : (n : ℕ) (k : KnownMessage) (e : s.known n ≡ Some k) → kept_numbered base n ≡ Some (kept_with k (is.contained n k e).0)
  found_some n k e =
      found n
      ∙ ap
      (λ (o : Option KnownMessage).
      option_or (cond (nat_lt n count) (option_and_then (λ k. cond (is_some k.target) None (kept_of k)) o) None) (cond (list_any (λ i. i == n) s.leaving) (option_and_then kept_of o) None))
      e
      ∙ ap (λ (b : Bool). option_or (cond b (cond (is_some k.target) None (kept_of k)) None) (cond (list_any (λ i. i == n) s.leaving) (kept_of k) None)) (lt-ltb n count (is.within n k e))
      ∙ ap (λ (o : Option Kept). option_or (cond (is_some k.target) None o) (cond (list_any (λ i. i == n) s.leaving) o None)) (ap (option_map (kept_with k)) (is.contained n k e).1)
      ∙ by_target k.target refl
    where
      m : Kept
      m = kept_with k (is.contained n k e).0

      by_target : (target : Option ℕ) → k.target ≡ target → option_or (cond (is_some target) None (Some m)) (cond (list_any (λ i. i == n) s.leaving) (Some m) None) ≡ Some m
      by_target None t = refl
      by_target (Some target) t = ap (λ (b : Bool). cond b (Some m) None) (contains-number n s.leaving (is.waits n k target e t))

  -- ---- what begins with it

  abbrev birth_of : ℕ → Birth ContentText
  birth_of n = option_map_or kept_birth (kept_numbered base n) gone_birth

  birth_at : (n : ℕ) → n < count → slice_get (base_births base) n ≡ Some (birth_of n)
  birth_at n below =
      slice_get-map birth_of (range_with_len 0 count) n
      ∙ ap (option_map birth_of)
      (slice_get-get_or (range_with_len 0 count) n 0 (omega (arith, below, length-range_with_len 0 count)) ∙ ap (λ (i : ℕ). Some i) (get_or-range_with_len 0 count n 0 below ∙ from_first n))
    where
      from_first : (i : ℕ) → 0 + i ≡ i
      from_first i = omega arith

  birth_past : (n : ℕ) → count ≤ n → slice_get (base_births base) n ≡ None
  birth_past n past = slice_get_past (base_births base) n (omega (arith, past, length-map-range_with_len birth_of 0 count))

  begun_at : (place number at : ℕ) (bs : List (Birth ContentText)) (n : ℕ) → slice_get (messages_in place number at bs) n ≡ option_map (λ b. message_in place (number + n) at b) (slice_get bs n)
  begun_at place number at [] n = refl
  begun_at place number at (b ∷ bs) zero = ap (λ (i : ℕ). Some (message_in place i at b)) (add-zero' number)
    where
      add-zero' : (i : ℕ) → i ≡ i + 0
      add-zero' i = omega arith
  begun_at place number at (b ∷ bs) (suc n) =
      begun_at place (suc number) at bs n ∙ ap (λ (i : ℕ). option_map (λ b. message_in place i at b) (slice_get bs n)) (next number n)
    where
      next : (i j : ℕ) → suc i + j ≡ i + suc j
      next i j = omega arith

  numbered : (n : ℕ) → message_numbered lines n ≡ option_map (λ b. message_in 0 n clock b) (slice_get (base_births base) n)
  numbered n =
      ap (λ (ms : List Message). slice_get ms n) (append-nil (messages_in 0 0 clock (base_births base)))
      ∙ begun_at 0 0 clock (base_births base) n
      ∙ ap (λ (i : ℕ). option_map (λ b. message_in 0 i clock b) (slice_get (base_births base) n)) (from_first n)
    where
      from_first : (i : ℕ) → 0 + i ≡ i
      from_first i = omega arith

  content_at : (n : ℕ) (b : Birth ContentText) → slice_get (base_births base) n ≡ Some b → unwrap_or (slice_get (contents lines) n) None ≡ b.content
  content_at n b e =
      ap (λ (cs : List (Option ContentText)). unwrap_or (slice_get cs n) None) (append-nil (map (λ b. b.content) (base_births base)))
      ∙ ap (λ (o : Option (Option ContentText)). unwrap_or o None) (slice_get-map (λ b. b.content) (base_births base) n ∙ ap (option_map (λ b. b.content)) e)

  -- ---- what is known

  abbrev gone_message : ℕ → Message
  gone_message n = message_in {C = ContentText} 0 n clock gone_birth

  pub gone_known : (n : ℕ) → s.known n ≡ None → known_at lines clock n ≡ None
  gone_known n e = elim (cases_lt n count) [
    | inl below ↦ ap (option_and_then (λ m. known_where lines clock (course_of lines m).status m))
        (numbered n ∙ ap (option_map (λ b. message_in 0 n clock b)) (birth_at n below ∙ ap (λ (o : Option Kept). Some (option_map_or kept_birth o gone_birth)) (found_none n e)))
    | inr past ↦ ap (option_and_then (λ m. known_where lines clock (course_of lines m).status m)) (numbered n ∙ ap (option_map (λ b. message_in 0 n clock b)) (birth_past n (omega arith)))
  ]

  or-false : (b : Bool) → (b || false) ≡ b
  or-false true = refl
  or-false false = refl

  first-alone : (o : Option ℕ) → first_of_both o None ≡ o
  first-alone None = refl
  first-alone (Some time) = refl

  module _ (n : ℕ) (k : KnownMessage) (e : s.known n ≡ Some k) where
    abbrev content : ContentText
    content = (is.contained n k e).0

    abbrev began : Option ℕ → Message
    began target = record {
      number = n;
      place = 0;
      enqueue_time = k.came;
      first_send_time = k.sent;
      origin = k.origin;
      begun = record { status = kept_status target; due = k.due; returned = k.is_returned };
      ran_out = k.is_expired;
    }

    found_so : kept_numbered base n ≡ Some (kept_with k content)
    found_so = found_some n k e

    begins : slice_get (base_births base) n ≡ Some (kept_birth (kept_with k content))
    begins = birth_at n (is.within n k e) ∙ ap (λ (o : Option Kept). Some (option_map_or kept_birth o gone_birth)) found_so

    began_so : message_numbered lines n ≡ Some (began k.target)
    began_so = numbered n ∙ ap (option_map (λ b. message_in 0 n clock b)) begins

    first_so : first_receive_time lines n ≡ k.first_receive
    first_so =
        first-alone (first_receive_in n (record { at = clock; event = Base base }))
        ∙ ap (λ (o : Option Kept). option_and_then (λ m. m.first_receive) o) found_so

    last_so : last_receive_time lines n ≡ k.last_receive
    last_so = ap (λ (o : Option Kept). option_map_or (λ m. m.last_receive) o 0) found_so

    content_so : (target : Option ℕ) → content_of lines (began target) ≡ k.content
    content_so target = content_at n (kept_birth (kept_with k content)) begins ∙ sym (is.contained n k e).1

    expired_so : (target : Option ℕ) → is_expired lines clock (began target) ≡ k.is_expired
    expired_so target = ap (λ (b : Bool). k.is_expired || b) (or-false (nat_le (k.sent + 1000 * s.settings.retention_seconds) clock)) ∙ is.noted n k e

    tells : (target : Option ℕ) → k.target ≡ target → (due_time lines (began target) ≡ k.due) → (is_returned lines (began target) ≡ k.is_returned) → known_message lines clock target (began target) ≡ k
    tells target t due returned =
        λ i.
        record {
          number = sym (is.number n k e) i;
          came = k.came;
          sent = k.sent;
          due = due i;
          is_expired = expired_so target i;
          is_returned = returned i;
          first_receive = first_so i;
          last_receive = last_so i;
          origin = k.origin;
          content = content_so target i;
          target = sym t i;
        }

    known_by : (target : Option ℕ) → k.target ≡ target → known_where lines clock (course_of lines (began target)).status (began target) ≡ Some k
    known_by None t =
        let lasts : is_expired lines clock (began None) ≡ false = expired_so None ∙ is.lasts n k e t in
        ap (λ (b : Bool). cond (not b) (Some (known_message lines clock None (began None))) None) lasts
        ∙ ap (λ (x : KnownMessage). Some x) (tells None t refl refl)
    known_by (Some target) t = ap (λ (x : KnownMessage). Some x) (tells (Some target) t refl refl)

    known_so : known_at lines clock n ≡ Some k
    known_so = ap (option_and_then (λ m. known_where lines clock (course_of lines m).status m)) began_so ∙ known_by k.target refl

  known_same : (summary_of lines clock).known ≡ s.known
  known_same = λ i n. at n i
    where
      by_known : (n : ℕ) (o : Option KnownMessage) → s.known n ≡ o → known_at lines clock n ≡ o
      by_known n None e = gone_known n e
      by_known n (Some k) e = known_so n k e

      at : (n : ℕ) → known_at lines clock n ≡ s.known n
      at n = by_known n (s.known n) refl

  -- ---- receives

  count_same : message_count lines ≡ count
  count_same =
      ap (λ (ms : List Message). length ms) (append-nil (messages_in 0 0 clock (base_births base)))
      ∙ length-begun 0 0 clock (base_births base)
      ∙ length-map-range_with_len birth_of 0 count
    where
      length-begun : (place number at : ℕ) (bs : List (Birth ContentText)) → length (messages_in place number at bs) ≡ length bs
      length-begun place number at [] = refl
      length-begun place number at (b ∷ bs) = ap suc (length-begun place (suc number) at bs)

  received : (n : ℕ) → receive_count lines n ≡ slice_index s.receives n
  received n =
      ap (λ (k : ℕ). min k greatest)
      (sum_by-cons (λ (e : Entry ContentText). receives_in n e.event) (record { at = clock; event = Base base }) []
      ∙ (let none : (unwrap_or (slice_get s.receives n) 0 + 0) + 0 ≡ unwrap_or (slice_get s.receives n) 0 = omega arith in none)
      ∙ unwrap_or-slice_get s.receives n 0)
      ∙ is.few n

  receives_same : (summary_of lines clock).receives ≡ s.receives
  receives_same =
      ap (λ (c : ℕ). map (λ n. receive_count lines n) (range_with_len 0 c)) count_same
      ∙ sym (fill_by_all (λ n. receive_count lines n) s.receives count 0 refl (λ n below. sym (received n)))

  -- ---- what waits

  unmoved : (m : Kept) → m.target ≡ None → option_to_list (kept_transfer m) ≡ []
  unmoved m t = ap (λ (o : Option ℕ). option_to_list (option_map (λ target. record { number = m.number; target = target }) o)) t

  live_target : (i : ℕ) (m : Kept) → live_at s i ≡ Some m → m.target ≡ None
  live_target i m h = by_known (s.known i) h
    where
      by_content : (k : KnownMessage) → k.target ≡ None → (content : Option ContentText) → option_map (kept_with k) content ≡ Some m → m.target ≡ None
      by_content k t None h = absurd (none-some m h)
      by_content k t (Some content) h = sym (ap (λ (x : Kept). x.target) (same_Some (kept_with k content) m h)) ∙ t

      by_target : (k : KnownMessage) (target : Option ℕ) → k.target ≡ target → cond (is_some target) None (kept_of k) ≡ Some m → m.target ≡ None
      by_target k (Some target) t h = absurd (none-some m h)
      by_target k None t h = by_content k t k.content h

      by_known : (o : Option KnownMessage) → option_and_then (λ k. cond (is_some k.target) None (kept_of k)) o ≡ Some m → m.target ≡ None
      by_known None h = absurd (none-some m h)
      by_known (Some k) h = by_target k k.target refl h

  abbrev moved : List Kept → List Transfer
  moved ms = flat_map (λ m. option_to_list (kept_transfer m)) ms

  none_moved : (ns : List ℕ) → moved (filter_map (live_at s) ns) ≡ []
  none_moved [] = refl
  none_moved (n ∷ ns) = by_live (live_at s n) refl (none_moved ns)
    where
      by_live : (o : Option Kept) → live_at s n ≡ o → moved (filter_map (live_at s) ns) ≡ [] → moved (cons_option o (filter_map (live_at s) ns)) ≡ []
      by_live None e h = h
      by_live (Some m) e h = ap (λ (ts : List Transfer). ts ++ moved (filter_map (live_at s) ns)) (unmoved m (live_target n m e)) ∙ h

  record Waits (n : ℕ) : Type 0 where
    kept : Kept
    target : ℕ
    at : kept_at s n ≡ Some kept
    named : kept.number ≡ n
    leaves : kept.target ≡ Some target

  waits_at : (n : ℕ) → Contains s.leaving n → Waits n
  waits_at n there =
      let x = is.leaving n there in
      let content = is.contained n x.0 x.2 in
      record {
        kept = kept_with x.0 content.0;
        target = x.1;
        at = ap (option_and_then kept_of) x.2 ∙ ap (option_map (kept_with x.0)) content.1;
        named = is.number n x.0 x.2;
        leaves = x.3;
      }

  all_moved : (ns : List ℕ) → AllByRecursion (λ n. Waits n) ns → map (λ t. t.number) (moved (filter_map (kept_at s) ns)) ≡ ns
  all_moved [] h = refl
  all_moved (n ∷ ns) h =
      let w = h.0 in
      ap (λ (o : Option Kept). map (λ t. t.number) (moved (cons_option o (filter_map (kept_at s) ns)))) w.at
      ∙ ap (λ (o : Option ℕ). map (λ t. t.number) (option_to_list (option_map (λ target. record { number = w.kept.number; target = target }) o) ++ moved (filter_map (kept_at s) ns))) w.leaves
      ∙ ap (λ (i : ℕ). i ∷ map (λ t. t.number) (moved (filter_map (kept_at s) ns))) w.named
      ∙ ap (λ (is : List ℕ). n ∷ is) (all_moved ns h.1)

  waiting_all : (ns : List ℕ) → AllByRecursion (λ n. Contains s.leaving n) ns → AllByRecursion (λ n. Waits n) ns
  waiting_all [] h = tt
  waiting_all (n ∷ ns) h = (waits_at n h.0, waiting_all ns h.1)

  leaving_same : (summary_of lines clock).leaving ≡ s.leaving
  leaving_same =
      ap (map (λ t. t.number)) (append-nil (filter (λ (t : Transfer). true) (moved (kept_live s ++ kept_waiting s) ++ [])) ∙ filter_all (moved (kept_live s ++ kept_waiting s) ++ []) ∙ append-nil (moved (kept_live s ++ kept_waiting s)))
      ∙ ap (map (λ t. t.number))
      (flat_map-append (λ (m : Kept). option_to_list (kept_transfer m)) (kept_live s) (kept_waiting s) ∙ ap (λ (ts : List Transfer). ts ++ moved (kept_waiting s)) (none_moved (range_with_len 0 count)))
      ∙ all_moved s.leaving (waiting_all s.leaving (recursion_from_All (λ n. Contains s.leaving n) s.leaving (All-contains_itself s.leaving)))

  -- ---- rows and flows

  abbrev first : ℕ
  first = window_start s.created clock

  rows-back : (rs : List Row) → map row_kept (map kept_row rs) ≡ rs
  rows-back [] = refl
  rows-back (r ∷ rs) = ap (λ (xs : List Row). r ∷ xs) (rows-back rs)

  known_rows : rows_known lines ≡ s.rows
  known_rows = append-nil (map row_kept (map kept_row s.rows)) ∙ rows-back s.rows

  row_same : (m : ℕ) → first ≤ m → m < first + (minute_of clock - first) → metric_row content_size lines m ≡ is.row m
  row_same m low high =
      let among : (nat_le first m && nat_lt m (first + (minute_of clock - first))) ≡ true = grind (arith, nat_tests) in
      let found : row_in (rows_known lines) m ≡ Some (is.row m) =
      ap (λ (rs : List Row). row_in rs m) (known_rows ∙ is.rows)
      ∙ row_in-from is.row is.row_minute first (minute_of clock - first) m
      ∙ ap (λ (b : Bool). cond b (Some (is.row m)) None) among in
      ap (λ (o : Option Row). unwrap_or o (told_row content_size lines m)) found

  rows_agree : (f g : ℕ → Row) (a n : ℕ) → ((m : ℕ) → a ≤ m → m < a + n → f m ≡ g m) → map f (range_with_len a n) ≡ map g (range_with_len a n)
  rows_agree f g a zero h = refl
  rows_agree f g a (suc n) h = rw (h a (omega arith) (omega arith), rows_agree f g (a + 1) n (λ m low high. h m (omega arith) (omega arith))) refl

  rows_same : (summary_of lines clock).rows ≡ s.rows
  rows_same = rows_agree (λ m. metric_row content_size lines m) is.row first (minute_of clock - first) row_same ∙ sym is.rows

  flows_same : (summary_of lines clock).flows ≡ s.flows
  flows_same =
      let here : (minute_of clock == minute_of clock) ≡ true = grind (arith, nat_tests) in
      minute_flows-push content_size [] (record { at = clock; event = Base base }) (minute_of clock)
      ∙ ap (λ (b : Bool). cond b (capped (added (minute_flows content_size [] (minute_of clock)) s.flows)) (minute_flows content_size [] (minute_of clock))) here
      ∙ ap (λ (f : Flows). capped (added f s.flows)) (minute_flows-none content_size (minute_of clock))
      ∙ ap capped (none-added s.flows)
      ∙ is.flows

  -- ---- the whole

  pub rebased_summary : summary_of lines clock ≡ s
  rebased_summary =
      λ i.
      record {
        settings = s.settings;
        created = s.created;
        modified = s.modified;
        closed = sym is.unclosed i;
        receives = receives_same i;
        accepted = append-nil s.accepted i;
        known = known_same i;
        leaving = leaving_same i;
        rows = rows_same i;
        flows = flows_same i;
      }

  -- ---- it is sound

  none_past : (n : ℕ) → count ≤ n → s.known n ≡ None
  none_past n past = by_known (s.known n) refl
    where
      by_known : (o : Option KnownMessage) → s.known n ≡ o → o ≡ None
      by_known None e = refl
      by_known (Some k) e = absurd (let below = is.within n k e in omega (arith, below, past))

  unborn_based : (n : ℕ) → message_count lines ≤ n → IsUnborn lines n
  unborn_based n born =
      let past : count ≤ n = omega (arith, born, count_same) in
      let none = found_none n (none_past n past) in
      record {
        receives = received n ∙ get_or_past s.receives n 0 past;
        first = first-alone (first_receive_in n (record { at = clock; event = Base base })) ∙ ap (λ (o : Option Kept). option_and_then (λ m. m.first_receive) o) none;
        last = ap (λ (o : Option Kept). option_map_or (λ m. m.last_receive) o 0) none;
      }

  -- the transfer of a number that waits
  abbrev transfer_to : ℕ → ℕ → Transfer
  transfer_to n target = record { number = n; target = target }

  abbrev waiting_for : ℕ → Transfer
  waiting_for n = transfer_to n (option_map_or (λ k. unwrap_or k.target 0) (s.known n) 0)

  moved_at : (n : ℕ) → Contains s.leaving n → moved (cons_option (kept_at s n) []) ≡ waiting_for n ∷ []
  moved_at n there =
      let x = is.leaving n there in
      let content = is.contained n x.0 x.2 in
      ap (λ (o : Option KnownMessage). moved (cons_option (option_and_then kept_of o) [])) x.2
      ∙ ap (λ (o : Option ContentText). moved (cons_option (option_map (kept_with x.0) o) [])) content.1
      ∙ ap (λ (o : Option ℕ). option_to_list (option_map (λ target. record { number = x.0.number; target = target }) o) ++ []) x.3
      ∙ ap (λ (i : ℕ). transfer_to i x.1 ∷ []) (is.number n x.0 x.2)
      ∙ sym (ap (λ (o : Option ℕ). transfer_to n (unwrap_or o 0) ∷ []) x.3)
      ∙ sym (ap (λ (o : Option KnownMessage). transfer_to n (option_map_or (λ k. unwrap_or k.target 0) o 0) ∷ []) x.2)

  moved_cons : (o : Option Kept) (ms : List Kept) → moved (cons_option o ms) ≡ moved (cons_option o []) ++ moved ms
  moved_cons None ms = refl
  moved_cons (Some m) ms = ap (λ (ts : List Transfer). ts ++ moved ms) (sym (append-nil (option_to_list (kept_transfer m))))

  moved_all : (ns : List ℕ) → AllByRecursion (λ n. Contains s.leaving n) ns → moved (filter_map (kept_at s) ns) ≡ map waiting_for ns
  moved_all [] h = refl
  moved_all (n ∷ ns) h =
      moved_cons (kept_at s n) (filter_map (kept_at s) ns)
      ∙ ap (λ (ts : List Transfer). ts ++ moved (filter_map (kept_at s) ns)) (moved_at n h.0)
      ∙ ap (λ (ts : List Transfer). waiting_for n ∷ ts) (moved_all ns h.1)

  pending_based : pending_transfers lines ≡ map waiting_for s.leaving
  pending_based =
      append-nil (filter (λ (t : Transfer). true) (moved (kept_live s ++ kept_waiting s) ++ [])) ∙ filter_all (moved (kept_live s ++ kept_waiting s) ++ []) ∙ append-nil (moved (kept_live s ++ kept_waiting s))
      ∙ flat_map-append (λ (m : Kept). option_to_list (kept_transfer m)) (kept_live s) (kept_waiting s)
      ∙ ap (λ (ts : List Transfer). ts ++ moved (kept_waiting s)) (none_moved (range_with_len 0 count))
      ∙ moved_all s.leaving (recursion_from_All (λ n. Contains s.leaving n) s.leaving (All-contains_itself s.leaving))

  -- a message that waits
  status_of : (n : ℕ) (k : KnownMessage) (e : s.known n ≡ Some k) (target : Option ℕ) → (course_of lines (began n k e target)).status ≡ kept_status target
  status_of n k e None = refl
  status_of n k e (Some target) = refl

  stands_at : (n : ℕ) → Contains s.leaving n → (m : Message) × (message_numbered lines n ≡ Some m) × ((course_of lines m).status ≡ Waiting (waiting_for n).target)
  stands_at n there =
      let x = is.leaving n there in (
        began n x.0 x.2 x.0.target,
        began_so n x.0 x.2,
        status_of n x.0 x.2 x.0.target ∙ ap kept_status x.3
            ∙ ap (λ (target : ℕ). Waiting target) (sym (ap (λ (o : Option KnownMessage). option_map_or (λ k. unwrap_or k.target 0) o 0) x.2 ∙ ap (λ (o : Option ℕ). unwrap_or o 0) x.3)),
      )

  abbrev StandsAt : Transfer → Type 0
  StandsAt t = (m : Message) × (message_numbered lines t.number ≡ Some m) × ((course_of lines m).status ≡ Waiting t.target)

  waiting_based : (t : Transfer) → Contains (pending_transfers lines) t → StandsAt t
  waiting_based t there =
      All-contains StandsAt (map waiting_for s.leaving) t
      (All-map StandsAt waiting_for s.leaving (All-weaker (Contains s.leaving) (λ n. StandsAt (waiting_for n)) (λ n among. stands_at n among) s.leaving (All-contains_itself s.leaving)))
      (subst (λ (ts : List Transfer). Contains ts t) pending_based there)

  gone_status : (n : ℕ) (m : Message) → s.known n ≡ None → message_numbered lines n ≡ Some m → (course_of lines m).status ≡ Removed
  gone_status n m e h = elim (cases_lt n count) [
    | inl below ↦
        let there : message_numbered lines n ≡ Some (gone_message n) =
        numbered n ∙ ap (option_map (λ b. message_in 0 n clock b)) (birth_at n below ∙ ap (λ (o : Option Kept). Some (option_map_or kept_birth o gone_birth)) (found_none n e)) in
        ap (λ (x : Message). (course_of lines x).status) (sym (same_Some (gone_message n) m (sym there ∙ h)))
    | inr past ↦ absurd (none-some m (sym (numbered n ∙ ap (option_map (λ b. message_in 0 n clock b)) (birth_past n (omega arith))) ∙ h))
  ]

  apart : (status : Status) (target : ℕ) → status ≡ Removed → status ≡ Waiting target → ⊥
  apart status target h k = let e : Removed ≡ Waiting target = sym h ∙ k in absurd cc

  waits_by : (target : Option ℕ) (own : ℕ) → kept_status target ≡ Waiting own → target ≡ Some own
  waits_by None own h = absurd cc
  waits_by (Some target) own h = cc

  pending_at : (n target : ℕ) (m : Message) → message_numbered lines n ≡ Some m → (course_of lines m).status ≡ Waiting target → Contains (pending_transfers lines) (record { number = n; target = target })
  pending_at n target m h w = by_known (s.known n) refl
    where
      by_known : (o : Option KnownMessage) → s.known n ≡ o → Contains (pending_transfers lines) (record { number = n; target = target })
      by_known None e = absurd (apart (course_of lines m).status target (gone_status n m e h) w)
      by_known (Some k) e =
          let same : began n k e k.target ≡ m = same_Some (began n k e k.target) m (sym (began_so n k e) ∙ h) in
          let own : k.target ≡ Some target =
          waits_by k.target target (sym (status_of n k e k.target) ∙ ap (λ (x : Message). (course_of lines x).status) same ∙ w) in
          let is_so : waiting_for n ≡ record { number = n; target = target } =
          ap (λ (o : Option KnownMessage). transfer_to n (option_map_or (λ k. unwrap_or k.target 0) o 0)) e
          ∙ ap (λ (o : Option ℕ). transfer_to n (unwrap_or o 0)) own in
          subst (λ (ts : List Transfer). Contains ts (record { number = n; target = target })) (sym pending_based)
          (subst (Contains (map waiting_for s.leaving)) is_so (Contains-map waiting_for s.leaving n (is.waits n k target e own)))

  pending_is : IsPendingOf lines
  pending_is = record {
    waiting = λ t there. waiting_based t there;
    pending = λ n target m h w. pending_at n target m h w;
    once =
        subst (λ (ts : List Transfer). AllPairs (λ (a b : Transfer). nat_eq a.number b.number ≡ false) ts) (sym pending_based)
        (AllPairs-map waiting_for (λ (a b : Transfer). nat_eq a.number b.number ≡ false) s.leaving is.once);
  }

  told_none : (minute : ℕ) → minute_of clock ≤ minute → row_in (rows_known lines) minute ≡ None
  told_none minute present =
      let late : (nat_le first minute && nat_lt minute (first + (minute_of clock - first))) ≡ false = grind (arith, nat_tests) in
      ap (λ (rs : List Row). row_in rs minute) (known_rows ∙ is.rows)
      ∙ row_in-from is.row is.row_minute first (minute_of clock - first) minute
      ∙ ap (λ (b : Bool). cond b (Some (is.row minute)) None) late

  pub sound_based : IsSound lines clock
  sound_based = record {
    ordered = (omega arith, omega arith);
    begun = refl;
    early = is.early;
    unborn = unborn_based;
    pending = pending_is;
    told = told_none;
  }

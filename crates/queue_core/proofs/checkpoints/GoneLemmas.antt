-- What a checkpoint makes of the message of a number, in any journal: what it keeps is as it was, and all else is gone. And of the minutes that it keeps.
use Rattle.std.proofs.Common.{◌≡◌, ℕ, ◌+◌, ◌-◌, ◌≤◌, ◌<◌, Bool, true, false, cond, ◌&&◌, ◌||◌, List, [], ◌∷◌, ◌++◌, map, length, Option, Some, None, inl, inr, refl, sym, ap, subst, ◌∙◌, arith}
use Rattle.std.specs.Prelude.{◌⊎◌, ◌==◌, nat_le, nat_lt, slice_get, unwrap_or, is_some, option_map, option_and_then, filter_map, find}
use Rattle.std.specs.Option.{option_map_or}
use Rattle.std.specs.List.{AllByRecursion, cons_option, list_any, range_with_len}
use Rattle.std.proofs.lemmas.Bool.{false≢true, eqb-true}
use Rattle.std.proofs.lemmas.Bool.Decides.{nat_tests}
use Rattle.std.proofs.lemmas.List.{append-nil}
use Rattle.std.proofs.lemmas.List.FromFn.{length-range_with_len, get_or-range_with_len, length-map-range_with_len}
use Rattle.std.proofs.lemmas.Option.{none-some, same_Some, slice_get-map, slice_get-get_or}
use Rattle.message.specs.Content.{ContentText, content_size}
use Rattle.journal.specs.declared.entry.Event.TheVariants.{Base}
use Rattle.journal.specs.declared.base.KeptMessage.{KeptMessage}
use Rattle.journal.specs.Base.{BaseOf}
use Rattle.journal.specs.Journal.{based}
use Rattle.metric_window.specs.declared.flows.Flows.{Flows}
use Rattle.metric_window.specs.declared.row.Row.{Row}
use Rattle.metric_window.specs.Flows.{minute_of, minute_flows, entries_in, flows_total, added, capped, row_kept}
use Rattle.metric_window.specs.KeptRows.{row_in}
use Rattle.metric_window.specs.Window.{window_start, window_end}
use Rattle.metric_window.proofs.KeptLemmas.{row_in-from}
use Rattle.metric_window.proofs.FlowLemmas.{none-added, capped-twice}
use Rattle.metric_window.proofs.MinuteLemmas.{minute_flows-push, minute_flows-none}
use Rattle.queue_core.specs.declared.facts.Message.{Message}
use Rattle.queue_core.specs.declared.facts.Status.{Status}
use Rattle.queue_core.specs.declared.facts.Status.TheVariants.{Present, Removed, Waiting, Transferred}
use Rattle.queue_core.specs.Messages.{Birth, Since, effect_of, opens, message_in, message_count, base_births, kept_numbered, kept_birth, gone_birth, contents, content_of, created_time, retention_periods, runs_out_in, is_expired, receive_count, course_of, is_removed_status, is_removed, rows_known}
use Rattle.queue_core.specs.States.{is_live, message_numbered, is_numbered}
use Rattle.queue_core.specs.Metrics.{told_row, metric_row, current_flows}
use Rattle.queue_core.specs.Summary.{KnownMessage, Summary, known_message, known_where, known_at, summary_of}
use Rattle.queue_core.specs.Rebase.{kept_with, kept_of, live_at, kept_at, kept_live, kept_waiting, kept_row, base_of}
use Rattle.queue_core.specs.Lasting.{content_numbered}
use Rattle.queue_core.proofs.Scans.{StandsAlone}
use Rattle.queue_core.proofs.PushLemmas.{Line, contents-push, numbered-push, numbered-number, numbered-below}
use Rattle.queue_core.proofs.minutes.RowLemmas.{metric_row-minute}

abbrev Kept : Type 0
Kept = KeptMessage ContentText

abbrev is_of : ℕ → Kept → Bool
is_of n m = m.number == n

or_with : (a b : Bool) → b ≡ true → (a || b) ≡ true
or_with true b h = refl
or_with false b h = h

-- when a queue was created does not change by an event of a command
pub created-push : (lines : List Line) (e : Line) → opens e.event ≡ false → StandsAlone e.event → created_time (lines ++ e ∷ []) ≡ created_time lines
created-push [] e unopened alone =
    ap (λ (b : Bool). cond b e.at (option_map_or (λ (s : Since). s.created) (effect_of e.event).since 0)) unopened
    ∙ ap (λ (since : Option Since). option_map_or (λ (s : Since). s.created) since 0) alone
created-push (x ∷ xs) e unopened alone =
    ap (λ (n : ℕ). cond (opens x.event) x.at (option_map_or (λ (s : Since). s.created) (effect_of x.event).since n)) (created-push xs e unopened alone)

module _ (uid : ℕ) (lines : List Line) (clock : ℕ) where
  abbrev s : Summary
  s = summary_of lines clock

  abbrev base : BaseOf ContentText
  base = base_of uid lines clock

  abbrev entry : Line
  entry = record { at = clock; event = Base base }

  abbrev after : List Line
  after = based clock base

  -- ---- what is known of a message

  record IsKnownAs (n : ℕ) (k : KnownMessage) : Type 0 where
    message : Message
    target : Option ℕ
    numbered : message_numbered lines n ≡ Some message
    same : known_message lines clock target message ≡ k
    unremoved : is_removed lines message ≡ false

  known_as : (n : ℕ) (k : KnownMessage) → known_at lines clock n ≡ Some k → IsKnownAs n k
  known_as n k h = by_message (message_numbered lines n) refl h
    where
      by_live : (m : Message) → message_numbered lines n ≡ Some m → (course_of lines m).status ≡ Present → (b : Bool) → cond b (Some (known_message lines clock None m)) None ≡ Some k → IsKnownAs n k
      by_live m e is true h = record { message = m; target = None; numbered = e; same = same_Some (known_message lines clock None m) k h; unremoved = ap is_removed_status is }
      by_live m e is false h = absurd (none-some k h)

      by_status : (m : Message) → message_numbered lines n ≡ Some m → (status : Status) → (course_of lines m).status ≡ status → known_where lines clock status m ≡ Some k → IsKnownAs n k
      by_status m e Present is h = by_live m e is (is_live lines clock m) h
      by_status m e Removed is h = absurd (none-some k h)
      by_status m e (Waiting target) is h =
          record { message = m; target = Some target; numbered = e; same = same_Some (known_message lines clock (Some target) m) k h; unremoved = ap is_removed_status is }
      by_status m e Transferred is h = absurd (none-some k h)

      by_message : (o : Option Message) → message_numbered lines n ≡ o → option_and_then (λ m. known_where lines clock (course_of lines m).status m) o ≡ Some k → IsKnownAs n k
      by_message None e h = absurd (none-some k h)
      by_message (Some m) e h = by_status m e (course_of lines m).status refl h

  -- ---- what is kept

  record IsFrom (m : Kept) : Type 0 where
    number : ℕ
    known : KnownMessage
    there : known_at lines clock number ≡ Some known
    kept : kept_of known ≡ Some m

  from_live : (n : ℕ) (m : Kept) → live_at s n ≡ Some m → IsFrom m
  from_live n m h = by_known (known_at lines clock n) refl h
    where
      by_target : (k : KnownMessage) → known_at lines clock n ≡ Some k → (target : Option ℕ) → cond (is_some target) None (kept_of k) ≡ Some m → IsFrom m
      by_target k e (Some target) h = absurd (none-some m h)
      by_target k e None h = record { number = n; known = k; there = e; kept = h }

      by_known : (o : Option KnownMessage) → known_at lines clock n ≡ o → option_and_then (λ k. cond (is_some k.target) None (kept_of k)) o ≡ Some m → IsFrom m
      by_known None e h = absurd (none-some m h)
      by_known (Some k) e h = by_target k e k.target h

  from_kept : (n : ℕ) (m : Kept) → kept_at s n ≡ Some m → IsFrom m
  from_kept n m h = by_known (known_at lines clock n) refl h
    where
      by_known : (o : Option KnownMessage) → known_at lines clock n ≡ o → option_and_then kept_of o ≡ Some m → IsFrom m
      by_known None e h = absurd (none-some m h)
      by_known (Some k) e h = record { number = n; known = k; there = e; kept = h }

  all_from : (f : ℕ → Option Kept) → ((n : ℕ) (m : Kept) → f n ≡ Some m → IsFrom m) → (ns : List ℕ) → AllByRecursion IsFrom (filter_map f ns)
  all_from f h [] = tt
  all_from f h (n ∷ ns) = by_kept (f n) refl (all_from f h ns)
    where
      by_kept : (o : Option Kept) → f n ≡ o → AllByRecursion IsFrom (filter_map f ns) → AllByRecursion IsFrom (cons_option o (filter_map f ns))
      by_kept None e rest = rest
      by_kept (Some m) e rest = (h n m e, rest)

  both_from : (xs ys : List Kept) → AllByRecursion IsFrom xs → AllByRecursion IsFrom ys → AllByRecursion IsFrom (xs ++ ys)
  both_from [] ys h k = k
  both_from (x ∷ xs) ys h k = (h.0, both_from xs ys h.1 k)

  found_from : (n : ℕ) (m : Kept) (ms : List Kept) → AllByRecursion IsFrom ms → find (is_of n) ms ≡ Some m → IsFrom m × (m.number ≡ n)
  found_from n m [] h k = absurd (none-some m k)
  found_from n m (x ∷ xs) h k = by_test (x.number == n) refl k (λ later. found_from n m xs h.1 later)
    where
      by_test : (b : Bool) → (x.number == n) ≡ b → cond b (Some x) (find (is_of n) xs) ≡ Some m → (find (is_of n) xs ≡ Some m → IsFrom m × (m.number ≡ n)) → IsFrom m × (m.number ≡ n)
      by_test true e k rest = let same : x ≡ m = same_Some x m k in (subst IsFrom same h.0, ap (λ (y : Kept). y.number) (sym same) ∙ eqb-true x.number n e)
      by_test false e k rest = rest k

  -- the content that it is kept with
  record IsWith (k : KnownMessage) (m : Kept) : Type 0 where
    content : ContentText
    there : k.content ≡ Some content
    same : kept_with k content ≡ m

  with_content : (k : KnownMessage) (m : Kept) → kept_of k ≡ Some m → IsWith k m
  with_content k m h = by_content k.content refl h
    where
      by_content : (o : Option ContentText) → k.content ≡ o → option_map (kept_with k) o ≡ Some m → IsWith k m
      by_content None e h = absurd (none-some m h)
      by_content (Some content) e h = record { content = content; there = e; same = same_Some (kept_with k content) m h }

  -- what is kept under a number is of its message, which was not removed
  record IsKeptAs (n : ℕ) (x : Kept) : Type 0 where
    message : Message
    numbered : message_numbered lines n ≡ Some message
    unremoved : is_removed lines message ≡ false
    content : content_of lines message ≡ Some x.content
    expired : is_expired lines clock message ≡ x.is_expired

  module _ (n : ℕ) (x : Kept) (from : IsFrom x) (named : x.number ≡ n) (known : IsKnownAs from.number from.known) (with : IsWith from.known x) where
    number_so : from.number ≡ n
    number_so =
        sym (numbered-number lines from.number known.message known.numbered) ∙ ap (λ (k : KnownMessage). k.number) known.same
        ∙ ap (λ (y : Kept). y.number) with.same
        ∙ named

    kept_by : IsKeptAs n x
    kept_by = record {
      message = known.message;
      numbered = subst (λ (i : ℕ). message_numbered lines i ≡ Some known.message) number_so known.numbered;
      unremoved = known.unremoved;
      content = ap (λ (k : KnownMessage). k.content) known.same ∙ with.there ∙ ap (λ (y : Kept). Some y.content) with.same;
      expired = ap (λ (k : KnownMessage). k.is_expired) known.same ∙ ap (λ (y : Kept). y.is_expired) with.same;
    }

  all_kept : AllByRecursion IsFrom (kept_live s ++ kept_waiting s)
  all_kept = both_from (kept_live s) (kept_waiting s) (all_from (live_at s) from_live (range_with_len 0 (length s.receives))) (all_from (kept_at s) from_kept s.leaving)

  kept_found : (n : ℕ) (x : Kept) → IsFrom x × (x.number ≡ n) → IsKeptAs n x
  kept_found n x found = kept_by n x found.0 found.1 (known_as found.0.number found.0.known found.0.there) (with_content found.0.known x found.0.kept)

  kept_as : (n : ℕ) (x : Kept) → kept_numbered base n ≡ Some x → IsKeptAs n x
  kept_as n x h = kept_found n x (found_from n x (kept_live s ++ kept_waiting s) all_kept h)

  -- ---- what begins with it

  abbrev birth_of : ℕ → Birth ContentText
  birth_of n = option_map_or kept_birth (kept_numbered base n) gone_birth

  from_first : (i : ℕ) → 0 + i ≡ i
  from_first i = omega arith

  less_none : (i : ℕ) → i - 0 ≡ i
  less_none i = omega arith

  birth_at : (n : ℕ) → n < message_count lines → slice_get (base_births base) n ≡ Some (birth_of n)
  birth_at n below =
      let count : length s.receives ≡ message_count lines = length-map-range_with_len (λ i. receive_count lines i) 0 (message_count lines) in
      let within : n < length s.receives = omega arith in
      slice_get-map birth_of (range_with_len 0 (length s.receives)) n
      ∙ ap (option_map birth_of)
      (slice_get-get_or (range_with_len 0 (length s.receives)) n 0 (omega (arith, within, length-range_with_len 0 (length s.receives)))
      ∙ ap (λ (i : ℕ). Some i) (get_or-range_with_len 0 (length s.receives) n 0 within ∙ from_first n))

  born_at : (n : ℕ) → n < message_count lines → message_numbered after n ≡ Some (message_in 0 n clock (birth_of n))
  born_at n below =
      let none : nat_lt n 0 ≡ false = grind (arith, nat_tests) in
      numbered-push [] entry n
      ∙ ap (λ (b : Bool). cond b (message_numbered {C = ContentText} [] n) (option_map (message_in 0 n clock) (slice_get (base_births base) (n - 0)))) none
      ∙ ap (λ (i : ℕ). option_map (message_in 0 n clock) (slice_get (base_births base) i)) (less_none n)
      ∙ ap (option_map (message_in 0 n clock)) (birth_at n below)

  content_at : (n : ℕ) → n < message_count lines → unwrap_or (slice_get (contents after) n) None ≡ (birth_of n).content
  content_at n below =
      ap (λ (cs : List (Option ContentText)). unwrap_or (slice_get cs n) None) (contents-push [] entry)
      ∙ ap (λ (o : Option (Option ContentText)). unwrap_or o None) (slice_get-map (λ (b : Birth ContentText). b.content) (base_births base) n ∙ ap (option_map (λ (b : Birth ContentText). b.content)) (birth_at n below))

  module _ (n : ℕ) (m : Message) (numbered : message_numbered lines n ≡ Some m) where
    below : n < message_count lines
    below = numbered-below lines n m numbered

    -- of what is not kept
    module _ (none : kept_numbered base n ≡ None) where
      gone : birth_of n ≡ gone_birth
      gone = ap (λ (o : Option Kept). option_map_or kept_birth o gone_birth) none

      gone_there : message_numbered after n ≡ Some (message_in {C = ContentText} 0 n clock gone_birth)
      gone_there = born_at n below ∙ ap (λ (b : Birth ContentText). Some (message_in 0 n clock b)) gone

      gone_removed : is_numbered (λ x. is_removed after x) after n ≡ true
      gone_removed = ap (λ (o : Option Message). option_map_or (λ x. is_removed after x) o false) gone_there

      gone_or_expired : is_numbered (λ x. is_removed after x || is_expired after clock x) after n ≡ true
      gone_or_expired = ap (λ (o : Option Message). option_map_or (λ x. is_removed after x || is_expired after clock x) o false) gone_there

      gone_content : content_numbered after n ≡ None
      gone_content = ap (option_and_then (λ x. content_of after x)) gone_there ∙ content_at n below ∙ ap (λ (b : Birth ContentText). b.content) gone

    -- of what is
    module _ (x : Kept) (found : kept_numbered base n ≡ Some x) where
      is : IsKeptAs n x
      is = kept_as n x found

      own : is.message ≡ m
      own = same_Some is.message m (sym is.numbered ∙ numbered)

      unremoved : is_removed lines m ≡ false
      unremoved = ap (λ (y : Message). is_removed lines y) (sym own) ∙ is.unremoved

      kept : birth_of n ≡ kept_birth x
      kept = ap (λ (o : Option Kept). option_map_or kept_birth o gone_birth) found

      abbrev began : Message
      began = message_in 0 n clock (kept_birth x)

      kept_there : message_numbered after n ≡ Some began
      kept_there = born_at n below ∙ ap (λ (b : Birth ContentText). Some (message_in 0 n clock b)) kept

      kept_expired : (is_removed lines m || is_expired lines clock m) ≡ true → is_numbered (λ y. is_removed after y || is_expired after clock y) after n ≡ true
      kept_expired h =
          let out : x.is_expired ≡ true =
          sym is.expired ∙ ap (λ (y : Message). is_expired lines clock y) own
          ∙ sym (ap (λ (b : Bool). b || is_expired lines clock m) unremoved) ∙ h in
          let late : is_expired after clock began ≡ true = ap (λ (b : Bool). b || list_any (λ p. runs_out_in began p) (retention_periods after clock)) out in
          ap (λ (o : Option Message). option_map_or (λ y. is_removed after y || is_expired after clock y) o false) kept_there
          ∙ or_with (is_removed after began) (is_expired after clock began) late

      kept_content : (content : ContentText) → content_of lines m ≡ Some content → content_numbered after n ≡ Some content
      kept_content content h =
          ap (option_and_then (λ y. content_of after y)) kept_there
          ∙ content_at n below
          ∙ ap (λ (b : Birth ContentText). b.content) kept
          ∙ sym is.content
          ∙ ap (λ (y : Message). content_of lines y) own
          ∙ h

  -- ---- by number

  pub removed_based : (n : ℕ) → is_numbered (λ m. is_removed lines m) lines n ≡ true → is_numbered (λ m. is_removed after m) after n ≡ true
  removed_based n h = by_message (message_numbered lines n) refl h
    where
      by_kept : (m : Message) (numbered : message_numbered lines n ≡ Some m) → is_removed lines m ≡ true → (o : Option Kept) → kept_numbered base n ≡ o → is_numbered (λ m. is_removed after m) after n ≡ true
      by_kept m numbered h None e = gone_removed n m numbered e
      by_kept m numbered h (Some x) e = absurd (false≢true (sym (unremoved n m numbered x e) ∙ h))

      by_message : (o : Option Message) → message_numbered lines n ≡ o → option_map_or (λ m. is_removed lines m) o false ≡ true → is_numbered (λ m. is_removed after m) after n ≡ true
      by_message None e h = absurd (false≢true h)
      by_message (Some m) e h = by_kept m e h (kept_numbered base n) refl

  pub gone_based : (n : ℕ) → is_numbered (λ m. is_removed lines m || is_expired lines clock m) lines n ≡ true → is_numbered (λ m. is_removed after m || is_expired after clock m) after n ≡ true
  gone_based n h = by_message (message_numbered lines n) refl h
    where
      by_kept : (m : Message) (numbered : message_numbered lines n ≡ Some m) → (is_removed lines m || is_expired lines clock m) ≡ true → (o : Option Kept) → kept_numbered base n ≡ o
          → is_numbered (λ m. is_removed after m || is_expired after clock m) after n ≡ true
      by_kept m numbered h None e = gone_or_expired n m numbered e
      by_kept m numbered h (Some x) e = kept_expired n m numbered x e h

      by_message : (o : Option Message) → message_numbered lines n ≡ o → option_map_or (λ m. is_removed lines m || is_expired lines clock m) o false ≡ true
          → is_numbered (λ m. is_removed after m || is_expired after clock m) after n ≡ true
      by_message None e h = absurd (false≢true h)
      by_message (Some m) e h = by_kept m e h (kept_numbered base n) refl

  pub content_based : (n : ℕ) (content : ContentText) → content_numbered lines n ≡ Some content
      → (content_numbered after n ≡ Some content) ⊎ ((content_numbered after n ≡ None) × (is_numbered (λ m. is_removed after m) after n ≡ true))
  content_based n content h = by_message (message_numbered lines n) refl h
    where
      by_kept : (m : Message) (numbered : message_numbered lines n ≡ Some m) → content_of lines m ≡ Some content → (o : Option Kept) → kept_numbered base n ≡ o
          → (content_numbered after n ≡ Some content) ⊎ ((content_numbered after n ≡ None) × (is_numbered (λ m. is_removed after m) after n ≡ true))
      by_kept m numbered h None e = inr (gone_content n m numbered e, gone_removed n m numbered e)
      by_kept m numbered h (Some x) e = inl (kept_content n m numbered x e content h)

      by_message : (o : Option Message) → message_numbered lines n ≡ o → option_and_then (λ m. content_of lines m) o ≡ Some content
          → (content_numbered after n ≡ Some content) ⊎ ((content_numbered after n ≡ None) × (is_numbered (λ m. is_removed after m) after n ≡ true))
      by_message None e h = absurd (none-some content h)
      by_message (Some m) e h = by_kept m e h (kept_numbered base n) refl

  -- what is gone without its content stays without one
  pub none_based : (n : ℕ) → content_numbered lines n ≡ None → is_numbered (λ m. is_removed lines m) lines n ≡ true → content_numbered after n ≡ None
  none_based n none h = by_message (message_numbered lines n) refl h
    where
      by_kept : (m : Message) (numbered : message_numbered lines n ≡ Some m) → is_removed lines m ≡ true → (o : Option Kept) → kept_numbered base n ≡ o → content_numbered after n ≡ None
      by_kept m numbered h None e = gone_content n m numbered e
      by_kept m numbered h (Some x) e = absurd (false≢true (sym (unremoved n m numbered x e) ∙ h))

      by_message : (o : Option Message) → message_numbered lines n ≡ o → option_map_or (λ m. is_removed lines m) o false ≡ true → content_numbered after n ≡ None
      by_message None e h = absurd (false≢true h)
      by_message (Some m) e h = by_kept m e h (kept_numbered base n) refl

  -- ---- rows and flows

  rows-back : (rs : List Row) → map row_kept (map kept_row rs) ≡ rs
  rows-back [] = refl
  rows-back (r ∷ rs) = ap (λ (xs : List Row). r ∷ xs) (rows-back rs)

  abbrev first : ℕ
  first = window_start (created_time lines) clock

  -- a row that is shown
  pub row_based : (minute : ℕ) → first ≤ minute → minute < window_end clock → metric_row content_size after minute ≡ metric_row content_size lines minute
  row_based minute from until =
      let among : (nat_le first minute && nat_lt minute (first + (window_end clock - first))) ≡ true = grind (arith, nat_tests) in
      let found : row_in (rows_known after) minute ≡ Some (metric_row content_size lines minute) =
      ap (λ (rs : List Row). row_in rs minute) (append-nil (map row_kept (map kept_row s.rows)) ∙ rows-back s.rows)
      ∙ row_in-from (λ m. metric_row content_size lines m) (metric_row-minute content_size lines) first (window_end clock - first) minute
      ∙ ap (λ (b : Bool). cond b (Some (metric_row content_size lines minute)) None) among in
      ap (λ (o : Option Row). unwrap_or o (told_row content_size after minute)) found

  -- what has happened so far
  pub flows_based : current_flows content_size after clock ≡ current_flows content_size lines clock
  flows_based =
      let here : (minute_of clock == minute_of clock) ≡ true = grind (arith, nat_tests) in
      minute_flows-push content_size [] entry (minute_of clock)
      ∙ ap (λ (b : Bool). cond b (capped (added (minute_flows content_size [] (minute_of clock)) s.flows)) (minute_flows content_size [] (minute_of clock))) here
      ∙ ap (λ (f : Flows). capped (added f s.flows)) (minute_flows-none content_size (minute_of clock))
      ∙ ap capped (none-added s.flows)
      ∙ capped-twice (flows_total content_size (entries_in (minute_of clock) lines))

-- What a checkpoint keeps of an index is what it keeps of the summary that the index has.
use Rattle.std.proofs.Common.{◌≡◌, ℕ, zero, suc, ◌+◌, cond, List, [], ◌∷◌, ◌++◌, map, length, Option, Some, None, refl, sym, ap, ◌∙◌, append_assoc, arith}
use Rattle.std.specs.Prelude.{is_some, option_map, option_and_then, option_to_list, filter_map}
use Rattle.std.specs.List.{cons_option, range_with_len}
use Rattle.message.specs.Content.{ContentText}
use Rattle.queue_config.specs.Settings.{QueueSettings}
use Rattle.journal.specs.Base.{BaseOf}
use Rattle.journal.specs.declared.base.KeptMessage.{KeptMessage}
use Rattle.journal.specs.declared.base.KeptFlows.{KeptFlows}
use Rattle.journal.specs.declared.base.KeptRow.{KeptRow}
use Rattle.journal.specs.declared.base.TransferKey.{TransferKey}
use Rattle.queue_core.specs.declared.record.Record.{Record}
use Rattle.queue_core.specs.declared.index.MessageIndex.{MessageIndex}
use Rattle.queue_core.specs.private.Records.{records_in}
use Rattle.queue_core.specs.Summary.{KnownMessage, Summary}
use Rattle.queue_core.specs.private.Indexed.{known_record, Keeps}
use Rattle.queue_core.specs.Rebase.{kept_of, live_at, kept_at, kept_live, kept_waiting, kept_flows, kept_row, base_in}
use Rattle.queue_core.specs.private.Keeping.{kept_record, present_in, kept_in, messages_kept}

module _ (x : MessageIndex) (s : Summary) (clock : ℕ) (keeps : Keeps x s clock) where
  abbrev retention : ℕ
  retention = s.settings.retention_seconds

  live_is : (n : ℕ) → live_at s n ≡ present_in retention clock x n
  live_is n = ap (λ (o : Option KnownMessage). option_and_then (λ k. cond (is_some k.target) None (kept_of k)) o) (keeps.known n) ∙ by_record (records_in x n)
    where
      by_record : (o : Option Record) → option_and_then (λ k. cond (is_some k.target) None (kept_of k)) (option_map (known_record retention clock n) o)
          ≡ option_and_then (λ r. cond (is_some (known_record retention clock n r).target) None (Some (kept_record retention clock n r))) o
      by_record None = refl
      by_record (Some r) = refl

  kept_is : (n : ℕ) → kept_at s n ≡ kept_in retention clock x n
  kept_is n = ap (λ (o : Option KnownMessage). option_and_then kept_of o) (keeps.known n) ∙ by_record (records_in x n)
    where
      by_record : (o : Option Record) → option_and_then kept_of (option_map (known_record retention clock n) o) ≡ option_map (kept_record retention clock n) o
      by_record None = refl
      by_record (Some r) = refl

  pub messages_same : kept_live s ++ kept_waiting s ≡ messages_kept retention clock x
  messages_same =
      λ i.
      filter_map (λ n. live_is n i) (range_with_len 0 (length (sym keeps.receives i)))
      ++ filter_map (λ n. kept_is n i) (sym keeps.leaving i)

-- ---- one message more

more-kept : (f : ℕ → Option (KeptMessage ContentText)) (ns : List ℕ) (n : ℕ) → filter_map f (ns ++ n ∷ []) ≡ filter_map f ns ++ option_to_list (f n)
more-kept f [] n = one (f n)
  where
    one : (o : Option (KeptMessage ContentText)) → cons_option o [] ≡ option_to_list o
    one None = refl
    one (Some m) = refl
more-kept f (k ∷ ns) n = ap (cons_option (f k)) (more-kept f ns n) ∙ consed (f k) (filter_map f ns) (option_to_list (f n))
  where
    consed : (o : Option (KeptMessage ContentText)) (xs ys : List (KeptMessage ContentText)) → cons_option o (xs ++ ys) ≡ cons_option o xs ++ ys
    consed None xs ys = refl
    consed (Some m) xs ys = refl

pub kept_next : (f : ℕ → Option (KeptMessage ContentText)) (before now : List (KeptMessage ContentText)) (ns : List ℕ) (n : ℕ) (message : Option (KeptMessage ContentText))
    → now ≡ before ++ filter_map f ns → message ≡ f n → now ++ option_to_list message ≡ before ++ filter_map f (ns ++ n ∷ [])
kept_next f before now ns n message is same =
    (λ i. is i ++ option_to_list (same i))
    ∙ append_assoc before (filter_map f ns) (option_to_list (f n))
    ∙ ap (λ (ms : List (KeptMessage ContentText)). before ++ ms) (sym (more-kept f ns n))

range-next : (first count : ℕ) → range_with_len first (count + 1) ≡ range_with_len first count ++ (first + count) ∷ []
range-next first zero = (let here : first ≡ first + 0 = omega arith in ap (λ (n : ℕ). n ∷ []) here)
range-next first (suc count) =
    let next : suc count + 1 ≡ suc (count + 1) = omega arith in
    let last : (first + 1) + count ≡ first + suc count = omega arith in
    ap (range_with_len first) next
    ∙ ap (λ (ns : List ℕ). first ∷ ns) (range-next (first + 1) count ∙ ap (λ (n : ℕ). range_with_len (first + 1) count ++ n ∷ []) last)

pub range_next : (count : ℕ) → range_with_len 0 count ++ count ∷ [] ≡ range_with_len 0 (count + 1)
range_next count = (let here : 0 + count ≡ count = omega arith in sym (range-next 0 count ∙ ap (λ (n : ℕ). range_with_len 0 count ++ n ∷ []) here))

-- ---- the parts of a checkpoint

pub base_is : (uid own : ℕ) (s : Summary) (settings : QueueSettings) (created modified : ℕ) (receives : List ℕ) (accepted : List TransferKey) (messages : List (KeptMessage ContentText)) (rows : List KeptRow) (flows : KeptFlows)
    → uid ≡ own → settings ≡ s.settings → created ≡ s.created → modified ≡ s.modified → receives ≡ s.receives → accepted ≡ s.accepted → messages ≡ kept_live s ++ kept_waiting s → rows ≡ map kept_row s.rows → flows ≡ kept_flows s.flows
    → ◌≡◌ {A = BaseOf ContentText}
    (record { uid = uid; settings = settings; created = created; modified = modified; receives = receives; accepted = accepted; messages = messages; rows = rows; flows = flows }) (base_in own s)
base_is uid own s settings created modified receives accepted messages rows flows u a b c d e f g h =
    λ i. record { uid = u i; settings = a i; created = b i; modified = c i; receives = d i; accepted = e i; messages = f i; rows = g i; flows = h i }

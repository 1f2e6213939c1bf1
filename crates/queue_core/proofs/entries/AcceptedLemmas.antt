-- What one more entry does to the transfers that a queue has accepted.
use Rattle.std.proofs.Common.{◌≡◌, ℕ, Bool, true, false, ◌&&◌, ◌||◌, eqb, List, [], ◌∷◌, ◌++◌, Option, refl, sym, ap, subst, ◌∙◌}
use Rattle.std.specs.Prelude.{IfSome, nat_eq}
use Rattle.std.specs.List.{All, list_any}
use Rattle.std.proofs.lemmas.Bool.{eqb-true, eqb-false, eq-eqb, ne_eqb}
use Rattle.std.proofs.lemmas.Grind.{flat_map-append}
use Rattle.std.proofs.lemmas.List.{append-nil}
use Rattle.std.proofs.lemmas.List.Elements.{All-nil, All-cons, All-weaker}
use Rattle.std.proofs.lemmas.List.Folds.{list_any-append}
use Rattle.message.specs.Content.{ContentText}
use Rattle.journal.specs.declared.entry.Entry.{Entry}
use Rattle.journal.specs.declared.entry.Event.{Event}
use Rattle.queue_core.specs.declared.command.Command.{Command}
use Rattle.queue_core.specs.declared.command.Command.TheVariants as commands
use Rattle.queue_core.specs.declared.accepted.Accepted.{Accepted}
use Rattle.journal.specs.declared.base.TransferKey.{TransferKey}
use Rattle.queue_core.specs.Messages.{effect_of, key_of, accepts, has_accepted}
use Rattle.queue_core.specs.Accepted.{accepted_keys}
use Rattle.queue_core.specs.private.Accepted.{holds, AreAccepted}
use Rattle.queue_core.specs.Queue.{QueueHistory}
use Rattle.queue_core.specs.Legal.{IsCausedIn}
use Rattle.queue_core.proofs.commands.InPlaceLemmas.{added_in}
use Rattle.queue_core.proofs.CauseLemmas.{IsSoOfAdded, added}

-- ---- in order

pub accepted_keys-push : (lines : List (Entry ContentText)) (e : Entry ContentText) → accepted_keys (lines ++ e ∷ []) ≡ accepted_keys lines ++ (effect_of e.event).accepted
accepted_keys-push lines e =
    flat_map-append (λ (x : Entry ContentText). (effect_of x.event).accepted) lines (e ∷ []) ∙ ap (λ (ks : List TransferKey). accepted_keys lines ++ ks) (append-nil (effect_of e.event).accepted)

-- the same transfers are kept
abbrev pub HasSameTransfers : Accepted → Accepted → Type 0
HasSameTransfers old new = new.keys.keys ≡ old.keys.keys

pub accepted-same : (lines : List (Entry ContentText)) (old new : Accepted) → AreAccepted old (accepted_keys lines) → HasSameTransfers old new → AreAccepted new (accepted_keys lines)
accepted-same lines old new are same = same ∙ are

-- and with that of an event they are those of the entries with it
pub accepted-noted : (lines : List (Entry ContentText)) (e : Entry ContentText) (old room new : Accepted) → AreAccepted old (accepted_keys lines) → HasSameTransfers old room
    → new.keys.keys ≡ room.keys.keys ++ (effect_of e.event).accepted → AreAccepted new (accepted_keys (lines ++ e ∷ []))
accepted-noted lines e old room new are same noted = noted ∙ ap (λ (ks : List TransferKey). ks ++ (effect_of e.event).accepted) (same ∙ are) ∙ sym (accepted_keys-push lines e)

-- ---- by number

eqb-swap : (a b : ℕ) → nat_eq a b ≡ eqb b a
eqb-swap a b = by_test (nat_eq a b) refl
  where
    by_test : (same : Bool) → nat_eq a b ≡ same → same ≡ eqb b a
    by_test true e = sym (eq-eqb b a (sym (eqb-true a b e)))
    by_test false e = sym (ne_eqb b a (λ same. eqb-false a b e (sym same)))

module _ (uid number : ℕ) where
  abbrev pub is_key : TransferKey → Bool
  is_key key = nat_eq uid key.uid && nat_eq number key.number

  keys_in : (keys : List TransferKey) → list_any is_key keys ≡ list_any (λ key. eqb key.uid uid && eqb key.number number) keys
  keys_in [] = refl
  keys_in (key ∷ keys) =
      ap (λ (b : Bool). (b && nat_eq number key.number) || list_any is_key keys) (eqb-swap uid key.uid)
      ∙ (ap (λ (b : Bool). (eqb key.uid uid && b) || list_any is_key keys) (eqb-swap number key.number)
      ∙ ap (λ (b : Bool). (eqb key.uid uid && eqb key.number number) || b) (keys_in keys))

  pub keys_any : (lines : List (Entry ContentText)) → list_any is_key (accepted_keys lines) ≡ has_accepted lines uid number
  keys_any [] = refl
  keys_any (e ∷ es) =
      list_any-append is_key (effect_of e.event).accepted (accepted_keys es)
      ∙ (ap (λ (b : Bool). b || list_any is_key (accepted_keys es)) (keys_in (effect_of e.event).accepted) ∙ ap (λ (b : Bool). accepts uid number e.event || b) (keys_any es))

pub holds_are : (accepted : Accepted) (lines : List (Entry ContentText)) → AreAccepted accepted (accepted_keys lines) → (uid number : ℕ) → holds accepted uid number ≡ has_accepted lines uid number
holds_are accepted lines are uid number = ap (λ (ks : List TransferKey). list_any (is_key uid number) ks) are ∙ keys_any uid number lines

-- ---- what an event of a command brings was not accepted before

abbrev IsFirst : QueueHistory → Event ContentText → Type 0
IsFirst q event = All (λ key. has_accepted q.lines key.uid key.number ≡ false) (effect_of event).accepted

none-first : (q : QueueHistory) → All (λ (key : TransferKey). has_accepted q.lines key.uid key.number ≡ false) []
none-first q = All-nil (λ (key : TransferKey). has_accepted q.lines key.uid key.number ≡ false)

first-each : (q : QueueHistory) (command : Command) → IsSoOfAdded q (IsFirst q) command
first-each q (commands.Send content delay) = none-first q
first-each q (commands.Receive maximum timeout) = none-first q
first-each q (commands.Change handle timeout) = λ unrefused. none-first q
first-each q (commands.Delete handle) = (none-first q, none-first q)
first-each q (commands.Arrive parcel) = λ first. All-cons (λ key. has_accepted q.lines key.uid key.number ≡ false) (key_of parcel.origin) [] first (none-first q)
first-each q (commands.Settle number) = λ pending. none-first q
first-each q (commands.Set wish target) = none-first q
first-each q commands.Purge = none-first q
first-each q (commands.Orphan target) = none-first q
first-each q commands.Close = none-first q
first-each q commands.Look = tt
first-each q commands.FirstParcel = tt

first-caused : (q : QueueHistory) (event : Event ContentText) → IsCausedIn q event → IsFirst q event
first-caused q event caused =
    subst (λ (o : Option (Event ContentText)). IfSome o (IsFirst q)) (added_in q event caused) (added (IsFirst q) q (λ fault. none-first q) caused.command (first-each q caused.command))

pub unheld-caused : (q : QueueHistory) (event : Event ContentText) (accepted : Accepted) → IsCausedIn q event → AreAccepted accepted (accepted_keys q.lines)
    → All (λ key. holds accepted key.uid key.number ≡ false) (effect_of event).accepted
unheld-caused q event accepted caused are =
    All-weaker (λ key. has_accepted q.lines key.uid key.number ≡ false) (λ key. holds accepted key.uid key.number ≡ false)
    (λ key h. holds_are accepted q.lines are key.uid key.number ∙ h) (effect_of event).accepted (first-caused q event caused)

-- Each live message is in one state, and no other message in any.
use Rattle.std.proofs.Common.{◌≡◌, ℕ, ◌+◌, Bool, true, false, cond, List, [], ◌∷◌, refl, arith}
use Rattle.std.specs.Prelude.{count_by}
use Rattle.std.proofs.lemmas.List.Sums.{sum_by-cons}
use Rattle.journal.specs.declared.entry.Entry.{Entry}
use Rattle.queue_core.specs.declared.facts.Message.{Message}
use Rattle.queue_core.specs.declared.facts.MessageState.{MessageState}
use Rattle.queue_core.specs.declared.facts.MessageState.TheVariants.{Visible, Delayed, InFlight}
use Rattle.queue_core.specs.Messages.{messages}
use Rattle.queue_core.specs.States.{is_live, waiting_state, is_in_state, count_in_state, same_state}

one_state : (s : MessageState) → (cond (same_state Visible s) 1 0 + cond (same_state Delayed s) 1 0) + cond (same_state InFlight s) 1 0 ≡ 1
one_state Visible = refl
one_state Delayed = refl
one_state InFlight = refl

module _ {C : Type 0} (lines : List (Entry C)) (clock : ℕ) where
  state_or_none : (live : Bool) (m : Message) → is_live lines clock m ≡ live
      → (cond (is_in_state Visible lines clock m) 1 0 + cond (is_in_state Delayed lines clock m) 1 0) + cond (is_in_state InFlight lines clock m) 1 0 ≡ cond live 1 0
  state_or_none true m h = rw h (one_state (waiting_state lines clock m))
  state_or_none false m h = rw h refl

  counts_add : (v d f n v' d' f' n' : ℕ) (m : Message) → v' ≡ cond (is_in_state Visible lines clock m) 1 0 + v → d' ≡ cond (is_in_state Delayed lines clock m) 1 0 + d
      → f' ≡ cond (is_in_state InFlight lines clock m) 1 0 + f → n' ≡ cond (is_live lines clock m) 1 0 + n → (v + d) + f ≡ n → (v' + d') + f' ≡ n'
  counts_add v d f n v' d' f' n' m a b c e h =
      let one = state_or_none (is_live lines clock m) m refl in
      omega arith

  counts_of_states : (ms : List Message)
      → (count_by (λ m. is_in_state Visible lines clock m) ms + count_by (λ m. is_in_state Delayed lines clock m) ms) + count_by (λ m. is_in_state InFlight lines clock m) ms
      ≡ count_by (λ m. is_live lines clock m) ms
  counts_of_states [] = refl
  counts_of_states (m ∷ ms) =
      counts_add (count_by (λ x. is_in_state Visible lines clock x) ms) (count_by (λ x. is_in_state Delayed lines clock x) ms) (count_by (λ x. is_in_state InFlight lines clock x) ms)
      (count_by (λ x. is_live lines clock x) ms)
      (count_by (λ x. is_in_state Visible lines clock x) (m ∷ ms)) (count_by (λ x. is_in_state Delayed lines clock x) (m ∷ ms)) (count_by (λ x. is_in_state InFlight lines clock x) (m ∷ ms))
      (count_by (λ x. is_live lines clock x) (m ∷ ms)) m
      (sum_by-cons (λ x. cond (is_in_state Visible lines clock x) 1 0) m ms)
      (sum_by-cons (λ x. cond (is_in_state Delayed lines clock x) 1 0) m ms)
      (sum_by-cons (λ x. cond (is_in_state InFlight lines clock x) 1 0) m ms)
      (sum_by-cons (λ x. cond (is_live lines clock x) 1 0) m ms)
      (counts_of_states ms)

  pub counts_are_live : (count_in_state Visible lines clock + count_in_state Delayed lines clock) + count_in_state InFlight lines clock ≡ count_by (λ m. is_live lines clock m) (messages lines)
  counts_are_live = counts_of_states (messages lines)

-- What the moves of dead letters leave, one parcel on.
use Rattle.std.proofs.Common.{◌≡◌, ℕ, zero, suc, ◌+◌, ◌-◌, ◌<◌, ◌≤◌, arith, Bool, true, false, Some, None, Result, Err, MatchBool, refl, sym, ap, subst, inl, inr, ◌∙◌}
use Rattle.std.specs.Prelude.{⊤}
use Rattle.message.specs.declared.fault.Fault.{Fault}
use Rattle.message.specs.declared.fault.Fault.TheVariants.{OutOfMemory}
use Rattle.message.specs.Fault.{is_out_of_memory, Meets}
use Rattle.queue_core.specs.declared.reply.Reply.{Reply}
use Rattle.queue_core.specs.Queue.{QueueHistory, first_parcel_of}
use Rattle.redrive.specs.declared.moved.Moved.{Moved}
use Rattle.redrive.specs.House.{House, queue_of_uid, arrive_answer, house_after_hand_over, needs_confirmation, answer_of_halves, confirm_answer, house_after_confirm, move_answer, IsHandedOver, IsMoved}
use Rattle.sqs_replay.specs.Moves.{house_between, confirmed_house, house_after_move, goes_on, some_moves}
use Rattle.sqs_replay.specs.Served.{Leaves}
use Rattle.sqs_replay.proofs.Memory.{memory_or_other, met}

-- ---- one move

leaves_wanted : {T : Type 0} (answer : Result T Fault) (left wanted : House) → left ≡ wanted → Leaves answer left wanted
leaves_wanted answer left wanted is = either_way (is_out_of_memory answer) where
  either_way : (b : Bool) → MatchBool b ⊤ (left ≡ wanted)
  either_way true = tt
  either_way false = is

module _ (w : House) (source at : ℕ) where
  confirmed_as : (confirmed : Result Reply Fault) (answer : Result Moved Fault) (new : House) → needs_confirmation (arrive_answer w source at) ≡ true
      → Meets confirmed (confirm_answer (house_between w source at) source at) → answer ≡ answer_of_halves (arrive_answer w source at) confirmed
      → new ≡ house_after_confirm (house_between w source at) source at confirmed → Leaves answer new (house_after_move w source at)
  confirmed_as confirmed answer new with_it meets is left =
      elim (memory_or_other confirmed) [
        | inl memory ↦
            subst (λ (a : Result Moved Fault). Leaves a new (house_after_move w source at)) (sym (is ∙ ap (answer_of_halves (arrive_answer w source at)) memory)) tt
        | inr other ↦
            let done : new ≡ confirmed_house (house_between w source at) source at =
            left ∙ ap (house_after_confirm (house_between w source at) source at) (met confirmed (confirm_answer (house_between w source at) source at) other meets) in
            leaves_wanted answer new (house_after_move w source at) (done ∙ sym (rw with_it refl))
      ]

  same_first : (answer : Result Moved Fault) (new : House) (m : IsMoved w source at answer new) → m.handed_over ≡ arrive_answer w source at → m.between ≡ house_between w source at
      → (b : Bool) → needs_confirmation (arrive_answer w source at) ≡ b → Leaves answer new (house_after_move w source at)
  same_first answer new m e between false without =
      leaves_wanted answer new (house_after_move w source at) ((m.no_second_half (ap needs_confirmation e ∙ without)).1 ∙ between ∙ sym (rw without refl))
  same_first answer new m e between true with_it =
      let c = m.second_half (ap needs_confirmation e ∙ with_it) in
      confirmed_as c.confirmed answer new with_it
      (subst (λ (b : House). Meets c.confirmed (confirm_answer b source at)) between c.meets)
      (c.answered ∙ ap (λ (a : Result Moved Fault). answer_of_halves a c.confirmed) e)
      (c.left ∙ ap (λ (b : House). house_after_confirm b source at c.confirmed) between)

  memory_first : (answer : Result Moved Fault) (new : House) (m : IsMoved w source at answer new) → m.handed_over ≡ Err OutOfMemory → Leaves answer new (house_after_move w source at)
  memory_first answer new m memory =
      let ends = m.no_second_half (ap needs_confirmation memory) in
      subst (λ (a : Result Moved Fault). Leaves a new (house_after_move w source at)) (sym (ends.0 ∙ memory)) tt

  other_first : (answer : Result Moved Fault) (new : House) (m : IsMoved w source at answer new) → is_out_of_memory m.handed_over ≡ false → Leaves answer new (house_after_move w source at)
  other_first answer new m other =
      let e : m.handed_over ≡ arrive_answer w source at = met m.handed_over (arrive_answer w source at) other m.meets in
      same_first answer new m e (between_at e m.first_half) (needs_confirmation (arrive_answer w source at)) refl where
        between_at : m.handed_over ≡ arrive_answer w source at → IsHandedOver w source at m.handed_over m.between → m.between ≡ house_between w source at
        between_at e h = h.left ∙ ap (λ (a : Result Moved Fault). house_after_hand_over w source at a) e

  moved_leaves : (answer : Result Moved Fault) (new : House) → IsMoved w source at answer new → Leaves answer new (house_after_move w source at)
  moved_leaves answer new m =
      elim (memory_or_other m.handed_over) [
        | inl memory ↦ memory_first answer new m memory
        | inr other ↦ other_first answer new m other
      ]

-- ---- where no parcel waits, nothing moves

pub no-parcel : (w : House) (source at : ℕ) (q : QueueHistory) → queue_of_uid w source ≡ Some q → first_parcel_of q ≡ None → (n : ℕ) → some_moves n w source at ≡ w
no-parcel w source at q here none zero = refl
no-parcel w source at q here none (suc n) = rw (here, none) refl

-- ---- one after another, by a loop that counts up: what all the moves leave is what those leave that are still to be made

pub moves_begin : (most : ℕ) (w : House) (source at : ℕ) → some_moves most w source at ≡ some_moves (most - 0) w source at
moves_begin most w source at = ap (λ (n : ℕ). some_moves n w source at) (let e : most ≡ most - 0 = omega arith in e)

module _ (all now : House) (source at most done : ℕ) (m : all ≡ some_moves (most - done) now source at) where
  one_left : done < most → all ≡ some_moves (suc (most - (done + 1))) now source at
  one_left lt = m ∙ ap (λ (n : ℕ). some_moves n now source at) (let e : most - done ≡ suc (most - (done + 1)) = omega arith in e)

  left_as : (answer : Result Moved Fault) (new : House) → is_out_of_memory answer ≡ false → IsMoved now source at answer new → new ≡ house_after_move now source at
  left_as answer new other moved = subst (λ (b : Bool). MatchBool b ⊤ (new ≡ house_after_move now source at)) other (moved_leaves now source at answer new moved)

  pub moves_over : most ≤ done → now ≡ all
  moves_over past = sym (m ∙ ap (λ (n : ℕ). some_moves n now source at) (let e : most - done ≡ 0 = omega arith in e))

  -- the last move
  pub last_move : done < most → (answer : Result Moved Fault) (new : House) → goes_on answer ≡ false → is_out_of_memory answer ≡ false → Meets answer (move_answer now source at)
      → IsMoved now source at answer new → new ≡ all
  last_move lt answer new ends other meets moved =
      let without : goes_on (move_answer now source at) ≡ false = ap goes_on (sym (met answer (move_answer now source at) other meets)) ∙ ends in
      left_as answer new other moved ∙ sym (one_left lt ∙ rw without refl)

  -- a move that another follows
  pub next_move : done < most → (answer : Result Moved Fault) (new : House) → goes_on answer ≡ true → is_out_of_memory answer ≡ false → Meets answer (move_answer now source at)
      → IsMoved now source at answer new → all ≡ some_moves (most - (done + 1)) new source at
  next_move lt answer new more other meets moved =
      let with_it : goes_on (move_answer now source at) ≡ true = ap goes_on (sym (met answer (move_answer now source at) other meets)) ∙ more in
      subst (λ (v : House). all ≡ some_moves (most - (done + 1)) v source at) (sym (left_as answer new other moved)) (one_left lt ∙ rw with_it refl)

use Rattle.std.proofs.Common.{◌≡◌, ℕ, Bool, true, false, Option, Some, None, refl, sym, ap, subst, ◌∙◌}
use Rattle.std.specs.Prelude.{OnOk, is_some, not}
use Rattle.std.specs.Option.{option_map, option_map_or}
use Rattle.journal.specs.declared.entry.Origin.{Origin}
use Rattle.queue_core.specs.declared.parcel.Parcel.{Parcel}
use Rattle.queue_core.specs.Messages.{message_count}
use Rattle.queue_core.specs.Queue.{QueueHistory, first_parcel_of}
use Rattle.redrive.specs.House.{House, queue_of_uid}
use Rattle.sqs_replay.specs.Moves.{some_moves, message_count_in}
use Rattle.sqs_replay.proofs.MoveLemmas.{no-parcel}
use Rattle.sqs_replay.proofs.moves.move_dead_letters.Goals as goal

-- none waits where none is found
none-waits : (o : Option Parcel) (first : Option (Origin × ℕ)) (none : Bool) → first ≡ option_map (λ p. (p.origin, p.target)) o → is_some first ≡ not none → none ≡ true → o ≡ None
none-waits None first none is some t = refl
none-waits (Some p) first true is some t = absurd (let no : true ≡ false = ap is_some (sym is) ∙ some in cc)
none-waits (Some p) first false is some t = absurd cc

pub returns-then-is_none-clause-state : goal.returns-then-is_none-clause-state
returns-then-is_none-clause-state c =
    let w : House = c.args.house.now in
    let q : QueueHistory = c.queue_at-queue.result.now in
    let none : first_parcel_of q ≡ None =
    none-waits (first_parcel_of q) c.first_waiting.result c.is_none.result c.first_waiting.ensures.first c.is_none.ensures c.if-is_none.true in
    sym (no-parcel w c.args.found.uid c.args.at q c.queue_at-queue.ensures none (message_count_in w c.args.found.uid))

pub returns-clause-state : goal.returns-clause-state
returns-clause-state c =
    let w : House = c.args.house.now in
    let all : c.message_count-most.result ≡ message_count_in w c.args.found.uid =
    c.message_count-most.ensures ∙ sym (ap (λ (o : Option QueueHistory). option_map_or (λ q. message_count q.lines) o 0) c.queue_at-queue.ensures) in
    subst (λ (n : ℕ). OnOk c.some_moves.result (c.some_moves.new.house ≡ some_moves n w c.args.found.uid c.args.at)) all c.some_moves.ensures.state

use Rattle.std.proofs.Common.{ap, ◌∙◌, ◌≡◌, sym, ℕ, List, [], ◌∷◌, ◌++◌, subst, IfSome}
use Rattle.queue_core.specs.Queue.{QueueHistory}
use Rattle.desk.specs.History.{state_of, call}
use Rattle.desk.specs.Views.{IsKnown, pass_of}
use Rattle.desk.specs.Printed.{IsToldOf}
use Rattle.desk.specs.private.Steps.{behind_call, with_call}
use Rattle.desk.proofs.PassLemmas.{called, known_behind, left_behind, performed}
use Rattle.desk.proofs.desk.Desk.call_in_turn.Goals as goal

pub end-requires-clause-turn : goal.end-requires-clause-turn
end-requires-clause-turn g c = (c.args.ticket, ap (λ m. m.0.stage) c.take-held.ensures.out ∙ c.requires.turn.0)

pub end-requires-clause-call : goal.end-requires-clause-call
end-requires-clause-call g c =
    performed c.args.seat.now.me.0 c.take-held.new.seat.me.0 c.args.at c.args.command.now c.perform-reply.result c.take-held.result c.perform-reply.new.self c.tell-told.new.self
    (ap (λ m. m.0) c.take-held.ensures.out) c.take-held.ensures.queue c.take-held.ensures.place c.perform-reply.ensures.answer c.perform-reply.ensures.state c.perform-reply.ensures.place c.tell-told.ensures.same

pub returns : goal.returns
returns g c =
    let held = c.perform-reply.new.self in let v = c.args.seat.now.me.0 in let made = call v.number c.args.at c.args.command.now c.perform-reply.result in
    let desk : c.end.new.seat.table_id ≡ c.args.seat.now.table_id = c.end.ensures.desk ∙ c.take-held.ensures.desk in
    let me : c.end.new.seat.me ≡ (behind_call v made, []) =
    c.end.ensures.ended ∙ ap (λ m. (with_call m.0 c.tell-told.new.self.made, [])) c.take-held.ensures.out ∙ ap (λ x. (with_call v x.made, [])) c.tell-told.ensures.same
    ∙ ap (λ w. (w, [])) (called v _ _ _ held _ c.perform-reply.ensures.state) in
    let place : held.place ≡ v.place = c.perform-reply.ensures.place ∙ c.take-held.ensures.place in
    record {
      desk = desk;
      called = me;
      known = rw me (known_behind c.end.new.seat.table_id v _ _ _ _ (subst (λ d. IsKnown (pass_of d v)) (sym desk) c.requires.known) c.take-held.ensures.queue c.perform-reply.ensures.answer);
      told = rw me (subst (λ (at : List ℕ). IfSome c.tell-told.result (λ told. IsToldOf (g.P.Press.tells at) (state_of v.start (v.seen ++ made ∷ [])) told)) place
          (subst (λ (q : QueueHistory). IfSome c.tell-told.result (λ told. IsToldOf (g.P.Press.tells held.place) q told)) (left_behind v _ _ _ held _ c.take-held.ensures.queue c.perform-reply.ensures.state) c.tell-told.ensures.told));
    }

use Rattle.std.proofs.Common.{◌≡◌, ℕ, [], ◌∷◌, ◌++◌, length, subst, sym, ap, ◌∙◌}
use Rattle.std.specs.Prelude.{IfSome}
use Rattle.queue_core.specs.Queue.{QueueHistory}
use Rattle.queue_core.specs.Legal.{IsLegal}
use Rattle.desk.specs.Held.{Lying}
use Rattle.desk.specs.private.KeptRows.{AreRowsOf}
use Rattle.desk.specs.Printed.{TurnReport, report_of, IsNextIn, IsPublicationRecord}
use Rattle.desk.specs.private.Printed.{IsPrinted}
use Rattle.desk.proofs.PrintLemmas.{next_in, printed_more}
use Rattle.desk.proofs.held.Held.print.Goals as goal

pub print-requires : goal.print-requires
print-requires g c =
    let q : QueueHistory = c.self.inside.state.value in let told : ℕ = c.self.inside.told in let stands = g.P.Press.stands c.self.inside.press in
    let here : c.deref_mut.result.now ≡ q = c.deref_mut.ensures.value in
    let turn : c.in-Ok.turn ≡ report_of q told = c.in-Ok.ensures.ok ∙ ap (λ (x : QueueHistory). report_of x told) here in
    subst (λ (t : TurnReport). IsNextIn stands t) (sym turn) (next_in stands q told c.self.invariant.0 (subst IsLegal here c.in-Ok.ensures.legal))

pub invariant_of-self-2 : goal.invariant_of-self-2
invariant_of-self-2 g c =
    let q : QueueHistory = c.self.inside.state.value in let told : ℕ = c.self.inside.told in let stands = g.P.Press.stands c.self.inside.press in let after = g.P.Press.stands c.print.new.self in
    let here : c.deref_mut.result.now ≡ q = c.deref_mut.ensures.value in
    let turn : c.in-Ok.turn ≡ report_of q told = c.in-Ok.ensures.ok ∙ ap (λ (x : QueueHistory). report_of x told) here in
    let entries : c.len-entries.result ≡ length q.lines = c.len-entries.ensures ∙ ap length c.journal.ensures.lines ∙ ap (λ (x : QueueHistory). length x.lines) (c.deref.ensures ∙ c.of.ensures.same ∙ here) in
    subst (λ (x : QueueHistory). IsPrinted after x c.len-entries.result × IfSome c.of.new.kept (λ k. AreRowsOf k x)) (sym (c.of.ensures.same ∙ here))
    (printed_more stands after q told c.len-entries.result c.self.invariant.0 (subst IsLegal here c.in-Ok.ensures.legal) (λ turns stood legal. subst (λ (t : TurnReport). after (turns ++ t ∷ [])) turn (c.in_ok-told.ensures.some turns stood (subst (λ (t : TurnReport). IsPublicationRecord (turns ++ t ∷ [])) (sym turn) legal))) entries, subst (λ (x : QueueHistory). IfSome c.of.new.kept (λ k. AreRowsOf k x)) here c.of.ensures.kept)

pub returns-clause-told : goal.returns-clause-told
returns-clause-told g c =
    let told : ℕ = c.self.inside.told in
    let turn : c.in-Ok.turn ≡ report_of c.self.inside.state.value told = c.in-Ok.ensures.ok ∙ ap (λ (x : QueueHistory). report_of x told) c.deref_mut.ensures.value in (
      told,
      subst (λ (x : Lying). g.P.Press.tells x.place (report_of x.queue told) c.in_ok-told.told) c.self.view_is
          (subst (λ (t : TurnReport). g.P.Press.tells (g.P.Press.place c.self.inside.press) t c.in_ok-told.told) turn c.in_ok-told.ensures.told),
    )

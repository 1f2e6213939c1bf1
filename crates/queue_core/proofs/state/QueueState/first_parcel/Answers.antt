use Rattle.std.proofs.Common.{◌≡◌, Some, Option, Result, Ok, ap, ◌∙◌}
use Rattle.message.specs.declared.fault.Fault.{Fault}
use Rattle.message.specs.Content.{ContentText}
use Rattle.queue_core.specs.declared.parcel.Parcel.{Parcel}
use Rattle.queue_core.proofs.indexed.QuestionLemmas.{index_of, sound_of, parcel_is, parcel_kept, parcel_there}
use Rattle.queue_core.proofs.state.QueueState.first_parcel.Goals as goal

pub unreachable-requires : goal.unreachable-requires
unreachable-requires c =
    parcel_kept c.args.self.now c.self.inside.index (index_of _ _ c.self.inside.index c.self.view_is c.self.invariant.2) (sound_of _ _ c.self.view_is c.self.invariant.0.legal)
    c.in-Some.number c.in-Some.target c.in-Some.ensures.first c.in-None.ensures.value

pub returns-clause-answer : goal.returns-clause-answer
returns-clause-answer c =
    let same : ◌≡◌ {A = Result ContentText Fault} (Ok c.in_ok-share-in-Some-get.field-0) (Ok c.in-Some-get.kept.now.content) = c.in_ok-share-in-Some-get.ensures in
    let shared : c.in_ok-share-in-Some-get.field-0 ≡ c.in-Some-get.kept.now.content = cc in
    ap (λ (o : Option Parcel). Ok o)
    (ap (λ (content : ContentText). let parcel : Parcel = record { origin = c.origin_of.result; target = c.in-Some.target; content = content } in Some parcel) shared
    ∙ parcel_is c.args.self.now c.self.inside.index (index_of _ _ c.self.inside.index c.self.view_is c.self.invariant.2) (sound_of _ _ c.self.view_is c.self.invariant.0.legal)
    c.in-Some.number c.in-Some.target c.origin_of.result c.in-Some-get.kept.now c.in-Some.ensures.first c.in-Some-get.ensures.value c.origin_of.ensures)

pub returns-clause-none : goal.returns-clause-none
returns-clause-none c = λ none.
    absurd
    (parcel_there c.args.self.now c.self.inside.index (index_of _ _ c.self.inside.index c.self.view_is c.self.invariant.2) (sound_of _ _ c.self.view_is c.self.invariant.0.legal)
    c.in-Some.number c.in-Some.target c.in-Some.ensures.first none)

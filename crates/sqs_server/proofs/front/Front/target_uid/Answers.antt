use Rattle.std.proofs.Common.{Some, ap, sym, ◌∙◌}
use Rattle.queue_config.specs.Settings.{requested_target}
use Rattle.redrive.proofs.StoredNameLemmas.{same_padded}
use Rattle.sqs_server.proofs.TargetLemmas.{own_target}
use Rattle.sqs_server.proofs.front.Front.target_uid.Goals as goal

pub returns-then-eq : goal.returns-then-eq
returns-then-eq g c =
    let asked = sym c.target.ensures ∙ (c.in-Some-Some.is ∙ ap Some c.in-Some-Some.field-0-is) in
    let same = sym (c.eq.ensures ∙ same_padded c.in-Some-Some.name c.args.own.now) ∙ c.if-eq.true in
    own_target c.args.own.now c.in-Some-Some.name (requested_target c.args.wish.now) asked same

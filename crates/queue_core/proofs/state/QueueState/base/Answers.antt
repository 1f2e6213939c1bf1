use Rattle.std.proofs.Common.{◌≡◌, map, IfOk, Result, subst, sym, ap, ◌∙◌}
use Rattle.message.specs.declared.fault.Fault.{Fault}
use Rattle.message.specs.Content.{ContentText}
use Rattle.journal.specs.Base.{BaseOf}
use Rattle.queue_core.specs.Queue.{QueueHistory}
use Rattle.queue_core.specs.Summary.{Summary, summary_of}
use Rattle.queue_core.specs.Rebase.{kept_flows, kept_row, base_of}
use Rattle.queue_core.specs.private.Keeping.{messages_kept}
use Rattle.queue_core.proofs.checkpoints.KeepingLemmas.{messages_same, base_is}
use Rattle.queue_core.proofs.state.QueueState.base.Goals as goal

is_other : (r : Result (BaseOf ContentText) Fault) (a b : BaseOf ContentText) → a ≡ b → IfOk r (λ base. base ≡ a) → IfOk r (λ base. base ≡ b)
is_other r a b same h = subst (λ (x : BaseOf ContentText). IfOk r (λ base. base ≡ x)) same h

pub returns-clause-ok : goal.returns-clause-ok
returns-clause-ok c =
    let q : QueueHistory = record { uid = c.self.inside.uid; name = c.self.inside.name; limits = c.self.inside.limits; rules = c.self.inside.rules.items; clock = c.self.inside.clock; lines = c.self.inside.journal.lines; spare = c.self.inside.journal.spare } in
    let s : Summary = summary_of q.lines q.clock in
    let seen = c.self-inside.view_is in
    is_other c.new.result _ _
    (base_is _ q.uid s _ _ _ _ _ _ _ _
    (ap (λ x. x.uid) seen)
    c.self.invariant.1.settings
    (ap (λ x. x.tally.created) seen ∙ c.self.invariant.1.created)
    (ap (λ x. x.tally.modified) seen ∙ c.self.invariant.1.modified)
    (c.in_ok-receives.ensures.items ∙ c.as_slice.ensures.value ∙ ap (λ x. x.index.receives.items) seen ∙ c.self.invariant.2.receives)
    (c.in_ok-accepted.ensures.items ∙ c.as_slice-2.ensures.keys ∙ ap (λ x. x.accepted.keys.keys) seen ∙ c.self.invariant.3)
    (c.in_ok-messages.ensures.ok ∙ ap (λ x. messages_kept x.tally.settings.retention_seconds x.clock x.index) seen
    ∙ ap (λ y. messages_kept y.retention_seconds q.clock c.self.inside.index) c.self.invariant.1.settings
    ∙ sym (messages_same c.self.inside.index s q.clock c.self.invariant.2))
    (c.in_ok-rows-2.ensures.ok ∙ ap (map kept_row) (c.as_slice-3.ensures.value ∙ c.in_ok-rows.ensures ∙ ap (λ x. x.watch.window.rows) seen ∙ c.self.invariant.4.rows))
    (c.kept_flows.ensures ∙ ap kept_flows (c.current.ensures ∙ ap (λ x. x.watch.window.current) seen ∙ c.self.invariant.4.current))
    ∙ ap (λ (q : QueueHistory). base_of q.uid q.lines q.clock) c.self.view_is)
    c.new.ensures.ok

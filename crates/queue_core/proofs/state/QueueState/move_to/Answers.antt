use Rattle.std.proofs.Common.{◌≡◌, ℕ, max, subst, sym, ap, ◌∙◌, arith}
use Rattle.metric_window.specs.Flows.{minute_of}
use Rattle.queue_core.specs.Queue.{QueueHistory}
use Rattle.queue_core.specs.private.Kept.{IsKept}
use Rattle.queue_core.specs.private.Tally.{Tallies}
use Rattle.queue_core.specs.private.Indexed.{IsIndexOf}
use Rattle.queue_core.specs.Accepted.{accepted_keys}
use Rattle.queue_core.specs.private.Accepted.{AreAccepted}
use Rattle.queue_core.specs.Summary.{summary_of}
use Rattle.queue_core.specs.private.Watched.{IsWatchAt}
use Rattle.queue_core.specs.declared.state.QueueState.TheInside.{Inside}
use Rattle.queue_core.proofs.commands.LegalLemmas.{IsKept-later}
use Rattle.queue_core.proofs.entries.TallyLemmas.{tallies-later}
use Rattle.std.specs.Prelude.{nat_eq}
use Rattle.indexmap.specs.IndexMap.{IsUnique}
use Rattle.queue_core.specs.private.Spending.{Costs, HasCome}
use Rattle.queue_core.proofs.costs.CostLemmas.{has_come}
use Rattle.queue_core.proofs.state.QueueState.move_to.Goals as goal

pub catch_up-requires-clause-past : goal.catch_up-requires-clause-past
catch_up-requires-clause-past c =
    let clock = ap (λ s. s.clock) c.self-inside.view_is in
    let minute = ap (λ s. s.watch.window.minute) c.self-inside.view_is in
    omega (arith, clock, minute, c.later-clock.ensures, c.self.invariant.4.minute)

pub invariant_of-self : goal.invariant_of-self
invariant_of-self c =
    let q : QueueHistory = record { uid = c.self.inside.uid; name = c.self.inside.name; limits = c.self.inside.limits; rules = c.self.inside.rules.items; clock = c.self.inside.clock; lines = c.self.inside.journal.lines; spare = c.self.inside.journal.spare } in
    let later : ℕ = c.later-clock.result in
    let clock = ap (λ s. s.clock) c.self-inside.view_is in
    let kept =
    subst (λ (s : Inside). IsKept (record { uid = s.uid; name = s.name; limits = s.limits; rules = s.rules.items; clock = max s.clock c.args.at; lines = s.journal.lines; spare = s.journal.spare }) s.journal.limit)
    (sym c.self-inside.view_is) (IsKept-later q c.self.inside.journal.limit c.args.at c.self.invariant.0) in
    let both =
    c.catch_up.ensures.passed q c.self.invariant.0.legal (omega (arith, clock, c.later-clock.ensures))
    (ap (λ s. s.tally.settings.retention_seconds) c.self-inside.view_is ∙ ap (λ s. s.retention_seconds) c.self.invariant.1.settings)
    (subst (λ (s : Inside). IsIndexOf q.lines q.clock s.index) (sym c.self-inside.view_is) c.self.invariant.2)
    (subst (λ (s : Inside). IsWatchAt q.lines (minute_of q.clock) q.rules s.watch) (sym c.self-inside.view_is) c.self.invariant.4) in (
      rw c.later-clock.ensures kept,
      subst (λ (s : Inside). Tallies s.tally (summary_of s.journal.lines later)) (sym c.self-inside.view_is) (tallies-later q.lines q.clock later c.self.inside.tally c.self.invariant.1),
      subst (λ (s : Inside). IsIndexOf s.journal.lines later c.catch_up.new.index) (sym c.self-inside.view_is) both.0,
      subst (λ (s : Inside). AreAccepted s.accepted (accepted_keys s.journal.lines)) (sym c.self-inside.view_is) c.self.invariant.3,
      subst (λ (s : Inside). IsWatchAt s.journal.lines (minute_of later) s.rules.items c.catch_up.new.watch) (sym c.self-inside.view_is) both.1,
    )

pub returns-clause-come : goal.returns-clause-come
returns-clause-come c =
    let q : QueueHistory = record { uid = c.self.inside.uid; name = c.self.inside.name; limits = c.self.inside.limits; rules = c.self.inside.rules.items; clock = c.self.inside.clock; lines = c.self.inside.journal.lines; spare = c.self.inside.journal.spare } in
    let later : ℕ = c.later-clock.result in
    let clock = ap (λ s. s.clock) c.self-inside.view_is in
    let at : later ≡ max q.clock c.args.at = c.later-clock.ensures ∙ ap (λ (t : ℕ). max t c.args.at) clock in
    let both =
    c.catch_up.ensures.passed q c.self.invariant.0.legal (omega (arith, clock, c.later-clock.ensures))
    (ap (λ s. s.tally.settings.retention_seconds) c.self-inside.view_is ∙ ap (λ s. s.retention_seconds) c.self.invariant.1.settings)
    (subst (λ (s : Inside). IsIndexOf q.lines q.clock s.index) (sym c.self-inside.view_is) c.self.invariant.2)
    (subst (λ (s : Inside). IsWatchAt q.lines (minute_of q.clock) q.rules s.watch) (sym c.self-inside.view_is) c.self.invariant.4) in
    let behind = subst (λ (t : ℕ). IsIndexOf q.lines t c.catch_up.new.index) at both.0 in
    let unique = subst (λ (s : Inside). IsUnique nat_eq s.index.records) c.self-inside.view_is c.len-kept.ensures.unique in
    let cost = subst (λ (s : Inside). Costs 0 0 c.args.ticks.now s.index c.catch_up.new.ticks c.catch_up.new.index) c.self-inside.view_is c.catch_up.ensures.cost in
    let come = has_come q c.self.inside.index c.self.invariant.2 unique c.args.at c.args.ticks.now c.catch_up.new.ticks c.catch_up.new.index behind cost in
    let reached = subst (λ (t : ℕ). HasCome c.args.ticks.now q c.catch_up.new.ticks (record q { clock = t })) (sym at) come in
    subst (λ (s : Inside). HasCome c.args.ticks.now c.args.self.now c.catch_up.new.ticks (record { uid = s.uid; name = s.name; limits = s.limits; rules = s.rules.items; clock = later; lines = s.journal.lines; spare = s.journal.spare }))
    (sym c.self-inside.view_is) (subst (λ (p : QueueHistory). HasCome c.args.ticks.now p c.catch_up.new.ticks (record q { clock = later })) c.self.view_is reached)

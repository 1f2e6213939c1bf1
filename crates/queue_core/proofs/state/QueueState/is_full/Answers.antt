use Rattle.std.proofs.Common.{◌≡◌, ℕ, ◌+◌, true, Bool, ◌&&◌, subst, sym, ap, ◌∙◌}
use Rattle.std.specs.Prelude.{nat_eq, nat_le}
use Rattle.indexmap.specs.IndexMap.{IsUnique, index_map_len}
use Rattle.queue_core.specs.declared.state.QueueState.TheInside.{Inside}
use Rattle.queue_core.specs.States.{kept_count}
use Rattle.queue_core.specs.Queue.{QueueHistory, is_at_limit}
use Rattle.queue_core.proofs.costs.BoundLemmas.{kept-is}
use Rattle.queue_core.proofs.state.QueueState.is_full.Goals as goal

pub returns-then-is_at_limit : goal.returns-then-is_at_limit
returns-then-is_at_limit c =
    let q : QueueHistory = record { uid = c.self.inside.uid; name = c.self.inside.name; limits = c.self.inside.limits; rules = c.self.inside.rules.items; clock = c.self.inside.clock; lines = c.self.inside.journal.lines; spare = c.self.inside.journal.spare } in
    let seen = c.self-inside.view_is in
    let unique = subst (λ (x : Inside). IsUnique nat_eq x.index.records) seen c.len.ensures.unique in
    let len : c.len.result ≡ kept_count q.lines q.clock = c.len.ensures.count ∙ ap (λ (x : Inside). index_map_len x.index.records) seen ∙ kept-is q c.self.inside.index c.self.invariant.2 unique in
    let most = ap (λ (x : Inside). x.limits.max_lines) seen in
    (λ i. nat_le (most i) (1 + len i))
    ∙ ap (λ (r : QueueHistory). nat_le r.limits.max_lines (1 + kept_count r.lines r.clock)) c.self.view_is
    ∙ sym (ap (λ (b : Bool). b && nat_le c.args.self.now.limits.max_lines (1 + kept_count c.args.self.now.lines c.args.self.now.clock)) (sym c.is_at_limit.ensures ∙ c.if-is_at_limit.true))

use Rattle.std.proofs.Common.{ℕ, ◌+◌, ap, ◌∙◌, arith}
use Rattle.queue_core.proofs.costs.SpendingLemmas.{free_then}
use Rattle.queue_core.proofs.passing.go_on.Goals as goal

pub end_minute-requires-clause-indices : goal.end_minute-requires-clause-indices
end_minute-requires-clause-indices c = c.loop.invariant.indices

pub end_minute-requires-clause-small : goal.end_minute-requires-clause-small
end_minute-requires-clause-small c = omega (arith, c.requires.small, c.loop.invariant.minute, c.loop-test.true)

pub loop-preserved : goal.loop-preserved
loop-preserved c = record {
  indices = c.end_minute.ensures.indices;
  minute = c.end_minute.ensures.minute ∙ ap (λ (n : ℕ). n + 1) c.loop.invariant.minute;
  within = omega (arith, c.loop-test.true);
  passing = λ q first before legal same passing. c.end_minute.ensures.passing q first before legal same (c.loop.invariant.passing q first before legal same passing);
  cost = free_then _ _ _ _ _ _ _ _ _ c.loop.invariant.cost c.end_minute.ensures.cost;
}

pub returns-clause-indices : goal.returns-clause-indices
returns-clause-indices c = c.loop.invariant.indices

pub returns-clause-minute : goal.returns-clause-minute
returns-clause-minute c = omega (arith, c.loop.invariant.minute, c.loop.invariant.within, c.loop-test.false)

pub returns-clause-passing : goal.returns-clause-passing
returns-clause-passing c = c.loop.invariant.passing

pub returns-clause-cost : goal.returns-clause-cost
returns-clause-cost c = c.loop.invariant.cost

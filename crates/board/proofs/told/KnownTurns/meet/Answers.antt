use Rattle.std.proofs.Common.{◌≤◌, List, length, ap, subst, arith}
use mathlib.Core.List.{IsPrefix}
use Rattle.desk.specs.Printed.{TurnReport}
use Rattle.board.specs.Printed.{Publications}
use Rattle.board.proofs.Prefixes.{prefix_shorter}
use Rattle.board.proofs.told.KnownTurns.meet.Goals as goal

pub returns-then-self-other-clause-own : goal.returns-then-self-other-clause-own
returns-then-self-other-clause-own c =
    let both = c.learn.new.self.log in
    let own : IsPrefix c.self.inside.seen.log both = subst (λ (l : List TurnReport). IsPrefix l both) (ap (λ s. s.log) c.again-both.ensures) c.learn.ensures.2 in
    let less : length c.self.inside.seen.log ≤ length c.other.inside.seen.log = omega (arith, c.self.invariant.0, c.other.invariant.0) in
    subst (λ (p : Publications). IsPrefix p.turns c.other.inside.seen.log) c.self.view_is
    (prefix_shorter c.self.inside.seen.log c.other.inside.seen.log both own c.learn.ensures.3 less)

pub returns-else-self-other-clause-met : goal.returns-else-self-other-clause-met
returns-else-self-other-clause-met c =
    let both = c.learn.new.self.log in
    let own : IsPrefix c.self.inside.seen.log both = subst (λ (l : List TurnReport). IsPrefix l both) (ap (λ s. s.log) c.again-both.ensures) c.learn.ensures.2 in
    let less : length c.other.inside.seen.log ≤ length c.self.inside.seen.log = omega (arith, c.self.invariant.0, c.other.invariant.0) in
    subst (λ (p : Publications). IsPrefix c.args.other.turns p.turns) c.self.view_is
    (subst (λ (p : Publications). IsPrefix p.turns c.self.inside.seen.log) c.other.view_is
    (prefix_shorter c.other.inside.seen.log c.self.inside.seen.log both c.learn.ensures.3 own less))

use Rattle.std.proofs.Common.{rules, subst, ap, ◌∙◌, ◌++◌}
use Rattle.desk.specs.Views.{IsKnown}
use Rattle.desk.proofs.Keeping.{absorbs}
use Rattle.desk.proofs.HistoryLemmas.{comparable, calls_go_on}
use Rattle.desk.proofs.desk.Desk.end_pass.Goals as goal

pub join_seat-requires : goal.join_seat-requires
join_seat-requires g c = (search rules, search rules, search rules, search rules, absorbs _ _ _ _ _ c.pass.invariant.1 c.ended.invariant.1)

pub returns-clause-one : goal.returns-clause-one
returns-clause-one g c = comparable c.args.ended.seen c.args.pass.now.seen c.look.new.seat.me.0.seen (search rules) (search rules)

pub returns-clause-calls : goal.returns-clause-calls
returns-clause-calls g c =
    let known = subst IsKnown c.ended.view_is c.ended.invariant.2 in
    let longer = calls_go_on c.args.ended.number c.args.ended.seen c.look.new.seat.me.0.seen (search rules) in
    (longer.0, longer.1 ∙ ap (λ calls. calls ++ longer.0) known.own)

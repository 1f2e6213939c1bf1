use Rattle.std.proofs.Common.{Option, option_map, sym, ap, ◌∙◌}
use Rattle.statistics_api.specs.declared.routes.Target.{Target}
use Rattle.statistics_api.proofs.PlainLemmas.{whole_name, cut_name, no_route}
use Rattle.statistics_api.proofs.routes.target_in.Goals as goal

pub returns-in_err-route_behind-in-Some : goal.returns-in_err-route_behind-in-Some
returns-in_err-route_behind-in-Some c =
    let none = sym c.route_behind.ensures ∙ c.in_err-route_behind-in-Some.was in
    ap (λ (o : Option Target). option_map (λ t. (t.route, t.name.now)) o) c.from_residual.ensures
    ∙ no_route c.args.text.now c.in-Some.name c.in-Some.behind c.in-Some.ensures none

pub returns-in-None : goal.returns-in-None
returns-in-None c =
    whole_name c.args.text.now (option_map (λ (t : Target). (t.route, t.name.now)) c.queue_target.result) c.in-None.ensures c.queue_target.ensures

pub returns-in_ok-route_behind-in-Some : goal.returns-in_ok-route_behind-in-Some
returns-in_ok-route_behind-in-Some c =
    let known = sym c.route_behind.ensures ∙ c.in_ok-route_behind-in-Some.was in
    cut_name c.args.text.now c.in-Some.name c.in-Some.behind c.in_ok-route_behind-in-Some.field-0 (option_map (λ (t : Target). (t.route, t.name.now)) c.queue_target-in-Some.result)
    c.in-Some.ensures known c.queue_target-in-Some.ensures

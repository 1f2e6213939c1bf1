-- Where it asks for all queues, the path says so. Where it asks for numbers, the method is the one that is allowed, and the path is one of queues.
use Rattle.std.proofs.Common.{rules, ◌≡◌, ◌≢◌, true, false, Some, codes, bytes_eq}
use Rattle.statistics_api.specs.Asked.{is_of_all}
use Rattle.statistics_api.specs.Routes.{target_of}
use Rattle.statistics_api.specs.declared.routes.Route.TheVariants.{Queues}
use Rattle.statistics_api.proofs.AskedLemmas.{enough_named, of_all, of_metrics, of_named}
use Rattle.statistics_api.proofs.asked.asked_for.Goals as goal

pub returns-in-Some-clause-needed : goal.returns-in-Some-clause-needed
returns-in-Some-clause-needed c =
    let get : bytes_eq c.args.method.now (codes "GET") ≡ true = search rules in
    let other : bytes_eq c.args.path.now (codes "/metrics") ≡ false = search rules in
    let there : Some (c.in-Some.target.route, c.in-Some.target.name.now) ≡ target_of c.args.path.now = search rules in
    λ needed. of_named c.args.method.now c.args.path.now c.in-Some.target.name.now c.in-Some.target.route get other there

pub returns-in-Some-2-clause-needed : goal.returns-in-Some-2-clause-needed
returns-in-Some-2-clause-needed c =
    let get : bytes_eq c.args.method.now (codes "GET") ≡ true = search rules in
    let other : bytes_eq c.args.path.now (codes "/metrics") ≡ false = search rules in
    let there : Some (c.in-Some.target.route, c.in-Some.target.name.now) ≡ target_of c.args.path.now = search rules in
    λ needed. of_named c.args.method.now c.args.path.now c.in-Some.target.name.now c.in-Some.target.route get other there

pub returns-in-Some-2-clause-enough : goal.returns-in-Some-2-clause-enough
returns-in-Some-2-clause-enough c =
    let other : bytes_eq c.args.path.now (codes "/metrics") ≡ false = search rules in
    let there : Some (c.in-Some.target.route, c.in-Some.target.name.now) ≡ target_of c.args.path.now = search rules in
    let one : c.in-Some.target.route ≢ Queues = search rules in
    λ sheets own. enough_named c.args.method.now c.args.path.now c.in-Some.target.name.now c.in-Some.target.route sheets own other there one

pub returns-then-eq-clause-needed : goal.returns-then-eq-clause-needed
returns-then-eq-clause-needed c =
    let get : bytes_eq c.args.method.now (codes "GET") ≡ true = search rules in
    let all : bytes_eq c.args.path.now (codes "/metrics") ≡ true = search rules in
    λ needed. of_metrics c.args.method.now c.args.path.now get all

pub returns-in-Some-clause-all : goal.returns-in-Some-clause-all
returns-in-Some-clause-all c =
    let there : Some (c.in-Some.target.route, c.in-Some.target.name.now) ≡ target_of c.args.path.now = search rules in
    let all : c.in-Some.target.route ≡ Queues = search rules in
    λ asked. of_all c.args.path.now c.in-Some.target.name.now c.in-Some.target.route there all

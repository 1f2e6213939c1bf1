use Rattle.std.proofs.Common.{◌≡◌, ℕ, ◌-◌, ◌<◌, length, get_or, subst, rules, arith}
use Rattle.std.specs.List.Sorted.{IsSearchInRange}
use Rattle.std.proofs.lemmas.List.Sorted.{answers_always}
use Rattle.deadline_heap.proofs.RowSearch.{gap_behind, searched_absent, searched_found}
use Rattle.deadline_heap.proofs.places.search.Goals as goal

-- a number greater than the last row's
pub returns-in-Some-clause-absent : goal.returns-in-Some-clause-absent
returns-in-Some-clause-absent c =
    let long : c.len.result ≡ length c.args.rows.now.items = omega (arith, c.len.ensures, c.args.rows.now.ok.0) in
    let some : 0 < c.len.result = search rules in
    let is : c.in-Some.field-0.now ≡ get_or c.args.rows.now.items (c.len.result - 1) c.in-Some.field-0.now = search rules in
    let less : c.in-Some.field-0.now.0 < c.args.number = search rules in
    gap_behind c.args.rows.now.items c.args.number c.len.result c.in-Some.field-0.now c.requires long some is less

-- the closure gives a row's number
pub returns-in-None-clause-found : goal.returns-in-None-clause-found
returns-in-None-clause-found c =
    let facts = c.binary_search_by_key.ensures in
    let by_key = facts.position (λ row. row.0) (answers_always _ _ _ (λ f a r g called. search rules)) in
    let bound = subst (λ (n : ℕ). IsSearchInRange c.binary_search_by_key.result n) c.args.rows.now.ok.0 facts.bound in
    searched_found c.args.rows.now.items c.args.number c.binary_search_by_key.result bound by_key

pub returns-in-None-clause-absent : goal.returns-in-None-clause-absent
returns-in-None-clause-absent c =
    let facts = c.binary_search_by_key.ensures in
    let by_key = facts.position (λ row. row.0) (answers_always _ _ _ (λ f a r g called. search rules)) in
    let bound = subst (λ (n : ℕ). IsSearchInRange c.binary_search_by_key.result n) c.args.rows.now.ok.0 facts.bound in
    searched_absent c.args.rows.now.items c.args.number c.requires c.binary_search_by_key.result bound by_key

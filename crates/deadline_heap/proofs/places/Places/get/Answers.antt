use Rattle.std.proofs.Common.{◌≡◌, ℕ, ap, sym, ◌∙◌}
use Rattle.std.specs.FinMap.{FinMap, get, from_entries}
use Rattle.std.specs.Ordering.{nat_cmp}
use Rattle.deadline_heap.proofs.RowSearch.{get_gap, get_row}
use Rattle.deadline_heap.proofs.places.Places.get.Goals as goal

pub returns-in-Ok : goal.returns-in-Ok
returns-in-Ok c =
    let same : from_entries c.self.inside.rows.items ≡ c.args.self.now.places = ap (λ t. t.places) c.self.view_is in
    sym (get_row c.self.inside.rows.items c.args.number _ c.index.result.now c.self.invariant.0 c.in-Ok.ensures.found c.index.ensures)
    ∙ ap (λ (m : FinMap nat_cmp ℕ). get m c.args.number) same

pub returns-in-Err : goal.returns-in-Err
returns-in-Err c =
    let same : from_entries c.self.inside.rows.items ≡ c.args.self.now.places = ap (λ t. t.places) c.self.view_is in
    sym (get_gap c.self.inside.rows.items c.args.number _ c.in-Err.ensures.absent) ∙ ap (λ (m : FinMap nat_cmp ℕ). get m c.args.number) same

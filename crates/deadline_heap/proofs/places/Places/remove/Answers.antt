use Rattle.std.proofs.Common.{◌≡◌, ℕ, ◌-◌, true, false, List, length, is_some, ap, sym, ◌∙◌, subst, arith}
use Rattle.std.specs.FinMap.{FinMap, get, from_entries}
use Rattle.std.specs.FinMap as finite
use Rattle.std.specs.List.{remove}
use Rattle.std.specs.Ordering.{nat_cmp}
use Rattle.std.proofs.lemmas.List.Edits.{length-remove}
use Rattle.deadline_heap.specs.private.Rows.{IsRising}
use Rattle.deadline_heap.proofs.Keyed.{entries_removed, removed_lacking}
use Rattle.deadline_heap.proofs.RowSearch.{get_gap, none_row, rising_remove, rows_distinct, some_row}
use Rattle.deadline_heap.proofs.places.Places.remove.Goals as goal

pub invariant_of-self : goal.invariant_of-self
invariant_of-self c =
    let at = c.in-Ok.ensures.found in
    let items : c.remove.new.self.items ≡ remove c.self.inside.rows.items c.in-Ok.at = rw (c.remove.ensures.succeeds (0, 0) (omega (arith, at.within))) at c.remove.ensures.items in
    let n = length-remove c.self.inside.rows.items c.in-Ok.at at.within in
    let l : length c.remove.new.self.items ≡ length (remove c.self.inside.rows.items c.in-Ok.at) = ap length items in
    (subst IsRising (sym items) (rising_remove c.self.inside.rows.items c.in-Ok.at c.self.invariant.0 at.within), omega arith, omega arith)

pub returns-in-Ok-clause-places : goal.returns-in-Ok-clause-places
returns-in-Ok-clause-places c =
    let same : from_entries c.self.inside.rows.items ≡ c.args.self.now.places = ap (λ t. t.places) c.self.view_is in
    let at = c.in-Ok.ensures.found in
    let items : c.remove.new.self.items ≡ remove c.self.inside.rows.items c.in-Ok.at = rw (c.remove.ensures.succeeds (0, 0) (omega (arith, at.within))) at c.remove.ensures.items in
    ap (λ (es : List (ℕ × ℕ)). from_entries {R = nat_cmp} es) items
    ∙ entries_removed c.self.inside.rows.items c.args.number c.in-Ok.at (rows_distinct c.self.inside.rows.items c.self.invariant.0) at.within at.number_is
    ∙ ap (λ (m : FinMap nat_cmp ℕ). finite.remove m c.args.number) same

pub returns-in-Ok-clause-spare : goal.returns-in-Ok-clause-spare
returns-in-Ok-clause-spare c =
    let same : from_entries c.self.inside.rows.items ≡ c.args.self.now.places = ap (λ t. t.places) c.self.view_is in
    let spare : c.self.inside.room - length c.self.inside.rows.items ≡ c.args.self.now.spare = ap (λ t. t.spare) c.self.view_is in
    let at = c.in-Ok.ensures.found in
    let items : c.remove.new.self.items ≡ remove c.self.inside.rows.items c.in-Ok.at = rw (c.remove.ensures.succeeds (0, 0) (omega (arith, at.within))) at c.remove.ensures.items in
    let n = length-remove c.self.inside.rows.items c.in-Ok.at at.within in
    let l : length c.remove.new.self.items ≡ length (remove c.self.inside.rows.items c.in-Ok.at) = ap length items in
    let is : is_some (get c.args.self.now.places c.args.number) ≡ true =
    ap (λ (m : FinMap nat_cmp ℕ). is_some (get m c.args.number)) (sym same) ∙ some_row c.self.inside.rows.items c.args.number c.in-Ok.at c.self.invariant.0 at in
    rw is (omega arith)

pub returns-in-Err-clause-places : goal.returns-in-Err-clause-places
returns-in-Err-clause-places c =
    let same : from_entries c.self.inside.rows.items ≡ c.args.self.now.places = ap (λ t. t.places) c.self.view_is in
    removed_lacking c.args.self.now.places c.args.number
    (ap (λ (m : FinMap nat_cmp ℕ). get m c.args.number) (sym same) ∙ get_gap c.self.inside.rows.items c.args.number _ c.in-Err.ensures.absent)

pub returns-in-Err-clause-spare : goal.returns-in-Err-clause-spare
returns-in-Err-clause-spare c =
    let same : from_entries c.self.inside.rows.items ≡ c.args.self.now.places = ap (λ t. t.places) c.self.view_is in
    let none : is_some (get c.args.self.now.places c.args.number) ≡ false =
    ap (λ (m : FinMap nat_cmp ℕ). is_some (get m c.args.number)) (sym same) ∙ none_row c.self.inside.rows.items c.args.number _ c.in-Err.ensures.absent in
    rw none (omega arith)

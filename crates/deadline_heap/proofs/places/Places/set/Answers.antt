use Rattle.std.proofs.Common.{◌≡◌, ℕ, ◌-◌, ◌≤◌, true, false, List, length, is_some, ap, sym, ◌∙◌, subst, arith, rules}
use Rattle.std.specs.FinMap.{FinMap, get, from_entries}
use Rattle.std.specs.FinMap as finite
use Rattle.std.specs.List.{insert}
use Rattle.std.specs.Ordering.{nat_cmp}
use Rattle.std.proofs.lemmas.List.{length-set}
use Rattle.std.proofs.lemmas.List.Edits.{length-insert}
use Rattle.deadline_heap.specs.private.Rows.{IsRising}
use Rattle.deadline_heap.proofs.Keyed.{entries_inserted, entries_set}
use Rattle.deadline_heap.proofs.RowSearch.{gap_absent, none_row, rising_insert, rising_set, rows_distinct, some_row}
use Rattle.deadline_heap.proofs.places.Places.set.Goals as goal

pub invariant_of-self : goal.invariant_of-self
invariant_of-self c =
    let at = c.in-Ok.ensures.found in
    let n = length-set c.self.inside.rows.items c.in-Ok.at (c.args.number, c.args.place) in
    (rising_set c.self.inside.rows.items c.args.number c.args.place c.in-Ok.at c.self.invariant.0 at, omega arith, omega arith)

pub returns-in-Ok-clause-places : goal.returns-in-Ok-clause-places
returns-in-Ok-clause-places c =
    let same : from_entries c.self.inside.rows.items ≡ c.args.self.now.places = ap (λ t. t.places) c.self.view_is in
    let at = c.in-Ok.ensures.found in
    entries_set c.self.inside.rows.items c.args.number c.args.place c.in-Ok.at (rows_distinct c.self.inside.rows.items c.self.invariant.0) at.within at.number_is
    ∙ ap (λ (m : FinMap nat_cmp ℕ). finite.insert m c.args.number c.args.place) same

pub returns-in-Ok-clause-spare : goal.returns-in-Ok-clause-spare
returns-in-Ok-clause-spare c =
    let same : from_entries c.self.inside.rows.items ≡ c.args.self.now.places = ap (λ t. t.places) c.self.view_is in
    let spare : c.self.inside.room - length c.self.inside.rows.items ≡ c.args.self.now.spare = ap (λ t. t.spare) c.self.view_is in
    let is : is_some (get c.args.self.now.places c.args.number) ≡ true =
    ap (λ (m : FinMap nat_cmp ℕ). is_some (get m c.args.number)) (sym same) ∙ some_row c.self.inside.rows.items c.args.number c.in-Ok.at c.self.invariant.0 c.in-Ok.ensures.found in
    let n = length-set c.self.inside.rows.items c.in-Ok.at (c.args.number, c.args.place) in
    rw is (omega arith)

pub invariant_of-self-in-Err : goal.invariant_of-self-in-Err
invariant_of-self-in-Err c =
    let same : from_entries c.self.inside.rows.items ≡ c.args.self.now.places = ap (λ t. t.places) c.self.view_is in
    let spare : c.self.inside.room - length c.self.inside.rows.items ≡ c.args.self.now.spare = ap (λ t. t.spare) c.self.view_is in
    let gap = c.in-Err.ensures.absent in
    let items : c.insert.new.self.items ≡ insert c.self.inside.rows.items c.in-Err.at (c.args.number, c.args.place) = rw c.unwrap.ensures at c.insert.ensures.items in
    let none : is_some (get c.args.self.now.places c.args.number) ≡ false =
    ap (λ (m : FinMap nat_cmp ℕ). is_some (get m c.args.number)) (sym same) ∙ none_row c.self.inside.rows.items c.args.number c.in-Err.at gap in
    let promised = c.requires none in
    let n : length c.insert.new.self.items ≡ length (insert c.self.inside.rows.items c.in-Err.at (c.args.number, c.args.place)) = ap length items in
    let m = length-insert c.self.inside.rows.items c.in-Err.at (c.args.number, c.args.place) gap.within in
    (subst IsRising (sym items) (rising_insert c.self.inside.rows.items c.args.number c.args.place c.in-Err.at c.self.invariant.0 gap), omega arith, omega arith)

pub returns-in-Err-clause-places : goal.returns-in-Err-clause-places
returns-in-Err-clause-places c =
    let same : from_entries c.self.inside.rows.items ≡ c.args.self.now.places = ap (λ t. t.places) c.self.view_is in
    let gap = c.in-Err.ensures.absent in
    let items : c.insert.new.self.items ≡ insert c.self.inside.rows.items c.in-Err.at (c.args.number, c.args.place) = rw c.unwrap.ensures at c.insert.ensures.items in
    ap (λ (es : List (ℕ × ℕ)). from_entries {R = nat_cmp} es) items
    ∙ entries_inserted c.self.inside.rows.items c.args.number c.args.place c.in-Err.at (gap_absent c.self.inside.rows.items c.args.number c.in-Err.at gap)
    ∙ ap (λ (m : FinMap nat_cmp ℕ). finite.insert m c.args.number c.args.place) same

pub unwrap-requires : goal.unwrap-requires
unwrap-requires c =
    let same : from_entries c.self.inside.rows.items ≡ c.args.self.now.places = ap (λ t. t.places) c.self.view_is in
    let none : is_some (get c.args.self.now.places c.args.number) ≡ false =
    ap (λ (m : FinMap nat_cmp ℕ). is_some (get m c.args.number)) (sym same) ∙ none_row c.self.inside.rows.items c.args.number c.in-Err.at c.in-Err.ensures.absent in
    let promised : 1 ≤ c.args.self.now.spare = c.requires none in
    search rules

pub returns-in-Err-clause-spare : goal.returns-in-Err-clause-spare
returns-in-Err-clause-spare c =
    let same : from_entries c.self.inside.rows.items ≡ c.args.self.now.places = ap (λ t. t.places) c.self.view_is in
    let spare : c.self.inside.room - length c.self.inside.rows.items ≡ c.args.self.now.spare = ap (λ t. t.spare) c.self.view_is in
    let gap = c.in-Err.ensures.absent in
    let items : c.insert.new.self.items ≡ insert c.self.inside.rows.items c.in-Err.at (c.args.number, c.args.place) = rw c.unwrap.ensures at c.insert.ensures.items in
    let none : is_some (get c.args.self.now.places c.args.number) ≡ false =
    ap (λ (m : FinMap nat_cmp ℕ). is_some (get m c.args.number)) (sym same) ∙ none_row c.self.inside.rows.items c.args.number c.in-Err.at gap in
    let promised : 1 ≤ c.args.self.now.spare = c.requires none in
    let n : length c.insert.new.self.items ≡ length (insert c.self.inside.rows.items c.in-Err.at (c.args.number, c.args.place)) = ap length items in
    let m = length-insert c.self.inside.rows.items c.in-Err.at (c.args.number, c.args.place) gap.within in
    rw none (omega arith)

use Rattle.std.proofs.Common.{◌≡◌, ◌+◌, refl, sym, ap, ◌∙◌, subst}
use Rattle.metric_window.specs.KeptRows.{AreLast}
use Rattle.metric_window.specs.Window.{longest_window}
use Rattle.metric_window.specs.declared.row.Row.{Row}
use Rattle.metric_window.proofs.KeptLemmas.{last-more}
use Rattle.metric_window.proofs.kept_rows.Window.close_minute.Goals as goal

pub invariant_of-self : goal.invariant_of-self
invariant_of-self c =
    let row : Row = record { minute = c.self.inside.minute; flows = c.self.inside.current; gauges = c.args.gauges } in
    let capacity : c.push_back.new.self.capacity ≡ longest_window = ap (λ b. b.capacity) c.push_back.ensures.items ∙ c.self.invariant.0 in
    let items = ap (λ b. b.items) c.push_back.ensures.items in
    let last = last-more c.self.inside.minute c.self.inside.rows.items row c.self.inside.rows.capacity c.self.invariant.1 refl in
    (capacity, subst (AreLast (c.self.inside.minute + 1)) (sym items) last)

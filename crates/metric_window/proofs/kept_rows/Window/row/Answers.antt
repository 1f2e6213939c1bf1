use Rattle.std.proofs.Common.{◌≡◌, ◌+◌, ◌-◌, ◌<◌, List, length, sym, ap, ◌∙◌, arith}
use Rattle.metric_window.specs.KeptRows.{row_in}
use Rattle.metric_window.specs.declared.row.Row.{Row}
use Rattle.metric_window.proofs.KeptLemmas.{last-within, row_in-before, row_in-place}
use Rattle.metric_window.proofs.kept_rows.Window.row.Goals as goal

pub overflow_sub-first : goal.overflow_sub-first
overflow_sub-first c = omega (arith, last-within c.self.inside.minute c.self.inside.rows.items c.self.invariant.1)

pub returns-then-minute-first : goal.returns-then-minute-first
returns-then-minute-first c =
    let same : c.self.inside.rows.items ≡ c.args.self.now.rows = ap (λ w. w.rows) c.self.view_is in
    let within = last-within c.self.inside.minute c.self.inside.rows.items c.self.invariant.1 in
    let before : c.args.minute + length c.self.inside.rows.items < c.self.inside.minute = omega arith in
    sym (row_in-before c.self.inside.minute c.self.inside.rows.items c.args.minute c.self.invariant.1 before)
    ∙ ap (λ (rows : List Row). row_in rows c.args.minute) same

pub returns : goal.returns
returns c =
    let same : c.self.inside.rows.items ≡ c.args.self.now.rows = ap (λ w. w.rows) c.self.view_is in
    let within = last-within c.self.inside.minute c.self.inside.rows.items c.self.invariant.1 in
    let place : c.args.minute + length c.self.inside.rows.items ≡ c.self.inside.minute + (c.args.minute - (c.self.inside.minute - c.len.result)) = omega arith in
    c.copied.ensures ∙ c.get.ensures
    ∙ sym (row_in-place c.self.inside.minute c.self.inside.rows.items c.args.minute (c.args.minute - (c.self.inside.minute - c.len.result)) c.self.invariant.1 place)
    ∙ ap (λ (rows : List Row). row_in rows c.args.minute) same

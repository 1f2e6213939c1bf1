use Rattle.std.proofs.Common.{◌≡◌, Some, position, remove, eqb, sym, ◌∙◌, arith}
use Rattle.std.proofs.lemmas.List.Quantifiers.{position-Some}
use Rattle.queue_core.proofs.entries.NumberLemmas.{somewhere, nowhere, remove_is, without-none}
use Rattle.queue_core.proofs.applying.remove_number.Goals as goal

pub returns-in-Some-clause-found : goal.returns-in-Some-clause-found
returns-in-Some-clause-found c = sym (somewhere c.args.queue.now.items c.args.number c.in-Some.place (sym c.in-Some.ensures))

pub returns-in-Some-clause-items : goal.returns-in-Some-clause-items
returns-in-Some-clause-items c =
    let xs = c.args.queue.now.items in
    let at : position (λ n. eqb n c.args.number) xs ≡ Some c.in-Some.place = sym c.in-Some.ensures in
    let within = (position-Some (λ n. eqb n c.args.number) xs c.in-Some.place 0 at).0 in
    let out : c.remove.new.self.items ≡ remove xs c.in-Some.place = rw (c.remove.ensures.succeeds 0 (omega (arith, c.args.queue.now.ok.0))) at c.remove.ensures.items in
    out ∙ sym (remove_is xs c.args.number c.in-Some.place c.requires at)

pub returns-in-None-clause-found : goal.returns-in-None-clause-found
returns-in-None-clause-found c = sym (nowhere c.args.queue.now.items c.args.number (sym c.in-None.ensures))

pub returns-in-None-clause-items : goal.returns-in-None-clause-items
returns-in-None-clause-items c =
    sym (without-none c.args.queue.now.items c.args.number (nowhere c.args.queue.now.items c.args.number (sym c.in-None.ensures)))

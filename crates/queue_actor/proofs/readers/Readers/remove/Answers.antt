-- What is taken out stood at the first place of the uid, between those that stay.
use Rattle.std.proofs.Common.{◌+◌, ◌==◌, List, ◌∷◌, ◌++◌, sym, ap, ◌∙◌, take, drop}
use Rattle.std.proofs.lemmas.Bool.{eqb-true}
use Rattle.std.proofs.lemmas.List.{at_drop_more, take-append-drop}
use Rattle.std.proofs.lemmas.List.Quantifiers.{position-Some}
use Rattle.queue_actor.specs.declared.readers.Shown.{Shown}
use Rattle.queue_actor.proofs.readers.Readers.remove.Goals as goal

pub returns-in-Some-clause-uid : goal.returns-in-Some-clause-uid
returns-in-Some-clause-uid c =
    let found = position-Some (λ s. s.uid == c.args.uid) c.args.self.now.all.items c.in-Some.place c.remove.result (sym c.place_of.ensures ∙ c.in-Some.is) in
    ap (λ s. s.uid) c.remove.ensures.value ∙ eqb-true _ _ found.1

pub returns-in-Some-clause-some : goal.returns-in-Some-clause-some
returns-in-Some-clause-some c =
    let xs = c.args.self.now.all.items in
    let i = c.in-Some.place in
    let shown = c.remove.result in
    let found = position-Some (λ s. s.uid == c.args.uid) xs i shown (sym c.place_of.ensures ∙ c.in-Some.is) in
    let split = at_drop_more (λ (ys : List Shown). take i xs ++ ys) xs i shown found.0 in
    (take i xs, drop (i + 1) xs, sym (take-append-drop i xs) ∙ split ∙ ap (λ (s : Shown). take i xs ++ s ∷ drop (i + 1) xs) (sym c.remove.ensures.value), c.remove.ensures.by_index.2)

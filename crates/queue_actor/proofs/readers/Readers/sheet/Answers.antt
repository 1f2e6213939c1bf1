-- The first reader of the name is read, and no other.
use Rattle.std.proofs.Common.{◌≡◌, ◌∙◌, ℕ, List, Option, Some, sym, ap, subst, set}
use Rattle.std.specs.List.{find}
use Rattle.std.specs.Str.{bytes_eq}
use Rattle.std.specs.Option.{IfSome, option_map}
use Rattle.std.proofs.lemmas.List.Quantifiers.{position-Some}
use Rattle.std.proofs.lemmas.Slice.Eq.{bytes_eq-Decides}
use Rattle.queue_actor.specs.declared.readers.Shown.{Shown}
use Rattle.queue_actor.specs.Reading.{IsSheetUnder}
use Rattle.queue_actor.specs.private.Reading.{sheet_of}
use Rattle.queue_actor.proofs.ReaderLemmas.{HasOwnRecord, all_later_self, found_set, later_lent, none_found}
use Rattle.queue_actor.proofs.readers.Readers.sheet.Goals as goal

-- it is the first that has the name now
is_found : (c : goal.In_ok-read-in-Some) → find (λ (s : Shown). bytes_eq s.name c.args.name.now) (set c.args.self.now.all.items c.in-Some.place c.read.new.self) ≡ Some c.read.new.self
is_found c =
    let test = λ (s : Shown). bytes_eq s.name c.args.name.now in
    let xs = c.args.self.now.all.items in
    let shown = c.index_mut.result.now in
    let is = sym c.place_named.ensures ∙ c.in-Some.is in
    let before = ap test c.index_mut.ensures.value ∙ (position-Some test xs c.in-Some.place shown is).1 in
    found_set test xs c.in-Some.place c.read.new.self shown is (ap (λ n. bytes_eq n c.args.name.now) c.read.ensures.same.1 ∙ before)

pub returns-in_ok-read-in-Some-clause-name : goal.returns-in_ok-read-in-Some-clause-name
returns-in_ok-read-in-Some-clause-name c =
    let test = λ (s : Shown). bytes_eq s.name c.args.name.now in
    let found = position-Some test c.args.self.now.all.items c.in-Some.place c.index_mut.result.now (sym c.place_named.ensures ∙ c.in-Some.is) in
    c.in_ok-read-in-Some.ensures.name ∙ ap (λ (s : Shown). s.name) c.index_mut.ensures.value ∙ (bytes_eq-Decides _ _).0 found.1

pub returns-in_ok-read-in-Some-clause-under : goal.returns-in_ok-read-in-Some-clause-under
returns-in_ok-read-in-Some-clause-under c =
    let test = λ (s : Shown). bytes_eq s.name c.args.name.now in
    let found = position-Some test c.args.self.now.all.items c.in-Some.place c.index_mut.result.now (sym c.place_named.ensures ∙ c.in-Some.is) in
    let same = ap (λ (s : Shown). s.name) c.index_mut.ensures.value ∙ (bytes_eq-Decides _ _).0 found.1 in
    subst (λ (name : List ℕ). IsSheetUnder name c.in_ok-read-in-Some.field-0) same c.in_ok-read-in-Some.ensures.under

pub returns-in_ok-read-in-Some-clause-sheet : goal.returns-in_ok-read-in-Some-clause-sheet
returns-in_ok-read-in-Some-clause-sheet c =
    ap Some c.in_ok-read-in-Some.ensures.sheet ∙ ap (option_map (λ (s : Shown). sheet_of s.reader)) (sym (is_found c))

pub returns-in_ok-read-in-Some-clause-fits : goal.returns-in_ok-read-in-Some-clause-fits
returns-in_ok-read-in-Some-clause-fits c = subst (λ (found : Option Shown). IfSome found HasOwnRecord) (sym (is_found c)) c.read.ensures.fits

pub returns-in_ok-read-in-Some-clause-kept : goal.returns-in_ok-read-in-Some-clause-kept
returns-in_ok-read-in-Some-clause-kept c =
    let xs = c.args.self.now.all.items in
    later_lent xs xs c.in-Some.place c.read.new.self c.index_mut.result.now (all_later_self xs) c.index_mut.ensures.value (c.read.ensures.same.0, c.read.ensures.same.1, c.read.ensures.later)

pub returns-in_err-read-in-Some-clause-kept : goal.returns-in_err-read-in-Some-clause-kept
returns-in_err-read-in-Some-clause-kept c =
    let xs = c.args.self.now.all.items in
    later_lent xs xs c.in-Some.place c.read.new.self c.index_mut.result.now (all_later_self xs) c.index_mut.ensures.value (c.read.ensures.same.0, c.read.ensures.same.1, c.read.ensures.later)

pub returns-in-None-clause-sheet : goal.returns-in-None-clause-sheet
returns-in-None-clause-sheet c =
    ap (option_map (λ (s : Shown). sheet_of s.reader)) (sym (none_found (λ (s : Shown). bytes_eq s.name c.args.name.now) c.args.self.now.all.items (sym c.place_named.ensures ∙ c.in-None.is)))

pub returns-in-None-clause-fits : goal.returns-in-None-clause-fits
returns-in-None-clause-fits c =
    subst (λ (found : Option Shown). IfSome found HasOwnRecord) (sym (none_found (λ (s : Shown). bytes_eq s.name c.args.name.now) c.args.self.now.all.items (sym c.place_named.ensures ∙ c.in-None.is))) tt

pub returns-in-None-clause-kept : goal.returns-in-None-clause-kept
returns-in-None-clause-kept c = all_later_self c.args.self.now.all.items

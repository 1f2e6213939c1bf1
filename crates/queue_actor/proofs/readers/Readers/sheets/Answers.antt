-- Each turn reads the next reader, adds its sheet, and leaves the other readers as they are.
use Rattle.std.proofs.Common.{rules, ◌≡◌, ℕ, ◌<◌, List, [], ◌∷◌, ◌++◌, map, take, length, get_or, refl, sym, ap, subst, ◌∙◌, arith}
use Rattle.std.proofs.Math.Seq.{map-set_same}
use Rattle.std.proofs.lemmas.List.{take_more, take_more_set, map-append, get_or-map, length-map}
use Rattle.std.proofs.lemmas.List.Elements.{All-push, All-same}
use Rattle.board.specs.Sheet.{Sheet}
use Rattle.queue_actor.specs.declared.readers.Shown.{Shown}
use Rattle.queue_actor.specs.Reading.{IsSheetUnder}
use Rattle.queue_actor.specs.private.Reading.{sheet_of}
use Rattle.queue_actor.proofs.ReaderLemmas.{all_later_self, later_lent, records_more}
use Rattle.queue_actor.proofs.readers.Readers.sheets.Goals as goal

pub loop-place-preserved : goal.loop-place-preserved
loop-place-preserved c =
    let i = c.loop-place.place in
    let xs = c.loop-place.self.all.items in
    let shown : Shown = c.index_mut.result.now in
    let now : Shown = c.read.new.self in
    let names = map (λ (s : Shown). s.name) c.args.self.now.all.items in
    let here : shown ≡ get_or xs i shown = search rules in
    let below : i < length xs = search rules in
    let same = c.loop-place.invariant.same in
    let long : i < length names = omega (arith, below, ap length same, length-map xs (λ (s : Shown). s.name)) in
    let at : get_or names i [] ≡ shown.name = ap (λ (ns : List (List ℕ)). get_or ns i []) (sym same) ∙ get_or-map (λ (s : Shown). s.name) xs i shown [] below ∙ ap (λ (s : Shown). s.name) (sym here) in
    let sheet = c.in_ok-read.field-0 in
    let read : sheet.name ≡ shown.name = c.in_ok-read.ensures.name in
    let own = λ (s : Shown). sheet_of s.reader in
    record {
      names = ap (map (λ s. s.name)) c.in_ok-push.ensures.items ∙ map-append (λ s. s.name) c.loop-place.sheets.items (sheet ∷ [])
          ∙ ap (λ (ns : List (List ℕ)). ns ++ sheet.name ∷ []) c.loop-place.invariant.names ∙ ap (λ (n : List ℕ). take i names ++ n ∷ []) (read ∙ sym at) ∙ sym (take_more names i [] long);
      same = map-set_same (λ (s : Shown). s.name) xs i now shown (c.read.ensures.same.1 ∙ ap (λ (s : Shown). s.name) here) ∙ same;
      sheets = c.in_ok-push.ensures.items ∙ ap (λ (ss : List Sheet). ss ++ sheet ∷ []) c.loop-place.invariant.sheets ∙ ap (λ (s : Sheet). map own (take i xs) ++ s ∷ []) c.in_ok-read.ensures.sheet
          ∙ sym (map-append own (take i xs) (now ∷ [])) ∙ ap (map own) (sym (take_more_set xs i now below));
      fits = records_more xs i now below c.loop-place.invariant.fits c.read.ensures.fits;
      under = All-same (λ (s : Sheet). IsSheetUnder s.name s) c.push.new.self.items (c.loop-place.sheets.items ++ sheet ∷ []) c.in_ok-push.ensures.items
          (All-push (λ (s : Sheet). IsSheetUnder s.name s) c.loop-place.sheets.items sheet c.loop-place.invariant.under (subst (λ (n : List ℕ). IsSheetUnder n sheet) (sym read) c.in_ok-read.ensures.under));
      kept = later_lent c.args.self.now.all.items xs i now shown c.loop-place.invariant.kept here (c.read.ensures.same.0, c.read.ensures.same.1, c.read.ensures.later);
    }

pub loop-place-init : goal.loop-place-init
loop-place-init c = record {
  names = search rules;
  same = refl;
  sheets = search rules;
  under = search rules;
  fits = λ k d from below. absurd (omega (arith, below));
  kept = all_later_self c.args.self.now.all.items;
}

pub returns-in_err-sheets-clause-kept : goal.returns-in_err-sheets-clause-kept
returns-in_err-sheets-clause-kept c = all_later_self c.args.self.now.all.items

pub returns-in_err-read-clause-kept : goal.returns-in_err-read-clause-kept
returns-in_err-read-clause-kept c =
    later_lent c.args.self.now.all.items c.loop-place.self.all.items c.loop-place.place c.read.new.self c.index_mut.result.now c.loop-place.invariant.kept c.index_mut.ensures.value (c.read.ensures.same.0, c.read.ensures.same.1, c.read.ensures.later)

pub returns-in_err-push-clause-kept : goal.returns-in_err-push-clause-kept
returns-in_err-push-clause-kept c =
    later_lent c.args.self.now.all.items c.loop-place.self.all.items c.loop-place.place c.read.new.self c.index_mut.result.now c.loop-place.invariant.kept c.index_mut.ensures.value (c.read.ensures.same.0, c.read.ensures.same.1, c.read.ensures.later)

-- Readers later, one and all of a list.
use Rattle.std.proofs.Common.{◌≡◌, ℕ, suc, zero, ◌+◌, ◌<◌, ◌≤◌, List, [], ◌∷◌, ◌++◌, length, get_or, set, refl, sym, ap, ◌∙◌, subst, append_assoc, append-nil, arith, Bool, true, Some, None}
use Rattle.std.specs.List.{AllZip, AllWithin, find, position, position_or_len}
use Rattle.std.proofs.lemmas.Grind.{common_steps}
use Rattle.std.proofs.lemmas.List.Folds.{find-set, find_at}
use Rattle.std.proofs.lemmas.List.Quantifiers.{position-Some}
use Rattle.std.proofs.lemmas.Option.{slice_get_past}
use mathlib.Core.Logic.{⊎_elim}
use Rattle.std.proofs.lemmas.List.{get_or-set_same, get_or-set_other}
use Rattle.std.proofs.lemmas.Bool.{cases_lt}
use mathlib.Core.List.{IsPrefix}
use Rattle.queue_actor.specs.declared.readers.Shown.{Shown}
use Rattle.board.specs.Shown.{Reader}
use Rattle.queue_actor.specs.private.Reading.{IsLater, HasRecord}

prefix_trans : {A : Type 0} (xs ys zs : List A) → IsPrefix xs ys → IsPrefix ys zs → IsPrefix xs zs
prefix_trans xs ys zs p q = (p.0 ++ q.0, sym (append_assoc xs p.0 q.0) ∙ ap (λ l. l ++ q.0) p.1 ∙ q.1)

later_self : (reader : Reader) → IsLater reader reader
later_self reader = record { given = refl; book = refl; turns = ([], append-nil reader.turns) }

later_after : (a b c : Reader) → IsLater a b → IsLater b c → IsLater a c
later_after a b c h k = record {
  given = k.given ∙ h.given;
  book = k.book ∙ h.book;
  turns = prefix_trans a.turns b.turns c.turns h.turns k.turns;
}

-- the reader of the same queue later
abbrev pub IsShownLater : Shown → Shown → Type 0
IsShownLater before after = (after.uid ≡ before.uid) × (after.name ≡ before.name) × IsLater before.reader after.reader

abbrev pub HasOwnRecord : Shown → Type 0
HasOwnRecord shown = HasRecord shown.reader

pub all_later_self : (xs : List Shown) → AllZip IsShownLater xs xs
all_later_self [] = tt
all_later_self (x ∷ xs) = ((refl, refl, later_self x.reader), all_later_self xs)

-- one of the readers is a later one
later_set : (xs ys : List Shown) (i : ℕ) (y d : Shown) → AllZip IsShownLater xs ys → IsShownLater (get_or ys i d) y → AllZip IsShownLater xs (set ys i y)
later_set [] [] i y d h k = tt
later_set [] (z ∷ zs) i y d h k = absurd h
later_set (x ∷ xs) [] i y d h k = absurd h
later_set (x ∷ xs) (z ∷ zs) zero y d h k = ((k.0 ∙ h.0.0, k.1 ∙ h.0.1, later_after x.reader z.reader y.reader h.0.2 k.2), h.1)
later_set (x ∷ xs) (z ∷ zs) (suc i) y d h k = (h.0, later_set xs zs i y d h.1 k)

-- the reader that was lent is a later one
pub later_lent : (xs ys : List Shown) (i : ℕ) (y d : Shown) → AllZip IsShownLater xs ys → d ≡ get_or ys i d → IsShownLater d y → AllZip IsShownLater xs (set ys i y)
later_lent xs ys i y d h lent k = later_set xs ys i y d h (subst (λ s. IsShownLater s y) lent k)

-- a later reader at the first place of those that pass, which passes too, is found
pub found_set : (test : Shown → Bool) (xs : List Shown) (i : ℕ) (y d : Shown) → position test xs ≡ Some i → test y ≡ true → find test (set xs i y) ≡ Some y
found_set test xs i y d is passes =
    let first : position_or_len test xs ≡ i = grind (arith, common_steps) in
    find-set test xs i y (sym first) (position-Some test xs i d is).0 passes

pub none_found : (test : Shown → Bool) (xs : List Shown) → position test xs ≡ None → find test xs ≡ None
none_found test xs is =
    let past : length xs ≤ position_or_len test xs = grind (arith, common_steps) in
    find_at test xs ∙ slice_get_past xs (position_or_len test xs) past

-- of the first readers, one more has a record
pub records_more : (xs : List Shown) (i : ℕ) (y : Shown) → i < length xs → AllWithin HasOwnRecord xs 0 i → HasOwnRecord y → AllWithin HasOwnRecord (set xs i y) 0 (i + 1)
records_more xs i y long h new k d from below =
    ⊎_elim
    (λ lt. subst HasOwnRecord (sym (get_or-set_other xs i k y d (λ e. absurd (omega (arith, e, lt))))) (h k d from lt))
    (λ le. let same : k ≡ i = omega (arith, le, below) in subst HasOwnRecord (sym (ap (λ n. get_or (set xs i y) n d) same ∙ get_or-set_same xs i y d long)) new)
    (cases_lt k i)

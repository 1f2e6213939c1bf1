-- Entries before a time: where entries stand in the order of their times they are the first ones.
use Rattle.std.proofs.Common.{◌≡◌, ℕ, zero, suc, ◌+◌, ◌≤◌, ◌<◌, true, cond, List, [], ◌∷◌, length, take, Some, refl, sym, ap, ◌∙◌, subst, arith}
use Rattle.std.specs.Prelude.{nat_lt, filter, slice_get}
use Rattle.std.proofs.lemmas.Bool.Decides.{nat_tests}
use Rattle.std.proofs.lemmas.List.{take_more, take_all}
use Rattle.std.proofs.lemmas.List.Elements.{filter_more}
use Rattle.std.proofs.lemmas.Option.{get_or_from_slice_get}
use Rattle.message.specs.Content.{ContentText}
use Rattle.journal.specs.declared.entry.Entry.{Entry}
use Rattle.queue_core.specs.Legal.{IsOrdered}
use Rattle.queue_core.proofs.MetricLemmas.{not_before}

is_before : (at end : ℕ) → at < end → nat_lt at end ≡ true
is_before at end h = grind (arith, nat_tests)

filter-none : (from clock end : ℕ) (lines : List (Entry ContentText)) → IsOrdered from lines clock → end ≤ from → filter (λ e. nat_lt e.at end) lines ≡ []
filter-none from clock end [] h k = refl
filter-none from clock end (e ∷ es) h k = rw (not_before e.at end (omega (arith, h.0, k))) (filter-none e.at clock end es h.1 (omega (arith, h.0, k)))

-- the entries before the first that is not before a time are all that are
pub filter-ordered : (from clock end place : ℕ) (lines : List (Entry ContentText)) (e : Entry ContentText) → IsOrdered from lines clock → slice_get lines place ≡ Some e → end ≤ e.at
    → filter (λ x. nat_lt x.at end) lines ≡ filter (λ x. nat_lt x.at end) (take place lines)
filter-ordered from clock end place [] e h is late = absurd cc
filter-ordered from clock end zero (x ∷ xs) e h is late =
    let same : x ≡ e = cc in
    let x_late : end ≤ x.at = (rw same late) in
    rw (not_before x.at end x_late) (filter-none x.at clock end xs h.1 x_late)
filter-ordered from clock end (suc place) (x ∷ xs) e h is late =
    ap (λ rest. cond (nat_lt x.at end) (x ∷ rest) rest) (filter-ordered x.at clock end place xs e h.1 is late)

pub filter-first : (end place : ℕ) (lines : List (Entry ContentText)) (e : Entry ContentText) → slice_get lines place ≡ Some e → place < length lines → e.at < end
    → filter (λ x. nat_lt x.at end) (take place lines) ≡ take place lines
    → filter (λ x. nat_lt x.at end) (take (place + 1) lines) ≡ take (place + 1) lines
filter-first end place lines e is inside early h =
    rw (filter_more (λ x. nat_lt x.at end) lines place e inside, take_more lines place e inside, get_or_from_slice_get lines place e e is, is_before e.at end early, h) refl

pub filter-all : (end place count : ℕ) (lines : List (Entry ContentText)) → length lines ≤ place → count ≡ length lines
    → filter (λ x. nat_lt x.at end) (take place lines) ≡ take place lines
    → take count lines ≡ filter (λ x. nat_lt x.at end) lines
filter-all end place count lines past all h =
    take_all count lines (omega (arith, all)) ∙ sym (subst (λ (xs : List (Entry ContentText)). filter (λ x. nat_lt x.at end) xs ≡ xs) (take_all place lines past) h)

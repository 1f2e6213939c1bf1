-- The map of slots, by the number at each slot.
use Rattle.std.proofs.Common.{◌≡◌, ◌≢◌, ℕ, zero, suc, ◌+◌, ◌<◌, inl, inr, Bool, false, cond, List, [], ◌∷◌, Option, Some, None, is_some, refl, sym, ap, ◌∙◌, subst, arith}
use Rattle.std.specs.Cmp.{nat_cmp_total}
use Rattle.std.specs.FinMap.{FinMap, get, len, contains_key, get-empty, get-insert, get-remove, len-insert, nat_cmp-IsAntisymmetric, same_map}
use Rattle.std.specs.FinMap as finite
use Rattle.std.specs.Ordering.{nat_cmp}
use Rattle.std.proofs.lemmas.Bool.{cases_eq}
use Rattle.std.proofs.lemmas.Bool.Decides.{nat_tests}
use Rattle.age_index.specs.declared.node.Node.{Node}
use Rattle.age_index.specs.Nodes.{slots_with, slots_from, slots_of}
use Rattle.age_index.specs.private.Nodes.{number_in}
use Rattle.age_index.specs.Ages.{IsNumberAt, IsFirst}
use Rattle.age_index.specs.private.Links.{IsChain, IsPlace, bound_before}
use Rattle.age_index.proofs.Linking.{IsOneMore, before_at, not_none, number_cases, number_more, other_slot, some_is, taken}

-- one entry

pub get_here : (m : FinMap nat_cmp ℕ) (k v : ℕ) → get (finite.insert m k v) k ≡ Some v
get_here m k v = grind (arith, nat_tests, get-insert nat_cmp_total m k v k)

pub get_past : (m : FinMap nat_cmp ℕ) (k v q : ℕ) → q ≢ k → get (finite.insert m k v) q ≡ get m q
get_past m k v q n = grind (arith, nat_tests, get-insert nat_cmp_total m k v q)

pub get_gone : (m : FinMap nat_cmp ℕ) (k : ℕ) → get (finite.remove m k) k ≡ None
get_gone m k = grind (arith, nat_tests, get-remove nat_cmp_total m k k)

pub get_left : (m : FinMap nat_cmp ℕ) (k q : ℕ) → q ≢ k → get (finite.remove m k) q ≡ get m q
get_left m k q n = grind (arith, nat_tests, get-remove nat_cmp_total m k q)

-- the map against the nodes

abbrev pub HasDistinctNumbers : (ℕ → Option ℕ) → Type 0
HasDistinctNumbers f = (i j number : ℕ) → f i ≡ Some number → f j ≡ Some number → i ≡ j

abbrev IsAbove : List Node → ℕ → ℕ → ℕ → Type 0
IsAbove nodes number start slot = (k : ℕ) × (slot ≡ start + k) × (number_in nodes k ≡ Some number)

shifted : (node : Node) (nodes : List Node) (number start slot : ℕ) → IsAbove nodes number (start + 1) slot → IsAbove (node ∷ nodes) number start slot
shifted node nodes number start slot h = (suc h.0, omega (arith, h.1), h.2)

with_none : (slots : FinMap nat_cmp ℕ) (r : Option ℕ) (slot : ℕ) → r ≡ None → slots_with slots r slot ≡ slots
with_none slots r slot e = ap (λ (x : Option ℕ). slots_with slots x slot) e

with_some : (slots : FinMap nat_cmp ℕ) (r : Option ℕ) (slot number : ℕ) → r ≡ Some number → slots_with slots r slot ≡ finite.insert slots number slot
with_some slots r slot number e = ap (λ (x : Option ℕ). slots_with slots x slot) e

get_with : (slots : FinMap nat_cmp ℕ) (r : Option ℕ) (start number : ℕ) → r ≢ Some number → get (slots_with slots r start) number ≡ get slots number
get_with slots None start number n = refl
get_with slots (Some m) start number n = get_past slots m start number (λ e. n (ap Some (sym e)))

same_some : (a b : ℕ) → Some a ≡ Some b → a ≡ b
same_some a b e = cc

from_node : (start : ℕ) (node : Node) (rest : List Node) (slots : FinMap nat_cmp ℕ) (number slot : ℕ) → (get slots number ≡ Some slot → IsAbove rest number (start + 1) slot) → (r : Option ℕ)
    → node.number ≡ r → get (slots_with slots r start) number ≡ Some slot → IsAbove (node ∷ rest) number start slot
from_node start node rest slots number slot below None e h = shifted node rest number start slot (below h)
from_node start node rest slots number slot below (Some m) e h = elim (cases_eq m number) [
  | inl same ↦
      let here : get (finite.insert slots m start) number ≡ Some start = subst (λ (k : ℕ). get (finite.insert slots m start) k ≡ Some start) same (get_here slots m start) in
      let at : start ≡ slot = same_some start slot (sym here ∙ h) in
      (zero, omega arith, e ∙ ap Some same)
  | inr far ↦ shifted node rest number start slot (below (sym (get_past slots m start number (λ w. far (sym w))) ∙ h))
]

from_nodes : (start : ℕ) (nodes : List Node) (number slot : ℕ) → get (slots_from start nodes) number ≡ Some slot → IsAbove nodes number start slot
unfolding slots_from
from_nodes start [] number slot h = absurd (not_none (get {R = nat_cmp} finite.empty number) slot h (get-empty nat_cmp number))
from_nodes start (node ∷ rest) number slot h = from_node start node rest (slots_from (start + 1) rest) number slot (λ w. from_nodes (start + 1) rest number slot w) node.number refl h

to_nodes : (start : ℕ) (nodes : List Node) (k number : ℕ) → number_in nodes k ≡ Some number → ((j : ℕ) → j < k → number_in nodes j ≢ Some number) → get (slots_from start nodes) number ≡ Some (start + k)
unfolding slots_from
to_nodes start [] k number e first = absurd (not_none None number e refl)
to_nodes start (node ∷ rest) zero number e first =
    let at : start ≡ start + 0 = omega arith in
    ap (λ (m : FinMap nat_cmp ℕ). get m number) (with_some (slots_from (start + 1) rest) node.number start number e) ∙ get_here (slots_from (start + 1) rest) number start ∙ ap Some at
to_nodes start (node ∷ rest) (suc k) number e first =
    let at : (start + 1) + k ≡ start + suc k = omega arith in
    get_with (slots_from (start + 1) rest) node.number start number (first zero (omega arith)) ∙ to_nodes (start + 1) rest k number e (λ j h. first (suc j) (omega arith)) ∙ ap Some at

pub number_of_slot : (nodes : List Node) (number slot : ℕ) → get (slots_of nodes) number ≡ Some slot → number_in nodes slot ≡ Some number
unfolding slots_of
number_of_slot nodes number slot is =
    let h = from_nodes zero nodes number slot is in
    let at : h.0 ≡ slot = omega (arith, h.1) in
    subst (λ (k : ℕ). number_in nodes k ≡ Some number) at h.2

pub slot_of_number : (nodes : List Node) (number slot : ℕ) → HasDistinctNumbers (number_in nodes) → number_in nodes slot ≡ Some number → get (slots_of nodes) number ≡ Some slot
unfolding slots_of
slot_of_number nodes number slot one is =
    let at : zero + slot ≡ slot = omega arith in
    to_nodes zero nodes slot number is (λ j h e. let same : j ≡ slot = one j slot number e is in omega arith) ∙ ap Some at

none_unless : (r : Option ℕ) → ((v : ℕ) → r ≢ Some v) → r ≡ None
none_unless None never = refl
none_unless (Some v) never = absurd (never v refl)

pub slot_of_none : (nodes : List Node) (number : ℕ) → ((slot : ℕ) → number_in nodes slot ≢ Some number) → get (slots_of nodes) number ≡ None
slot_of_none nodes number never = none_unless (get (slots_of nodes) number) (λ v e. never v (number_of_slot nodes number v e))

pub no_slot : (nodes : List Node) (number : ℕ) → HasDistinctNumbers (number_in nodes) → get (slots_of nodes) number ≡ None → (slot : ℕ) → number_in nodes slot ≢ Some number
no_slot nodes number one none slot e = not_none (get (slots_of nodes) number) slot (slot_of_number nodes number slot one e) none

pub slots_none : slots_of [] ≡ finite.empty
unfolding slots_of slots_from
slots_none = refl

-- two maps

same_option : (r t : Option ℕ) → ((v : ℕ) → r ≡ Some v → t ≡ Some v) → ((v : ℕ) → t ≡ Some v → r ≡ Some v) → r ≡ t
same_option None None to from = refl
same_option None (Some v) to from = from v refl
same_option (Some v) t to from = sym (to v refl)

pub slots_same : (xs ys : List Node) → HasDistinctNumbers (number_in xs) → HasDistinctNumbers (number_in ys) → ((k : ℕ) → number_in ys k ≡ number_in xs k) → slots_of ys ≡ slots_of xs
slots_same xs ys one two same =
    same_map nat_cmp_total nat_cmp-IsAntisymmetric (slots_of ys) (slots_of xs) (λ q.
    same_option (get (slots_of ys) q) (get (slots_of xs) q) (λ v e. slot_of_number xs q v one (sym (same v) ∙ number_of_slot ys q v e))
    (λ v e. slot_of_number ys q v two (same v ∙ number_of_slot xs q v e)))

other_same : (xs ys : List Node) (s n q : ℕ) → HasDistinctNumbers (number_in xs) → HasDistinctNumbers (number_in ys) → IsOneMore (number_in xs) (number_in ys) s n → q ≢ n
    → get (slots_of ys) q ≡ get (slots_of xs) q
other_same xs ys s n q one two o far =
    same_option (get (slots_of ys) q) (get (slots_of xs) q) (λ v e. elim (number_cases (number_in xs) (number_in ys) s n v q o (number_of_slot ys q v e)) [
      | inl at ↦ absurd (far at.1)
      | inr old ↦ slot_of_number xs q v one old
    ])
    (λ v e. slot_of_number ys q v two (number_more (number_in xs) (number_in ys) s n v q o (number_of_slot xs q v e)))

pub less_none : (xs ys : List Node) (s n : ℕ) → HasDistinctNumbers (number_in ys) → IsOneMore (number_in xs) (number_in ys) s n → get (slots_of xs) n ≡ None
less_none xs ys s n two o =
    slot_of_none xs n (λ v e. other_slot (number_in xs) (number_in ys) s n v n o e (two v s n (number_more (number_in xs) (number_in ys) s n v n o e) o.number))

pub slots_more : (xs ys : List Node) (s n : ℕ) → HasDistinctNumbers (number_in xs) → HasDistinctNumbers (number_in ys) → IsOneMore (number_in xs) (number_in ys) s n
    → slots_of ys ≡ finite.insert (slots_of xs) n s
slots_more xs ys s n one two o = same_map nat_cmp_total nat_cmp-IsAntisymmetric (slots_of ys) (finite.insert (slots_of xs) n s) (λ q. elim (cases_eq q n) [
  | inl e ↦
      subst (λ (k : ℕ). get (slots_of ys) k ≡ get (finite.insert (slots_of xs) n s) k) (sym e) (slot_of_number ys n s two o.number ∙ sym (get_here (slots_of xs) n s))
  | inr far ↦ other_same xs ys s n q one two o far ∙ sym (get_past (slots_of xs) n s q far)
])

pub slots_less : (xs ys : List Node) (s n : ℕ) → HasDistinctNumbers (number_in xs) → HasDistinctNumbers (number_in ys) → IsOneMore (number_in xs) (number_in ys) s n
    → slots_of xs ≡ finite.remove (slots_of ys) n
slots_less xs ys s n one two o = same_map nat_cmp_total nat_cmp-IsAntisymmetric (slots_of xs) (finite.remove (slots_of ys) n) (λ q. elim (cases_eq q n) [
  | inl e ↦
      subst (λ (k : ℕ). get (slots_of xs) k ≡ get (finite.remove (slots_of ys) n) k) (sym e) (less_none xs ys s n two o ∙ sym (get_gone (slots_of ys) n))
  | inr far ↦ sym (other_same xs ys s n q one two o far) ∙ sym (get_left (slots_of ys) n q far)
])

pub len_none : (m : FinMap nat_cmp ℕ) (k v : ℕ) → get m k ≡ None → len (finite.insert m k v) ≡ len m + 1
len_none m k v none =
    let lacks : contains_key m k ≡ false = ap is_some none in
    len-insert nat_cmp_total m k v ∙ ap (λ (b : Bool). cond b (len m) (len m + 1)) lacks

pub len_more : (xs ys : List Node) (s n : ℕ) → HasDistinctNumbers (number_in xs) → HasDistinctNumbers (number_in ys) → IsOneMore (number_in xs) (number_in ys) s n
    → len (slots_of ys) ≡ len (slots_of xs) + 1
len_more xs ys s n one two o = ap (λ (m : FinMap nat_cmp ℕ). len m) (slots_more xs ys s n one two o) ∙ len_none (slots_of xs) n s (less_none xs ys s n two o)

-- what is told of the map

pub number_here : (nodes : List Node) (slot : ℕ) (r : Option ℕ) → HasDistinctNumbers (number_in nodes) → r ≡ number_in nodes slot → IsNumberAt (slots_of nodes) slot r
number_here nodes slot r one e = λ n. (λ is. e ∙ number_of_slot nodes n slot is, λ is. slot_of_number nodes n slot one (sym e ∙ is))

pub first_none : (nodes : List Node) (A B : Option ℕ → Option ℕ) → IsChain (number_in nodes) A B → A None ≡ None → IsFirst (slots_of nodes) None
first_none nodes A B c e = λ n. slot_of_none nodes n (λ s is.
    let up = (c.gap None tt).nothing s n is (omega arith) in
    let top : bound_before (number_in nodes) (A None) ≡ 18446744073709551616 = ap (λ (x : Option ℕ). bound_before (number_in nodes) x) e in
    let small = c.small s n is in
    omega arith)

first_some : (nodes : List Node) (A B : Option ℕ → Option ℕ) (s least : ℕ) → IsChain (number_in nodes) A B → A None ≡ Some s → number_in nodes s ≡ Some least → IsFirst (slots_of nodes) (Some least)
first_some nodes A B s least c e is = (
  some_is (get (slots_of nodes) least) s (slot_of_number nodes least s c.once is),
  λ n there.
      let v = taken (get (slots_of nodes) n) there in
      let up = (c.gap None tt).nothing v.0 n (number_of_slot nodes n v.0 v.1) (omega arith) in
      let low : bound_before (number_in nodes) (A None) ≡ least = ap (λ (x : Option ℕ). bound_before (number_in nodes) x) e ∙ before_at (number_in nodes) s least is in
      omega arith,
)

pub first_at : (nodes : List Node) (A B : Option ℕ → Option ℕ) (s : ℕ) (r : Option ℕ) → IsChain (number_in nodes) A B → A None ≡ Some s → r ≡ number_in nodes s → IsFirst (slots_of nodes) r
first_at nodes A B s r c e is =
    let m = taken (number_in nodes s) (subst (λ (x : Option ℕ). IsPlace (number_in nodes) x) e (c.after_place None tt)) in
    subst (λ (x : Option ℕ). IsFirst (slots_of nodes) x) (sym (is ∙ m.1)) (first_some nodes A B s m.0 c e m.1)

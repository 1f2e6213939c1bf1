-- The names under which queues are served: what the directory of names says of them once a queue was given another target, or taken out.
use Rattle.std.proofs.Common.{◌≡◌, ℕ, Bool, true, false, not, cond, List, [], ◌∷◌, ◌++◌, map, get_or, Option, Some, None, Result, Ok, Err, OnOk, OnErr, refl, sym, ap, ◌∙◌, nat_eq}
use Rattle.std.specs.Prelude.{filter, remove, is_some, option_and_then, slice_get}
use Rattle.std.specs.List.{find, list_any, position, IsDistinct}
use Rattle.std.specs.Option.{option_map}
use Rattle.std.specs.Str.{bytes_eq}
use Rattle.std.proofs.lemmas.Bool.{or_parts}
use Rattle.std.proofs.lemmas.List.{map-append, set-get_or}
use Rattle.std.proofs.lemmas.List.Quantifiers.{position-Some}
use Rattle.std.proofs.lemmas.Option.{none-some}
use Rattle.message.specs.declared.fault.Fault.{Fault}
use Rattle.redrive.specs.Catalog.{NameDirectory, uid_of_name, with_registered, with_target, without_uid, retargeted}
use Rattle.redrive.specs.declared.catalog.Registered.{Registered}
use Rattle.redrive.proofs.KeyedLemmas.{find-map, found-there, map-remove, remove-present}

-- ---- another target

retargeted-keeps : {K : Type 0} (key : Registered → K) (b : Bool) (q next : Registered) → key next ≡ key q → key (cond b next q) ≡ key q
retargeted-keeps key true q next h = h
retargeted-keeps key false q next h = refl

module _ (d : NameDirectory) (uid target : ℕ) where
  uid-kept : (o : Option Registered) → option_map (λ (q : Registered). q.uid) (option_map (λ q. retargeted uid target q) o) ≡ option_map (λ (q : Registered). q.uid) o
  uid-kept None = refl
  uid-kept (Some q) = ap Some (retargeted-keeps (λ (q : Registered). q.uid) (nat_eq q.uid uid) q (record q { target = target }) refl)

  name-kept : (name : List ℕ) (q : Registered) → bytes_eq (retargeted uid target q).name name ≡ bytes_eq q.name name
  name-kept name q = ap (λ (n : List ℕ). bytes_eq n name) (retargeted-keeps (λ (q : Registered). q.name) (nat_eq q.uid uid) q (record q { target = target }) refl)

  -- it changes no name's uid
  pub uid-retargeted : (name : List ℕ) → uid_of_name (with_target d uid target) name ≡ uid_of_name d name
  uid-retargeted name =
      ap (option_map (λ (q : Registered). q.uid)) (find-map (λ (q : Registered). bytes_eq q.name name) (λ q. retargeted uid target q) (name-kept name) d.queues)
      ∙ uid-kept (find (λ q. bytes_eq q.name name) d.queues)

  pub uids-retargeted : (names : List (List ℕ)) → map (λ name. uid_of_name (with_target d uid target) name) names ≡ map (λ name. uid_of_name d name) names
  uids-retargeted [] = refl
  uids-retargeted (name ∷ names) = rw (uid-retargeted name, uids-retargeted names) refl

-- ---- one taken out

find-by : {X : Type 0} (p : X → Bool) (x y : X) (xs : List X) (b stays : Bool) (o : Option X) → p x ≡ b → (x ≡ y → stays ≡ true) → cond b (Some x) o ≡ Some y
    → (o ≡ Some y → find p xs ≡ Some y) → find p (cond stays (x ∷ xs) xs) ≡ Some y
find-by p x y xs true true o e keeps is next = rw e is
find-by p x y xs true false o e keeps is next = absurd (let same : x ≡ y = cc in let no : false ≡ true = keeps same in cc)
find-by p x y xs false true o e keeps is next = rw e (next is)
find-by p x y xs false false o e keeps is next = next is

module _ {X : Type 0} (p stays : X → Bool) where
  -- what is found and stays is found among those that stay
  find-staying : (xs : List X) (y : X) → find p xs ≡ Some y → stays y ≡ true → find p (filter stays xs) ≡ Some y
  find-staying [] y is keeps = absurd (none-some y is)
  find-staying (x ∷ xs) y is keeps =
      find-by p x y (filter stays xs) (p x) (stays x) (find p xs) refl (λ same. ap stays same ∙ keeps) is (λ e. find-staying xs y e keeps)

-- what a uid was read of
read-of : (o : Option Registered) (own : ℕ) → option_map (λ (q : Registered). q.uid) o ≡ Some own
    → (q : Registered) × (o ≡ Some q) × (q.uid ≡ own)
read-of None own is = absurd cc
read-of (Some q) own is = (q, refl, cc)

module _ (d : NameDirectory) (uid : ℕ) where
  -- a name of another uid keeps it
  pub uid-without : (name : List ℕ) (own : ℕ) → uid_of_name d name ≡ Some own → nat_eq own uid ≡ false → uid_of_name (without_uid d uid) name ≡ Some own
  uid-without name own is other =
      let found = read-of (find (λ q. bytes_eq q.name name) d.queues) own is in
      let stays : not (nat_eq found.0.uid uid) ≡ true = ap (λ (u : ℕ). not (nat_eq u uid)) found.2 ∙ ap not other in
      ap (option_map (λ (q : Registered). q.uid)) (find-staying (λ (q : Registered). bytes_eq q.name name) (λ q. not (nat_eq q.uid uid)) d.queues found.0 found.1 stays)
      ∙ ap Some found.2

  -- nor is any other name's uid changed
  pub uids-without : (names : List (List ℕ)) (uids : List ℕ) → map (λ name. uid_of_name d name) names ≡ map (λ u. Some u) uids → list_any (λ u. nat_eq u uid) uids ≡ false
      → map (λ name. uid_of_name (without_uid d uid) name) names ≡ map (λ u. Some u) uids
  uids-without [] [] same none = refl
  uids-without [] (u ∷ us) same none = absurd cc
  uids-without (name ∷ names) [] same none = absurd cc
  uids-without (name ∷ names) (u ∷ us) same none =
      let own : uid_of_name d name ≡ Some u = cc in
      let rest : map (λ name. uid_of_name d name) names ≡ map (λ u. Some u) us = cc in
      let parts = or_parts (nat_eq u uid) (list_any (λ u. nat_eq u uid) us) none in
      rw (uid-without name u own parts.0, uids-without names us rest parts.1) refl

-- ---- one entered

-- what is found is found where one more stands behind
find-before : {X : Type 0} (p : X → Bool) (xs : List X) (x y : X) → find p xs ≡ Some x → find p (xs ++ y ∷ []) ≡ Some x
find-before p [] x y is = absurd (none-some x is)
find-before p (z ∷ zs) x y is = by (p z) (find-before p zs x y) is
  where
    by : (b : Bool) → (find p zs ≡ Some x → find p (zs ++ y ∷ []) ≡ Some x) → cond b (Some z) (find p zs) ≡ Some x → cond b (Some z) (find p (zs ++ y ∷ [])) ≡ Some x
    by true next is = is
    by false next is = next is

module _ (d : NameDirectory) (entered : List ℕ) where
  uid-entered : (name : List ℕ) (own : ℕ) → uid_of_name d name ≡ Some own → uid_of_name (with_registered d entered 0) name ≡ Some own
  uid-entered name own is =
      let found = read-of (find (λ q. bytes_eq q.name name) d.queues) own is in
      ap (option_map (λ (q : Registered). q.uid)) (find-before (λ (q : Registered). bytes_eq q.name name) d.queues found.0 (record { name = entered; uid = d.next_uid; target = 0 }) found.1)
      ∙ ap Some found.2

  uids-entered : (names : List (List ℕ)) (uids : List ℕ) → map (λ name. uid_of_name d name) names ≡ map (λ u. Some u) uids
      → map (λ name. uid_of_name (with_registered d entered 0) name) names ≡ map (λ u. Some u) uids
  uids-entered [] [] same = refl
  uids-entered [] (u ∷ us) same = absurd cc
  uids-entered (name ∷ names) [] same = absurd cc
  uids-entered (name ∷ names) (u ∷ us) same =
      let own : uid_of_name d name ≡ Some u = cc in
      let rest : map (λ name. uid_of_name d name) names ≡ map (λ u. Some u) us = cc in
      rw (uid-entered name u own, uids-entered names us rest) refl

  -- no name's uid changes, whether it was entered or refused
  pub uids-answered : (now : NameDirectory) (answer : Result ℕ Fault) (names : List (List ℕ)) (uids : List ℕ) → map (λ name. uid_of_name d name) names ≡ map (λ u. Some u) uids
      → OnOk answer (now ≡ with_registered d entered 0) → OnErr answer (now ≡ d)
      → map (λ name. uid_of_name now name) names ≡ map (λ u. Some u) uids
  uids-answered now (Ok uid) names uids same ok err = ap (λ (d : NameDirectory). map (λ name. uid_of_name d name) names) ok ∙ uids-entered names uids same
  uids-answered now (Err fault) names uids same ok err = ap (λ (d : NameDirectory). map (λ name. uid_of_name d name) names) err ∙ same

-- ---- one more

module _ (d : NameDirectory) where
  pub uids-more : (uid target : ℕ) (names : List (List ℕ)) (uids : List ℕ) (name : List ℕ) (own : ℕ) → map (λ name. uid_of_name d name) names ≡ map (λ u. Some u) uids → uid_of_name d name ≡ Some own
      → map (λ name. uid_of_name (with_target d uid target) name) (names ++ name ∷ []) ≡ map (λ u. Some u) (uids ++ own ∷ [])
  uids-more uid target names uids name own same is =
      map-append (λ name. uid_of_name (with_target d uid target) name) names (name ∷ [])
      ∙ ap (λ (us : List (Option ℕ)). us ++ uid_of_name (with_target d uid target) name ∷ []) (uids-retargeted d uid target names ∙ same)
      ∙ ap (λ (u : Option ℕ). map (λ u. Some u) uids ++ u ∷ []) (uid-retargeted d uid target name ∙ is)
      ∙ sym (map-append (λ u. Some u) uids (own ∷ []))

-- ---- lists side by side, each without the element at a place

pub removed-beside : {X Y Z : Type 0} (f : X → Z) (g : Y → Z) (xs : List X) (ys : List Y) (i : ℕ) → map f xs ≡ map g ys → map f (remove xs i) ≡ map g (remove ys i)
removed-beside f g xs ys i same = map-remove f xs i ∙ ap (λ zs. remove zs i) same ∙ sym (map-remove g ys i)

-- what stands at the place of a uid taken out of a list in which no uid stands twice
pub left-out : {X : Type 0} (uid_of : X → ℕ) (uid : ℕ) (xs : List X) (place : ℕ) (d : X) → IsDistinct nat_eq (map uid_of xs) → position (λ x. nat_eq (uid_of x) uid) xs ≡ Some place
    → remove xs place ≡ filter (λ x. not (nat_eq (uid_of x) uid)) xs
left-out uid_of uid xs place d once h =
    let p = position-Some (λ x. nat_eq (uid_of x) uid) xs place d h in
    ap (λ all. remove all place) (sym (set-get_or xs place d)) ∙ remove-present uid_of uid xs place d (get_or xs place d) once p.0 p.1

-- where a test finds no place, it finds nothing
pub none-found : {X : Type 0} (p : X → Bool) (xs : List X) → is_some (position p xs) ≡ false → find p xs ≡ None
none-found p xs none = sym (found-there p xs) ∙ ap (option_and_then (λ i. slice_get xs i)) (none-there (position p xs) none)
  where
    none-there : {X : Type 0} (o : Option X) → is_some o ≡ false → o ≡ None
    none-there None h = refl
    none-there (Some x) h = absurd cc

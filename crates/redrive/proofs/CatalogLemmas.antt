-- What is true of every name directory stays true as queues are added, changed and taken out.
use Rattle.std.proofs.Common.{◌≡◌, ℕ, ◌+◌, ◌<◌, ◌≤◌, Bool, true, false, not, cond, List, [], ◌∷◌, ◌++◌, length, get_or, set, map, Option, Some, None, refl, sym, ap, subst, ◌∙◌, arith}
use Rattle.std.specs.Prelude.{nat_eq, remove, is_some}
use Rattle.std.specs.List.{find, list_any, position, IsDistinct}
use Rattle.std.specs.Option.{option_map}
use Rattle.std.specs.Str.{bytes_eq}
use Rattle.std.proofs.lemmas.List.{map-append, length-append, length-map, set-get_or}
use Rattle.std.proofs.lemmas.List.Filters.{length-filter_both}
use Rattle.std.proofs.lemmas.List.Elements.{All-nil, All-filter, All-push, All-map, All-weaker}
use Rattle.std.proofs.lemmas.List.Quantifiers.{position-Some}
use Rattle.redrive.specs.Keys.{KeyLists}
use Rattle.redrive.specs.Catalog.{NameDirectory, is_directory_full, empty_directory, name_of, uid_of_name, has_uid, without_uid, retargeted, with_target, IsDirectory}
use Rattle.redrive.specs.private.Catalog.{IsKeptDirectory}
use Rattle.redrive.specs.declared.catalog.Registered.{Registered}
use Rattle.redrive.proofs.KeyedLemmas.{absent-by, map-remove, places_left, IsDistinct-push, IsDistinct-filter, map-key, find-unused, filter-absent, find-position, find-no_position, map-absent, map-present, remove-present}

abbrev uid_of : Registered → ℕ
uid_of q = q.uid

pub IsDirectory-empty : IsDirectory empty_directory
unfolding IsDistinct
IsDirectory-empty = record { count = omega arith; names = tt; uids = tt; used = All-nil _; first = All-nil _; begun = omega arith; last = omega arith }

pub IsKept-empty : (k : KeyLists) → k.uids ≡ [] → k.names ≡ [] → IsKeptDirectory empty_directory k
IsKept-empty k uids names = record { directory = IsDirectory-empty; uids = uids; names = names }

pub no_uid : (o : Option Registered) → option_map (λ (q : Registered). q.uid) o ≡ None → o ≡ None
no_uid None h = refl
no_uid (Some q) h = absurd cc

pub IsDirectory-added : (d : NameDirectory) (name : List ℕ) (target : ℕ) (queues : List Registered) → IsDirectory d → uid_of_name d name ≡ None → is_directory_full d ≡ false
    → queues ≡ d.queues ++ record { name = name; uid = d.next_uid; target = target } ∷ [] → IsDirectory (record { next_uid = d.next_uid + 1; queues = queues })
IsDirectory-added d name target queues h none full is =
    let q : Registered = record { name = name; uid = d.next_uid; target = target } in
    let begun = h.begun in
    let left = places_left (length d.queues) d.next_uid full in
    let few = left.0 in
    let below = left.1 in
    rw is (record {
      count = omega (arith, length-append d.queues (q ∷ []));
      names = IsDistinct-push bytes_eq name_of d.queues q h.names (no_uid (find (λ x. bytes_eq x.name name) d.queues) none);
      uids = IsDistinct-push nat_eq uid_of d.queues q h.uids (find-unused uid_of d.next_uid d.queues h.used);
      used = All-push (λ x. x.uid < d.next_uid + 1) d.queues q (All-weaker (λ x. x.uid < d.next_uid) (λ x. x.uid < d.next_uid + 1) (λ x l. omega arith) d.queues h.used) (omega arith);
      first = All-push (λ x. 1 ≤ x.uid) d.queues q h.first (omega arith);
      begun = omega arith;
      last = omega arith;
    })

-- ---- a queue taken out, or changed

-- some queue, read only past the end of a list
some_queue : Registered
some_queue = record { name = []; uid = 0; target = 0 }

pub has-present : (d : NameDirectory) (uid place : ℕ) → position (λ q. nat_eq q.uid uid) d.queues ≡ Some place → has_uid d uid ≡ true
has-present d uid place h = ap is_some (find-position uid_of uid d.queues place some_queue h)

pub has-absent : (d : NameDirectory) (uid : ℕ) → position (λ q. nat_eq q.uid uid) d.queues ≡ None → has_uid d uid ≡ false
has-absent d uid h = ap is_some (find-no_position uid_of uid d.queues h)

pub without-absent : (d : NameDirectory) (uid : ℕ) → position (λ q. nat_eq q.uid uid) d.queues ≡ None → without_uid d uid ≡ d
without-absent d uid h = ap (λ (queues : List Registered). record d { queues = queues }) (filter-absent uid_of uid d.queues (find-no_position uid_of uid d.queues h))

pub without-present : (d : NameDirectory) (uid place : ℕ) (queues : List Registered) → IsDirectory d → position (λ q. nat_eq q.uid uid) d.queues ≡ Some place → queues ≡ remove d.queues place
    → record d { queues = queues } ≡ without_uid d uid
without-present d uid place queues r h is =
    let p = position-Some (λ (q : Registered). nat_eq q.uid uid) d.queues place some_queue h in
    ap (λ (queues : List Registered). record d { queues = queues })
    (is ∙ ap (λ (all : List Registered). remove all place) (sym (set-get_or d.queues place some_queue))
    ∙ remove-present uid_of uid d.queues place some_queue (get_or d.queues place some_queue) r.uids p.0 p.1)

pub IsDirectory-without : (d : NameDirectory) (uid : ℕ) → IsDirectory d → IsDirectory (without_uid d uid)
IsDirectory-without d uid h =
    let stays : Registered → Bool = λ q. not (nat_eq q.uid uid) in
    record {
      count = let all = h.count in omega (arith, length-filter_both stays (λ q. not (stays q)) (λ q. refl) d.queues);
      names = IsDistinct-filter bytes_eq name_of stays d.queues h.names;
      uids = IsDistinct-filter nat_eq uid_of stays d.queues h.uids;
      used = All-filter stays (λ q. q.uid < d.next_uid) d.queues h.used;
      first = All-filter stays (λ q. 1 ≤ q.uid) d.queues h.first;
      begun = h.begun;
      last = h.last;
    }

pub with_target-absent : (d : NameDirectory) (uid target : ℕ) → position (λ q. nat_eq q.uid uid) d.queues ≡ None → with_target d uid target ≡ d
with_target-absent d uid target h =
    ap (λ (queues : List Registered). record d { queues = queues }) (map-absent uid_of uid (λ q. record q { target = target }) d.queues (find-no_position uid_of uid d.queues h))

pub with_target-present : (d : NameDirectory) (uid target place : ℕ) (old : Registered) → IsDirectory d → position (λ q. nat_eq q.uid uid) d.queues ≡ Some place → old ≡ get_or d.queues place old
    → record d { queues = set d.queues place (record old { target = target }) } ≡ with_target d uid target
with_target-present d uid target place old r h e =
    let p = position-Some (λ (q : Registered). nat_eq q.uid uid) d.queues place old h in
    ap (λ (queues : List Registered). record d { queues = queues })
    (ap (λ (q : Registered). set d.queues place (record q { target = target })) e
    ∙ map-present uid_of uid (λ q. record q { target = target }) d.queues place old r.uids p.0 p.1)

retargeted-keeps : {K : Type 0} (key : Registered → K) (b : Bool) (q next : Registered) → key next ≡ key q → key (cond b next q) ≡ key q
retargeted-keeps key true q next h = h
retargeted-keeps key false q next h = refl

pub IsDirectory-with_target : (d : NameDirectory) (uid target : ℕ) → IsDirectory d → IsDirectory (with_target d uid target)
IsDirectory-with_target d uid target h =
    let next : Registered → Registered = λ q. retargeted uid target q in
    let same_uid : (q : Registered) → (next q).uid ≡ q.uid = λ q. retargeted-keeps uid_of (nat_eq q.uid uid) q (record q { target = target }) refl in
    let same_name : (q : Registered) → (next q).name ≡ q.name = λ q. retargeted-keeps name_of (nat_eq q.uid uid) q (record q { target = target }) refl in
    record {
      count = rw (length-map d.queues next) h.count;
      names = subst (λ names. IsDistinct bytes_eq names) (sym (map-key bytes_eq name_of next same_name d.queues)) h.names;
      uids = subst (λ uids. IsDistinct nat_eq uids) (sym (map-key nat_eq uid_of next same_uid d.queues)) h.uids;
      used = All-map (λ q. q.uid < d.next_uid) next d.queues (All-weaker (λ q. q.uid < d.next_uid) (λ q. (next q).uid < d.next_uid) (λ q l. rw (same_uid q) l) d.queues h.used);
      first = All-map (λ q. 1 ≤ q.uid) next d.queues (All-weaker (λ q. 1 ≤ q.uid) (λ q. 1 ≤ (next q).uid) (λ q l. rw (same_uid q) l) d.queues h.first);
      begun = h.begun;
      last = h.last;
    }

-- ---- the keys that are kept beside the queues

-- a uid that no queue has had is not among them
pub unused : (d : NameDirectory) (k l : KeyLists) → IsKeptDirectory d k → l.uids ≡ k.uids → list_any (λ u. nat_eq u d.next_uid) l.uids ≡ false
unused d k l h uids = absent-by uid_of (λ u. nat_eq u d.next_uid) l.uids d.queues (uids ∙ h.uids) (find-unused uid_of d.next_uid d.queues h.directory.used)

-- nor is a name that finds no queue
pub unnamed : (d : NameDirectory) (k l : KeyLists) (name : List ℕ) → IsKeptDirectory d k → l.names ≡ k.names → uid_of_name d name ≡ None → list_any (λ n. bytes_eq n name) l.names ≡ false
unnamed d k l name h names none = absent-by name_of (λ n. bytes_eq n name) l.names d.queues (names ∙ h.names) (no_uid (find (λ x. bytes_eq x.name name) d.queues) none)

pub IsKept-added : (d : NameDirectory) (k room l : KeyLists) (name : List ℕ) (target : ℕ) (queues : List Registered) → IsKeptDirectory d k → uid_of_name d name ≡ None → is_directory_full d ≡ false
    → queues ≡ d.queues ++ record { name = name; uid = d.next_uid; target = target } ∷ [] → room.uids ≡ k.uids → room.names ≡ k.names
    → l.uids ≡ room.uids ++ d.next_uid ∷ [] → l.names ≡ room.names ++ name ∷ [] → IsKeptDirectory (record { next_uid = d.next_uid + 1; queues = queues }) l
IsKept-added d k room l name target queues h none full is room_uids room_names uids names =
    let q : Registered = record { name = name; uid = d.next_uid; target = target } in
    record {
      directory = IsDirectory-added d name target queues h.directory none full is;
      uids = uids ∙ ap (λ (us : List ℕ). us ++ d.next_uid ∷ []) (room_uids ∙ h.uids) ∙ sym (map-append uid_of d.queues (q ∷ [])) ∙ ap (map uid_of) (sym is);
      names = names ∙ ap (λ (ns : List (List ℕ)). ns ++ name ∷ []) (room_names ∙ h.names) ∙ sym (map-append name_of d.queues (q ∷ [])) ∙ ap (map name_of) (sym is);
    }

pub IsKept-removed : (d : NameDirectory) (k l : KeyLists) (uid place : ℕ) (queues : List Registered) → IsKeptDirectory d k → position (λ q. nat_eq q.uid uid) d.queues ≡ Some place
    → queues ≡ remove d.queues place → l.uids ≡ remove k.uids place → l.names ≡ remove k.names place → IsKeptDirectory (record d { queues = queues }) l
IsKept-removed d k l uid place queues h here is uids names = record {
  directory = subst (λ (d : NameDirectory). IsDirectory d) (sym (without-present d uid place queues h.directory here is)) (IsDirectory-without d uid h.directory);
  uids = uids ∙ ap (λ (us : List ℕ). remove us place) h.uids ∙ sym (map-remove uid_of d.queues place) ∙ ap (map uid_of) (sym is);
  names = names ∙ ap (λ (ns : List (List ℕ)). remove ns place) h.names ∙ sym (map-remove name_of d.queues place) ∙ ap (map name_of) (sym is);
}

pub IsKept-with_target : (d : NameDirectory) (k : KeyLists) (uid target : ℕ) → IsKeptDirectory d k → IsKeptDirectory (with_target d uid target) k
IsKept-with_target d k uid target h =
    let next : Registered → Registered = λ q. retargeted uid target q in
    record {
      directory = IsDirectory-with_target d uid target h.directory;
      uids = h.uids ∙ sym (map-key nat_eq uid_of next (λ q. retargeted-keeps uid_of (nat_eq q.uid uid) q (record q { target = target }) refl) d.queues);
      names = h.names ∙ sym (map-key bytes_eq name_of next (λ q. retargeted-keeps name_of (nat_eq q.uid uid) q (record q { target = target }) refl) d.queues);
    }

-- What a request is answered follows from the statistics that it asks for.
use Rattle.std.proofs.lemmas.Slice.Eq.{bytes_eq-Decides}
use Rattle.std.specs.Bool.{Decides}
use Rattle.metric_window.specs.Flows.{no_flows}
use Rattle.std.proofs.Common.{◌≡◌, ◌≢◌, ℕ, Bool, true, false, cond, ◌||◌, List, [], ◌∷◌, Option, Some, None, option_map, option_and_then, codes, bytes_eq, find, option_to_list, refl, sym, ap, ◌∙◌}
use Rattle.board.specs.Sheet.{Sheet}
use Rattle.statistics_api.specs.declared.routes.Route.{Route}
use Rattle.statistics_api.specs.declared.routes.Route.TheVariants.{Queues, Queue, Rows, Alarms}
use Rattle.statistics_api.specs.Answer.{StatusText, sheet_named, of_queue, told, if_allowed, answer_of, not_found, method_not_allowed}
use Rattle.statistics_api.specs.Response.{TypedText, as_json, page, health, metrics, if_get, if_read, is_constant, response_of}
use Rattle.statistics_api.specs.Asked.{is_of_all, TellsOfQueues}
use Rattle.statistics_api.specs.Routes.{after, until_slash, from_slash, queue_route, queue_target, target_of}

-- the first that is found is found again
again-if : {X : Type 0} (p : X → Bool) (x : X) (xs : List X) (b : Bool) → p x ≡ b → find p (option_to_list (find p xs)) ≡ find p xs
    → find p (option_to_list (cond b (Some x) (find p xs))) ≡ cond b (Some x) (find p xs)
again-if p x xs true is rest = ap (λ (b : Bool). cond b (Some x) None) is
again-if p x xs false is rest = rest

again : {X : Type 0} (p : X → Bool) (xs : List X) → find p (option_to_list (find p xs)) ≡ find p xs
again p [] = refl
again p (x ∷ xs) = again-if p x xs (p x) refl (again p xs)

told_again : (route : Route) (name : List ℕ) (sheets : List Sheet) → route ≢ Queues → told route name (option_to_list (sheet_named name sheets)) ≡ told route name sheets
told_again Queues name sheets other = absurd (other refl)
told_again Queue name sheets other = ap (of_queue Queue) (again (λ s. bytes_eq s.name name) sheets)
told_again Rows name sheets other = ap (of_queue Rows) (again (λ s. bytes_eq s.name name) sheets)
told_again Alarms name sheets other = ap (of_queue Alarms) (again (λ s. bytes_eq s.name name) sheets)

-- at each path but that of the metrics the answer alone depends on queues
by_answer-if : (root well all : Bool) (p h m n : TypedText) (a b : StatusText) → all ≡ false → a ≡ b
    → cond root p (cond well h (cond all m (as_json a))) ≡ cond root p (cond well h (cond all n (as_json b)))
by_answer-if true well all p h m n a b none same = refl
by_answer-if false true all p h m n a b none same = refl
by_answer-if false false false p h m n a b none same = ap as_json same
by_answer-if false false true p h m n a b none same = absurd cc

by_answer : (method path : List ℕ) (xs ys : List Sheet) (own : List ℕ) → bytes_eq path (codes "/metrics") ≡ false → answer_of method path xs ≡ answer_of method path ys
    → response_of method path xs own ≡ response_of method path ys own
by_answer method path xs ys own other same =
    by_answer-if (bytes_eq path (codes "/")) (bytes_eq path (codes "/health")) (bytes_eq path (codes "/metrics")) (if_read method page) (if_read method health)
    (if_get method (metrics xs own)) (if_get method (metrics ys own)) (answer_of method path xs) (answer_of method path ys) other same

-- a path of a queue
pub enough_named : (method path name : List ℕ) (route : Route) (sheets : List Sheet) (own : List ℕ) → bytes_eq path (codes "/metrics") ≡ false → Some (route, name) ≡ target_of path → route ≢ Queues
    → response_of method path sheets own ≡ response_of method path (option_to_list (sheet_named name sheets)) own
enough_named method path name route sheets own other is one =
    let there : (xs : List Sheet) → answer_of method path xs ≡ if_allowed method (Some (route, name)) xs = λ xs. ap (λ o. if_allowed method o xs) (sym is) in
    let same : if_allowed method (Some (route, name)) sheets ≡ if_allowed method (Some (route, name)) (option_to_list (sheet_named name sheets)) =
    ap (λ (a : StatusText). cond (bytes_eq method (codes "GET")) a method_not_allowed) (sym (told_again route name sheets one)) in
    by_answer method path sheets (option_to_list (sheet_named name sheets)) own other (there sheets ∙ same ∙ sym (there (option_to_list (sheet_named name sheets))))

-- a path that is none
pub enough_none : (method path : List ℕ) (sheets : List Sheet) (own : List ℕ) → bytes_eq path (codes "/metrics") ≡ false → None ≡ target_of path
    → response_of method path sheets own ≡ response_of method path [] own
enough_none method path sheets own other is =
    let there : (xs : List Sheet) → answer_of method path xs ≡ not_found = λ xs. ap (λ o. if_allowed method o xs) (sym is) in
    by_answer method path sheets [] own other (there sheets ∙ sym (there []))

-- another method
get_refused : (method : List ℕ) (told : TypedText) → bytes_eq method (codes "GET") ≡ false → if_get method told ≡ as_json method_not_allowed
get_refused method told other = ap (λ (b : Bool). cond b told (as_json method_not_allowed)) other

allowed_refused : (method : List ℕ) (o : Option (Route × List ℕ)) (xs ys : List Sheet) → bytes_eq method (codes "GET") ≡ false → if_allowed method o xs ≡ if_allowed method o ys
allowed_refused method None xs ys other = refl
allowed_refused method (Some t) xs ys other =
    ap (λ (b : Bool). cond b (told t.0 t.1 xs) method_not_allowed) other ∙ sym (ap (λ (b : Bool). cond b (told t.0 t.1 ys) method_not_allowed) other)

both-if : (root well all : Bool) (p h m n : TypedText) (a b : StatusText) → m ≡ n → a ≡ b
    → cond root p (cond well h (cond all m (as_json a))) ≡ cond root p (cond well h (cond all n (as_json b)))
both-if true well all p h m n a b first second = refl
both-if false true all p h m n a b first second = refl
both-if false false true p h m n a b first second = first
both-if false false false p h m n a b first second = ap as_json second

pub enough_refused : (method path : List ℕ) (sheets : List Sheet) (own : List ℕ) → bytes_eq method (codes "GET") ≡ false
    → response_of method path sheets own ≡ response_of method path [] own
enough_refused method path sheets own other =
    both-if (bytes_eq path (codes "/")) (bytes_eq path (codes "/health")) (bytes_eq path (codes "/metrics")) (if_read method page) (if_read method health)
    (if_get method (metrics sheets own)) (if_get method (metrics [] own)) (answer_of method path sheets) (answer_of method path [])
    (get_refused method (metrics sheets own) other ∙ sym (get_refused method (metrics [] own) other)) (allowed_refused method (target_of path) sheets [] other)

-- ---- where numbers of queues are told

-- a queue of a name, in which nothing has happened
abbrev some_sheet : List ℕ → Sheet
some_sheet name = record {
  name = name;
  lines = 0;
  clock = 0;
  gauges = record { visible = 0; delayed = 0; in_flight = 0; age = 0 };
  current = no_flows;
  rows = [];
  alarms = [];
}

found_so : (route : Route) (name : List ℕ) (b : Bool) → b ≡ true → (of_queue route (cond b (Some (some_sheet name)) None)).0 ≡ 200
found_so route name true is = refl
found_so route name false is = absurd cc

-- what is told of it
told_of : (route : Route) (name : List ℕ) → (told route name (some_sheet name ∷ [])).0 ≡ 200
told_of Queues name = refl
told_of Queue name = found_so Queue name (bytes_eq name name) ((bytes_eq-Decides name name).1 refl)
told_of Rows name = found_so Rows name (bytes_eq name name) ((bytes_eq-Decides name name).1 refl)
told_of Alarms name = found_so Alarms name (bytes_eq name name) ((bytes_eq-Decides name name).1 refl)

-- at a path that is none of a constant and of the metrics
status_by_answer : (root well all : Bool) (p h m : TypedText) (answer : StatusText) → (root || well) ≡ false → all ≡ false → answer.0 ≡ 200
    → (cond root p (cond well h (cond all m (as_json answer)))).0 ≡ 200
status_by_answer false false false p h m answer constant none is = is
status_by_answer true well all p h m answer constant none is = absurd cc
status_by_answer false true all p h m answer constant none is = absurd cc
status_by_answer false false true p h m answer constant none is = absurd cc

neither : (root well : Bool) → root ≡ false → well ≡ false → (root || well) ≡ false
neither false false first second = refl
neither true well first second = absurd cc
neither false true first second = absurd cc

not_so : {P : Type 0} (b : Bool) → Decides b P → (P → ⊥) → b ≡ false
not_so true decides never = absurd (never (decides.0 refl))
not_so false decides never = refl

some_is_none : {X : Type 0} (x : X) → Some x ≡ None → ⊥
some_is_none x e = absurd cc

-- the path of the metrics
pub of_metrics : (method path : List ℕ) → bytes_eq method (codes "GET") ≡ true → bytes_eq path (codes "/metrics") ≡ true → TellsOfQueues method path
of_metrics method path get all =
    let is : path ≡ codes "/metrics" = (bytes_eq-Decides path (codes "/metrics")).0 all in (
      [],
      [],
      ap (λ (p : List ℕ). (response_of method p [] []).0) is ∙ ap (λ (b : Bool). (cond b (metrics [] []) (as_json method_not_allowed)).0) get,
      ap is_constant is,
    )

-- a path of queues
pub of_named : (method path name : List ℕ) (route : Route) → bytes_eq method (codes "GET") ≡ true → bytes_eq path (codes "/metrics") ≡ false → Some (route, name) ≡ target_of path
    → TellsOfQueues method path
of_named method path name route get other is =
    let no_page = not_so (bytes_eq path (codes "/")) (bytes_eq-Decides path (codes "/")) (λ at. some_is_none (route, name) (is ∙ ap target_of at)) in
    let no_health = not_so (bytes_eq path (codes "/health")) (bytes_eq-Decides path (codes "/health")) (λ at. some_is_none (route, name) (is ∙ ap target_of at)) in
    let other_path : is_constant path ≡ false = neither (bytes_eq path (codes "/")) (bytes_eq path (codes "/health")) no_page no_health in
    let sheets = some_sheet name ∷ [] in
    let answered : (answer_of method path sheets).0 ≡ 200 =
    ap (λ (o : Option (Route × List ℕ)). (if_allowed method o sheets).0) (sym is)
    ∙ ap (λ (b : Bool). (cond b (told route name sheets) method_not_allowed).0) get ∙ told_of route name in (
      sheets,
      [],
      status_by_answer (bytes_eq path (codes "/")) (bytes_eq path (codes "/health")) (bytes_eq path (codes "/metrics")) (if_read method page) (if_read method health)
          (if_get method (metrics sheets [])) (answer_of method path sheets) other_path other answered,
      other_path,
    )

-- ---- which paths ask for all queues

no_route-if : (b c d : Bool) → cond b (Some Queue) (cond c (Some Rows) (cond d (Some Alarms) None)) ≡ Some Queues → ⊥
no_route-if true c d e = absurd cc
no_route-if false true d e = absurd cc
no_route-if false false true e = absurd cc
no_route-if false false false e = absurd cc

routed : (o : Option Route) (n name : List ℕ) → (o ≡ Some Queues → ⊥) → ◌≡◌ {A = Option (Route × List ℕ)} (Some (Queues, name)) (option_map (λ route. (route, n)) o) → ⊥
routed None n name never e = absurd cc
routed (Some route) n name never e = never (ap (λ (o : Option (Route × List ℕ)). option_map (λ (t : Route × List ℕ). t.0) o) (sym e))

no_target : (n rest name : List ℕ) → ◌≡◌ {A = Option (Route × List ℕ)} (Some (Queues, name)) (queue_target n rest) → ⊥
no_target [] rest name e = absurd cc
no_target (b ∷ n) rest name e =
    routed (queue_route rest) (b ∷ n) name (no_route-if (bytes_eq [] rest) (bytes_eq (codes "/rows") rest) (bytes_eq (codes "/alarms") rest)) e

of_all-if : (b : Bool) (o : Option (List ℕ)) (name : List ℕ)
    → ◌≡◌ {A = Option (Route × List ℕ)} (Some (Queues, name)) (cond b (Some (Queues, [])) (option_and_then (λ rest. queue_target (until_slash rest) (from_slash rest)) o)) → b ≡ true
of_all-if true o name e = refl
of_all-if false None name e = absurd cc
of_all-if false (Some rest) name e = absurd (no_target (until_slash rest) (from_slash rest) name e)

all-or : (b c : Bool) → c ≡ true → (b || c) ≡ true
all-or true c is = refl
all-or false c is = is

-- the path of all queues
pub of_all : (path name : List ℕ) (route : Route) → Some (route, name) ≡ target_of path → route ≡ Queues → is_of_all path ≡ true
of_all path name Queues e all =
    all-or (bytes_eq path (codes "/metrics")) (bytes_eq (codes "/statistics/queues") path)
    (of_all-if (bytes_eq (codes "/statistics/queues") path) (after (codes "/statistics/queues/") path) name e)
of_all path name Queue e all = absurd cc
of_all path name Rows e all = absurd cc
of_all path name Alarms e all = absurd cc

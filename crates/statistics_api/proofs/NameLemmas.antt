-- The router tells the name that a path has.
use Rattle.std.proofs.Common.{◌≡◌, ℕ, suc, ◌+◌, ◌-◌, ◌<◌, ◌≤◌, Bool, true, false, cond, ◌&&◌, ltb, leb, List, [], ◌∷◌, ◌++◌, length, get_or, take, drop, Option, Some, None, codes, refl, sym, ap, subst, ◌∙◌, arith}
use Rattle.std.specs.Prelude.{option_map, option_and_then, unwrap_or, MatchOption}
use Rattle.std.specs.Str.{bytes_eq, chars, IsUtf8, is_utf8}
use Rattle.std.specs.List.{list_all}
use Rattle.std.proofs.lemmas.Bool.{and_parts}
use Rattle.std.proofs.lemmas.Bool.Decides.{nat_tests}
use Rattle.std.proofs.lemmas.List.{append-nil, length-append, drop_at, take_at}
use Rattle.std.proofs.lemmas.Slice.Eq.{bytes_eq-Decides}
use Rattle.std.proofs.lemmas.Str.{IsUtf8-from_is_utf8, IsUtf8-drop, IsUtf8-take, IsCharBoundary-after_ascii, IsCharBoundary-before_ascii}
use Rattle.std.proofs.Math.Seq.{get_or-append_seam}
use Rattle.matchit.specs.Rows.{param_token}
use Rattle.matchit.specs.Router.{RouteOf}
use Rattle.matchit.specs.Seek.{segment, has_slash, first}
use Rattle.matchit.specs.Params.{walk, wild_from, wild_stop, part_of, AllText, named, next_at}
use Rattle.statistics_api.specs.declared.routes.Route.{Route}
use Rattle.statistics_api.specs.declared.routes.Route.TheVariants.{Queues, Queue, Rows, Alarms}
use Rattle.statistics_api.specs.private.Router.{route_row, router_rows}
use Rattle.statistics_api.specs.Routes.{slash, after, until_slash, from_slash, queue_route, queue_target, target_of}
use Rattle.statistics_api.proofs.RouteLemmas.{single, after-some, until-has, joined, segment-slash, key, route_found}

-- ---- what a path is, by what it asks for

abbrev front : List ℕ
front = codes "/statistics/queues/"

abbrev back : Route → List ℕ
back Queues = []
back Queue = []
back Rows = codes "/rows"
back Alarms = codes "/alarms"

abbrev pub path_of : Route → List ℕ → List ℕ
path_of Queues name = codes "/statistics/queues"
path_of Queue name = front ++ (name ++ [])
path_of Rows name = front ++ (name ++ codes "/rows")
path_of Alarms name = front ++ (name ++ codes "/alarms")

-- a path of a target: without a slash in the name, which is empty where all queues are asked for
abbrev IsPath : List ℕ → Route → List ℕ → Type 0
IsPath path Queues name = (path ≡ codes "/statistics/queues") × (name ≡ [])
IsPath path Queue name = (path ≡ front ++ (name ++ [])) × (has_slash name ≡ false)
IsPath path Rows name = (path ≡ front ++ (name ++ codes "/rows")) × (has_slash name ≡ false)
IsPath path Alarms name = (path ≡ front ++ (name ++ codes "/alarms")) × (has_slash name ≡ false)

behind_is : (a r l : Bool) (rest : List ℕ) (route : Route) → bytes_eq [] rest ≡ a → bytes_eq (codes "/rows") rest ≡ r → bytes_eq (codes "/alarms") rest ≡ l
    → cond a (Some Queue) (cond r (Some Rows) (cond l (Some Alarms) None)) ≡ Some route
    → (name : List ℕ) → has_slash name ≡ false → IsPath (front ++ (name ++ rest)) route name
behind_is true r l rest Queues ha hr hl h name plain = absurd cc
behind_is true r l rest Queue ha hr hl h name plain = (ap (λ (x : List ℕ). front ++ (name ++ x)) (sym ((bytes_eq-Decides [] rest).0 ha)), plain)
behind_is true r l rest Rows ha hr hl h name plain = absurd cc
behind_is true r l rest Alarms ha hr hl h name plain = absurd cc
behind_is false true l rest Queues ha hr hl h name plain = absurd cc
behind_is false true l rest Queue ha hr hl h name plain = absurd cc
behind_is false true l rest Rows ha hr hl h name plain = (ap (λ (x : List ℕ). front ++ (name ++ x)) (sym ((bytes_eq-Decides (codes "/rows") rest).0 hr)), plain)
behind_is false true l rest Alarms ha hr hl h name plain = absurd cc
behind_is false false true rest Queues ha hr hl h name plain = absurd cc
behind_is false false true rest Queue ha hr hl h name plain = absurd cc
behind_is false false true rest Rows ha hr hl h name plain = absurd cc
behind_is false false true rest Alarms ha hr hl h name plain = (ap (λ (x : List ℕ). front ++ (name ++ x)) (sym ((bytes_eq-Decides (codes "/alarms") rest).0 hl)), plain)
behind_is false false false rest route ha hr hl h name plain = absurd cc

with_name : (o : Option Route) (n name : List ℕ) (route : Route) → option_map {U = Route × List ℕ} (λ r. (r, n)) o ≡ Some (route, name) → (o ≡ Some route) × (n ≡ name)
with_name None n name route h = absurd cc
with_name (Some r) n name route h =
    let pair : (r, n) ≡ (route, name) = cc in
    (ap (λ (p : Route × List ℕ). Some p.0) pair, ap (λ (p : Route × List ℕ). p.1) pair)

named_path : (n rest name : List ℕ) (route : Route) → has_slash n ≡ false → queue_target n rest ≡ Some (route, name) → IsPath (front ++ (n ++ rest)) route name
named_path [] rest name route plain h = absurd cc
named_path (b ∷ n) rest name route plain h =
    let parts : (queue_route rest ≡ Some route) × ((b ∷ n) ≡ name) = with_name (queue_route rest) (b ∷ n) name route h in
    let same : (b ∷ n) ≡ name = parts.1 in
    subst (λ (m : List ℕ). IsPath (front ++ ((b ∷ n) ++ rest)) route m) same
    (behind_is (bytes_eq [] rest) (bytes_eq (codes "/rows") rest) (bytes_eq (codes "/alarms") rest) rest route refl refl refl parts.0 (b ∷ n) plain)

in_front : (o : Option (List ℕ)) (path name : List ℕ) (route : Route) → ((text : List ℕ) → o ≡ Some text → path ≡ front ++ text)
    → option_and_then (λ rest. queue_target (until_slash rest) (from_slash rest)) o ≡ Some (route, name) → IsPath path route name
in_front None path name route there h = absurd cc
in_front (Some text) path name route there h =
    subst (λ (p : List ℕ). IsPath p route name) (ap (λ (t : List ℕ). front ++ t) (sym (joined text)) ∙ sym (there text refl))
    (named_path (until_slash text) (from_slash text) name route (until-has text) h)

all_or : (c : Bool) (path name : List ℕ) (route : Route) (o : Option (Route × List ℕ)) → bytes_eq (codes "/statistics/queues") path ≡ c → (o ≡ Some (route, name) → IsPath path route name)
    → cond c (Some (Queues, [])) o ≡ Some (route, name) → IsPath path route name
all_or true path name Queues o is later h =
    let pair : (Queues, []) ≡ (Queues, name) = cc in
    (sym ((bytes_eq-Decides (codes "/statistics/queues") path).0 is), ap (λ (p : Route × List ℕ). p.1) (sym pair))
all_or true path name Queue o is later h = absurd (let pair : (Queues, []) ≡ (Queue, name) = cc in let r : Queues ≡ Queue = ap (λ (p : Route × List ℕ). p.0) pair in cc)
all_or true path name Rows o is later h = absurd (let pair : (Queues, []) ≡ (Rows, name) = cc in let r : Queues ≡ Rows = ap (λ (p : Route × List ℕ). p.0) pair in cc)
all_or true path name Alarms o is later h = absurd (let pair : (Queues, []) ≡ (Alarms, name) = cc in let r : Queues ≡ Alarms = ap (λ (p : Route × List ℕ). p.0) pair in cc)
all_or false path name route o is later h = later h

pub path_is : (path name : List ℕ) (route : Route) → target_of path ≡ Some (route, name) → IsPath path route name
path_is path name route h =
    all_or (bytes_eq (codes "/statistics/queues") path) path name route (option_and_then (λ rest. queue_target (until_slash rest) (from_slash rest)) (after front path)) refl
    (in_front (after front path) path name route (after-some front path)) h

-- ---- what the parameter took

pairs : (a b c d : ℕ) → a ≡ c → b ≡ d → ◌≡◌ {A = ℕ × ℕ} (a, b) (c, d)
pairs a b c d p q = rw (p, q) refl

wild_at : (w t : List ℕ) (len token at : ℕ) → list_all (λ b. ltb b 256) w ≡ true → at + length w ≤ len → wild_from (w ++ param_token ∷ t) len token at ≡ (token + length w, at + length w)
wild_at [] t len token at bytes fits = pairs token at (token + 0) (at + 0) (omega arith) (omega arith)
wild_at (x ∷ w) t len token at bytes fits =
    let each : (ltb x 256 ≡ true) × (list_all (λ b. ltb b 256) w ≡ true) = and_parts (ltb x 256) (list_all (λ b. ltb b 256) w) bytes in
    let room : ltb at len ≡ true = grind (arith, nat_tests) in
    ap (λ (c : Bool). cond c (wild_from (w ++ param_token ∷ t) len (token + 1) (next_at len at)) (token, at)) each.0
    ∙ ap (λ (c : Bool). wild_from (w ++ param_token ∷ t) len (token + 1) (cond c (at + 1) at)) room
    ∙ wild_at w t len (token + 1) (at + 1) each.1 (omega arith)
    ∙ pairs (token + 1 + length w) (at + 1 + length w) (token + suc (length w)) (at + suc (length w)) (omega arith) (omega arith)

part : (p name q : List ℕ) (i j : ℕ) → length p ≡ i → j ≡ i + length name → part_of (p ++ (name ++ q)) i j ≡ name
part p name q i j at to =
    let size : length (p ++ (name ++ q)) ≡ length p + length (name ++ q) = length-append p (name ++ q) in
    let more : length (name ++ q) ≡ length name + length q = length-append name q in
    let a : leb i j ≡ true = grind (arith, nat_tests) in
    let b : leb j (length (p ++ (name ++ q))) ≡ true = grind (arith, nat_tests) in
    let n : j - i ≡ length name = omega arith in
    ap (λ (c : Bool). cond (c && leb j (length (p ++ (name ++ q)))) (take (j - i) (drop i (p ++ (name ++ q)))) []) a
    ∙ ap (λ (c : Bool). cond c (take (j - i) (drop i (p ++ (name ++ q)))) []) b
    ∙ ap (λ (k : ℕ). take k (drop i (p ++ (name ++ q)))) n
    ∙ ap (take (length name)) (drop_at p (name ++ q) i at)
    ∙ take_at name q (length name) refl

-- the name of the parameter, and a part of the path
abbrev pair_of : Route → List ℕ → List (List ℕ × List ℕ)
pair_of route taken = (part_of (route_row route).text 20 24, taken) ∷ []

-- where the parameter begins
begins : (path rest : List ℕ) (route : Route) (t : List ℕ) → path ≡ front ++ rest → (route_row route).pattern ≡ front ++ param_token ∷ t
    → wild_from (drop 0 (route_row route).pattern) (length path) 0 0 ≡ (19, 19)
begins path rest route t is pattern =
    let size : length path ≡ 19 + length rest = ap length is ∙ length-append front rest in
    ap (λ (w : List ℕ). wild_from w (length path) 0 0) pattern ∙ wild_at front t (length path) 0 0 refl (omega arith)

taken_all : (path name : List ℕ) → path ≡ front ++ (name ++ [])
    → walk (route_row Queue).pattern (route_row Queue).text path (route_row Queue).names 0 0 ≡ pair_of Queue name
taken_all path name is =
    let size : length path ≡ 19 + length (name ++ []) = ap length is ∙ length-append front (name ++ []) in
    let none : length (name ++ []) ≡ length name = ap length (append-nil name) in
    ap (λ (at : ℕ × ℕ). pair_of Queue (part_of path at.1 (wild_stop (route_row Queue).pattern at.0 path at.1))) (begins path (name ++ []) Queue [] is refl)
    ∙ ap (λ (taken : List ℕ). pair_of Queue taken) (ap (λ (p : List ℕ). part_of p 19 (length path)) is ∙ part front name [] 19 (length path) refl (omega arith))

-- where it ends at a slash
ends_at : (path name w : List ℕ) → path ≡ front ++ (name ++ slash ∷ w) → has_slash name ≡ false → part_of path 19 (19 + length (segment (drop 19 path)) - 1) ≡ name
ends_at path name w is plain =
    let left : drop 19 path ≡ name ++ slash ∷ w = ap (drop 19) is ∙ drop_at front (name ++ slash ∷ w) 19 refl in
    let seg : segment (drop 19 path) ≡ name ++ single = ap segment left ∙ segment-slash name w plain in
    let size : length (segment (drop 19 path)) ≡ length name + 1 = ap length seg ∙ length-append name single in
    ap (λ (p : List ℕ). part_of p 19 (19 + length (segment (drop 19 path)) - 1)) is
    ∙ part front name (slash ∷ w) 19 (19 + length (segment (drop 19 path)) - 1) refl (omega arith)

taken_rows : (path name : List ℕ) → path ≡ front ++ (name ++ codes "/rows") → has_slash name ≡ false
    → walk (route_row Rows).pattern (route_row Rows).text path (route_row Rows).names 0 0 ≡ pair_of Rows name
taken_rows path name is plain =
    ap (λ (at : ℕ × ℕ). pair_of Rows (part_of path at.1 (wild_stop (route_row Rows).pattern at.0 path at.1))) (begins path (name ++ codes "/rows") Rows (codes "/rows") is refl)
    ∙ ap (λ (taken : List ℕ). pair_of Rows taken) (ends_at path name (codes "rows") is plain)

taken_alarms : (path name : List ℕ) → path ≡ front ++ (name ++ codes "/alarms") → has_slash name ≡ false
    → walk (route_row Alarms).pattern (route_row Alarms).text path (route_row Alarms).names 0 0 ≡ pair_of Alarms name
taken_alarms path name is plain =
    ap (λ (at : ℕ × ℕ). pair_of Alarms (part_of path at.1 (wild_stop (route_row Alarms).pattern at.0 path at.1))) (begins path (name ++ codes "/alarms") Alarms (codes "/alarms") is refl)
    ∙ ap (λ (taken : List ℕ). pair_of Alarms taken) (ends_at path name (codes "alarms") is plain)

-- ---- names are texts

behind_front : (path rest : List ℕ) → path ≡ front ++ rest → IsUtf8 path → IsUtf8 rest
behind_front path rest is text =
    let size : length path ≡ 19 + length rest = ap length is ∙ length-append front rest in
    let last : get_or path 18 0 ≡ slash = ap (λ (p : List ℕ). get_or p 18 0) is in
    let whole : IsUtf8 (drop 19 path) = IsUtf8-drop path 19 text (IsCharBoundary-after_ascii path 18 text (omega arith) (omega arith)) in
    subst (λ (t : List ℕ). IsUtf8 t) (ap (drop 19) is ∙ drop_at front rest 19 refl) whole

name_text : (path name : List ℕ) → path ≡ front ++ (name ++ []) → IsUtf8 path → IsUtf8 name
name_text path name is text = subst (λ (t : List ℕ). IsUtf8 t) (append-nil name) (behind_front path (name ++ []) is text)

name_before : (path name w : List ℕ) → path ≡ front ++ (name ++ slash ∷ w) → IsUtf8 path → IsUtf8 name
name_before path name w is text =
    let rest : IsUtf8 (name ++ slash ∷ w) = behind_front path (name ++ slash ∷ w) is text in
    let size : length (name ++ slash ∷ w) ≡ length name + length (slash ∷ w) = length-append name (slash ∷ w) in
    let next : get_or (name ++ slash ∷ w) (length name) 0 ≡ slash = get_or-append_seam name slash w 0 in
    subst (λ (t : List ℕ). IsUtf8 t) (take_at name (slash ∷ w) (length name) refl)
    (IsUtf8-take (name ++ slash ∷ w) (length name) rest (IsCharBoundary-before_ascii (name ++ slash ∷ w) (length name) (omega arith) (omega arith)))

key_text : IsUtf8 (codes "name")
unfolding is_utf8 chars lib.Utf8.encode
key_text = IsUtf8-from_is_utf8 (codes "name") refl

-- ---- both together

abbrev walked : Route → List ℕ → List (List ℕ × List ℕ)
walked route path = walk (route_row route).pattern (route_row route).text path (route_row route).names 0 0

-- the name that the router tells, where it tells one
record Told (route : Route) (path name : List ℕ) : Type 0 where
  texts : AllText (walked route path)
  told : unwrap_or (named (codes "name") (walked route path)) [] ≡ name

pairs_told : (route : Route) (path name : List ℕ) → walked route path ≡ (codes "name", name) ∷ [] → IsUtf8 name → Told route path name
pairs_told route path name is text = record {
  texts = subst AllText (sym is) (key_text, text, tt);
  told = ap (λ (ps : List (List ℕ × List ℕ)). unwrap_or (named (codes "name") ps) []) is;
}

told_by : (route : Route) (path name : List ℕ) → IsUtf8 path → IsPath path route name → Told route path name
told_by Queues path name text h = record { texts = tt; told = sym h.1 }
told_by Queue path name text h = pairs_told Queue path name (taken_all path name h.0) (name_text path name h.0 text)
told_by Rows path name text h = pairs_told Rows path name (taken_rows path name h.0 h.1) (name_before path name (codes "rows") h.0 text)
told_by Alarms path name text h = pairs_told Alarms path name (taken_alarms path name h.0 h.1) (name_before path name (codes "alarms") h.0 text)

-- ---- what the router finds

abbrev row_key : Route → RouteOf Route
row_key route = key (route_row Alarms) (route_row Rows) (route_row Queue) (route_row Queues) route

key_row : (route : Route) → row_key route ≡ route_row route
key_row Queues = refl
key_row Queue = refl
key_row Rows = refl
key_row Alarms = refl

row_value : (route : Route) → (route_row route).value ≡ route
row_value Queues = refl
row_value Queue = refl
row_value Rows = refl
row_value Alarms = refl

pub router_finds : (path : List ℕ) → ((i : ℕ) → get_or path i 0 < 256) → first router_rows path ≡ option_map (λ (t : Route × List ℕ). row_key t.0) (target_of path)
router_finds path bytes = route_found (route_row Alarms) (route_row Rows) (route_row Queue) (route_row Queues) path bytes

abbrev row_of : List ℕ → List ℕ → List (ℕ × ℕ) → Route → RouteOf Route
row_of pattern text names value = record { pattern = pattern; text = text; names = names; value = value }

-- the target that is found, by what the router tells of it
module _ {V : Type 0} (seen : V → List ℕ) where
  same_name : (got : Option V) (want : Option (List ℕ)) → MatchOption got (want ≡ None) (λ v. want ≡ Some (seen v)) → unwrap_or (option_map seen got) [] ≡ unwrap_or want []
  same_name None want h = ap (λ (o : Option (List ℕ)). unwrap_or o []) (sym h)
  same_name (Some v) want h = ap (λ (o : Option (List ℕ)). unwrap_or o []) (sym h)

  by_target : (o : Option (Route × List ℕ)) (path : List ℕ) (row : RouteOf Route) (got : Option V) → IsUtf8 path
      → Some row ≡ option_map (λ (t : Route × List ℕ). row_key t.0) o
      → ((route : Route) (name : List ℕ) → o ≡ Some (route, name) → IsPath path route name)
      → (AllText (walk row.pattern row.text path row.names 0 0)
      → MatchOption got (named (codes "name") (walk row.pattern row.text path row.names 0 0) ≡ None) (λ v. named (codes "name") (walk row.pattern row.text path row.names 0 0) ≡ Some (seen v)))
      → Some (row.value, unwrap_or (option_map seen got) []) ≡ o
  by_target None path row got text is there tells = absurd cc
  by_target (Some t) path row got text is there tells =
      let same : row ≡ route_row t.0 = (let e : row ≡ row_key t.0 = cc in e) ∙ key_row t.0 in
      let told : Told t.0 path t.1 = told_by t.0 path t.1 text (there t.0 t.1 refl) in
      let given = subst (λ (r : RouteOf Route). AllText (walk r.pattern r.text path r.names 0 0)
      → MatchOption got (named (codes "name") (walk r.pattern r.text path r.names 0 0) ≡ None) (λ v. named (codes "name") (walk r.pattern r.text path r.names 0 0) ≡ Some (seen v))) same tells in
      let name : unwrap_or (option_map seen got) [] ≡ t.1 = same_name got (named (codes "name") (walked t.0 path)) (given told.texts) ∙ told.told in
      let value : row.value ≡ t.0 = ap (λ (r : RouteOf Route). r.value) same ∙ row_value t.0 in
      ap (λ (p : Route × List ℕ). Some p) (pair row.value (unwrap_or (option_map seen got) []) t.0 t.1 value name)
    where
      pair : (r : Route) (n : List ℕ) (r2 : Route) (n2 : List ℕ) → r ≡ r2 → n ≡ n2 → ◌≡◌ {A = Route × List ℕ} (r, n) (r2, n2)
      pair r n r2 n2 p q = ap (λ (x : Route). (x, n)) p ∙ ap (λ (y : List ℕ). (r2, y)) q

  pub target_told : (path pattern text : List ℕ) (names : List (ℕ × ℕ)) (value : Route) (got : Option V) → ((i : ℕ) → get_or path i 0 < 256) → IsUtf8 path
      → first router_rows path ≡ Some (row_of pattern text names value)
      → (AllText (walk pattern text path names 0 0)
      → MatchOption got (named (codes "name") (walk pattern text path names 0 0) ≡ None) (λ v. named (codes "name") (walk pattern text path names 0 0) ≡ Some (seen v)))
      → Some (value, unwrap_or (option_map seen got) []) ≡ target_of path
  target_told path pattern text names value got bytes utf8 found tells =
      by_target (target_of path) path (row_of pattern text names value) got utf8 (sym found ∙ router_finds path bytes) (λ route name h. path_is path name route h) tells

pub none_told : (path : List ℕ) → ((i : ℕ) → get_or path i 0 < 256) → first router_rows path ≡ None → None ≡ target_of path
none_told path bytes missing = no_target (target_of path) (sym missing ∙ router_finds path bytes)
  where
    no_target : (o : Option (Route × List ℕ)) → None ≡ option_map (λ (t : Route × List ℕ). row_key t.0) o → None ≡ o
    no_target None h = refl
    no_target (Some t) h = absurd cc

pub unwrapped : {V : Type 0} (seen : V → List ℕ) (got : Option V) (none result : V) → result ≡ unwrap_or got none → seen none ≡ [] → seen result ≡ unwrap_or (option_map seen got) []
unwrapped seen None none result is empty = ap seen is ∙ empty
unwrapped seen (Some v) none result is empty = ap seen is

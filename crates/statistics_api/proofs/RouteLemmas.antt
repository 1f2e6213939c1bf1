-- The router finds the route that a path is.
use Rattle.std.proofs.Common.{◌≡◌, ℕ, zero, suc, ◌+◌, ◌-◌, ◌<◌, ◌≢◌, Bool, true, false, true≢false, cond, ◌&&◌, eqb, ltb, List, [], ◌∷◌, ◌++◌, length, get_or, drop, Option, Some, None, codes, refl, sym, ap, inl, inr, ◌∙◌, arith, add-one}
use Rattle.std.specs.Prelude.{◌⊎◌, option_map, option_and_then}
use Rattle.std.specs.List.{list_all}
use Rattle.std.specs.Str.{bytes_eq}
use Rattle.std.proofs.lemmas.Bool.{and_parts}
use Rattle.std.proofs.lemmas.Bool.Decides.{nat_tests}
use Rattle.std.proofs.lemmas.List.{append-nil, length-append, drop_at, get_or-append-add}
use Rattle.std.proofs.lemmas.Slice.Eq.{bytes_eq-Decides}
use Rattle.matchit.specs.Rows.{RowsOf, param_token, catch_all_token}
use Rattle.matchit.specs.Seek.{segment, has_slash, cuts, own, step, or_else, seek, param_step}
use Rattle.statistics_api.specs.declared.routes.Route.{Route}
use Rattle.statistics_api.specs.declared.routes.Route.TheVariants.{Queues, Queue, Rows, Alarms}
use Rattle.statistics_api.specs.Routes.{slash, after, until_slash, from_slash, queue_route, queue_target, target_of}

-- ---- a text in front

-- whether nothing follows
abbrev pub ends : Option (List ℕ) → Bool
ends None = false
ends (Some []) = true
ends (Some (b ∷ rest)) = false

ends-if : (c : Bool) (o : Option (List ℕ)) (r : Bool) → r ≡ ends o → (c && r) ≡ ends (cond c o None)
ends-if true o r h = h
ends-if false o r h = refl

pub bytes_eq-after : (w text : List ℕ) → bytes_eq w text ≡ ends (after w text)
bytes_eq-after [] [] = refl
bytes_eq-after [] (b ∷ text) = refl
bytes_eq-after (x ∷ w) [] = refl
bytes_eq-after (x ∷ w) (b ∷ text) = ends-if (eqb x b) (after w text) (bytes_eq w text) (bytes_eq-after w text)

then-if : {T : Type 0} (c : Bool) (f : List ℕ → Option T) (o : Option (List ℕ)) → option_and_then f (cond c o None) ≡ cond c (option_and_then f o) None
then-if true f o = refl
then-if false f o = refl

cond-same : {T : Type 0} (c : Bool) (a b e : T) → a ≡ b → cond c a e ≡ cond c b e
cond-same true a b e h = h
cond-same false a b e h = refl

pub after-append : (u v text : List ℕ) → after (u ++ v) text ≡ option_and_then (after v) (after u text)
after-append [] v text = refl
after-append (x ∷ u) v [] = refl
after-append (x ∷ u) v (b ∷ text) = cond-same (eqb x b) _ _ None (after-append u v text) ∙ sym (then-if (eqb x b) (after v) (after u text))

abbrev are_bytes : List ℕ → Bool
are_bytes text = list_all (λ b. ltb b 256) text

-- ---- rows without a parameter

module _ {K : Type 0} where
  abbrev pub ahead : List ℕ → RowsOf K → RowsOf K
  ahead w [] = []
  ahead w ((t, k) ∷ rows) = (w ++ t, k) ∷ ahead w rows

  no_params : (b : Bool) (n : ℕ) → (cond {A = ℕ × RowsOf K} b (0, []) (n, [])).1 ≡ []
  no_params true n = refl
  no_params false n = refl

  params-none : (path : List ℕ) → (param_step {K = K} [] path).1 ≡ []
  unfolding param_step
  params-none path = no_params (has_slash path) (length path)

  seek-none : (skip : ℕ) (path : List ℕ) → seek {K = K} skip [] path ≡ None
  unfolding seek
  seek-none skip [] = refl
  seek-none (suc skip) (b ∷ path) = seek-none skip path
  seek-none zero (b ∷ path) =
      ap (λ (o : Option K). or_else o (or_else (seek ((param_step {K = K} [] (b ∷ path)).0 - 1) (param_step {K = K} [] (b ∷ path)).1 path) None)) (seek-none 0 path)
      ∙ ap (λ (rows : RowsOf K). or_else (seek ((param_step {K = K} [] (b ∷ path)).0 - 1) rows path) None) (params-none (b ∷ path))
      ∙ ap (λ (o : Option K). or_else o None) (seek-none ((param_step {K = K} [] (b ∷ path)).0 - 1) path)

  or_else-none : (o : Option K) → or_else o None ≡ o
  or_else-none None = refl
  or_else-none (Some k) = refl

  -- a byte goes on with the rows that begin with it, where none begins with a parameter
  seek-plain : (rows : RowsOf K) (b : ℕ) (path : List ℕ) → step param_token rows ≡ [] → step catch_all_token rows ≡ [] → seek 0 rows (b ∷ path) ≡ seek 0 (step b rows) path
  unfolding seek
  seek-plain rows b path p q =
      ap (λ (x : RowsOf K). or_else (seek 0 (step b rows) path) (or_else (seek ((param_step x (b ∷ path)).0 - 1) (param_step x (b ∷ path)).1 path) (own (step catch_all_token rows)))) p
      ∙ ap (λ (x : RowsOf K). or_else (seek 0 (step b rows) path) (or_else (seek ((param_step {K = K} [] (b ∷ path)).0 - 1) (param_step {K = K} [] (b ∷ path)).1 path) (own x))) q
      ∙ ap (λ (x : RowsOf K). or_else (seek 0 (step b rows) path) (or_else (seek ((param_step {K = K} [] (b ∷ path)).0 - 1) x path) None)) (params-none (b ∷ path))
      ∙ ap (λ (o : Option K). or_else (seek 0 (step b rows) path) (or_else o None)) (seek-none ((param_step {K = K} [] (b ∷ path)).0 - 1) path)
      ∙ or_else-none (seek 0 (step b rows) path)

  own-ahead : (x : ℕ) (w : List ℕ) (rows : RowsOf K) → own (ahead (x ∷ w) rows) ≡ None
  own-ahead x w [] = refl
  own-ahead x w ((t, k) ∷ rows) = own-ahead x w rows

  step-cons : (c : Bool) (t : List ℕ) (k : K) (rest more : RowsOf K) → rest ≡ cond c more [] → cond c ((t, k) ∷ rest) rest ≡ cond c ((t, k) ∷ more) []
  step-cons true t k rest more h = ap (λ (rows : RowsOf K). (t, k) ∷ rows) h
  step-cons false t k rest more h = h

  step-ahead : (b x : ℕ) (w : List ℕ) (rows : RowsOf K) → step b (ahead (x ∷ w) rows) ≡ cond (eqb x b) (ahead w rows) []
  step-ahead b x w [] = nothing (eqb x b)
    where
      nothing : (c : Bool) → [] ≡ cond {A = RowsOf K} c [] []
      nothing true = refl
      nothing false = refl
  step-ahead b x w ((t, k) ∷ rows) = step-cons (eqb x b) (w ++ t) k (step b (ahead (x ∷ w) rows)) (ahead w rows) (step-ahead b x w rows)

  step-other : (b x : ℕ) (w : List ℕ) (rows : RowsOf K) → x ≢ b → step b (ahead (x ∷ w) rows) ≡ []
  step-other b x w rows h =
      let no : eqb x b ≡ false = grind (arith, nat_tests) in
      step-ahead b x w rows ∙ ap (λ (c : Bool). cond c (ahead w rows) []) no

  seek-if : (c : Bool) (rows : RowsOf K) (path : List ℕ) → seek 0 (cond c rows []) path ≡ cond c (seek 0 rows path) None
  seek-if true rows path = refl
  seek-if false rows path = seek-none 0 path

  -- rows that begin with one text are looked for behind it
  seek-ahead : (w : List ℕ) (rows : RowsOf K) (path : List ℕ) → are_bytes w ≡ true → seek 0 (ahead w rows) path ≡ option_and_then (seek 0 rows) (after w path)
  unfolding seek
  seek-ahead [] rows path bytes = ap (λ (x : RowsOf K). seek 0 x path) (same rows)
    where
      same : (rows : RowsOf K) → ahead [] rows ≡ rows
      same [] = refl
      same ((t, k) ∷ rows) = ap (λ (x : RowsOf K). (t, k) ∷ x) (same rows)
  seek-ahead (x ∷ w) rows [] bytes = own-ahead x w rows
  seek-ahead (x ∷ w) rows (b ∷ path) bytes =
      let each : (ltb x 256 ≡ true) × (are_bytes w ≡ true) = and_parts (ltb x 256) (are_bytes w) bytes in
      let byte : x < 256 = grind (arith, nat_tests) in
      seek-plain (ahead (x ∷ w) rows) b path (step-other param_token x w rows (omega arith)) (step-other catch_all_token x w rows (omega arith))
      ∙ ap (λ (y : RowsOf K). seek 0 y path) (step-ahead b x w rows)
      ∙ seek-if (eqb x b) (ahead w rows) path
      ∙ cond-same (eqb x b) _ _ None (seek-ahead w rows path each.1)
      ∙ sym (then-if (eqb x b) (seek 0 rows) (after w path))

  seek-skip : (n rest : List ℕ) (rows : RowsOf K) → seek (length n) rows (n ++ rest) ≡ seek 0 rows rest
  unfolding seek
  seek-skip [] rest rows = refl
  seek-skip (b ∷ n) rest rows = seek-skip n rest rows

-- ---- slashes

abbrev pub single : List ℕ
single = slash ∷ []

at_slash : (c : Bool) (b : ℕ) (text : List ℕ) → has_slash (cond c [] (b ∷ until_slash text)) ≡ cond c false (cond (eqb b slash) true (has_slash (until_slash text)))
at_slash true b text = refl
at_slash false b text = refl

twice : (c : Bool) (x : Bool) → x ≡ false → cond c false (cond c true x) ≡ false
twice true x h = refl
twice false x h = h

pub until-has : (text : List ℕ) → has_slash (until_slash text) ≡ false
until-has [] = refl
until-has (b ∷ text) = at_slash (eqb b slash) b text ∙ twice (eqb b slash) (has_slash (until_slash text)) (until-has text)

joined-if : (c : Bool) (b : ℕ) (text n q : List ℕ) → text ≡ n ++ q → b ∷ text ≡ cond c [] (b ∷ n) ++ cond c (b ∷ text) q
joined-if true b text n q h = refl
joined-if false b text n q h = ap (λ (x : List ℕ). b ∷ x) h

pub joined : (text : List ℕ) → text ≡ until_slash text ++ from_slash text
joined [] = refl
joined (b ∷ text) = joined-if (eqb b slash) b text (until_slash text) (from_slash text) (joined text)

-- nothing is left, or a slash and more
abbrev pub Left : List ℕ → Type 0
Left q = (q ≡ []) ⊎ ((rest : List ℕ) × (q ≡ slash ∷ rest))

left-if : (c : Bool) (b : ℕ) (text q : List ℕ) → eqb b slash ≡ c → Left q → Left (cond c (b ∷ text) q)
left-if true b text q h left =
    let same : b ≡ slash = grind (arith, nat_tests) in
    inr (text, ap (λ (x : ℕ). x ∷ text) same)
left-if false b text q h left = left

pub left : (text : List ℕ) → Left (from_slash text)
left [] = inl refl
left (b ∷ text) = left-if (eqb b slash) b text (from_slash text) refl (left text)

-- ---- segments of a path, as the router cuts them

none-if : (c : Bool) (x : Bool) → cond c true x ≡ false → (c ≡ false) × (x ≡ false)
none-if true x h = absurd (true≢false h)
none-if false x h = (refl, h)

segment-plain : (n : List ℕ) → has_slash n ≡ false → segment n ≡ n
segment-plain [] h = refl
segment-plain (b ∷ n) h =
    let no : (eqb b slash ≡ false) × (has_slash n ≡ false) = none-if (eqb b slash) (has_slash n) h in
    ap (λ (c : Bool). cond c (b ∷ []) (b ∷ segment n)) no.0 ∙ ap (λ (x : List ℕ). b ∷ x) (segment-plain n no.1)

pub segment-slash : (n rest : List ℕ) → has_slash n ≡ false → segment (n ++ slash ∷ rest) ≡ n ++ single
segment-slash [] rest h = refl
segment-slash (b ∷ n) rest h =
    let no : (eqb b slash ≡ false) × (has_slash n ≡ false) = none-if (eqb b slash) (has_slash n) h in
    ap (λ (c : Bool). cond c (b ∷ []) (b ∷ segment (n ++ slash ∷ rest))) no.0 ∙ ap (λ (x : List ℕ). b ∷ x) (segment-slash n rest no.1)

drop-has : (k : ℕ) (n : List ℕ) → has_slash n ≡ false → has_slash (drop k n) ≡ false
drop-has zero n h = h
drop-has (suc k) [] h = refl
drop-has (suc k) (b ∷ n) h = drop-has k n ((none-if (eqb b slash) (has_slash n) h).1)

not_single : (r : Bool) (rest : List ℕ) → has_slash rest ≡ false → bytes_eq single rest ≡ r → r ≡ false
not_single false rest h is = refl
not_single true rest h is =
    let same : single ≡ rest = (bytes_eq-Decides single rest).0 is in
    absurd (true≢false (ap has_slash same ∙ h))

and-none : (a b : Bool) → b ≡ false → (a && b) ≡ false
and-none true b h = h
and-none false b h = refl

cuts-none : (n : List ℕ) → has_slash n ≡ false → cuts n single ≡ false
cuts-none n h =
    let rest : List ℕ = drop (length n - 1) n in
    and-none (ltb 1 (length n)) (bytes_eq single rest) (not_single (bytes_eq single rest) rest (drop-has (length n - 1) n h) refl)

cuts-slash : (b : ℕ) (n : List ℕ) → cuts ((b ∷ n) ++ single) single ≡ true
cuts-slash b n =
    let size : length ((b ∷ n) ++ single) ≡ length (b ∷ n) + 1 = length-append (b ∷ n) single in
    let longer : ltb 1 (length ((b ∷ n) ++ single)) ≡ true = grind (arith, nat_tests) in
    let last : drop (length ((b ∷ n) ++ single) - 1) ((b ∷ n) ++ single) ≡ single = drop_at (b ∷ n) single (length ((b ∷ n) ++ single) - 1) (omega arith) in
    ap (λ (c : Bool). c && bytes_eq single (drop (length ((b ∷ n) ++ single) - 1) ((b ∷ n) ++ single))) longer ∙ ap (bytes_eq single) last

-- ---- the four routes

after_if : (c : Bool) (x b : ℕ) (w path text : List ℕ) → (after w path ≡ Some text → path ≡ w ++ text) → eqb x b ≡ c → cond c (after w path) None ≡ Some text → b ∷ path ≡ x ∷ (w ++ text)
after_if true x b w path text later is h =
    let same : b ≡ x = grind (arith, nat_tests) in
    ap (λ (y : ℕ). y ∷ path) same ∙ ap (λ (z : List ℕ). x ∷ z) (later h)
after_if false x b w path text later is h = absurd cc

pub after-some : (w path text : List ℕ) → after w path ≡ Some text → path ≡ w ++ text
after-some [] path text h = cc
after-some (x ∷ w) [] text h = absurd cc
after-some (x ∷ w) (b ∷ path) text h = after_if (eqb x b) x b w path text (after-some w path text) refl h

module _ {K : Type 0} (k1 k2 k3 k4 : K) where
  -- what is left of them behind their common beginning, behind a slash, behind a name, and behind a name and a slash
  abbrev pub common : RowsOf K
  common = (slash ∷ param_token ∷ codes "/alarms", k1) ∷ (slash ∷ param_token ∷ codes "/rows", k2) ∷ (slash ∷ param_token ∷ [], k3) ∷ ([], k4) ∷ []

  abbrev named_rows : RowsOf K
  named_rows = (param_token ∷ codes "/alarms", k1) ∷ (param_token ∷ codes "/rows", k2) ∷ (param_token ∷ [], k3) ∷ []

  abbrev behind : RowsOf K
  behind = (codes "/alarms", k1) ∷ (codes "/rows", k2) ∷ ([], k3) ∷ []

  abbrev longer : RowsOf K
  longer = (codes "/alarms", k1) ∷ (codes "/rows", k2) ∷ []

  abbrev words : RowsOf K
  words = (codes "alarms", k1) ∷ (codes "rows", k2) ∷ []

  abbrev pub key : Route → K
  key Queues = k4
  key Queue = k3
  key Rows = k2
  key Alarms = k1

  only : (k : K) (o : Option (List ℕ)) → option_and_then (seek 0 (([], k) ∷ [])) o ≡ cond (ends o) (Some k) None
  unfolding seek
  only k None = refl
  only k (Some []) = refl
  only k (Some (b ∷ rest)) = seek-plain (([], k) ∷ []) b rest refl refl ∙ seek-none 0 rest

  one_word : (w text : List ℕ) (k : K) → are_bytes w ≡ true → seek 0 (ahead w (([], k) ∷ [])) text ≡ cond (bytes_eq w text) (Some k) None
  one_word w text k bytes =
      seek-ahead w (([], k) ∷ []) text bytes ∙ only k (after w text) ∙ ap (λ (c : Bool). cond c (Some k) None) (sym (bytes_eq-after w text))

  by_word : (a r : Bool) (b : ℕ) (rest : List ℕ) → eqb 97 b ≡ a → eqb 114 b ≡ r
      → seek 0 words (b ∷ rest) ≡ option_map key (cond (r && bytes_eq (codes "ows") rest) (Some Rows) (cond (a && bytes_eq (codes "larms") rest) (Some Alarms) None))
  by_word true true b rest ha hr = absurd (omega (arith, both))
    where
      both : (97 ≡ b) × (114 ≡ b)
      both = grind (arith, nat_tests)
  by_word true false b rest ha hr =
      seek-plain words b rest refl refl
      ∙ ap (λ (c : Bool). seek 0 (cond c ((codes "larms", k1) ∷ cond (eqb 114 b) ((codes "ows", k2) ∷ []) []) (cond (eqb 114 b) ((codes "ows", k2) ∷ []) [])) rest) ha
      ∙ ap (λ (c : Bool). seek 0 ((codes "larms", k1) ∷ cond c ((codes "ows", k2) ∷ []) []) rest) hr
      ∙ one_word (codes "larms") rest k1 refl
      ∙ to_key (bytes_eq (codes "larms") rest) Alarms
    where
      to_key : (c : Bool) (r : Route) → cond c (Some (key r)) None ≡ option_map key (cond c (Some r) None)
      to_key true r = refl
      to_key false r = refl
  by_word false true b rest ha hr =
      seek-plain words b rest refl refl
      ∙ ap (λ (c : Bool). seek 0 (cond c ((codes "larms", k1) ∷ cond (eqb 114 b) ((codes "ows", k2) ∷ []) []) (cond (eqb 114 b) ((codes "ows", k2) ∷ []) [])) rest) ha
      ∙ ap (λ (c : Bool). seek 0 (cond c ((codes "ows", k2) ∷ []) []) rest) hr
      ∙ one_word (codes "ows") rest k2 refl
      ∙ to_key (bytes_eq (codes "ows") rest) Rows
    where
      to_key : (c : Bool) (r : Route) → cond c (Some (key r)) None ≡ option_map key (cond c (Some r) None)
      to_key true r = refl
      to_key false r = refl
  by_word false false b rest ha hr =
      seek-plain words b rest refl refl
      ∙ ap (λ (c : Bool). seek 0 (cond c ((codes "larms", k1) ∷ cond (eqb 114 b) ((codes "ows", k2) ∷ []) []) (cond (eqb 114 b) ((codes "ows", k2) ∷ []) [])) rest) ha
      ∙ ap (λ (c : Bool). seek 0 (cond c ((codes "ows", k2) ∷ []) []) rest) hr
      ∙ seek-none 0 rest

  by_words : (rest : List ℕ) → seek 0 words rest ≡ option_map key (cond (bytes_eq (codes "rows") rest) (Some Rows) (cond (bytes_eq (codes "alarms") rest) (Some Alarms) None))
  unfolding seek
  by_words [] = refl
  by_words (b ∷ rest) = by_word (eqb 97 b) (eqb 114 b) b rest refl refl

  -- behind a name: nothing more, or a slash and a word
  behind_name : (rest : List ℕ) → seek 0 longer (slash ∷ rest) ≡ option_map key (queue_route (slash ∷ rest))
  behind_name rest = seek-plain longer slash rest refl refl ∙ by_words rest

  -- where a name ends at a slash
  taken-slash : (seg : List ℕ) (c : Bool) (path : List ℕ) → segment path ≡ seg → cuts seg single ≡ true → param_step behind path ≡ (length seg - 1, longer)
  unfolding param_step
  taken-slash seg c path is cut =
      rw (is, cut) refl

  taken-all : (seg : List ℕ) (path : List ℕ) → segment path ≡ seg → cuts seg single ≡ false → param_step behind path ≡ cond (has_slash path) (0, []) (length path, behind)
  unfolding param_step
  taken-all seg path is cut = rw (is, cut) refl

  into_name : (b : ℕ) (path : List ℕ) → b < 256 → seek 0 named_rows (b ∷ path) ≡ seek ((param_step behind (b ∷ path)).0 - 1) (param_step behind (b ∷ path)).1 path
  unfolding seek
  into_name b path byte =
      let no : eqb param_token b ≡ false = grind (arith, nat_tests) in
      let taken : Option K = seek ((param_step behind (b ∷ path)).0 - 1) (param_step behind (b ∷ path)).1 path in
      ap (λ (c : Bool). or_else (seek 0 (cond c ((codes "/alarms", k1) ∷ cond c ((codes "/rows", k2) ∷ cond c (([], k3) ∷ []) []) (cond c (([], k3) ∷ []) [])) (cond c ((codes "/rows", k2) ∷ cond c (([], k3) ∷ []) []) (cond c (([], k3) ∷ []) []))) path)
      (or_else taken None)) no
      ∙ ap (λ (o : Option K). or_else o (or_else taken None)) (seek-none 0 path)
      ∙ or_else-none taken

  all_named : (b : ℕ) (n : List ℕ) → b < 256 → has_slash (b ∷ n) ≡ false → seek 0 named_rows (b ∷ n) ≡ Some k3
  unfolding seek
  all_named b n byte plain =
      let taken : param_step behind (b ∷ n) ≡ (length (b ∷ n), behind) =
      taken-all (b ∷ n) (b ∷ n) (segment-plain (b ∷ n) plain) (cuts-none (b ∷ n) plain) ∙ ap (λ (c : Bool). cond c (0, []) (length (b ∷ n), behind)) plain in
      into_name b n byte
      ∙ ap (λ (x : ℕ × RowsOf K). seek (x.0 - 1) x.1 n) taken
      ∙ ap (λ (skip : ℕ). seek skip behind n) (let e : length (b ∷ n) - 1 ≡ length n = omega arith in e)
      ∙ ap (λ (path : List ℕ). seek (length n) behind path) (sym (append-nil n))
      ∙ seek-skip n [] behind

  named_and_more : (b : ℕ) (n rest : List ℕ) → b < 256 → has_slash (b ∷ n) ≡ false → seek 0 named_rows (b ∷ (n ++ slash ∷ rest)) ≡ option_map key (queue_route (slash ∷ rest))
  named_and_more b n rest byte plain =
      let path : List ℕ = n ++ slash ∷ rest in
      let size : length ((b ∷ n) ++ single) ≡ length (b ∷ n) + 1 = length-append (b ∷ n) single in
      let taken : param_step behind (b ∷ path) ≡ (length ((b ∷ n) ++ single) - 1, longer) = taken-slash ((b ∷ n) ++ single) true (b ∷ path) (segment-slash (b ∷ n) rest plain) (cuts-slash b n) in
      into_name b path byte
      ∙ ap (λ (x : ℕ × RowsOf K). seek (x.0 - 1) x.1 path) taken
      ∙ ap (λ (skip : ℕ). seek skip longer path) (let e : length ((b ∷ n) ++ single) - 1 - 1 ≡ length n = omega arith in e)
      ∙ seek-skip n (slash ∷ rest) longer
      ∙ behind_name rest

  no_name : (path : List ℕ) → seek 0 named_rows (slash ∷ path) ≡ None
  no_name path =
      into_name slash path (omega arith)
      ∙ ap (λ (x : ℕ × RowsOf K). seek (x.0 - 1) x.1 path) (taken-all single (slash ∷ path) refl refl)
      ∙ seek-none (0 - 1) path

  map-twice : (name : List ℕ) (o : Option Route) → option_map key o ≡ option_map (λ (t : Route × List ℕ). key t.0) (option_map (λ route. (route, name)) o)
  map-twice name None = refl
  map-twice name (Some route) = refl

  name_then : (b : ℕ) (n q : List ℕ) → Left q → b < 256 → has_slash (b ∷ n) ≡ false → seek 0 named_rows (b ∷ (n ++ q)) ≡ option_map (λ (t : Route × List ℕ). key t.0) (queue_target (b ∷ n) q)
  name_then b n q (inl h) byte plain =
      ap (λ (q : List ℕ). seek 0 named_rows (b ∷ (n ++ q))) h
      ∙ ap (λ (path : List ℕ). seek 0 named_rows (b ∷ path)) (append-nil n)
      ∙ all_named b n byte plain
      ∙ ap (λ (q : List ℕ). option_map (λ (t : Route × List ℕ). key t.0) (queue_target (b ∷ n) q)) (sym h)
  name_then b n q (inr h) byte plain =
      ap (λ (q : List ℕ). seek 0 named_rows (b ∷ (n ++ q))) h.1
      ∙ named_and_more b n h.0 byte plain
      ∙ map-twice (b ∷ n) (queue_route (slash ∷ h.0))
      ∙ ap (λ (q : List ℕ). option_map (λ (t : Route × List ℕ). key t.0) (queue_target (b ∷ n) q)) (sym h.1)

  abbrev target : List ℕ → List ℕ → Option K
  target n q = option_map (λ (t : Route × List ℕ). key t.0) (queue_target n q)

  by_first : (c : Bool) (b : ℕ) (text : List ℕ) → eqb b slash ≡ c → b < 256
      → seek 0 named_rows (b ∷ text) ≡ target (cond c [] (b ∷ until_slash text)) (cond c (b ∷ text) (from_slash text))
  by_first true b text h byte =
      let same : b ≡ slash = grind (arith, nat_tests) in
      ap (λ (x : ℕ). seek 0 named_rows (x ∷ text)) same ∙ no_name text
  by_first false b text h byte =
      let plain : has_slash (b ∷ until_slash text) ≡ false = ap (λ (c : Bool). cond c true (has_slash (until_slash text))) h ∙ until-has text in
      ap (λ (rest : List ℕ). seek 0 named_rows (b ∷ rest)) (joined text) ∙ name_then b (until_slash text) (from_slash text) (left text) byte plain

  by_name : (text : List ℕ) → ((i : ℕ) → get_or text i 0 < 256) → seek 0 named_rows text ≡ target (until_slash text) (from_slash text)
  unfolding seek
  by_name [] bytes = refl
  by_name (b ∷ text) bytes = by_first (eqb b slash) b text refl (bytes 0)

  -- behind the common beginning
  slash_first : (c : Bool) (b : ℕ) (text : List ℕ) → eqb slash b ≡ c → ((i : ℕ) → get_or text i 0 < 256)
      → seek 0 (step b common) text ≡ option_map (λ (t : Route × List ℕ). key t.0) (option_and_then (λ rest. queue_target (until_slash rest) (from_slash rest)) (cond c (Some text) None))
  slash_first true b text h bytes =
      ap (λ (c : Bool). seek 0 (cond c ((param_token ∷ codes "/alarms", k1) ∷ cond c ((param_token ∷ codes "/rows", k2) ∷ cond c ((param_token ∷ [], k3) ∷ []) []) (cond c ((param_token ∷ [], k3) ∷ []) []))
      (cond c ((param_token ∷ codes "/rows", k2) ∷ cond c ((param_token ∷ [], k3) ∷ []) []) (cond c ((param_token ∷ [], k3) ∷ []) []))) text) h
      ∙ by_name text bytes
  slash_first false b text h bytes =
      ap (λ (c : Bool). seek 0 (cond c ((param_token ∷ codes "/alarms", k1) ∷ cond c ((param_token ∷ codes "/rows", k2) ∷ cond c ((param_token ∷ [], k3) ∷ []) []) (cond c ((param_token ∷ [], k3) ∷ []) []))
      (cond c ((param_token ∷ codes "/rows", k2) ∷ cond c ((param_token ∷ [], k3) ∷ []) []) (cond c ((param_token ∷ [], k3) ∷ []) []))) text) h
      ∙ seek-none 0 text

  abbrev named : List ℕ → Option (Route × List ℕ)
  named rest = queue_target (until_slash rest) (from_slash rest)

  behind_common : (o : Option (List ℕ)) → ((text : List ℕ) → o ≡ Some text → (i : ℕ) → get_or text i 0 < 256)
      → option_and_then (seek 0 common) o ≡ option_map (λ (t : Route × List ℕ). key t.0) (cond (ends o) (Some (Queues, [])) (option_and_then named (option_and_then (after single) o)))
  unfolding seek
  behind_common None bytes = refl
  behind_common (Some []) bytes = refl
  behind_common (Some (b ∷ text)) bytes =
      seek-plain common b text refl refl ∙ slash_first (eqb slash b) b text refl (λ i. rw add-one at (bytes (b ∷ text) refl (i + 1)))

  pub route_found : (path : List ℕ) → ((i : ℕ) → get_or path i 0 < 256)
      → seek 0 (ahead (codes "/statistics/queues") common) path ≡ option_map (λ (t : Route × List ℕ). key t.0) (target_of path)
  route_found path bytes =
      let beginning : List ℕ = codes "/statistics/queues" in
      let rest : Option (List ℕ) = after (codes "/statistics/queues") path in
      seek-ahead (codes "/statistics/queues") common path refl
      ∙ behind_common (after (codes "/statistics/queues") path)
      (λ text is i. let e : path ≡ codes "/statistics/queues" ++ text = after-some (codes "/statistics/queues") path text is in
      let there : get_or path (18 + i) 0 ≡ get_or text i 0 = ap (λ (p : List ℕ). get_or p (18 + i) 0) e ∙ get_or-append-add (codes "/statistics/queues") text i 0 in
      omega (arith, bytes (18 + i)))
      ∙ ap (λ (c : Bool). option_map (λ (t : Route × List ℕ). key t.0) (cond c (Some (Queues, [])) (option_and_then named (option_and_then (after single) (after (codes "/statistics/queues") path)))))
      (sym (bytes_eq-after (codes "/statistics/queues") path))
      ∙ ap (λ (o : Option (List ℕ)). option_map (λ (t : Route × List ℕ). key t.0) (cond (bytes_eq (codes "/statistics/queues") path) (Some (Queues, [])) (option_and_then named o)))
      (sym (after-append (codes "/statistics/queues") single path))

-- A path that is cut without the router asks for the same.
use Rattle.std.proofs.Common.{Bor, ◌≡◌, ◌≢◌, ℕ, suc, ◌+◌, ◌<◌, Bool, true, false, true≢false, not, cond, eqb, List, [], ◌∷◌, ◌++◌, length, take, drop, Option, Some, None, option_map, option_and_then, bytes_eq, codes, refl, sym, ap, ◌∙◌, arith}
use Rattle.std.specs.List.{before_first, after_first, position_or_len}
use Rattle.std.specs.Option.{MatchOption}
use Rattle.std.specs.Str.Pattern.{FindsTextPrefix, StripsPrefix}
use Rattle.std.proofs.lemmas.Bool.Decides.{Decides-eqb}
use Rattle.std.proofs.lemmas.Slice.Eq.{bytes_eq-Decides}
use Rattle.statistics_api.specs.declared.routes.Route.{Route}
use Rattle.statistics_api.specs.declared.routes.Route.TheVariants.{Queues, Queue}
use Rattle.statistics_api.specs.Routes.{slash, after, until_slash, from_slash, queue_route, queue_target, target_of}
use Rattle.statistics_api.specs.private.Cut.{is_slash, IsCut}
use Rattle.statistics_api.proofs.RouteLemmas.{after-some}

after-append_same : (w text : List ℕ) → after w (w ++ text) ≡ Some text
after-append_same [] text = refl
after-append_same (x ∷ w) text =
    let same : eqb x x ≡ true = (Decides-eqb x x).1 refl in
    ap (λ (c : Bool). cond c (after w (w ++ text)) None) same ∙ after-append_same w text

no_more : (o : Option (List ℕ)) (w text : List ℕ) → ((t : List ℕ) → o ≡ Some t → text ≡ w ++ t) → FindsTextPrefix w text None → None ≡ o
no_more None w text is lacks = refl
no_more (Some t) w text is lacks = absurd (lacks t (is t refl))

-- what `strip_prefix` says of a text in front
pub strips-after : (w text : List ℕ) (r : Option (Bor (List ℕ))) → MatchOption r (FindsTextPrefix w text None) (λ x. StripsPrefix (FindsTextPrefix w) text x.now)
    → option_map (λ s. s.now) r ≡ after w text
strips-after w text None h = no_more (after w text) w text (after-some w text) h
strips-after w text (Some x) h =
    let is : text ≡ w ++ x.now = h.1.1 ∙ ap (λ (t : List ℕ). w ++ t) (sym h.2) in
    sym (ap (after w) is ∙ after-append_same w x.now)

-- ---- a text up to its first slash, and from there on

until-if : (c : Bool) (b n : ℕ) (text u : List ℕ) → u ≡ take n text → cond c [] (b ∷ u) ≡ take (cond (not c) (1 + n) 0) (b ∷ text)
until-if true b n text u h = refl
until-if false b n text u h =
    let more : suc n ≡ 1 + n = omega arith in
    ap (λ (t : List ℕ). b ∷ t) h ∙ ap (λ (k : ℕ). take k (b ∷ text)) more

pub until-first : (text : List ℕ) → until_slash text ≡ before_first is_slash text
until-first [] = refl
until-first (b ∷ text) = until-if (is_slash b) b (position_or_len is_slash text) text (until_slash text) (until-first text)

from-if : (c : Bool) (b n : ℕ) (text f : List ℕ) → is_slash b ≡ c → (n < length text → f ≡ slash ∷ drop (n + 1) text)
    → cond (not c) (1 + n) 0 < length (b ∷ text) → cond c (b ∷ text) f ≡ slash ∷ drop (cond (not c) (1 + n) 0 + 1) (b ∷ text)
from-if true b n text f is h within = ap (λ (x : ℕ). x ∷ text) ((Decides-eqb b slash).0 is)
from-if false b n text f is h within =
    let there : 1 + n < suc (length text) = within in
    let more : suc (n + 1) ≡ 1 + n + 1 = omega arith in
    h (omega (arith, there)) ∙ ap (λ (k : ℕ). slash ∷ drop k (b ∷ text)) more

-- where there is one
pub from-first : (text : List ℕ) → position_or_len is_slash text < length text → from_slash text ≡ slash ∷ after_first is_slash text
from-first [] within = absurd (omega (arith, within))
from-first (b ∷ text) within = from-if (is_slash b) b (position_or_len is_slash text) text (from_slash text) refl (from-first text) within

none-if : (c : Bool) (b n : ℕ) (text u f : List ℕ) → (n ≡ length text → (u ≡ text) × (f ≡ [])) → cond (not c) (1 + n) 0 ≡ length (b ∷ text)
    → (cond c [] (b ∷ u) ≡ b ∷ text) × (cond c (b ∷ text) f ≡ [])
none-if true b n text u f h all = absurd (omega (arith, all))
none-if false b n text u f h all =
    let rest : (u ≡ text) × (f ≡ []) = h (omega (arith, all)) in
    (ap (λ (t : List ℕ). b ∷ t) rest.0, rest.1)

-- where there is none
pub until-all : (text : List ℕ) → position_or_len is_slash text ≡ length text → (until_slash text ≡ text) × (from_slash text ≡ [])
until-all [] all = (refl, refl)
until-all (b ∷ text) all = none-if (is_slash b) b (position_or_len is_slash text) text (until_slash text) (from_slash text) (until-all text) all

-- ---- what is asked for of a queue

pub empty_name : (name rest : List ℕ) → length name ≡ 0 → None ≡ queue_target name rest
empty_name [] rest h = refl
empty_name (b ∷ name) rest h = absurd (omega (arith, h))

pub some_route : (name rest : List ℕ) (route : Route) → length name ≢ 0 → queue_route rest ≡ Some route → Some (route, name) ≡ queue_target name rest
some_route [] rest route some h = absurd (some refl)
some_route (b ∷ name) rest route some h = sym (ap (λ (o : Option Route). option_map {U = Route × List ℕ} (λ r. (r, b ∷ name)) o) h)

pub no_route : (text : List ℕ) (x y : Bor (List ℕ)) → IsCut text (Some (x, y)) → queue_route (slash ∷ y.now) ≡ None → None ≡ queue_target (until_slash text) (from_slash text)
no_route text x y h none =
    let rest : from_slash text ≡ slash ∷ y.now = from-first text h.2 ∙ ap (λ (t : List ℕ). slash ∷ t) (sym h.1) in
    nothing (until_slash text) (from_slash text) (ap queue_route rest ∙ none)
  where
    nothing : (name rest : List ℕ) → queue_route rest ≡ None → None ≡ queue_target name rest
    nothing [] rest h = refl
    nothing (b ∷ name) rest h = sym (ap (λ (o : Option Route). option_map {U = Route × List ℕ} (λ r. (r, b ∷ name)) o) h)

-- a name without a slash behind it
pub whole_name : (text : List ℕ) (found : Option (Route × List ℕ)) → position_or_len is_slash text ≡ length text
    → ((rest : List ℕ) → queue_route rest ≡ Some Queue → found ≡ queue_target text rest) → found ≡ queue_target (until_slash text) (from_slash text)
whole_name text found all is =
    let parts : (until_slash text ≡ text) × (from_slash text ≡ []) = until-all text all in
    is [] refl ∙ ap (λ (n : List ℕ). queue_target n []) (sym parts.0) ∙ ap (queue_target (until_slash text)) (sym parts.1)

-- and one with a slash behind it
pub cut_name : (text : List ℕ) (x y : Bor (List ℕ)) (route : Route) (found : Option (Route × List ℕ)) → IsCut text (Some (x, y)) → queue_route (slash ∷ y.now) ≡ Some route
    → ((rest : List ℕ) → queue_route rest ≡ Some route → found ≡ queue_target x.now rest) → found ≡ queue_target (until_slash text) (from_slash text)
cut_name text x y route found h known is =
    let name : x.now ≡ until_slash text = h.0 ∙ sym (until-first text) in
    let rest : slash ∷ y.now ≡ from_slash text = ap (λ (t : List ℕ). slash ∷ t) h.1 ∙ sym (from-first text h.2) in
    is (slash ∷ y.now) known ∙ ap (λ (n : List ℕ). queue_target n (slash ∷ y.now)) name ∙ ap (queue_target (until_slash text)) rest

turned : (b : Bool) (w path : List ℕ) → bytes_eq w path ≡ b → bytes_eq path w ≡ false → b ≡ false
turned false w path is other = refl
turned true w path is other = absurd (true≢false (sym ((bytes_eq-Decides path w).1 (sym ((bytes_eq-Decides w path).0 is))) ∙ other))

pub other_way : (w path : List ℕ) → bytes_eq path w ≡ false → bytes_eq w path ≡ false
other_way w path other = turned (bytes_eq w path) w path refl other

-- what stands behind the part of a path that all queues have in common
pub target_behind : (path rest : List ℕ) → bytes_eq (codes "/statistics/queues") path ≡ false → Some rest ≡ after (codes "/statistics/queues/") path
    → queue_target (until_slash rest) (from_slash rest) ≡ target_of path
target_behind path rest other behind =
    sym (ap (λ (b : Bool). cond {A = Option (Route × List ℕ)} b (Some (Queues, []))
    (option_and_then (λ t. queue_target (until_slash t) (from_slash t)) (after (codes "/statistics/queues/") path))) other
    ∙ ap (λ (o : Option (List ℕ)). option_and_then (λ t. queue_target (until_slash t) (from_slash t)) o) (sym behind))

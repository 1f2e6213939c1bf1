-- What lies on a board stays of one place.
use Rattle.std.proofs.Common.{◌≡◌, ◌≢◌, ℕ, ◌⊎◌, List, [], ◌∷◌, ◌++◌, set, fold, refl, sym, ap, subst, ◌∙◌, inl, inr, ⊎_elim, Result, Ok, Err, MatchResult}
use mathlib.Core.Option.{some}
use lib.ListN.{get_elem?}
use Rattle.logbook.specs.Pages.{Book}
use Rattle.crossbeam_utils.specs.Register.{Admits, TurnsAt, Forks, Merges}
use Rattle.atomic_table.proofs.Lists.{at_set, at_snoc}
use Rattle.board.specs.Printed.{Publications, place_of}
use Rattle.board.specs.Rule.{place_with}
use Rattle.board.specs.private.Rule.{IsOfPlace, Sees, IsAt}

-- a book is known by its place
pub same_book : (a b : Book) → place_of a ≡ place_of b → a ≡ b
same_book a b e =
    let number : a.number ≡ b.number = cc e in
    let log : a.log_name ≡ b.log_name = cc e in
    let cells : a.cells_name ≡ b.cells_name = cc e in
    λ i. record { number = number i; log_name = log i; cells_name = cells i }

abbrev Fits : List ℕ → Publications → Type 0
Fits v told = (v ≡ []) ⊎ (v ≡ place_of told.book)

pub admits : Admits IsOfPlace []
admits told views h seat v at = ⊎_elim (h seat v) (λ (e : [] ≡ v). inl (sym e)) (at_snoc views [] v seat at)

pub sees : (seat : ℕ) (v : List ℕ) (x y : Publications) → place_of y.book ≡ place_of x.book → TurnsAt IsOfPlace seat v x y Sees
sees seat v x y same views h at = (
  place_of y.book,
  (λ j u e. ⊎_elim (λ (t : (j ≡ seat) × (place_of y.book ≡ u)). inr (sym t.1))
      (λ (t : (j ≢ seat) × (get_elem? views j ≡ some u)). ⊎_elim (λ (none : u ≡ []). inl none) (λ (is : u ≡ place_of x.book). inr (is ∙ sym same)) (h j u t.1))
      (at_set views seat j (place_of y.book) u e)),
  (h seat v at, refl),
)

-- a view that becomes another which fits keeps the rule
set_fits : (told : Publications) (views : List (List ℕ)) (seat : ℕ) (v : List ℕ) → IsOfPlace told views → Fits v told → IsOfPlace told (set views seat v)
set_fits told views seat v h fits j u e = ⊎_elim (λ (t : (j ≡ seat) × (v ≡ u)). subst (λ (z : List ℕ). Fits z told) t.1 fits)
    (λ (t : (j ≢ seat) × (get_elem? views j ≡ some u)). h j u t.1) (at_set views seat j v u e)

pub forks : (seat : ℕ) (v : List ℕ) → Forks IsOfPlace seat v v v
forks seat v told views h at j u e = ⊎_elim (set_fits told views seat v h (h seat v at) j u)
    (λ (same : v ≡ u). subst (λ (z : List ℕ). Fits z told) same (h seat v at)) (at_snoc (set views seat v) v u j e)

pub merges : (seat : ℕ) (v : List ℕ) (other : ℕ) (w : List ℕ) → Merges IsOfPlace seat v other w w []
merges seat v other w told views h at apart there =
    let fits : Fits w told = ⊎_elim (λ (t : (other ≡ seat) × (w ≡ w)). absurd (apart t.0))
    (λ (t : (other ≢ seat) × (get_elem? views other ≡ some w)). h other w t.1) (at_set views seat other w w there) in
    set_fits told (set views seat w) other [] (set_fits told views seat w h fits) (inl refl)

-- behind more turns the place is theirs
pub comes_behind : (place : List ℕ) (pending : List Publications) (told : Publications) → fold place_with place (pending ++ told ∷ []) ≡ place_of told.book
comes_behind place [] told = refl
comes_behind place (t ∷ ts) told = comes_behind (place_of t.book) ts told

-- turns of the same place wait to be seen, or were let go
pub appended : {A : Type 0} (r : Result A Publications) (place : List ℕ) (shown : Publications) (pending : List Publications) (view : List ℕ) (told : Publications)
    (shown' : Publications) (pending' : List Publications) (view' : List ℕ) → IsAt place shown pending view → place_of told.book ≡ place → shown' ≡ shown → view' ≡ view
    → MatchResult r (λ _. pending' ≡ pending ++ told ∷ []) (λ x. (x ≡ told) × (pending' ≡ pending)) → IsAt place shown' pending' view'
appended (Ok a) place shown pending view told shown' pending' view' at same lies known is = record {
  lies = ap (λ (t : Publications). place_of t.book) lies ∙ at.lies;
  comes = ap (λ (ts : List Publications). fold place_with place ts) is ∙ (comes_behind place pending told ∙ same);
  known = known ∙ at.known;
}
appended (Err x) place shown pending view told shown' pending' view' at same lies known is = record {
  lies = ap (λ (t : Publications). place_of t.book) lies ∙ at.lies;
  comes = ap (λ (ts : List Publications). fold place_with place ts) is.1 ∙ at.comes;
  known = known ∙ at.known;
}

-- what is published next is of the same place
pub next_is : (place : List ℕ) (shown : Publications) (pending : List Publications) (view : List ℕ) (next : Publications)
    → IsAt place shown pending view → place_of next.book ≡ fold place_with (place_of shown.book) pending → place_of next.book ≡ place_of shown.book
next_is place shown pending view next at is = is ∙ (ap (λ (p : List ℕ). fold place_with p pending) at.lies ∙ (at.comes ∙ sym at.lies))

-- what was published, or waits still
pub published : {A E : Type 0} (r : Result A E) (place : List ℕ) (shown : Publications) (pending : List Publications) (view : List ℕ) (shown' : Publications) (pending' : List Publications) (view' : List ℕ)
    → IsAt place shown pending view
    → MatchResult r (λ _. (place_of shown'.book ≡ fold place_with (place_of shown.book) pending) × (pending' ≡ [])) (λ _. (shown' ≡ shown) × (pending' ≡ pending))
    → MatchResult r (λ _. Sees view shown shown' view') (λ _. view' ≡ view)
    → IsAt place shown' pending' view'
published (Ok a) place shown pending view shown' pending' view' at values rule =
    let here : place_of shown'.book ≡ place = next_is place shown pending view shown' at values.0 ∙ at.lies in
    record { lies = here; comes = ap (λ (ts : List Publications). fold place_with place ts) values.1; known = rule.1 ∙ here }
published (Err e) place shown pending view shown' pending' view' at values rule = record {
  lies = ap (λ (t : Publications). place_of t.book) values.0 ∙ at.lies;
  comes = ap (λ (ts : List Publications). fold place_with place ts) values.1 ∙ at.comes;
  known = rule ∙ at.known;
}

-- nothing of it changes when the place is told
pub still_at : (place : List ℕ) (shown : Publications) (pending : List Publications) (view : List ℕ) (shown' : Publications) (pending' : List Publications) (view' : List ℕ)
    → shown' ≡ shown → pending' ≡ pending → view' ≡ view → IsAt place shown pending view → IsAt place shown' pending' view'
still_at place shown pending view shown' pending' view' same waits known at = record {
  lies = ap (λ (t : Publications). place_of t.book) same ∙ at.lies;
  comes = ap (λ (ts : List Publications). fold place_with place ts) waits ∙ at.comes;
  known = known ∙ at.known;
}

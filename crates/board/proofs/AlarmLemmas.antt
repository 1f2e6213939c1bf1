-- The alarms of a queue, at a place.
use Rattle.std.proofs.Common.{◌≡◌, ℕ, zero, suc, List, [], ◌∷◌, map, Option, Some, None, refl}
use Rattle.std.specs.Prelude.{slice_get, option_map}

pub slice_get-map : {X Y : Type 0} (f : X → Y) (xs : List X) (i : ℕ) → slice_get (map f xs) i ≡ option_map f (slice_get xs i)
slice_get-map f [] i = refl
slice_get-map f (x ∷ xs) zero = refl
slice_get-map f (x ∷ xs) (suc i) = slice_get-map f xs i

pub both-parts : {X A B : Type 0} (f : X → A) (g : X → B) (o : Option X) (a : A) (b : B) → option_map f o ≡ Some a → option_map g o ≡ Some b → option_map {U = A × B} (λ x. (f x, g x)) o ≡ Some (a, b)
both-parts f g None a b h k = absurd cc
both-parts f g (Some x) a b h k =
    let first : f x ≡ a = cc in
    let second : g x ≡ b = cc in
    rw (first, second) refl

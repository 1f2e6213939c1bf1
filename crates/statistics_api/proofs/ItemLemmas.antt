-- Items made one after another, and that no statistics have a float.
use Rattle.std.proofs.Common.{◌≡◌, ℕ, ◌+◌, ◌<◌, ◌≤◌, false, ◌||◌, List, [], ◌∷◌, ◌++◌, length, get_or, drop, refl, sym, ap, ◌∙◌}
use Rattle.std.proofs.lemmas.List.{at_drop_more, drop_all}
use Rattle.serde_json.specs.Data.{Data, Items, no_items, item}
use Rattle.serde_json.specs.View.{view, items_view}
use Rattle.serde_json.specs.Written.{has_float, items_have_float}
use Rattle.serde_json.specs.declared.value.Value.{Value}
use Rattle.statistics_api.specs.Texts.{items_by}

-- the items of these values, and others after them
abbrev pub items_then : List Value → Items → Items
items_then [] rest = rest
items_then (v ∷ vs) rest = item (view v) (items_then vs rest)

pub items_then-push : (vs : List Value) (v : Value) (rest : Items) → items_then (vs ++ v ∷ []) rest ≡ items_then vs (item (view v) rest)
items_then-push [] v rest = refl
items_then-push (u ∷ vs) v rest = ap (λ is. item (view u) is) (items_then-push vs v rest)

pub items_then-end : (vs : List Value) → items_then vs no_items ≡ items_view vs
items_then-end [] = refl
items_then-end (v ∷ vs) = ap (λ is. item (view v) is) (items_then-end vs)

module _ {X : Type 0} (data_of : X → Data) where
  -- one value more for the next of what is left
  pub items_by-at : (xs : List X) (vs : List Value) (v : Value) (i : ℕ) (d : X) → i < length xs → view v ≡ data_of (get_or xs i d)
      → items_then vs (items_by data_of (drop i xs)) ≡ items_by data_of xs
      → items_then (vs ++ v ∷ []) (items_by data_of (drop (i + 1) xs)) ≡ items_by data_of xs
  items_by-at xs vs v i d lt value h =
      items_then-push vs v (items_by data_of (drop (i + 1) xs))
      ∙ ap (λ (e : Data). items_then vs (item e (items_by data_of (drop (i + 1) xs)))) value
      ∙ ap (λ (rest : Items). items_then vs rest) (sym (at_drop_more (items_by data_of) xs i d lt))
      ∙ h

  pub items_by-next : (xs : List X) (vs : List Value) (v : Value) (i : ℕ) (x : X) → i < length xs → x ≡ get_or xs i x → view v ≡ data_of x
      → items_then vs (items_by data_of (drop i xs)) ≡ items_by data_of xs
      → items_then (vs ++ v ∷ []) (items_by data_of (drop (i + 1) xs)) ≡ items_by data_of xs
  items_by-next xs vs v i x lt is value h = items_by-at xs vs v i x lt (value ∙ ap data_of is) h

  pub items_by-all : (xs : List X) (vs : List Value) (i : ℕ) → length xs ≤ i → items_then vs (items_by data_of (drop i xs)) ≡ items_by data_of xs → items_view vs ≡ items_by data_of xs
  items_by-all xs vs i past h =
      sym (items_then-end vs) ∙ ap (λ (rest : List X). items_then vs (items_by data_of rest)) (sym (drop_all i xs past)) ∙ h

  pub items_by-float : ((x : X) → has_float (data_of x) ≡ false) → (xs : List X) → items_have_float (items_by data_of xs) ≡ false
  items_by-float h [] = refl
  items_by-float h (x ∷ xs) = ap (λ b. b || items_have_float (items_by data_of xs)) (h x) ∙ items_by-float h xs

-- The free slots, of which the last is taken first.
use Rattle.std.proofs.Common.{◌≡◌, ◌≢◌, ℕ, ◌+◌, ◌<◌, ◌≤◌, inl, inr, ◌⊎◌, List, [], ◌∷◌, ◌++◌, length, get_or, Option, Some, None, IfSome, refl, sym, ap, ◌∙◌, arith, length-append}
use Rattle.std.proofs.lemmas.Bool.{cases_lt}
use Rattle.std.proofs.lemmas.List.{get_or_append_left, get_or_at, get_or_past}
use Rattle.age_index.specs.declared.node.Chain.{Chain}
use Rattle.age_index.specs.declared.node.Node.{Node}
use Rattle.age_index.specs.private.Nodes.{unused, number_at, number_in, after_of, before_of, AreFree}
use Rattle.age_index.specs.private.Links.{IsChain, IsPlace}
use Rattle.age_index.proofs.Linking.{IsOneMore, chain_same, not_none, taken}

pub push_below : {X : Type 0} (xs : List X) (y : X) (k : ℕ) (d : X) → k < length xs → get_or (xs ++ y ∷ []) k d ≡ get_or xs k d
push_below xs y k d h = get_or_append_left xs (y ∷ []) d k h

pub push_at : {X : Type 0} (xs : List X) (y : X) (k : ℕ) (d : X) → k ≡ length xs → get_or (xs ++ y ∷ []) k d ≡ y
push_at xs y k d e = get_or_at xs y [] d k (sym e)

pub length_pushed : {X : Type 0} (xs : List X) (y : X) → length (xs ++ y ∷ []) ≡ length xs + 1
length_pushed xs y = length-append xs (y ∷ [])

pub free_popped : (xs ys : List Node) (free : List ℕ) (s n : ℕ) → AreFree xs (free ++ s ∷ []) → IsOneMore (number_in xs) (number_in ys) s n → length ys ≡ length xs → AreFree ys free
free_popped xs ys free s n a o l =
    let len = length_pushed free s in
    record {
      unnumbered = λ k d h.
          let at = push_below free s k d h in
          let none : number_in xs (get_or free k d) ≡ None = ap (number_in xs) (sym at) ∙ a.unnumbered k d (omega arith) in
          let far : get_or free k d ≢ s = λ e. let same : k ≡ length free = a.once k (length free) d (omega arith) (omega arith) (at ∙ e ∙ sym (push_at free s (length free) d refl)) in omega arith in
          o.others (get_or free k d) far ∙ none;
      within = λ k d h. let at = push_below free s k d h in let w = a.within k d (omega arith) in omega arith;
      once = λ j k d h w e. a.once j k d (omega arith) (omega arith) (push_below free s j d h ∙ e ∙ sym (push_below free s k d w));
    }

-- a place in a list with one more at its end
place_cases : (xs : List ℕ) (y k : ℕ) → k < length (xs ++ y ∷ []) → (k < length xs) ⊎ (k ≡ length xs)
place_cases xs y k h = let len = length_pushed xs y in elim (cases_lt k (length xs)) [ inl less ↦ inl less | inr more ↦ inr (omega arith) ]

free_more : (ys : List Node) (free : List ℕ) (s : ℕ) → ((k d : ℕ) → k < length free → number_in ys (get_or free k d) ≡ None) → ((k d : ℕ) → k < length free → get_or free k d < length ys)
    → ((k d : ℕ) → k < length free → get_or free k d ≢ s) → ((j k d : ℕ) → j < length free → k < length free → get_or free j d ≡ get_or free k d → j ≡ k)
    → number_in ys s ≡ None → s < length ys → AreFree ys (free ++ s ∷ [])
free_more ys free s unnumbered within far once none there = record {
  unnumbered = λ k d h. elim (place_cases free s k h) [
    | inl less ↦ ap (number_in ys) (push_below free s k d less) ∙ unnumbered k d less
    | inr last ↦ ap (number_in ys) (push_at free s k d last) ∙ none
  ];
  within = λ k d h. elim (place_cases free s k h) [
    | inl less ↦ let at = push_below free s k d less in let w = within k d less in omega arith
    | inr last ↦ let at = push_at free s k d last in omega arith
  ];
  once = λ j k d h w e. elim (place_cases free s j h) [
    | inl less ↦ elim (place_cases free s k w) [
      | inl both ↦ once j k d less both (sym (push_below free s j d less) ∙ e ∙ push_below free s k d both)
      | inr last ↦ absurd (far j d less (sym (push_below free s j d less) ∙ e ∙ push_at free s k d last))
    ]
    | inr last ↦ elim (place_cases free s k w) [
      | inl less ↦ absurd (far k d less (sym (push_below free s k d less) ∙ sym e ∙ push_at free s j d last))
      | inr both ↦ last ∙ sym both
    ]
  ];
}

pub free_pushed : (xs ys : List Node) (free : List ℕ) (s n : ℕ) → AreFree ys free → IsOneMore (number_in xs) (number_in ys) s n → length xs ≡ length ys → s < length ys → AreFree xs (free ++ s ∷ [])
free_pushed xs ys free s n a o l h =
    let far : (k d : ℕ) → k < length free → get_or free k d ≢ s = λ k d w e. not_none (number_in ys s) n o.number (ap (number_in ys) (sym e) ∙ a.unnumbered k d w) in
    free_more xs free s (λ k d w. sym (o.others (get_or free k d) (far k d w)) ∙ a.unnumbered k d w) (λ k d w. let u = a.within k d w in omega arith) far a.once o.free (omega arith)

pub node_made : (xs : List Node) (k : ℕ) → get_or (xs ++ unused ∷ []) k unused ≡ get_or xs k unused
node_made xs k = elim (cases_lt k (length xs)) [
  | inl less ↦ push_below xs unused k unused less
  | inr more ↦ elim (cases_lt (length xs) k) [
    | inl past ↦ let len = length_pushed xs unused in get_or_past (xs ++ unused ∷ []) k unused (omega arith) ∙ sym (get_or_past xs k unused more)
    | inr here ↦ push_at xs unused k unused (omega arith) ∙ sym (get_or_past xs k unused more)
  ]
]

pub free_made : (xs : List Node) (free : List ℕ) → AreFree xs free → AreFree (xs ++ unused ∷ []) (free ++ length xs ∷ [])
free_made xs free a =
    let len = length_pushed xs unused in
    let same : (k : ℕ) → number_in (xs ++ unused ∷ []) k ≡ number_in xs k = λ k. ap (λ (node : Node). node.number) (node_made xs k) in
    free_more (xs ++ unused ∷ []) free (length xs) (λ k d w. same (get_or free k d) ∙ a.unnumbered k d w) (λ k d w. let u = a.within k d w in omega arith)
    (λ k d w e. let u = a.within k d w in omega arith) a.once (same (length xs) ∙ ap (λ (node : Node). node.number) (get_or_past xs (length xs) unused (omega arith))) (omega arith)

-- a slot with a number is there

pub used_within : (nodes : List Node) (slot number : ℕ) → number_in nodes slot ≡ Some number → slot < length nodes
used_within nodes slot number e = elim (cases_lt slot (length nodes)) [
  | inl less ↦ less
  | inr more ↦ absurd (not_none (number_in nodes slot) number e (ap (λ (node : Node). node.number) (get_or_past nodes slot unused more)))
]

pub place_within : (nodes : List Node) (x : Option ℕ) (n : ℕ) → length nodes ≤ n → IsPlace (number_in nodes) x → IfSome x (λ slot. slot < n)
place_within nodes None n h p = tt
place_within nodes (Some slot) n h p = let m = taken (number_in nodes slot) p in let w = used_within nodes slot m.0 m.1 in omega arith

-- the last of the free slots

pub last_unnumbered : (nodes : List Node) (free : List ℕ) (s : ℕ) → AreFree nodes (free ++ s ∷ []) → number_in nodes s ≡ None
last_unnumbered nodes free s a =
    let len = length_pushed free s in
    ap (number_in nodes) (sym (push_at free s (length free) 0 refl)) ∙ a.unnumbered (length free) 0 (omega arith)

pub last_within : (nodes : List Node) (free : List ℕ) (s : ℕ) → AreFree nodes (free ++ s ∷ []) → s < length nodes
last_within nodes free s a =
    let len = length_pushed free s in
    let at = push_at free s (length free) 0 refl in
    let w = a.within (length free) 0 (omega arith) in
    omega arith

pub free_none : (nodes : List Node) (free : List ℕ) → length free ≡ 0 → AreFree nodes free
free_none nodes free e = record {
  unnumbered = λ k d h. absurd (omega arith);
  within = λ k d h. absurd (omega arith);
  once = λ j k d h w same. absurd (omega arith);
}

-- a chain over nodes that are the same at each slot

same_after : (c d : Chain) → ((k : ℕ) → get_or d.nodes.items k unused ≡ get_or c.nodes.items k unused) → d.first ≡ c.first → (x : Option ℕ) → after_of d x ≡ after_of c x
same_after c d same e None = e
same_after c d same e (Some k) = ap (λ (node : Node). node.after) (same k)

same_before : (c d : Chain) → ((k : ℕ) → get_or d.nodes.items k unused ≡ get_or c.nodes.items k unused) → d.last ≡ c.last → (x : Option ℕ) → before_of d x ≡ before_of c x
same_before c d same e None = e
same_before c d same e (Some k) = ap (λ (node : Node). node.before) (same k)

pub chain_made : (c d : Chain) → ((k : ℕ) → get_or d.nodes.items k unused ≡ get_or c.nodes.items k unused) → d.first ≡ c.first → d.last ≡ c.last
    → IsChain (number_at c) (after_of c) (before_of c) → IsChain (number_at d) (after_of d) (before_of d)
chain_made c d same first last chain =
    chain_same (number_at c) (number_at d) (after_of c) (before_of c) (after_of d) (before_of d) (λ k. ap (λ (node : Node). node.number) (same k)) (same_after c d same first)
    (same_before c d same last) chain

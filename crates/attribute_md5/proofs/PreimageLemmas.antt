-- The bytes of a list of attributes and of one more.
use Rattle.std.proofs.Common.{◌≡◌, ℕ, ◌+◌, ◌<◌, List, ◌++◌, length, get_or, take, refl, sym, ap, ◌∙◌, arith}
use Rattle.std.specs.List.{flat_map}
use Rattle.std.proofs.lemmas.Grind.{common_steps}
use Rattle.std.proofs.lemmas.List.Recursion.{same_from_clauses}
use Rattle.message.specs.Attribute.{AttributeText}
use Rattle.attribute_md5.specs.Digest.{attribute_preimage, preimage_of}

-- a list's bytes are those of each attribute, joined
preimage_of-joined : (attributes : List AttributeText) → preimage_of attributes ≡ flat_map attribute_preimage attributes
preimage_of-joined =
    same_from_clauses preimage_of (flat_map attribute_preimage) (λ a bytes. attribute_preimage a ++ bytes) refl (λ _ _. refl) (λ _ _. refl)

-- what one more element adds
flat_map-take : {X A : Type 0} (f : X → List A) (xs : List X) (i : ℕ) (d : X) → i < length xs
    → flat_map f (take (i + 1) xs) ≡ flat_map f (take i xs) ++ f (get_or xs i d)
flat_map-take f xs i d h = grind (arith, common_steps)

-- the attribute at i comes after those before it
pub preimage_of-take : (attributes : List AttributeText) (i : ℕ) (d : AttributeText) → i < length attributes
    → preimage_of (take (i + 1) attributes) ≡ preimage_of (take i attributes) ++ attribute_preimage (get_or attributes i d)
preimage_of-take attributes i d h =
    let last = attribute_preimage (get_or attributes i d) in
    preimage_of-joined (take (i + 1) attributes) ∙ flat_map-take attribute_preimage attributes i d h
    ∙ ap (λ bytes. bytes ++ last) (sym (preimage_of-joined (take i attributes)))

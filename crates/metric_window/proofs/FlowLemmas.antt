-- Flows added up, and the greatest number of each.
use Rattle.std.proofs.Common.{◌≡◌, ℕ, ◌+◌, min, List, [], ◌∷◌, ◌++◌, refl, sym, ap, ◌∙◌, arith}
use Rattle.metric_window.specs.declared.flows.Flows.{Flows}
use Rattle.metric_window.specs.Flows.{no_flows, added, total, greatest, capped}

abbrev flows_with : ℕ → ℕ → ℕ → ℕ → ℕ → ℕ → ℕ → Flows
flows_with a b c d e f g = record { sent = a; sent_size = b; received = c; empty_receives = d; deleted = e; refused = f; dead_letters_arrived = g }

same_parts : (a b c d e f g a2 b2 c2 d2 e2 f2 g2 : ℕ) → a ≡ a2 → b ≡ b2 → c ≡ c2 → d ≡ d2 → e ≡ e2 → f ≡ f2 → g ≡ g2
    → flows_with a b c d e f g ≡ flows_with a2 b2 c2 d2 e2 f2 g2
same_parts a b c d e f g a2 b2 c2 d2 e2 f2 g2 p q r s t u v = rw (p, q, r, s, t, u, v) refl

pub same_flows : (f g : Flows) → f.sent ≡ g.sent → f.sent_size ≡ g.sent_size → f.received ≡ g.received → f.empty_receives ≡ g.empty_receives → f.deleted ≡ g.deleted
    → f.refused ≡ g.refused → f.dead_letters_arrived ≡ g.dead_letters_arrived → f ≡ g
same_flows f g a b c d e h i =
    same_parts f.sent f.sent_size f.received f.empty_receives f.deleted f.refused f.dead_letters_arrived
    g.sent g.sent_size g.received g.empty_receives g.deleted g.refused g.dead_letters_arrived a b c d e h i

pub added-none : (f : Flows) → added f no_flows ≡ f
added-none f = same_flows (added f no_flows) f (omega arith) (omega arith) (omega arith) (omega arith) (omega arith) (omega arith) (omega arith)

pub added-assoc : (f g h : Flows) → added (added f g) h ≡ added f (added g h)
added-assoc f g h =
    same_flows (added (added f g) h) (added f (added g h)) (omega arith) (omega arith) (omega arith) (omega arith) (omega arith) (omega arith) (omega arith)

pub added-comm : (f g : Flows) → added f g ≡ added g f
added-comm f g = same_flows (added f g) (added g f) (omega arith) (omega arith) (omega arith) (omega arith) (omega arith) (omega arith) (omega arith)

pub none-added : (f : Flows) → added no_flows f ≡ f
none-added f = same_flows (added no_flows f) f (omega arith) (omega arith) (omega arith) (omega arith) (omega arith) (omega arith) (omega arith)

-- two sums together are the sum of what is together
pub added-pairs : (f g h i : Flows) → added (added f g) (added h i) ≡ added (added f h) (added g i)
added-pairs f g h i =
    same_flows (added (added f g) (added h i)) (added (added f h) (added g i))
    (omega arith) (omega arith) (omega arith) (omega arith) (omega arith) (omega arith) (omega arith)

pub total-append : (fs gs : List Flows) → total (fs ++ gs) ≡ added (total fs) (total gs)
total-append [] gs = sym (none-added (total gs))
total-append (f ∷ fs) gs = ap (added f) (total-append fs gs) ∙ sym (added-assoc f (total fs) (total gs))

min-added : (most x y : ℕ) → min (min x most + y) most ≡ min (x + y) most
min-added most x y = omega arith

-- what was capped before counts the same afterwards
pub capped-added : (f g : Flows) → capped (added (capped f) g) ≡ capped (added f g)
capped-added f g =
    same_flows (capped (added (capped f) g)) (capped (added f g))
    (min-added greatest f.sent g.sent) (min-added greatest f.sent_size g.sent_size) (min-added greatest f.received g.received)
    (min-added greatest f.empty_receives g.empty_receives) (min-added greatest f.deleted g.deleted) (min-added greatest f.refused g.refused)
    (min-added greatest f.dead_letters_arrived g.dead_letters_arrived)

pub capped-twice : (f : Flows) → capped (capped f) ≡ capped f
capped-twice f =
    same_flows (capped (capped f)) (capped f) (omega arith) (omega arith) (omega arith) (omega arith) (omega arith) (omega arith) (omega arith)

-- Histories that grow by a call.
use Rattle.std.proofs.Common.{◌≡◌, ℕ, eqb, ◌≢◌, cond, false, true, Bool, List, [], ◌∷◌, ◌++◌, sym, refl, ap, ap₂, ◌∙◌, ◌⊎◌, inl, inr, ⊎_elim, append_assoc, append-nil, ne_eqb, eq-eqb}
use Rattle.std.proofs.lemmas.List.Elements.{filter-append}
use Rattle.queue_core.specs.Queue.{QueueHistory}
use Rattle.desk.specs.declared.view.Call.{Call}
use Rattle.desk.specs.History.{IsAnswered, after_call, state_of, IsLegalHistory, calls_by, GoesOnFrom}

pub state_snoc : (q : QueueHistory) (cs : List Call) (c : Call) → state_of q (cs ++ c ∷ []) ≡ after_call (state_of q cs) c
state_snoc q [] c = refl
state_snoc q (x ∷ xs) c = state_snoc (after_call q x) xs c

pub legal_snoc : (q : QueueHistory) (cs : List Call) (c : Call) → IsLegalHistory q cs → IsAnswered (state_of q cs) c.at c.command c.reply → IsLegalHistory q (cs ++ c ∷ [])
legal_snoc q [] c legal answered = (answered, tt)
legal_snoc q (x ∷ xs) c legal answered = (legal.0, legal_snoc (after_call q x) xs c legal.1 answered)

one_call : (b : Bool) (c : Call) (wanted : Bool) → b ≡ wanted → cond b (c ∷ []) [] ≡ cond wanted (c ∷ []) []
one_call b c wanted is = ap (λ (k : Bool). cond k (c ∷ []) []) is

-- a call of the pass's own number, and one of another
pub own_call : (n : ℕ) (cs mine : List Call) (c : Call) → c.by ≡ n → calls_by n cs ≡ mine → calls_by n (cs ++ c ∷ []) ≡ mine ++ c ∷ []
own_call n cs mine c is calls =
    filter-append (λ (x : Call). eqb x.by n) cs (c ∷ []) ∙ ap (λ (l : List Call). calls_by n cs ++ l) (one_call (eqb c.by n) c true (eq-eqb c.by n is)) ∙ ap (λ (l : List Call). l ++ c ∷ []) calls

pub other_call : (n : ℕ) (cs mine : List Call) (c : Call) → c.by ≢ n → calls_by n cs ≡ mine → calls_by n (cs ++ c ∷ []) ≡ mine
other_call n cs mine c other calls =
    filter-append (λ (x : Call). eqb x.by n) cs (c ∷ []) ∙ ap (λ (l : List Call). calls_by n cs ++ l) (one_call (eqb c.by n) c false (ne_eqb c.by n other)) ∙ append-nil (calls_by n cs) ∙ calls

pub goes_on : (seen log : List Call) (c : Call) → GoesOnFrom seen log → GoesOnFrom seen (log ++ c ∷ [])
goes_on seen log c g = (g.0 ++ c ∷ [], ap (λ (l : List Call). l ++ c ∷ []) g.1 ∙ append_assoc seen g.0 (c ∷ []))

pub goes_whole : (log : List Call) → GoesOnFrom log log
goes_whole log = ([], sym (append-nil log))

-- of two beginnings of one history one goes on from the other
pub comparable : (a b log : List Call) → GoesOnFrom a log → GoesOnFrom b log → GoesOnFrom a b ⊎ GoesOnFrom b a
comparable [] b log ga gb = inl (b, refl)
comparable (x ∷ a) [] log ga gb = inr (x ∷ a, refl)
comparable (x ∷ a) (y ∷ b) [] ga gb = absurd cc
comparable (x ∷ a) (y ∷ b) (z ∷ log) ga gb =
    let same : y ≡ x = cc in let left : log ≡ a ++ ga.0 = cc in let right : log ≡ b ++ gb.0 = cc in
    ⊎_elim (λ (g : GoesOnFrom a b). inl (g.0, ap₂ (λ (c : Call) (l : List Call). c ∷ l) same g.1)) (λ (g : GoesOnFrom b a). inr (g.0, ap₂ (λ (c : Call) (l : List Call). c ∷ l) (sym same) g.1)) (comparable a b log (ga.0, left) (gb.0, right))

-- the calls of a number go on too
pub calls_go_on : (n : ℕ) (seen log : List Call) → GoesOnFrom seen log → GoesOnFrom (calls_by n seen) (calls_by n log)
calls_go_on n seen log g = (calls_by n g.0, ap (calls_by n) g.1 ∙ filter-append (λ (x : Call). eqb x.by n) seen g.0)

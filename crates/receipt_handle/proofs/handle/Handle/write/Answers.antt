use Rattle.std.proofs.Common.{◌≡◌, ℕ, List, ◌++◌, Option, Some, IfSome, ap, sym, ◌∙◌, append_assoc, arith}
use Rattle.std.specs.Fmt.{styled_digits_output, ◌++?◌}
use Rattle.receipt_handle.specs.Digits.{hex_digits}
use Rattle.receipt_handle.specs.Handle.{handle_of}
use Rattle.receipt_handle.proofs.DigitLemmas.{padded_integral-hex}
use Rattle.receipt_handle.proofs.HandleLemmas.{handle_of-handle_text}
use Rattle.receipt_handle.proofs.handle.Handle.write.Goals as goal

-- what three holes write
three_texts : (u n r : Option (List ℕ)) (text a b c : List ℕ) → u ≡ Some a → n ≡ Some b → r ≡ Some c
    → IfSome (u ++? (n ++? r)) (λ bs. text ≡ bs) → text ≡ a ++ b ++ c
three_texts u n r text a b c is_u is_n is_r wrote = (rw (is_u, is_n, is_r) at wrote) ∙ sym (append_assoc a b c)

pub returns-clause-text : goal.returns-clause-text
returns-clause-text c =
    let h = c.args.self in
    let u : styled_digits_output c.in_radix.result c.laid_out.result ≡ Some (hex_digits 16 h.uid) =
    rw (c.laid_out.ensures, c.in_radix.ensures) (ap Some (padded_integral-hex h.uid (omega arith))) in
    let n : styled_digits_output c.in_radix-2.result c.laid_out-2.result ≡ Some (hex_digits 16 h.number) =
    rw (c.laid_out-2.ensures, c.in_radix-2.ensures) (ap Some (padded_integral-hex h.number (omega arith))) in
    let r : styled_digits_output c.in_radix-3.result c.laid_out-3.result ≡ Some (hex_digits 16 h.receipt) =
    rw (c.laid_out-3.ensures, c.in_radix-3.ensures) (ap Some (padded_integral-hex h.receipt (omega arith))) in
    three_texts _ _ _ _ _ _ _ u n r c.in_ok-format.ensures.ok

pub returns-clause-reads_back : goal.returns-clause-reads_back
returns-clause-reads_back c =
    ap handle_of (returns-clause-text c) ∙ handle_of-handle_text c.args.self (omega arith) (omega arith) (omega arith)

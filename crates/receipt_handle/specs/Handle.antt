-- Receipt handles: three numbers of sixteen hex digits each. This project's own choice.
use Rattle.std.specs.Prelude.{ℕ, ◌++◌, if◌then◌else◌, List, slice_range, Result, Ok, Err}
use Rattle.std.specs.Str.Parse.{digits_value}
use Rattle.message.specs.declared.fault.Fault.{Fault}
use Rattle.message.specs.declared.fault.Fault.TheVariants.{ReceiptHandleIsInvalid}
use Rattle.receipt_handle.specs.declared.handle.Handle.{Handle}
use Rattle.receipt_handle.specs.Digits.{hex_digits, is_handle_text}

-- the text of a handle
abbrev pub handle_text : Handle → List ℕ
handle_text h = hex_digits 16 h.uid ++ hex_digits 16 h.number ++ hex_digits 16 h.receipt

-- the handle that a text is, or the refusal
abbrev pub handle_of : List ℕ → Result Handle Fault
handle_of text =
    if is_handle_text text
    then Ok (record {
      uid = digits_value 16 (slice_range text 0 16);
      number = digits_value 16 (slice_range text 16 32);
      receipt = digits_value 16 (slice_range text 32 48);
    })
    else Err ReceiptHandleIsInvalid

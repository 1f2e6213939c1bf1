use Rattle.std.proofs.Common.{◌≡◌, ℕ, true, false, [], ◌∷◌, ◌++◌, string_bytes, append-nil, append_assoc, sym, subst, ◌∙◌}
use Rattle.std.specs.Char.{is_control, encode_utf8}
use Rattle.std.specs.Str.{NoCharPasses}
use Rattle.std.proofs.StrCases.{chars_of_empty}
use Rattle.std.proofs.lemmas.Str.{NoCharPasses-append, IsUtf8-past_char, chars_past_char}
use Rattle.config_report.proofs.explaining.without_controls.Goals as goal

-- the text of one character that does not pass
NoCharPasses-one : (c : ℕ) → is_control c ≡ false → NoCharPasses is_control (encode_utf8 c)
NoCharPasses-one c h = (c ∷ [], append-nil (encode_utf8 c), (h, tt))

pub loop-character-preserved : goal.loop-character-preserved
loop-character-preserved c =
    let held = c.loop-character.invariant in
    let parts = c.in-Some.ensures.steps.0 in
    let e : string_bytes c.push.new.self ≡ string_bytes c.loop-character.text ++ encode_utf8 c.in-Some.character = c.in_ok-push.ensures.bytes in
    let h : is_control c.in-Some.character ≡ false = cc (c.if-is_control.ensures) in
    record {
      plain = subst (NoCharPasses is_control) (sym e) (NoCharPasses-append is_control _ _ held.plain (NoCharPasses-one _ h));
      utf8 = IsUtf8-past_char _ _ c.in-Some.character held.utf8 parts;
      text = rw (e, append_assoc) (rw (chars_past_char _ _ c.in-Some.character held.utf8 parts, h) at held.text);
    }

pub loop-character-preserved-then-is_control : goal.loop-character-preserved-then-is_control
loop-character-preserved-then-is_control c =
    let held = c.loop-character.invariant in
    let parts = c.in-Some.ensures.steps.0 in
    let h : is_control c.in-Some.character ≡ true = cc (c.if-is_control.ensures) in
    record {
      plain = held.plain;
      utf8 = IsUtf8-past_char _ _ c.in-Some.character held.utf8 parts;
      text = rw (chars_past_char _ _ c.in-Some.character held.utf8 parts, h) at held.text;
    }

pub returns-clause-text : goal.returns-clause-text
returns-clause-text c = sym (append-nil _) ∙ rw (chars_of_empty _ c.in-None.ensures.steps.0.0) at c.loop-character.invariant.text

use Rattle.std.proofs.Common.{◌≡◌, sym, chars, encode_utf8_all}
use Rattle.std.proofs.lemmas.Str.{chars_from_encodes}
use Rattle.unicode_normalization.specs.Forms.{nfc}
use Rattle.afp_names.proofs.long_names.composed.Goals as goal

pub returns : goal.returns
returns c =
    let text : c.as_str-2.result.now ≡ encode_utf8_all (nfc (chars c.args.name.now)) = cc (c.as_str.ensures.text, c.as_str-2.ensures.value, c.in_ok-text.ensures) in
    let same = sym (chars_from_encodes (nfc (chars c.args.name.now)) c.as_str-2.result.now c.as_str-2.utf8 (sym text)) in
    rw (← same) c.characters.ensures

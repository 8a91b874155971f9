use Rattle.std.proofs.Common.{◌≡◌, chars, encode_utf8_all}
use Rattle.unicode_normalization.specs.Forms.{nfd}
use Rattle.caseless.specs.Caseless.{default_case_fold}
use Rattle.afp_names.proofs.NameLemmas.{name_key-steps}
use Rattle.afp_names.proofs.name.Name.folded_key.Goals as goal

pub returns : goal.returns
returns c =
    let name = c.args.self.now in
    let decomposed = c.as_str-2.result.now in
    let folded = c.as_str-3.result.now in
    let first : decomposed ≡ encode_utf8_all (nfd (chars name)) = cc (c.as_str.ensures.value, c.self.view_is, c.as_str-2.ensures.value, c.in_ok-decomposed.ensures) in
    let second : folded ≡ encode_utf8_all (default_case_fold (chars decomposed)) = cc (c.as_str-3.ensures.value, c.in_ok-folded.ensures) in
    let third : c.in_ok-bytes.bytes ≡ encode_utf8_all (nfd (chars folded)) = cc (c.in_ok-bytes.ensures, c.as_bytes.ensures.value, c.in_ok-key.ensures) in
    name_key-steps name decomposed folded c.in_ok-bytes.bytes c.as_str-2.utf8 c.as_str-3.utf8 first second third

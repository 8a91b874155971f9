-- What is told is set.
use Rattle.std.proofs.Common.{◌≡◌, ℕ, ◌+◌, ◌^◌, ◌<◌, ◌≤◌, Bool, true, false, not, ◌&&◌, ◌==◌, cond, List, [], ◌++◌, Option, Some, None, length, take, refl, sym, ap, ◌∙◌, subst, arith}
use Rattle.std.specs.Prelude.{ℤ, FitsSigned, nat_le, bit_and, bit_or, if◌then◌else◌}
use Rattle.std.specs.Int.{bit_not, cast_signed, cast_unsigned, w16, w32}
use Rattle.byteorder.specs.Endian.{big_bytes, big_number}
use Rattle.std.specs.Int.Bits.{or_zero_l}
use Rattle.std.proofs.lemmas.Bool.{cond-false, cond-true, eqb-true, le-leb}
use Rattle.std.proofs.lemmas.List.{take_all}
use Rattle.std.proofs.lemmas.Nat.{and_assoc, and_comm, and_or_apart, and_or_self, le_or_r}
use Rattle.afp_base.proofs.Facts.{left_true, right_true}
use Rattle.afp_base.proofs.Numbers.{date_again, date_lt, number_again}
use Rattle.afp_bitmap.specs.Bits.{is_asked}
use Rattle.volume_spec.specs.NodeValues.{data_fork_open, has_open_fork, resource_fork_open, told_attributes}
use Rattle.volume_spec.specs.Parms.{date_in}
use Rattle.volume_spec.specs.SetFileDirParms.{Settings, attributes_by, field_in, set_or_clear, settable, settable_bits, settings_in, with_settings}
use Rattle.volume_spec.specs.Shared.{Opened}
use Rattle.volume_spec.specs.SoundVolume.{dir_attributes, file_attributes, has_fit_privileges, is_formed, is_named}
use Rattle.volume_spec.specs.VolumeState.{Row}
use Rattle.afp_mirror_walk.specs.Settled.{IsSettled, attributes_word, date_bytes, settings, settings_of}

-- the bytes of each field stand at its place
tail-reads : (word : ℕ) (created modified backup : ℤ) (finder : List ℕ)
    → settings_in settable_bits (settings_of word created modified backup finder) ≡ settings (big_number 2 (big_bytes 2 word)) (date_in (date_bytes created)) (date_in (date_bytes modified)) (date_in (date_bytes backup)) (take 32 finder)
unfolding settings_in settings_of field_in is_asked
tail-reads word created modified backup finder = refl

date-back : (date : ℤ) → FitsSigned w32 date → date_in (date_bytes date) ≡ date
date-back date fits = ap (λ n. cast_signed w32 n) (number_again 4 (cast_unsigned w32 date) [] (date_lt date fits)) ∙ date_again date fits

pub tail-settings : (word : ℕ) (created modified backup : ℤ) (finder : List ℕ) → word < 65536 → FitsSigned w32 created → FitsSigned w32 modified → FitsSigned w32 backup → length finder ≡ 32
    → settings_in settable_bits (settings_of word created modified backup finder) ≡ settings word created modified backup finder
tail-settings word created modified backup finder small c m b size =
    tail-reads word created modified backup finder
    ∙ (λ i. settings (number_again 2 word [] small i) (date-back created c i) (date-back modified m i) (date-back backup b i) (take_all 32 finder (omega (arith, size)) i))

-- a mask has not the bit that sets its others, and no bit twice
free : (dir : Bool) → bit_and set_or_clear (settable dir) ≡ 0
free true = refl
free false = refl

twice : (dir : Bool) → bit_and (settable dir) (settable dir) ≡ settable dir
twice true = refl
twice false = refl

-- attributes of a mask, set in a node that has none
word-sets : (dir : Bool) (told has : ℕ) → bit_and told (settable dir) ≡ has → attributes_by dir (attributes_word (settable dir) told) 0 ≡ has
unfolding attributes_by
word-sets dir told has is =
    let mask : ℕ = settable dir in
    let kept : ℕ = bit_and told mask in
    let word : ℕ = attributes_word mask told in
    ap (λ (n : ℕ). bit_and mask n) (cond-true (nat_le set_or_clear word) (bit_or 0 word) (bit_and 0 (bit_not w16 word)) (le-leb set_or_clear word (le_or_r kept set_or_clear)))
    ∙ ap (λ (n : ℕ). bit_and mask n) (or_zero_l word)
    ∙ and_comm mask word
    ∙ and_or_apart mask kept set_or_clear (free dir)
    ∙ and_assoc mask told mask
    ∙ ap (λ (n : ℕ). bit_and told n) (twice dir)
    ∙ is

pub settings-settle : (s t : Row) (told : ℕ) → is_formed s ≡ true → t.dir ≡ s.dir → t.attributes ≡ 0 → bit_and told (settable s.dir) ≡ s.attributes
    → IsSettled s (with_settings (settings (attributes_word (settable s.dir) told) s.created s.modified s.backup s.finder) t)
unfolding with_settings
settings-settle s t told formed kind none is = record {
  attributes = (λ i. attributes_by (kind i) (attributes_word (settable s.dir) told) (none i)) ∙ word-sets s.dir told s.attributes is;
  created = refl;
  modified = refl;
  backup = refl;
  finder = refl;
}

-- the bits that tell of open forks are none that is set
abbrev opened : Bool → Bool → ℕ
opened a b = bit_or (if a then data_fork_open else 0) (if b then resource_fork_open else 0)

no-bit : (a b : Bool) → bit_and (opened a b) (settable false) ≡ 0
no-bit true true = refl
no-bit true false = refl
no-bit false true = refl
no-bit false false = refl

-- a node has no attributes but those of its kind
kept : (s : Row) → is_formed s ≡ true → bit_and s.attributes (settable s.dir) ≡ s.attributes
kept s formed = by s.dir refl
  where
    of_dir : Bool
    of_dir = (bit_and s.attributes dir_attributes == s.attributes) && ((length s.data_fork == 0) && ((length s.resource_fork == 0) && not s.filed))

    of_file : Bool
    of_file = bit_and s.attributes file_attributes == s.attributes

    whole : cond s.dir of_dir of_file ≡ true
    whole = right_true (is_named s) (cond s.dir of_dir of_file) (right_true (has_fit_privileges s.dir s.privileges) (is_named s && cond s.dir of_dir of_file) formed)

    by : (d : Bool) → s.dir ≡ d → bit_and s.attributes (settable s.dir) ≡ s.attributes
    by true e =
        ap (λ (b : Bool). bit_and s.attributes (settable b)) e
        ∙ eqb-true (bit_and s.attributes dir_attributes) s.attributes (left_true (bit_and s.attributes dir_attributes == s.attributes) ((length s.data_fork == 0) && ((length s.resource_fork == 0) && not s.filed)) (sym (cond-true s.dir of_dir of_file e) ∙ whole))
    by false e = ap (λ (b : Bool). bit_and s.attributes (settable b)) e ∙ eqb-true (bit_and s.attributes file_attributes) s.attributes (sym (cond-false s.dir of_dir of_file e) ∙ whole)

pub told-has-set : (opens : List Opened) (s : Row) → is_formed s ≡ true → s.dir ≡ false → bit_and (told_attributes opens s) (settable s.dir) ≡ s.attributes
unfolding told_attributes
told-has-set opens s formed file =
    and_or_apart (settable s.dir) s.attributes (opened (has_open_fork opens s.id false) (has_open_fork opens s.id true)) (ap (λ (d : Bool). bit_and (opened (has_open_fork opens s.id false) (has_open_fork opens s.id true)) (settable d)) file ∙ no-bit (has_open_fork opens s.id false) (has_open_fork opens s.id true))
    ∙ kept s formed

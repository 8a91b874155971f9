-- The values that the code takes field by field are those that the block shows.
use Rattle.std.proofs.Common.{◌≡◌, ℕ, ℤ, List, w32}
use Rattle.std.specs.Int.{cast_signed}
use Rattle.byteorder.specs.Endian.{big_number}
use Rattle.afp_bitmap.specs.lemma.Reading.{finder_of, volume_from, file_from, dir_from}
use Rattle.afp_bitmap.specs.lemma.Taking.{taken, Took, Untaken}

pub volume_taken : (bits : ℕ) (bytes : List ℕ) (s0 s1 s2 s3 s4 s5 s6 s7 s8 s9 s10 s11 s12 : Untaken) (name : List ℕ)
    (v_attributes v_signature v_volume v_free v_total v_ext_free v_ext_total v_block_size : ℕ)
    (v_created v_modified v_backup : ℤ)
    → s0 ≡ record { bits = bits; rest = bytes }
    → Took s0 0 2 s1
    → Took s1 1 2 s2
    → Took s2 2 4 s3
    → Took s3 3 4 s4
    → Took s4 4 4 s5
    → Took s5 5 2 s6
    → Took s6 6 4 s7
    → Took s7 7 4 s8
    → Took s8 8 2 s9
    → Took s9 9 8 s10
    → Took s10 10 8 s11
    → Took s11 11 4 s12
    → v_attributes ≡ big_number 2 (taken s0 0 2)
    → v_signature ≡ big_number 2 (taken s1 1 2)
    → v_created ≡ cast_signed w32 (big_number 4 (taken s2 2 4))
    → v_modified ≡ cast_signed w32 (big_number 4 (taken s3 3 4))
    → v_backup ≡ cast_signed w32 (big_number 4 (taken s4 4 4))
    → v_volume ≡ big_number 2 (taken s5 5 2)
    → v_free ≡ big_number 4 (taken s6 6 4)
    → v_total ≡ big_number 4 (taken s7 7 4)
    → v_ext_free ≡ big_number 8 (taken s9 9 8)
    → v_ext_total ≡ big_number 8 (taken s10 10 8)
    → v_block_size ≡ big_number 4 (taken s11 11 4)
    → volume_from bits bytes name ≡ record { attributes = v_attributes; signature = v_signature; created = v_created; modified = v_modified; backup = v_backup; volume = v_volume; free = v_free; total = v_total; name = name; ext_free = v_ext_free; ext_total = v_ext_total; block_size = v_block_size }
unfolding volume_from
volume_taken bits bytes s0 s1 s2 s3 s4 s5 s6 s7 s8 s9 s10 s11 s12 name v_attributes v_signature v_volume v_free v_total v_ext_free v_ext_total v_block_size v_created v_modified v_backup is t0 t1 t2 t3 t4 t5 t6 t7 t8 t9 t10 t11 e0 e1 e2 e3 e4 e5 e6 e7 e9 e10 e11 = cc

pub file_taken : (bits : ℕ) (bytes : List ℕ) (s0 s1 s2 s3 s4 s5 s6 s7 s8 s9 s10 s11 s12 s13 : Untaken) (long_name utf8_name : List ℕ)
    (v_attributes v_parent v_id v_data_length v_resource_length v_ext_data_length v_ext_resource_length : ℕ)
    (v_created v_modified v_backup : ℤ)
    (v_finder : List ℕ)
    → s0 ≡ record { bits = bits; rest = bytes }
    → Took s0 0 2 s1
    → Took s1 1 4 s2
    → Took s2 2 4 s3
    → Took s3 3 4 s4
    → Took s4 4 4 s5
    → Took s5 5 32 s6
    → Took s6 6 2 s7
    → Took s7 8 4 s8
    → Took s8 9 4 s9
    → Took s9 10 4 s10
    → Took s10 11 8 s11
    → Took s11 13 6 s12
    → Took s12 14 8 s13
    → v_attributes ≡ big_number 2 (taken s0 0 2)
    → v_parent ≡ big_number 4 (taken s1 1 4)
    → v_created ≡ cast_signed w32 (big_number 4 (taken s2 2 4))
    → v_modified ≡ cast_signed w32 (big_number 4 (taken s3 3 4))
    → v_backup ≡ cast_signed w32 (big_number 4 (taken s4 4 4))
    → v_finder ≡ finder_of (taken s5 5 32)
    → v_id ≡ big_number 4 (taken s7 8 4)
    → v_data_length ≡ big_number 4 (taken s8 9 4)
    → v_resource_length ≡ big_number 4 (taken s9 10 4)
    → v_ext_data_length ≡ big_number 8 (taken s10 11 8)
    → v_ext_resource_length ≡ big_number 8 (taken s12 14 8)
    → file_from bits bytes long_name utf8_name ≡ record { attributes = v_attributes; parent = v_parent; created = v_created; modified = v_modified; backup = v_backup; finder = v_finder; long_name = long_name; id = v_id; data_length = v_data_length; resource_length = v_resource_length; ext_data_length = v_ext_data_length; utf8_name = utf8_name; ext_resource_length = v_ext_resource_length }
unfolding file_from
file_taken bits bytes s0 s1 s2 s3 s4 s5 s6 s7 s8 s9 s10 s11 s12 s13 long_name utf8_name v_attributes v_parent v_id v_data_length v_resource_length v_ext_data_length v_ext_resource_length v_created v_modified v_backup v_finder is t0 t1 t2 t3 t4 t5 t6 t7 t8 t9 t10 t11 t12 e0 e1 e2 e3 e4 e5 e7 e8 e9 e10 e12 = cc

pub dir_taken : (bits : ℕ) (bytes : List ℕ) (s0 s1 s2 s3 s4 s5 s6 s7 s8 s9 s10 s11 s12 s13 : Untaken) (long_name utf8_name : List ℕ)
    (v_attributes v_parent v_id v_offspring v_owner v_group v_rights : ℕ)
    (v_created v_modified v_backup : ℤ)
    (v_finder : List ℕ)
    → s0 ≡ record { bits = bits; rest = bytes }
    → Took s0 0 2 s1
    → Took s1 1 4 s2
    → Took s2 2 4 s3
    → Took s3 3 4 s4
    → Took s4 4 4 s5
    → Took s5 5 32 s6
    → Took s6 6 2 s7
    → Took s7 8 4 s8
    → Took s8 9 2 s9
    → Took s9 10 4 s10
    → Took s10 11 4 s11
    → Took s11 12 4 s12
    → Took s12 13 6 s13
    → v_attributes ≡ big_number 2 (taken s0 0 2)
    → v_parent ≡ big_number 4 (taken s1 1 4)
    → v_created ≡ cast_signed w32 (big_number 4 (taken s2 2 4))
    → v_modified ≡ cast_signed w32 (big_number 4 (taken s3 3 4))
    → v_backup ≡ cast_signed w32 (big_number 4 (taken s4 4 4))
    → v_finder ≡ finder_of (taken s5 5 32)
    → v_id ≡ big_number 4 (taken s7 8 4)
    → v_offspring ≡ big_number 2 (taken s8 9 2)
    → v_owner ≡ big_number 4 (taken s9 10 4)
    → v_group ≡ big_number 4 (taken s10 11 4)
    → v_rights ≡ big_number 4 (taken s11 12 4)
    → dir_from bits bytes long_name utf8_name ≡ record { attributes = v_attributes; parent = v_parent; created = v_created; modified = v_modified; backup = v_backup; finder = v_finder; long_name = long_name; id = v_id; offspring = v_offspring; owner = v_owner; group = v_group; rights = v_rights; utf8_name = utf8_name }
unfolding dir_from
dir_taken bits bytes s0 s1 s2 s3 s4 s5 s6 s7 s8 s9 s10 s11 s12 s13 long_name utf8_name v_attributes v_parent v_id v_offspring v_owner v_group v_rights v_created v_modified v_backup v_finder is t0 t1 t2 t3 t4 t5 t6 t7 t8 t9 t10 t11 t12 e0 e1 e2 e3 e4 e5 e7 e8 e9 e10 e11 = cc

-- The bytes of a list, and why it is refused.
use Rattle.std.proofs.Common.{◌≡◌, ◌∙◌, ap, sym, ℕ, ◌+◌, Bool, true, false, not, List, [], ◌∷◌, ◌++◌, length, take, drop, map, Option, Some, None}
use Rattle.std.proofs.lemmas.List.{append_assoc, length-map}
use Rattle.byteorder.specs.Endian.{big_bytes}
use Rattle.afp_base.specs.Choice.{first_holding}
use Rattle.afp_base.specs.declared.code.Code.{Code}
use Rattle.afp_base.specs.declared.code.Code.TheVariants.{AccessDenied, ObjectTypeErr, ObjectNotFound, ParamErr}
use Rattle.afp_replies.specs.Replies.{canonical_reply}
use Rattle.afp_serial.specs.ListReply.{list_entry, list_reply}
use Rattle.volume_spec.specs.Shared.{Opened}
use Rattle.volume_spec.specs.Enumerate.{ListAsked}
use Rattle.volume_spec.specs.VolumeState.{Row}
use Rattle.volume_keeper.proofs.OfReplies.EntryBytes.{patched}
use Rattle.volume_keeper.specs.replies.lemma.Filling.{bytes_of}

-- the parts that are written, one behind the other, are the reply
pub list-bytes : (rows : List Row) (opens : List Opened) (asked : ListAsked) (nodes : List Row) (old a b c d new : List ℕ) (file_bits dir_bits count at_count : ℕ) → file_bits ≡ asked.file_bits → dir_bits ≡ asked.dir_bits
    → a ≡ old ++ big_bytes 2 file_bits → b ≡ a ++ big_bytes 2 dir_bits → at_count ≡ length b → c ≡ b ++ big_bytes 2 0 → d ≡ c ++ bytes_of rows opens asked nodes → count ≡ length nodes
    → new ≡ take at_count d ++ big_bytes 2 count ++ drop (at_count + 2) d → new ≡ old ++ canonical_reply (list_reply rows opens asked nodes)
unfolding list_reply
list-bytes rows opens asked nodes old a b c d new file_bits dir_bits count at_count files dirs a_is b_is at_is c_is d_is count_is new_is =
    let entries : List ℕ = bytes_of rows opens asked nodes in
    let front : b ≡ old ++ big_bytes 2 asked.file_bits ++ big_bytes 2 asked.dir_bits = b_is ∙ (λ i. (a_is ∙ ap (λ n. old ++ big_bytes 2 n) files) i ++ big_bytes 2 (dirs i)) in
    let number : count ≡ length (map (list_entry rows opens asked) nodes) = count_is ∙ sym (length-map nodes (list_entry rows opens asked)) in
    new_is
    ∙ ap (λ n. take n d ++ big_bytes 2 count ++ drop (n + 2) d) at_is
    ∙ patched b entries (big_bytes 2 count) d 2 (d_is ∙ ap (λ l. l ++ entries) c_is ∙ append_assoc b (big_bytes 2 0) entries)
    ∙ (λ i. front i ++ (big_bytes 2 (number i) ++ entries))
    ∙ append_assoc (old ++ big_bytes 2 asked.file_bits) (big_bytes 2 asked.dir_bits) (big_bytes 2 (length (map (list_entry rows opens asked) nodes)) ++ entries)
    ∙ append_assoc old (big_bytes 2 asked.file_bits) (big_bytes 2 asked.dir_bits ++ (big_bytes 2 (length (map (list_entry rows opens asked) nodes)) ++ entries))

-- what is refused where just the last test is left
abbrev pub tests : Bool → Bool → Bool → Bool → Bool → Bool → Option Code
tests dir lacking none nowhere behind fits = first_holding (
    (not dir, ObjectTypeErr)
    ∷ (lacking, AccessDenied)
    ∷ (none, ParamErr)
    ∷ (nowhere, ParamErr)
    ∷ (behind, ObjectNotFound)
    ∷ (not fits, ParamErr)
    ∷ [])

pub unfit-refused : (dir lacking none nowhere behind fits : Bool) → dir ≡ true → lacking ≡ false → none ≡ false → nowhere ≡ false → behind ≡ false → fits ≡ false → tests dir lacking none nowhere behind fits ≡ Some ParamErr
unfit-refused dir lacking none nowhere behind fits a b c d e f = λ i. tests (a i) (b i) (c i) (d i) (e i) (f i)

pub none-refused : (dir lacking none nowhere behind fits : Bool) → dir ≡ true → lacking ≡ false → none ≡ false → nowhere ≡ false → behind ≡ false → fits ≡ true → tests dir lacking none nowhere behind fits ≡ None
none-refused dir lacking none nowhere behind fits a b c d e f = λ i. tests (a i) (b i) (c i) (d i) (e i) (f i)

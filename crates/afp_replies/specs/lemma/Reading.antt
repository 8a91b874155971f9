-- How the code reads, for its proofs; no public contract cites it.
use Rattle.std.specs.Prelude.{◌≡◌, ℕ, Bool, ◌+◌, ◌≤◌, ◌<◌, List, [], ◌++◌, length, take, drop, Result, Ok, Err}
use Rattle.std.specs.Borrow.{Bor}
use Rattle.afp_base.specs.Bytes.{IsBytes}
use Rattle.afp_bitmap.specs.declared.params.Values.{Values}
use Rattle.afp_bitmap.specs.Params.{params, IsAnswer, IsBadAt}
use Rattle.afp_replies.specs.declared.commands.ShapeRow.{ShapeRow}
use Rattle.afp_replies.specs.declared.list.ListEntry.{ListEntry}
use Rattle.afp_replies.specs.declared.reply.Reply.{Reply}
use Rattle.afp_replies.specs.declared.reply.ReplyFault.{ReplyFault}
use Rattle.afp_replies.specs.declared.reply.ReplyFault.TheVariants.{Bad, Memory}
use Rattle.afp_replies.specs.Entry.{HasEntryLength, stated}
use Rattle.afp_replies.specs.Words.{ReplyWord, Counted, ReplyValue, SpellsWord, FaultAt}
use Rattle.afp_replies.specs.Layout.{ReplyLayout, Lacks, Has, StopsAt}
use Rattle.afp_replies.specs.Commands as commands

-- the bytes that are not read yet, and the place of the first of them
pub record Rest : Type 0 where
  pub place : ℕ
  pub bytes : List ℕ

-- a field was read, and no other stood there
pub record Took (w : ReplyWord) (old : Rest) (x : ReplyValue w) (new : Rest) : Type 0 where
  pub first : List ℕ
  pub spelt : SpellsWord w x first
  pub split : old.bytes ≡ first ++ new.bytes
  pub place : new.place ≡ old.place + length first
  pub only : (y : ReplyValue w) (other rest : List ℕ) → SpellsWord w y other → old.bytes ≡ other ++ rest → (y ≡ x) × (rest ≡ new.bytes)

-- what reading a field answers
abbrev pub TakesWord : (w : ReplyWord) → Rest → Result (ReplyValue w) ReplyFault → Rest → Type 0
TakesWord w old (Ok x) new = Took w old x new
TakesWord w old (Err Memory) new = Unit {0}
TakesWord w old (Err (Bad at)) new = Lacks w old.bytes × FaultAt w old.place old.bytes at

-- the reply was read, and the bytes are no other
pub record Found (l : ReplyLayout) (bytes : List ℕ) (r : Reply) : Type 0 where
  pub has : Has l r bytes
  pub only : (s : Reply) → Has l s bytes → s ≡ r

-- the bytes are no reply, and stop at this place
pub record Missing (l : ReplyLayout) (here : Rest) (at : ℕ) : Type 0 where
  pub stops : StopsAt l here.place here.bytes at
  pub none : (s : Reply) → Has l s here.bytes → ⊥

-- what reading a layout answers
unfoldable pub IsRead : ReplyLayout → Rest → Result Reply ReplyFault → Type 0
IsRead l here (Ok r) = Found l here.bytes r
IsRead l here (Err Memory) = Unit {0}
IsRead l here (Err (Bad at)) = Missing l here at

-- the next n bytes were taken
pub record FrontIs (n : ℕ) (old : Rest) (piece : List ℕ) (new : Rest) : Type 0 where
  pub there : n ≤ length old.bytes
  pub piece_is : piece ≡ take n old.bytes
  pub place : new.place ≡ old.place + n
  pub bytes : new.bytes ≡ drop n old.bytes
  pub are_bytes : IsBytes piece

-- the next n bytes
abbrev pub Front : ℕ → Rest → Result (Bor (List ℕ)) ReplyFault → Rest → Type 0
Front n old (Ok piece) new = FrontIs n old piece.now new
Front n old (Err Memory) new = ⊥
Front n old (Err (Bad at)) new = (length old.bytes < n) × (at ≡ old.place)

-- the end of the bytes
abbrev pub Ends : {X : Type 0} → Rest → Result X ReplyFault → Type 0
Ends here (Ok x) = here.bytes ≡ []
Ends here (Err Memory) = ⊥
Ends here (Err (Bad at)) = (0 < length here.bytes) × (at ≡ here.place)

-- what the code's row shows
abbrev pub row_of : ShapeRow → commands.ShapeRow
row_of r = (r.0, r.1)

-- what reading a part of a layout answers: it goes on with the part's value, or stops
abbrev pub ReadsPart : {X : Type 0} → ((X → ReplyLayout) → ReplyLayout) → Rest → Result X ReplyFault → Rest → Type 0
ReadsPart {X = X} part old (Ok x) new = (next : X → ReplyLayout) (res : Result Reply ReplyFault) → IsRead (next x) new res → IsRead (part next) old res
ReadsPart {X = X} part old (Err e) new = (next : X → ReplyLayout) → IsRead (part next) old (Err e)

-- what reading the parameters of a kind for these bits answers: no other values have these bytes
abbrev pub TakesParams : ℕ → ℕ → Rest → Result Values ReplyFault → Type 0
TakesParams kind bits here (Ok v) =
    IsAnswer kind bits v × (here.bytes ≡ params bits v) × ((w : Values) → IsAnswer kind bits w → here.bytes ≡ params bits w → w ≡ v)
TakesParams kind bits here (Err Memory) = Unit {0}
TakesParams kind bits here (Err (Bad at)) =
    ((within : ℕ) × IsBadAt kind bits here.bytes within × (at ≡ here.place + within))
    × ((w : Values) → IsAnswer kind bits w → here.bytes ≡ params bits w → ⊥)

-- the bytes of a text with its count in so many bytes before it
abbrev pub TakesText : ℕ → Rest → Result (Bor (List ℕ)) ReplyFault → Rest → Type 0
TakesText size old (Ok piece) new = Took (Counted size) old piece.now new
TakesText size old (Err e) new = TakesWord (Counted size) old (Err e) new

-- the bytes of an entry
abbrev pub TakesEntryBytes : Bool → Rest → Result (Bor (List ℕ)) ReplyFault → Rest → Type 0
TakesEntryBytes wide old (Ok piece) new = HasEntryLength wide old.bytes × FrontIs (stated wide old.bytes) old piece.now new
TakesEntryBytes wide old (Err Memory) new = ⊥
TakesEntryBytes wide old (Err (Bad at)) new = (HasEntryLength wide old.bytes → ⊥) × (at ≡ old.place)

-- an entry with the values that were read
abbrev pub entry_result : Result Values ReplyFault → Result ListEntry ReplyFault
entry_result (Ok v) = Ok (record { values = v })
entry_result (Err e) = Err e

-- Reading a layout field by field.
use Rattle.std.proofs.Common.{◌≡◌, ℕ, suc, ◌+◌, ◌-◌, ◌≤◌, Bool, List, [], ◌∷◌, ◌++◌, length, Some, None, Result, Ok, Err, true, false, refl, sym, ap, ◌∙◌, subst, inl, inr, ◌<◌, arith, IfOk, MatchResult}
use Rattle.afp_replies.specs.declared.reply.Reply.{Reply}
use Rattle.afp_replies.specs.declared.reply.ReplyFault.{ReplyFault}
use Rattle.afp_replies.specs.declared.reply.ReplyFault.TheVariants.{Bad, Memory}
use Rattle.afp_replies.specs.Words.{ReplyWord, Number, Counted, Entry, ReplyValue}
use Rattle.afp_replies.specs.Layout.{ReplyLayout, Is, Never, Then, Remaining, Params, Has, StopsAt}
use Rattle.afp_replies.specs.lemma.Reading.{Rest, Took, IsRead, TakesWord, ReadsPart, Ends, TakesParams}
use Rattle.afp_bitmap.specs.declared.params.Values.{Values}
use Rattle.afp_replies.specs.declared.list.ListEntry.{ListEntry}
use Rattle.afp_replies.specs.Layouts.{optional, optional_text, volume, volumes, entries}
use Rattle.afp_replies.specs.Bytes.{width}
use Rattle.afp_replies.specs.Replies.{IfBadReply}
use Rattle.afp_replies.specs.declared.volumes.VolumeEntry.{VolumeEntry}

no_rest : (bytes : List ℕ) → 0 < length bytes → bytes ≡ [] → ⊥
no_rest bytes lt e = let size : length bytes ≡ 0 = ap (length {A = ℕ}) e in omega arith

-- whoever has the layout from a field on has it behind the field
behind : (w : ReplyWord) (next : ReplyValue w → ReplyLayout) (old new : Rest) (x : ReplyValue w) (s : Reply) → Took w old x new → Has (Then w next) s old.bytes → Has (next x) s new.bytes
behind w next old new x s t b =
    let p = t.only b.value b.first b.rest b.spelt b.split in
    subst (λ (y : ReplyValue w). Has (next y) s new.bytes) p.0 (subst (λ (r : List ℕ). Has (next b.value) s r) p.1 b.behind)

pub goes_on : (w : ReplyWord) (next : ReplyValue w → ReplyLayout) (old new : Rest) (x : ReplyValue w) (res : Result Reply ReplyFault) → Took w old x new → IsRead (next x) new res → IsRead (Then w next) old res
unfolding IsRead
goes_on w next old new x (Ok r) t h = record {
  has = record { value = x; first = t.first; rest = new.bytes; spelt = t.spelt; split = t.split; behind = h.has };
  only = λ s b. h.only s (behind w next old new x s t b);
}
goes_on w next old new x (Err Memory) t h = tt
goes_on w next old new x (Err (Bad at)) t h = record {
  stops = inr (record {
    value = x;
    first = t.first;
    rest = new.bytes;
    spelt = t.spelt;
    split = t.split;
    behind = subst (λ (p : ℕ). StopsAt (next x) p new.bytes at) t.place h.stops;
  });
  none = λ s b. h.none s (behind w next old new x s t b);
}

pub stops_here : (w : ReplyWord) (next : ReplyValue w → ReplyLayout) (old new : Rest) (e : ReplyFault) → TakesWord w old (Err e) new → IsRead (Then w next) old (Err e)
unfolding IsRead
stops_here w next old new Memory h = tt
stops_here w next old new (Bad at) h = record {
  stops = inl h;
  none = λ s b. h.0 b.value b.first b.rest b.spelt b.split;
}

pub end_found : (r : Reply) (here : Rest) → here.bytes ≡ [] → IsRead (Is r) here (Ok r)
unfolding IsRead
end_found r here e = record { has = (refl, e); only = λ s h. h.0 }

pub end_stops : (r : Reply) (here : Rest) (e : ReplyFault) → Ends {X = Unit {0}} here (Err e) → IsRead (Is r) here (Err e)
unfolding IsRead
end_stops r here Memory h = absurd h
end_stops r here (Bad at) h = record { stops = h; none = λ s t. no_rest here.bytes h.0 t.1 }

-- want of memory says nothing of the bytes
pub no_memory : (l : ReplyLayout) (here : Rest) → IsRead l here (Err Memory)
unfolding IsRead
no_memory l here = tt

pub remaining_found : (reply : List ℕ → Reply) (here : Rest) (bytes : List ℕ) → bytes ≡ here.bytes → IsRead (Remaining reply) here (Ok (reply bytes))
unfolding IsRead
remaining_found reply here bytes e = record { has = ap reply e; only = λ s h. h ∙ ap reply (sym e) }

pub never_stops : (here : Rest) → IsRead Never here (Err (Bad here.place))
unfolding IsRead
never_stops here = record { stops = refl; none = λ s h. h }

-- parts of a field, or of none
pub optional_some : (old new : Rest) (x : ℕ) → Took (Number 4) old x new → ReadsPart (optional true) old (Ok (Some x)) new
unfolding optional
optional_some old new x t = λ next res h. goes_on (Number 4) (λ y. next (Some y)) old new x res t h

pub optional_stops : (old new : Rest) (e : ReplyFault) → TakesWord (Number 4) old (Err e) new → ReadsPart (optional true) old (Err e) new
unfolding optional
optional_stops old new e t = λ next. stops_here (Number 4) (λ y. next (Some y)) old new e t

pub optional_none : (old : Rest) → ReadsPart (optional false) old (Ok None) old
unfolding optional
optional_none old = λ next res h. h

pub text_some : (wide : Bool) (old new : Rest) (x : List ℕ) → Took (Counted (width wide)) old x new → ReadsPart (optional_text wide true) old (Ok (Some x)) new
unfolding optional_text
text_some wide old new x t = λ next res h. goes_on (Counted (width wide)) (λ y. next (Some y)) old new x res t h

pub text_stops : (wide : Bool) (old new : Rest) (e : ReplyFault) → TakesWord (Counted (width wide)) old (Err e) new → ReadsPart (optional_text wide true) old (Err e) new
unfolding optional_text
text_stops wide old new e t = λ next. stops_here (Counted (width wide)) (λ y. next (Some y)) old new e t

pub text_none : (wide : Bool) (old : Rest) → ReadsPart (optional_text wide false) old (Ok None) old
unfolding optional_text
text_none wide old = λ next res h. h

-- volumes, one after the other
pub volumes_none : (before : List VolumeEntry) (next : List VolumeEntry → ReplyLayout) → volumes 0 before next ≡ next before
unfolding volumes
volumes_none before next = refl

pub volumes_more : (more : ℕ) (before : List VolumeEntry) (next : List VolumeEntry → ReplyLayout)
    → volumes (suc more) before next ≡ volume (λ v. volumes more (before ++ (v ∷ [])) next)
unfolding volumes
volumes_more more before next = refl

pub volume_read : (count i : ℕ) (before : List VolumeEntry) (old new : Rest) (v : VolumeEntry) → i < count → ReadsPart volume old (Ok v) new
    → (next : List VolumeEntry → ReplyLayout) (res : Result Reply ReplyFault) → IsRead (volumes (count - (i + 1)) (before ++ (v ∷ [])) next) new res → IsRead (volumes (count - i) before next) old res
volume_read count i before old new v lt r next res h =
    let one : count - i ≡ suc (count - (i + 1)) = omega arith in
    rw (one, volumes_more (count - (i + 1)) before next) (r (λ v. volumes (count - (i + 1)) (before ++ (v ∷ [])) next) res h)

pub volume_stops : (count i : ℕ) (before : List VolumeEntry) (old : Rest) (e : ReplyFault) → i < count → ((then : VolumeEntry → ReplyLayout) → IsRead (volume then) old (Err e))
    → (next : List VolumeEntry → ReplyLayout) → IsRead (volumes (count - i) before next) old (Err e)
volume_stops count i before old e lt r next =
    let one : count - i ≡ suc (count - (i + 1)) = omega arith in
    rw (one, volumes_more (count - (i + 1)) before next) (r (λ v. volumes (count - (i + 1)) (before ++ (v ∷ [])) next))

pub volumes_read : (count i : ℕ) (before : List VolumeEntry) (old : Rest) → count ≤ i → (next : List VolumeEntry → ReplyLayout) (res : Result Reply ReplyFault) → IsRead (next before) old res
    → IsRead (volumes (count - i) before next) old res
volumes_read count i before old le next res h =
    let none : count - i ≡ 0 = omega arith in
    rw (none, volumes_none before next) h

-- entries, one after the other
pub entries_none : (wide : Bool) (fb db : ℕ) (before : List ListEntry) (next : List ListEntry → ReplyLayout) → entries wide fb db 0 before next ≡ next before
unfolding entries
entries_none wide fb db before next = refl

pub entries_more : (wide : Bool) (fb db more : ℕ) (before : List ListEntry) (next : List ListEntry → ReplyLayout)
    → entries wide fb db (suc more) before next ≡ Then (Entry wide fb db) (λ e. entries wide fb db more (before ++ (e ∷ [])) next)
unfolding entries
entries_more wide fb db more before next = refl

pub entry_read : (wide : Bool) (fb db count i : ℕ) (before : List ListEntry) (old new : Rest) (e : ListEntry) → i < count → Took (Entry wide fb db) old e new
    → (next : List ListEntry → ReplyLayout) (res : Result Reply ReplyFault) → IsRead (entries wide fb db (count - (i + 1)) (before ++ (e ∷ [])) next) new res
    → IsRead (entries wide fb db (count - i) before next) old res
entry_read wide fb db count i before old new e lt t next res h =
    let one : count - i ≡ suc (count - (i + 1)) = omega arith in
    rw (one, entries_more wide fb db (count - (i + 1)) before next)
    (goes_on (Entry wide fb db) (λ x. entries wide fb db (count - (i + 1)) (before ++ (x ∷ [])) next) old new e res t h)

pub entry_stops : (wide : Bool) (fb db count i : ℕ) (before : List ListEntry) (old new : Rest) (fault : ReplyFault) → i < count → TakesWord (Entry wide fb db) old (Err fault) new
    → (next : List ListEntry → ReplyLayout) → IsRead (entries wide fb db (count - i) before next) old (Err fault)
entry_stops wide fb db count i before old new fault lt t next =
    let one : count - i ≡ suc (count - (i + 1)) = omega arith in
    rw (one, entries_more wide fb db (count - (i + 1)) before next)
    (stops_here (Entry wide fb db) (λ x. entries wide fb db (count - (i + 1)) (before ++ (x ∷ [])) next) old new fault t)

pub entries_read : (wide : Bool) (fb db count i : ℕ) (before : List ListEntry) (old : Rest) → count ≤ i → (next : List ListEntry → ReplyLayout) (res : Result Reply ReplyFault)
    → IsRead (next before) old res → IsRead (entries wide fb db (count - i) before next) old res
entries_read wide fb db count i before old le next res h =
    let none : count - i ≡ 0 = omega arith in
    rw (none, entries_none wide fb db before next) h

-- parameters up to the end
pub params_found : (kind bits : ℕ) (reply : Values → Reply) (here : Rest) (v : Values) → TakesParams kind bits here (Ok v) → IsRead (Params kind bits reply) here (Ok (reply v))
unfolding IsRead
params_found kind bits reply here v t = record {
  has = (v, t.0, t.1, refl);
  only = λ s h. h.3 ∙ ap reply (t.2 h.0 h.1 h.2);
}

pub params_stop : (kind bits : ℕ) (reply : Values → Reply) (here : Rest) (e : ReplyFault) → TakesParams kind bits here (Err e) → IsRead (Params kind bits reply) here (Err e)
unfolding IsRead
params_stop kind bits reply here Memory t = tt
params_stop kind bits reply here (Bad at) t = record { stops = t.0; none = λ s h. t.1 h.0 h.1 h.2 }

-- what reading from the first byte tells
pub is_found : (l : ReplyLayout) (here : Rest) (res : Result Reply ReplyFault) → IsRead l here res → IfOk res (λ r. Has l r here.bytes)
unfolding IsRead
is_found l here (Ok r) h = h.has
is_found l here (Err e) h = tt

pub is_only : (l : ReplyLayout) (here : Rest) (res : Result Reply ReplyFault) → IsRead l here res → (r : Reply) → Has l r here.bytes → MatchResult res (λ s. s ≡ r) (λ fault. fault ≡ Memory)
unfolding IsRead
is_only l here (Ok s) h r k = sym (h.only r k)
is_only l here (Err Memory) h r k = refl
is_only l here (Err (Bad at)) h r k = absurd (h.none r k)

pub is_bad : (l : ReplyLayout) (here : Rest) (res : Result Reply ReplyFault) → IsRead l here res → IfBadReply res (λ at. StopsAt l here.place here.bytes at)
unfolding IsRead
is_bad l here (Ok r) h = tt
is_bad l here (Err Memory) h = tt
is_bad l here (Err (Bad at)) h = h.stops

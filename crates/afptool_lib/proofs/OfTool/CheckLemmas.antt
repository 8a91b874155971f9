-- The frames of a stream are printed one after the other.
use Rattle.std.proofs.Common.{◌≡◌, ℕ, ◌+◌, ◌<◌, ◌≤◌, Bool, true, false, inl, inr, List, [], ◌∷◌, ◌++◌, length, take, min, ◌-◌, refl, sym, ap, ◌∙◌, subst, append_assoc, append-nil, length-append, length-take, take_all, arith}
use Rattle.afp_outside.specs.ends.Sink.{SinkState}
use Rattle.afp_outside.specs.ends.Source.{SourceState, SourceGives, LastReadWithin}
use Rattle.afp_outside.specs.ends.Whole.{Prints, PrintsPart, PrintsAll}
use Rattle.dsi_frame.specs.Buffered.{Buffered, buffer_length}
use Rattle.dsi_frame.specs.Frame.{Frame, header_of, header_length, IsBadHeader}
use Rattle.dsi_frame.specs.Stream.{Begins, Spelled}
use Rattle.dsi_frame.specs.declared.frame.BadFrame.{BadFrame}
use Rattle.dsi_frame.specs.declared.frame.Header.{Header}
use Rattle.dsi_frame.proofs.FrameLemmas.{length-spelling, short_is_unfinished}
use Rattle.dsi_frame.proofs.StreamLemmas.{spelled_push, given-frame, given-stop, given-feed, given-nothing}
use Rattle.afptool_lib.specs.tool.Checking.{PrintsFramesPart, ChecksPart, TellsCheck, end_text, end_status}
use Rattle.afptool_lib.specs.tool.lemma.Checking.{Checks, HasChecked, PrintsFrames, PrintsTo}
use Rattle.afpd_lib.specs.server.Telling.{Tells}
use Rattle.afptool_lib.specs.tool.Lines.{frame_line, frame_lines}
use Rattle.afptool_lib.specs.declared.tool.checking.CheckEnd.{CheckEnd}
use Rattle.afptool_lib.specs.declared.tool.checking.CheckEnd.TheVariants as ends
use Rattle.afptool_lib.specs.declared.tool.checking.FramesEnd.TheVariants as frames_ends
use Rattle.afp_base.proofs.Facts.{nothing-added}
use Rattle.afp_outside.proofs.OfEnds.Whole.{prints-both}
use Rattle.capture_log.proofs.SoFar.{more-given}

-- lines behind lines

lines-last : (at : ℕ) (filled : List ℕ) (frames : List Frame) (f : Frame) → Spelled filled frames
    → frame_lines at (frames ++ f ∷ []) ≡ frame_lines at frames ++ frame_line (at + length filled) (header_of f)
lines-last at filled [] f e =
    let same : at ≡ at + length filled = omega (arith, ap length e) in
    append-nil (frame_line at (header_of f)) ∙ ap (λ (n : ℕ). frame_line n (header_of f)) same
lines-last at filled (g ∷ frames) f (first, rest, whole, spelling, more) =
    let next : ℕ = at + (header_length + length g.payload) in
    let size : length first ≡ 16 + length g.payload = length-spelling first g spelling in
    let same : next + length rest ≡ at + length filled = omega (arith, size, ap length whole, length-append first rest) in
    ap (λ (l : List ℕ). frame_line at (header_of g) ++ l) (lines-last next rest frames f more ∙ ap (λ (n : ℕ). frame_lines next frames ++ frame_line n (header_of f)) same)
    ∙ sym (append_assoc (frame_line at (header_of g)) (frame_lines next frames) (frame_line (at + length filled) (header_of f)))

-- whole frames

pub prints-frame : (start : SinkState) (bytes : List ℕ) (b after : Buffered) (now new : SinkState) (f : Frame) (h : Header) (begins : Begins b.rest f) → PrintsFrames start bytes b now → h ≡ header_of f
    → Prints now (frame_line b.place h) new → after ≡ record { place = b.place + length begins.first; rest = begins.more } → PrintsFrames start bytes after new
prints-frame start bytes b after now new f h begins p same r e =
    let place : b.place ≡ 0 + length p.given.filled = omega (arith, p.given.place) in
    let line : frame_lines 0 p.frames ++ frame_line b.place h ≡ frame_lines 0 (p.frames ++ f ∷ []) =
    ap (λ (n : ℕ). frame_lines 0 p.frames ++ frame_line n h) place ∙ ap (λ (x : Header). frame_lines 0 p.frames ++ frame_line (0 + length p.given.filled) x) same
    ∙ sym (lines-last 0 p.given.filled p.frames f p.given.spelled) in
    record {
      frames = p.frames ++ f ∷ [];
      given = given-frame bytes p.frames b after f begins p.given e;
      printed = subst (λ (l : List ℕ). Prints start l new) line (prints-both start now new (frame_lines 0 p.frames) (frame_line b.place h) true p.printed r);
    }

pub prints-part : (start : SinkState) (bytes : List ℕ) (b : Buffered) (now new : SinkState) (f : Frame) (h : Header) (begins : Begins b.rest f) → PrintsFrames start bytes b now → h ≡ header_of f
    → PrintsPart now (frame_line b.place h) new → PrintsFramesPart start bytes new
prints-part start bytes b now new f h begins p same r =
    let place : b.place ≡ 0 + length p.given.filled = omega (arith, p.given.place) in
    let line : frame_lines 0 p.frames ++ frame_line b.place h ≡ frame_lines 0 (p.frames ++ f ∷ []) =
    ap (λ (n : ℕ). frame_lines 0 p.frames ++ frame_line n h) place ∙ ap (λ (x : Header). frame_lines 0 p.frames ++ frame_line (0 + length p.given.filled) x) same
    ∙ sym (lines-last 0 p.given.filled p.frames f p.given.spelled) in
    record {
      frames = p.frames ++ f ∷ [];
      filled = p.given.filled ++ begins.first;
      more = begins.more;
      spelled = spelled_push p.given.filled begins.first p.frames f p.given.spelled begins.spelling;
      whole = p.given.whole ∙ ap (λ (l : List ℕ). p.given.filled ++ l) begins.whole ∙ sym (append_assoc p.given.filled begins.first begins.more);
      printed = subst (λ (l : List ℕ). PrintsPart start l new) line (prints-both start now new (frame_lines 0 p.frames) (frame_line b.place h) false p.printed r);
    }

pub prints-bad : (start : SinkState) (bytes : List ℕ) (b : Buffered) (now : SinkState) (bad : BadFrame) → PrintsFrames start bytes b now → bad.at ≡ b.place → IsBadHeader b.rest bad.reason
    → PrintsTo start bytes (frames_ends.Bad bad) b now
prints-bad start bytes b now bad p place is = (p.frames, given-stop bytes p.frames b bad.at bad.reason p.given place is, p.printed)

-- the stream, from one read to the next

pub checked-none : (turns : ℕ) (old : SourceState) (start : SinkState) (b : Buffered) → b ≡ record { place = 0; rest = [] } → HasChecked turns old start b 0 old start
checked-none turns old start b e =
    let empty : b.rest ≡ [] = ap (λ (x : Buffered). x.rest) e in
    record {
      read = [];
      given = nothing-added old.given;
      within = inl (refl, refl);
      ended = refl;
      faults = refl;
      many = refl;
      prints = record { frames = []; given = given-nothing b e; printed = record { written = nothing-added start.written; faults = omega arith } };
      unfinished = short_is_unfinished b.rest (omega (arith, ap length empty));
      room = omega (arith, ap length empty);
    }

pub fed-whole : (start now : SinkState) (bytes piece : List ℕ) (b fed : Buffered) (taken : ℕ) → PrintsFrames start bytes b now → taken ≡ min (length piece) (buffer_length - length b.rest)
    → length b.rest + length piece ≤ buffer_length → fed.rest ≡ b.rest ++ take taken piece → fed.place ≡ b.place → PrintsFrames start (bytes ++ piece) fed now
fed-whole start now bytes piece b fed taken p size room rest place =
    let all : take taken piece ≡ piece = take_all taken piece (omega (arith, size, room)) in
    record {
      frames = p.frames;
      given = given-feed bytes piece p.frames b fed p.given (rest ∙ ap (λ (l : List ℕ). b.rest ++ l) all) place;
      printed = p.printed;
    }

last-within : (turns : ℕ) (old : SourceState) (start : SinkState) (b : Buffered) (taken n : ℕ) (mid new : SourceState) (now : SinkState) (room : List ℕ) (x : HasChecked turns old start b taken mid now)
    → SourceGives mid room n new → taken < turns → LastReadWithin turns (x.read ++ take n room) old new
last-within turns old start b taken n mid new now room x g fewer =
    record { before = x.read; last = take n room; whole = refl; fewer = omega (arith, fewer, x.many); told = g.given_before ∙ x.given }

pub checked-more : (turns : ℕ) (old : SourceState) (start : SinkState) (b after : Buffered) (taken n : ℕ) (mid new : SourceState) (now then_is : SinkState) (room : List ℕ)
    (x : HasChecked turns old start b taken mid now) → SourceGives mid room n new → taken < turns → PrintsTo start (x.read ++ take n room) frames_ends.More after then_is
    → HasChecked turns old start after (taken + n) new then_is
checked-more turns old start b after taken n mid new now then_is room x g fewer p = record {
  read = x.read ++ take n room;
  given = more-given old mid new x.read (take n room) x.given g.given;
  within = inr (last-within turns old start b taken n mid new now room x g fewer);
  ended = g.ended ∙ x.ended;
  faults = g.faults ∙ x.faults;
  many = omega (arith, x.many, g.most, length-append x.read (take n room), length-take n room);
  prints = p.0;
  unfinished = p.1;
  room = p.2;
}

pub checked-bad : (turns : ℕ) (old : SourceState) (start : SinkState) (b after : Buffered) (taken n : ℕ) (mid new : SourceState) (now then_is : SinkState) (room : List ℕ) (bad : BadFrame)
    (x : HasChecked turns old start b taken mid now) → SourceGives mid room n new → taken < turns → PrintsTo start (x.read ++ take n room) (frames_ends.Bad bad) after then_is → Checks turns old new start then_is (ends.Bad bad)
checked-bad turns old start b after taken n mid new now then_is room bad x g fewer p = record {
  read = x.read ++ take n room;
  frames = p.0;
  given = more-given old mid new x.read (take n room) x.given g.given;
  by = (p.1, g.ended ∙ x.ended, last-within turns old start b taken n mid new now room x g fewer, g.faults ∙ x.faults);
  printed = p.2;
}

pub checked-part : (turns : ℕ) (old : SourceState) (start : SinkState) (b after : Buffered) (taken n : ℕ) (mid new : SourceState) (now then_is : SinkState) (room : List ℕ)
    (x : HasChecked turns old start b taken mid now) → SourceGives mid room n new → taken < turns → PrintsTo start (x.read ++ take n room) frames_ends.WriteFault after then_is
    → ChecksPart turns old new start then_is
checked-part turns old start b after taken n mid new now then_is room x g fewer p = record {
  read = x.read ++ take n room;
  given = more-given old mid new x.read (take n room) x.given g.given;
  within = last-within turns old start b taken n mid new now room x g fewer;
  faults = g.faults ∙ x.faults;
  printed = p;
}

-- what a report says

pub all-written : (a c : SinkState) (text : List ℕ) (b : Bool) → b ≡ true → PrintsAll a text b c → Prints a text c
all-written a c text true e r = r
all-written a c text false e r = absurd (cc e)

pub part-written : (a c : SinkState) (text : List ℕ) (b : Bool) → b ≡ false → PrintsAll a text b c → PrintsPart a text c
part-written a c text true e r = absurd (cc e)
part-written a c text false e r = r

pub tells_check : (turns : ℕ) (old new : SourceState) (start mid after : SinkState) (end : CheckEnd) (status : ℕ) → Checks turns old new start mid end → Tells (end_text end) (end_status end) mid after status
    → TellsCheck turns old new start after status
tells_check turns old new start mid after end status c told = record {
  read = c.read;
  frames = c.frames;
  end = end;
  given = c.given;
  by = c.by;
  told = elim told [
    | inl t ↦ inl (t.0, prints-both start mid after (frame_lines 0 c.frames) (end_text end) true c.printed t.1)
    | inr t ↦ inr (t.0, prints-both start mid after (frame_lines 0 c.frames) (end_text end) false c.printed t.1)
  ];
}

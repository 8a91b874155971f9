-- What was written is there, and is read, at each place of a history.
use Rattle.std.proofs.Common.{◌==◌, ◌≡◌, Bool, ◌∙◌, ap, sym, refl, subst, ℕ, pos, ◌≤◌, arith, inl, inr, true, false, ◌&&◌, ◌||◌, cond, List, [], ◌∷◌, ◌++◌, length, take, Option, Some, None, ℤ}
use Rattle.std.specs.Prelude.{nat_abs, not, option_map}
use Rattle.std.specs.Int.{is_negative}
use Rattle.std.specs.List.{list_any}
use Rattle.std.proofs.lemmas.Bool.{and_from, and_parts, cond_both, eq-eqb}
use Rattle.std.proofs.lemmas.List.{append-nil}
use Rattle.afp_base.specs.Limits.{payload_limit}
use Rattle.afp_base.proofs.DefinitionLaws.{one_fork}
use Rattle.afp_base.specs.Choice.{first_holding}
use Rattle.afp_base.specs.Cached.{Request, Answer}
use Rattle.afp_base.specs.DenyMode.{Fork, is_one_fork}
use Rattle.afp_base.specs.ForkBytes.{splice, taken}
use Rattle.afp_base.specs.declared.code.Code.TheVariants.{AccessDenied, EOFErr, LockErr, Ok, ParamErr}
use Rattle.afp_base.specs.declared.ids.ForkRef.{ForkRef}
use Rattle.afp_replies.specs.Replies.{canonical_reply}
use Rattle.afp_replies.specs.declared.reply.Reply.TheVariants.{Piece}
use Rattle.afp_calls_grammar.specs.declared.grammar.call.Call.{Call}
use Rattle.afp_serial.proofs.CallLaws.{told-by}
use Rattle.afp_serial.proofs.ForkChanges.{call-changes, fork-bytes}
use Rattle.afp_serial.proofs.ForkFacts.{no-byte-twice, no-two-conflict, some-any}
use Rattle.afp_serial.proofs.SoundParts.{opens-parts}
use Rattle.afp_serial.proofs.StaysSound.{after-sound, legal-moment, moment-sound, stand-sound}
use Rattle.afp_serial.proofs.Verdicts.{comes-to, runs-of}
use Rattle.afp_serial.proofs.Written.{Splices, reads-there, written-stay}
use Rattle.afp_serial.specs.declared.ask.Ask.{Ask}
use Rattle.afp_serial.specs.declared.ask.Ask.TheVariants as ask
use Rattle.afp_serial.specs.declared.ask.Entry.{Entry}
use Rattle.afp_serial.specs.declared.ask.Outcome.{Outcome}
use Rattle.afp_serial.specs.declared.ask.Outcome.TheVariants as outcome
use Rattle.afp_serial.specs.declared.ask.Told.TheVariants as told
use Rattle.afp_serial.specs.Answer.{after, after_at, after_call, after_lost, after_parting, after_verdict, losing, newly_kept, told_verdict, is_full, is_legal, request, with_new_session, Verdict, refused, repeats, runs, verdict}
use Rattle.afp_serial.specs.KeptAnswers.{keeping}
use Rattle.afp_serial.specs.World.{Refusal, plain, session_at, volume_at, World, Session, OpenFork, at_moment}
use Rattle.afp_serial.specs.ForkBytes.{ReadAsked, meets_end, most_read, read_bytes, read_refusals, read_reply, reads, WriteAsked, is_from_end, start_in, write_start}
use Rattle.afp_serial.specs.ForkHistory.{all_changes, bytes_in, bytes_on, changes_asked, changes_at, changes_by, changes_in, changes_of, has_open, put_of, stays_open, through}
use Rattle.afp_serial.specs.History.{is_lawful, stand}
use Rattle.afp_serial.specs.HistoryLaws.{ForksHaveTheirChanges, MayReadFork, NeverByteTwice, NeverTwoConflict, PutsPiece, ReadsAll, WrittenIsNotRefused, WrittenIsRead, WrittenIsThere, WritesPutTheirPiece}
use Rattle.afp_serial.specs.OnFork.{OpenFile, bytes_of, done_with, is_locked, on_fork, open_file}
use Rattle.afp_serial.specs.Rows.{effect, ends_session, refusal, row}
use Rattle.afp_serial.specs.Sound.{IsSound, has_volume_open, is_file_of, is_lawful_open}
use Rattle.afp_serial.specs.WriteLaws.{ForkChange, changed_by, changed_by_all, read_of, puts}
use Rattle.volume_spec.proofs.Walks.{row-there}
use Rattle.volume_spec.specs.ForkEffect.{fork_of}
use Rattle.volume_spec.specs.SoundVolume.{has_node}
use Rattle.volume_spec.specs.VolumeState.{Row as File, VolumeState}
use Rattle.afp_base.proofs.Facts.{is_negative-pos}
use Rattle.afp_base.proofs.ListFacts.{any-at, any-weaker}

-- opens and locks

pub never-two-conflict : NeverTwoConflict
never-two-conflict start h place j k a b sound lawful before at_j at_k = no-two-conflict (stand start (take place h)) j k a b (stand-sound start h sound lawful place) before at_j at_k

pub never-byte-twice : NeverByteTwice
never-byte-twice start h place j k byte a b x y sound lawful before at_j at_k there_x there_y is_x is_y one covers_a covers_b =
    no-byte-twice w j k byte a b (stand-sound start h sound lawful place) before at_j at_k shared covers_a covers_b
  where
    w : World
    w = stand start (take place h)

    shared : list_any (λ (p : OpenFork). (p.reference == a.reference) && list_any (λ (q : OpenFork). (q.reference == b.reference) && is_one_fork p.fork q.fork) w.opens) w.opens ≡ true
    shared =
        some-any (λ (p : OpenFork). (p.reference == a.reference) && list_any (λ (q : OpenFork). (q.reference == b.reference) && is_one_fork p.fork q.fork) w.opens) w.opens x there_x.0 there_x.1 there_x.2
        (and_from (x.reference == a.reference) (list_any (λ (q : OpenFork). (q.reference == b.reference) && is_one_fork x.fork q.fork) w.opens) (eq-eqb x.reference a.reference is_x)
        (some-any (λ (q : OpenFork). (q.reference == b.reference) && is_one_fork x.fork q.fork) w.opens y there_y.0 there_y.1 there_y.2
        (and_from (y.reference == b.reference) (is_one_fork x.fork y.fork) (eq-eqb y.reference b.reference is_y) ((one_fork x.fork y.fork).1 one))))

-- a fork that is open has bytes

file-bytes : (q : Option VolumeState) (fork : Fork) → is_file_of q fork.node ≡ true → (bytes : List ℕ) × (bytes_on q fork ≡ Some bytes)
file-bytes None fork h = absurd (cc)
file-bytes (Some v) fork h =
    let there : has_node v.rows fork.node ≡ true = any-weaker (λ (r : File). (r.id == fork.node) && not r.dir) (λ (r : File). r.id == fork.node) v.rows (λ r both. (and_parts (r.id == fork.node) (not r.dir) both).0) h in
    let found = row-there v.rows fork.node there in
    (fork_of fork.resource found.0, ap (option_map (fork_of fork.resource)) found.1)

open-bytes : (w : World) (fork : Fork) → IsSound w → has_open w fork ≡ true → (bytes : List ℕ) × (bytes_in w fork ≡ Some bytes)
open-bytes w fork h there =
    any-at (λ (o : OpenFork). is_one_fork o.fork fork) (is_lawful_open w) w.opens there (opens-parts w h.opens).stand (λ o one stands.
    let same : o.fork ≡ fork = (one_fork o.fork fork).0 one in
    let file : is_file_of (volume_at w.volumes o.fork.volume) o.fork.node ≡ true = (and_parts (has_volume_open w.sessions o.session o.fork.volume) (is_file_of (volume_at w.volumes o.fork.volume) o.fork.node) stands).1 in
    file-bytes (volume_at w.volumes fork.volume) fork (ap (λ (f : Fork). is_file_of (volume_at w.volumes f.volume) f.node) (sym same) ∙ file))

-- what an entry does

keeping-leaves : (w : World) (number : ℕ) (r : Request) (a : Option Answer) (fork : Fork) → bytes_in (keeping w number r a) fork ≡ bytes_in w fork
keeping-leaves w number r None fork = refl
keeping-leaves w number r (Some a) fork = refl

module _ (w : World) (fork : Fork) (bytes : List ℕ) (h : IsSound w) (there : has_open w fork ≡ true) (had : bytes_in w fork ≡ Some bytes) where
  verdict-changes : (s : Session) (r : Request) (v : Verdict) (o : Outcome) → verdict w s r ≡ v → bytes_in (after_verdict w s v o) fork ≡ Some (changed_by_all (changes_of w s fork v o) bytes)
  verdict-changes s r (repeats a) o is = had
  verdict-changes s r (refused x) o is = had
  verdict-changes s r (runs call) outcome.Fault is = had
  verdict-changes s r (runs call) outcome.Done is = call-changes w s fork bytes h there had call (comes-to w s r call is).passes

  asked-changes : (session : Option Session) (r : Request) (o : Outcome) → bytes_in (after_call w session r o) fork ≡ Some (changed_by_all (changes_asked w session fork r o) bytes)
  asked-changes None r o = had
  asked-changes (Some s) r o =
      keeping-leaves (after_verdict w s (verdict w s r) o) s.number r (newly_kept r (verdict w s r) (told_verdict w s (verdict w s r) o)) fork ∙ verdict-changes s r (verdict w s r) o refl

  parting-changes : (session : Option Session) → bytes_in (after_parting w session) fork ≡ Some bytes
  parting-changes None = had
  parting-changes (Some s) = had

  losing-changes : (s : Session) (user : Option ℕ) → bytes_in (losing w s user) fork ≡ Some bytes
  losing-changes s None = had
  losing-changes s (Some user) = had

  lost-changes : (session : Option Session) → bytes_in (after_lost w session) fork ≡ Some bytes
  lost-changes None = had
  lost-changes (Some s) = losing-changes s s.user

  ask-changes : (link : ℕ) (a : Ask) (o : Outcome) → bytes_in (after_at w link a o) fork ≡ Some (changed_by_all (changes_at w link fork a o) bytes)
  unfolding after_at
  ask-changes link (ask.Open attention) o = cond_both (is_full w) w (with_new_session w) (λ x. bytes_in x fork ≡ Some bytes) (λ full. had) (λ room. had)
  ask-changes link (ask.Call id write offset payload) o = asked-changes (session_at w link) (request id write offset payload) o
  ask-changes link ask.Pulse o = had
  ask-changes link ask.Bye o = parting-changes (session_at w link)
  ask-changes link ask.Lost o = lost-changes (session_at w link)
  ask-changes link ask.Drain o = had

entry-changes : (w : World) (e : Entry) (fork : Fork) (bytes : List ℕ) → IsSound w → is_legal w e ≡ true → has_open w fork ≡ true → bytes_in w fork ≡ Some bytes → bytes_in (after w e) fork ≡ Some (changed_by_all (changes_in w e fork) bytes)
entry-changes w e fork bytes h legal there had = ask-changes (at_moment w e.at) fork bytes (moment-sound w e.at (legal-moment w e legal) h) there had e.link.0 e.ask e.outcome

-- and all entries

changed-after : (first rest : List ForkChange) (bytes : List ℕ) → changed_by_all (first ++ rest) bytes ≡ changed_by_all rest (changed_by_all first bytes)
changed-after [] rest bytes = refl
changed-after (change ∷ first) rest bytes = changed-after first rest (changed_by change bytes)

pub forks-have-changes : ForksHaveTheirChanges
forks-have-changes start [] fork bytes sound lawful stays had = had
forks-have-changes start (e ∷ es) fork bytes sound lawful stays had =
    let both = and_parts (is_legal start e) (is_lawful (after start e) es) lawful in
    let opens = and_parts (has_open start fork) (stays_open (after start e) es fork) stays in
    forks-have-changes (after start e) es fork (changed_by_all (changes_in start e fork) bytes) (after-sound start e sound both.0) both.1 opens.1 (entry-changes start e fork bytes sound both.0 opens.0 had)
    ∙ ap Some (sym (changed-after (changes_in start e fork) (all_changes (after start e) es fork) bytes))

pub written-there : Splices → WrittenIsThere
written-there splices start e h fork at piece is =
    let both = and_parts (is_legal start e) (is_lawful (after start e) h) is.lawful in
    let opens = and_parts (has_open start fork) (stays_open (after start e) h fork) is.open_there in
    let old = open-bytes start fork is.sound opens.0 in
    let first : bytes_in (after start e) fork ≡ Some (splice old.0 at piece) = entry-changes start e fork old.0 is.sound both.0 opens.0 old.1 ∙ ap (λ changes. Some (changed_by_all changes old.0)) is.puts_it in (
      changed_by_all (all_changes (after start e) h fork) (splice old.0 at piece),
      forks-have-changes (after start e) h fork (splice old.0 at piece) (after-sound start e is.sound both.0) both.1 opens.1 first,
      written-stay splices old.0 piece at (all_changes (after start e) h fork) is.some is.missed,
    )

-- a write puts its piece

module _ (w : World) (s : Session) (f : OpenFile) (fork : Fork) (at : ℕ) (reference : ForkRef) (offset : ℤ) (piece : List ℕ) (is : open_file w s reference.0 ≡ Some f) (one : is_one_fork f.fork.fork fork ≡ true) where
  put-through : (asked : WriteAsked) → write_start f asked ≡ pos at → through (open_file w s reference.0) fork (put_of asked) ≡ puts at asked.piece ∷ []
  put-through asked starts =
      ap (λ q. through q fork (put_of asked)) is
      ∙ ap (λ b. cond b (put_of asked f ∷ []) []) one
      ∙ ap (λ z. puts (nat_abs z) asked.piece ∷ []) starts

  call-puts : (from_end : Bool) (call : Call) → start_in (bytes_of f) from_end offset ≡ pos at → PutsPiece reference from_end offset piece call → changes_by w s fork call ≡ puts at piece ∷ []
  call-puts from_end call starts (inl p) =
      ap (changes_by w s fork) p.3
      ∙ put-through (record { from_end = is_from_end p.0; offset = offset; count = pos p.1; piece = piece }) (ap (λ b. start_in (bytes_of f) b offset) p.2 ∙ starts)
  call-puts from_end call starts (inr p) =
      ap (changes_by w s fork) p.3
      ∙ put-through (record { from_end = is_from_end p.0; offset = offset; count = p.1; piece = piece }) (ap (λ b. start_in (bytes_of f) b offset) p.2 ∙ starts)

pub writes-put : WritesPutTheirPiece
unfolding open_file
writes-put w e s f fork at id place write payload reference from_end offset piece call asked went attached puts_it comes is one starts =
    (λ i. changes_at (at_moment w e.at) e.link.0 fork (asked i) (went i))
    ∙ ap (λ q. changes_asked (at_moment w e.at) q fork (request id write place payload) outcome.Done) attached
    ∙ ap (λ v. changes_of (at_moment w e.at) s fork v outcome.Done) (runs-of (at_moment w e.at) s (request id write place payload) call comes)
    ∙ call-puts (at_moment w e.at) s f fork at reference offset piece is one from_end call starts puts_it

-- a read of it

four-pass : (a b c d : Refusal) → a.0 ≡ false → b.0 ≡ false → c.0 ≡ false → d.0 ≡ false → first_holding (a ∷ b ∷ c ∷ d ∷ []) ≡ None
four-pass a b c d no_a no_b no_c no_d = λ i. cond (no_a i) (Some a.1) (cond (no_b i) (Some b.1) (cond (no_c i) (Some c.1) (cond (no_d i) (Some d.1) None)))

record ReadsIt (w : World) (s : Session) (call : Call) (piece : List ℕ) : Type 0 where
  passes : refusal w s call ≡ None
  reply : (effect w s call).reply ≡ Piece piece

module _ (w : World) (s : Session) (fork : Fork) (at : ℕ) (piece bytes : List ℕ) (few : length piece ≤ payload_limit) (had : bytes_in w fork ≡ Some bytes) (there : taken bytes at (length piece) ≡ piece) where
  reads-it : (reference character : ℕ) → MayReadFork w s reference at (length piece) fork
      → (first_holding ((reads reference (read_of at (length piece) character)).refusals w s) ≡ None) × (((reads reference (read_of at (length piece) character)).effect w s).reply ≡ Piece piece)
  reads-it reference character may =
      let asked : ReadAsked = read_of at (length piece) character in
      let same : bytes_of may.file ≡ bytes = fork-bytes w s reference may.file fork bytes may.is may.on had in
      let its = reads-there bytes piece at character few there in
      let most : most_read asked ≡ length piece = omega (arith, few) in
      let pass : first_holding (read_refusals asked w may.file) ≡ None =
      four-pass (is_negative asked.offset || is_negative asked.count, plain ParamErr) (not may.file.fork.access.read, plain AccessDenied) (is_locked w may.file.fork (nat_abs asked.offset) (most_read asked), plain LockErr)
      (meets_end (bytes_of may.file) asked, record { code = EOFErr; reply = read_reply asked may.file })
      (λ i. is_negative-pos at i || is_negative-pos (length piece) i) (ap not may.reads) (ap (is_locked w may.file.fork at) most ∙ may.free) (ap (λ b. meets_end b asked) same ∙ its.1) in (
        ap (λ q. first_holding (on_fork q (read_refusals asked w))) may.is ∙ pass,
        ap (λ q. (done_with q w (λ f. record { world = w; reply = read_reply asked f })).reply) may.is ∙ ap (λ b. Piece (read_bytes b asked)) same ∙ ap Piece its.0,
      )

  call-reads : (reference : ForkRef) (call : Call) → MayReadFork w s reference.0 at (length piece) fork → ReadsAll reference at (length piece) call → ReadsIt w s call piece
  unfolding row
  call-reads reference call may (inl r) = subst (λ c. ReadsIt w s c piece) (sym r.1) (let t = reads-it reference.0 r.0 may in record { passes = t.0; reply = t.1 })
  call-reads reference call may (inr is) = subst (λ c. ReadsIt w s c piece) (sym is) (let t = reads-it reference.0 0 may in record { passes = t.0; reply = t.1 })

pub written-not-refused : Splices → WrittenIsNotRefused
written-not-refused splices start e h fork at piece now s reference call is few may all =
    let t = written-there splices start e h fork at piece is in
    (call-reads (at_moment (stand start (e ∷ h)) now) s fork at piece t.0 few t.1 t.2 reference call may all).passes

ends-not : (reference : ForkRef) (at n : ℕ) (call : Call) → ReadsAll reference at n call → ends_session call ≡ false
ends-not reference at n call (inl r) = ap ends_session r.1
ends-not reference at n call (inr is) = ap ends_session is

pub written-read : Splices → WrittenIsRead
written-read splices start e h fork at piece reading s reference call id write offset payload is few asked went attached may all comes =
    let t = written-there splices start e h fork at piece is in
    let w : World = at_moment (stand start (e ∷ h)) reading.at in
    let its = call-reads w s fork at piece t.0 few t.1 t.2 reference call may all in
    told-by (stand start (e ∷ h)) reading id write offset payload s (runs call) outcome.Done asked attached (runs-of w s (request id write offset payload) call comes) went
    ∙ (λ i. told.Reply Ok (canonical_reply (its.reply i)) (ends-not reference at (length piece) call all i))
    ∙ ap (λ block. told.Reply Ok block false) (append-nil piece)

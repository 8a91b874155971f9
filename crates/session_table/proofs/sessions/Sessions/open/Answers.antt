use Rattle.std.proofs.Common.{◌∙◌, ap, nat_eq, ◌++◌, ◌∷◌, [], None, ℕ}
use Rattle.std.specs.Map.{lookup}
use Rattle.indexmap.proofs.CallerLemmas.{insert_entry-new}
use Rattle.afp_serial.specs.declared.attachment.Attachment.TheVariants.{Attached}
use Rattle.std.proofs.Common.{arith}
use Rattle.session_table.specs.Sessions.{Table}
use Rattle.session_table.specs.declared.sessions.Open.{Open}
use Rattle.session_table.proofs.SessionLemmas.{not-full, opened}
use Rattle.session_table.proofs.sessions.Sessions.open.Goals as goal

pub returns-in-Ok-insert : goal.returns-in-Ok-insert
returns-in-Ok-insert c =
    let es = c.self.inside.by_number.entries in
    let next = c.self.inside.links in
    let key = c.self.inside.token_key in
    let x : Open = record { place = Attached c.in-Some.link; user = None; volumes = c.new-2.result; cache = c.in-Ok.cache } in (
      not-full c.args.self.now es next key c.self.view_is (omega arith) c.in-Some.ensures.1,
      c.in-Some.ensures.0 ∙ ap (λ (t : Table). t.next_link) c.self.view_is,
      opened c.args.self.now es c.insert.new.self.entries next key c.self.view_is c.requires x
          (λ i. record { number = next; place = Attached (record { 0 = c.in-Some.ensures.0 i }); user = None; volumes = c.new-2.ensures i; cache = c.in-Ok.ensures i })
          (λ none.
          c.in-Ok-insert.ensures.entries ∙ insert_entry-new nat_eq c.self.inside.by_number c.in-Some.link.0 x (ap (λ (n : ℕ). lookup (nat_eq n) es) c.in-Some.ensures.0 ∙ none)
          ∙ ap (λ (n : ℕ). es ++ (n, x) ∷ []) c.in-Some.ensures.0)
          c.in-Some.link.0 c.draw.new.self c.in-Some.ensures.0 c.draw.ensures,
    )

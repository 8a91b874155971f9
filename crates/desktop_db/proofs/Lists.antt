-- What a desktop database keeps, after each call.
use Rattle.std.proofs.Common.{◌≡◌, sym, refl, subst, ℕ, ◌==◌, Bool, true, false, not, List, Result, Ok, Err}
use Rattle.std.specs.Prelude.{bytes_eq, OnOk, OnErr, ◌↔◌}
use Rattle.afp_base.specs.declared.bytes.OutOfMemory.{OutOfMemory}
use Rattle.volume_spec.proofs.Desktops.{appl-keeps, gone-node-keeps, icon-keeps, new-comment-keeps, taken-appl-keeps, taken-comment-keeps}
use Rattle.volume_spec.proofs.Keys.{put-key-all}
use Rattle.volume_spec.proofs.Ordered.{put-all}
use Rattle.volume_spec.specs.Desktop.{comment_key, has_no_appl_room, has_no_icon_room, is_appl, pair_key, with_appl, with_icon, without_appl, without_comment, without_mappings}
use Rattle.volume_spec.specs.Order.{put_in}
use Rattle.volume_spec.specs.TypedVolume.{is_typed_appl, is_typed_comment, is_typed_icon}
use Rattle.volume_spec.specs.SoundVolume.{appl_key, icon_key, is_comment, is_icon}
use Rattle.volume_spec.specs.VolumeState.{Appl, Comment, Icon}
use Rattle.desktop_db.specs.lemma.Kept.{AreKept}
use Rattle.desktop_db.specs.declared.fault.DeskFault.{DeskFault}
use Rattle.desktop_db.specs.declared.fault.DeskFault.TheVariants as fault
use Rattle.afp_base.proofs.ListFacts.{all-filter}

-- an answer that is not Full comes where there is room
has-room : (room : Bool) (u : Unit {0}) (e : DeskFault) → (room ≡ true → (let r : Result (Unit {0}) DeskFault = Ok u in r ≡ Err e)) → room ≡ false
has-room true u e full = let r : Result (Unit {0}) DeskFault = Ok u in let same : r ≡ Err e = full refl in absurd (cc)
has-room false u e full = refl

pub kept-icon : (cs : List Comment) (is new : List Icon) (ms : List Appl) (icon : Icon) (r : Result (Unit {0}) DeskFault) → is_icon icon ≡ true → is_typed_icon icon ≡ true
    → OnOk r (new ≡ with_icon icon is) → OnErr r (new ≡ is) → ((r ≡ Err fault.Full) ↔ (has_no_icon_room (icon_key icon) is ≡ true)) → AreKept cs is ms → AreKept cs new ms
kept-icon cs is new ms icon (Ok u) formed typed put stays full k = subst (λ l. AreKept cs l ms) (sym put) (record {
  desktop = icon-keeps cs is ms icon formed (has-room (has_no_icon_room (icon_key icon) is) u fault.Full full.1) k.desktop;
  typed = record { comments_typed = k.typed.comments_typed; icons_typed = put-key-all icon_key is_typed_icon icon is typed k.typed.icons_typed; appls_typed = k.typed.appls_typed };
})
kept-icon cs is new ms icon (Err e) formed typed put stays full k = subst (λ l. AreKept cs l ms) (sym stays) k

pub kept-appl : (cs : List Comment) (is : List Icon) (ms new : List Appl) (appl : Appl) (r : Result (Unit {0}) DeskFault) → is_appl appl ≡ true → is_typed_appl appl ≡ true
    → OnOk r (new ≡ with_appl appl ms) → OnErr r (new ≡ ms) → ((r ≡ Err fault.Full) ↔ (has_no_appl_room appl.creator appl.node ms ≡ true)) → AreKept cs is ms → AreKept cs is new
kept-appl cs is ms new appl (Ok u) formed typed put stays full k = subst (λ l. AreKept cs is l) (sym put) (record {
  desktop = appl-keeps cs is ms appl formed (has-room (has_no_appl_room appl.creator appl.node ms) u fault.Full full.1) k.desktop;
  typed = record { comments_typed = k.typed.comments_typed; icons_typed = k.typed.icons_typed; appls_typed = put-key-all appl_key is_typed_appl appl ms typed k.typed.appls_typed };
})
kept-appl cs is ms new appl (Err e) formed typed put stays full k = subst (λ l. AreKept cs is l) (sym stays) k

pub kept-taken-appl : (cs : List Comment) (is : List Icon) (ms new : List Appl) (creator : List ℕ) (node : ℕ) → new ≡ without_appl creator node ms → AreKept cs is ms → AreKept cs is new
kept-taken-appl cs is ms new creator node taken k = subst (λ l. AreKept cs is l) (sym taken) (record {
  desktop = taken-appl-keeps cs is ms creator node k.desktop;
  typed = record {
    comments_typed = k.typed.comments_typed;
    icons_typed = k.typed.icons_typed;
    appls_typed = all-filter is_typed_appl (λ appl. not (bytes_eq (appl_key appl) (pair_key creator node))) ms k.typed.appls_typed;
  };
})

pub kept-taken-comment : (cs new : List Comment) (is : List Icon) (ms : List Appl) (node : ℕ) → new ≡ without_comment node cs → AreKept cs is ms → AreKept new is ms
kept-taken-comment cs new is ms node taken k = subst (λ l. AreKept l is ms) (sym taken) (record {
  desktop = taken-comment-keeps cs is ms node k.desktop;
  typed = record {
    comments_typed = all-filter is_typed_comment (λ comment. not (comment.node == node)) cs k.typed.comments_typed;
    icons_typed = k.typed.icons_typed;
    appls_typed = k.typed.appls_typed;
  };
})

pub kept-gone : (cs new : List Comment) (is : List Icon) (ms left : List Appl) (node : ℕ) → new ≡ without_comment node cs → left ≡ without_mappings node ms → AreKept cs is ms → AreKept new is left
kept-gone cs new is ms left node taken gone k = subst (λ l. AreKept l is left) (sym taken) (subst (λ l. AreKept (without_comment node cs) is l) (sym gone) (record {
  desktop = gone-node-keeps cs is ms node k.desktop;
  typed = record {
    comments_typed = all-filter is_typed_comment (λ comment. not (comment.node == node)) cs k.typed.comments_typed;
    icons_typed = k.typed.icons_typed;
    appls_typed = all-filter is_typed_appl (λ appl. not (appl.node == node)) ms k.typed.appls_typed;
  };
}))

pub kept-comment : (cs new : List Comment) (is : List Icon) (ms : List Appl) (comment : Comment) (r : Result (Unit {0}) OutOfMemory) → is_comment comment ≡ true → is_typed_comment comment ≡ true
    → OnOk r (new ≡ put_in comment_key comment (without_comment comment.node cs)) → OnErr r (new ≡ cs) → AreKept cs is ms → AreKept new is ms
kept-comment cs new is ms comment (Ok u) formed typed put stays k = subst (λ l. AreKept l is ms) (sym put) (record {
  desktop = new-comment-keeps cs is ms comment formed k.desktop;
  typed = record {
    comments_typed = put-all comment_key is_typed_comment comment (without_comment comment.node cs) typed (all-filter is_typed_comment (λ c. not (c.node == comment.node)) cs k.typed.comments_typed);
    icons_typed = k.typed.icons_typed;
    appls_typed = k.typed.appls_typed;
  };
})
kept-comment cs new is ms comment (Err e) formed typed put stays k = subst (λ l. AreKept l is ms) (sym stays) k

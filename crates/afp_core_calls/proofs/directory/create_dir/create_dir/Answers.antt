use Rattle.std.proofs.Common.{◌∙◌, ap, sym, refl, subst, ℕ, None}
use Rattle.afp_replies.specs.Replies.{canonical_reply}
use Rattle.afp_replies.specs.declared.reply.Reply.TheVariants.{Node}
use Rattle.afp_calls_grammar.specs.declared.grammar.call.Call.{Call}
use Rattle.afp_serial.specs.CreateDir.{node_id}
use Rattle.volume_spec.specs.CreateDir.{create_dir_id}
use Rattle.volume_spec.specs.TreeSteps.{CreateDir}
use Rattle.afp_core_calls.specs.lemma.TreeChanges.{ChangesTree}
use Rattle.afp_core_calls.proofs.OfDirectory.CallRows.{create_dir-changes, create_dir-id, create_dir-ids}
use Rattle.afp_core_calls.proofs.directory.create_dir.create_dir.Goals as goal

pub returns : goal.returns
returns g c =
    let dir = c.requires.dir in
    let path = c.requires.path in
    c.change_tree.ensures (CreateDir dir.0 path) (λ v. Node (node_id (create_dir_id v))) (λ w. None)
    (subst (λ (x : Call). ChangesTree x (λ w. None) c.args.volume.0 (CreateDir dir.0 path) (λ v. Node (node_id (create_dir_id v)))) (sym c.requires.is) (create_dir-changes c.args.volume dir path)) refl
    (λ v user there passes. c.in_ok-block.ensures v there (create_dir-ids v user dir.0 path passes) ∙ ap (λ (n : ℕ). canonical_reply (Node (node_id n))) (sym (create_dir-id v)))

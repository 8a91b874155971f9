use Rattle.std.proofs.Common.{ℕ, List, ◌∷◌, ◌++◌, ◌∙◌, ◌≡◌, ap}
use Rattle.volume_keeper_records.specs.Records.{node_record as the_node, flag_byte, date_bytes, long_bytes, privilege_bytes, quad_bytes, word_bytes}
use Rattle.volume_keeper_records.proofs.Pieces.{put_four}
use Rattle.volume_keeper_records.proofs.write.node_value.Goals as goal

pub returns : goal.returns
unfolding the_node
returns c =
    let node = c.args.node.now in
    let front : List ℕ = flag_byte node.is_directory ∷ (long_bytes node.parent ++ (word_bytes node.attributes ++ (date_bytes node.created ++ (date_bytes node.modified ++ date_bytes node.backup)))) in
    let forks : List ℕ = flag_byte node.is_filed ∷ (quad_bytes node.data_length ++ quad_bytes node.resource_length) in
    let begun : c.extend.new.self ≡ front = c.in_ok-extend.ensures.ok ∙ (λ i. c.in_ok-value.ensures i ++ c.front_of.ensures i) in
    let found : c.extend-2.new.self ≡ front ++ node.finder = c.in_ok-extend-2.ensures.ok ∙ ap (λ (l : List ℕ). l ++ node.finder) begun in
    let sized : c.extend-3.new.self ≡ c.extend-2.new.self ++ forks = c.in_ok-extend-3.ensures.ok ∙ ap (λ (l : List ℕ). c.extend-2.new.self ++ l) c.forks_of.ensures in
    let named : c.extend-4.new.self ≡ c.push_privileges.new.bytes ++ c.args.name.now = c.in_ok-extend-4.ensures.ok in
    put_four front node.finder forks (privilege_bytes node.privileges) c.args.name.now c.extend-2.new.self c.extend-3.new.self c.push_privileges.new.bytes c.extend-4.new.self found sized c.in_ok-push_privileges.ensures named

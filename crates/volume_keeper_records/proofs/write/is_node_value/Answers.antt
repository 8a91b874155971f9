use Rattle.std.proofs.Common.{ℕ, List, ◌∷◌, ◌++◌, ◌∙◌, sym, refl}
use Rattle.volume_keeper_records.specs.declared.rows.Node.{Node}
use Rattle.volume_keeper_records.specs.Records.{node_record as the_node, flag_byte, date_bytes, long_bytes, privilege_bytes, quad_bytes, word_bytes}
use Rattle.volume_keeper_records.proofs.Prefixes.{unlike, alike, passed}
use Rattle.volume_keeper_records.proofs.write.is_node_value.Goals as goal

-- the parts of a node's value, and what stands behind each
abbrev front : Node → List ℕ
front node = flag_byte node.is_directory ∷ (long_bytes node.parent ++ (word_bytes node.attributes ++ (date_bytes node.created ++ (date_bytes node.modified ++ date_bytes node.backup))))

abbrev forks : Node → List ℕ
forks node = flag_byte node.is_filed ∷ (quad_bytes node.data_length ++ quad_bytes node.resource_length)

abbrev behind_forks : Node → List ℕ → List ℕ
behind_forks node name = privilege_bytes node.privileges ++ name

abbrev behind_finder : Node → List ℕ → List ℕ
behind_finder node name = forks node ++ behind_forks node name

abbrev behind_front : Node → List ℕ → List ℕ
behind_front node name = node.finder ++ behind_finder node name

pub returns-in_default : goal.returns-in_default
unfolding the_node
returns-in_default c =
    let node = c.args.node.now in
    sym (unlike (front node) c.front_of.result (behind_front node c.args.name.now) c.args.bytes.now c.front_of.ensures c.in_default.ensures.cases)

pub returns-in_default-strip_prefix : goal.returns-in_default-strip_prefix
unfolding the_node
returns-in_default-strip_prefix c =
    let node = c.args.node.now in
    let name = c.args.name.now in
    let bytes = c.args.bytes.now in
    let rest = c.in-Some.rest.now in
    let one = passed (front node) c.front_of.result (behind_front node name) bytes rest c.front_of.ensures c.in-Some.ensures.cases.0 c.in-Some.ensures.cases.1 in
    sym (one ∙ unlike node.finder node.finder (behind_finder node name) rest refl c.in_default-strip_prefix.ensures.cases)

pub returns-in_default-strip_prefix-2 : goal.returns-in_default-strip_prefix-2
unfolding the_node
returns-in_default-strip_prefix-2 c =
    let node = c.args.node.now in
    let name = c.args.name.now in
    let bytes = c.args.bytes.now in
    let rest = c.in-Some.rest.now in
    let rest-2 = c.in-Some-strip_prefix.rest.now in
    let one = passed (front node) c.front_of.result (behind_front node name) bytes rest c.front_of.ensures c.in-Some.ensures.cases.0 c.in-Some.ensures.cases.1 in
    let two = passed node.finder node.finder (behind_finder node name) rest rest-2 refl c.in-Some-strip_prefix.ensures.cases.0 c.in-Some-strip_prefix.ensures.cases.1 in
    sym (one ∙ two ∙ unlike (forks node) c.forks_of.result (behind_forks node name) rest-2 c.forks_of.ensures c.in_default-strip_prefix-2.ensures.cases)

pub returns-in_default-behind_privileges : goal.returns-in_default-behind_privileges
unfolding the_node
returns-in_default-behind_privileges c =
    let node = c.args.node.now in
    let name = c.args.name.now in
    let bytes = c.args.bytes.now in
    let rest = c.in-Some.rest.now in
    let rest-2 = c.in-Some-strip_prefix.rest.now in
    let rest-3 = c.in-Some-strip_prefix-2.rest.now in
    let one = passed (front node) c.front_of.result (behind_front node name) bytes rest c.front_of.ensures c.in-Some.ensures.cases.0 c.in-Some.ensures.cases.1 in
    let two = passed node.finder node.finder (behind_finder node name) rest rest-2 refl c.in-Some-strip_prefix.ensures.cases.0 c.in-Some-strip_prefix.ensures.cases.1 in
    let three = passed (forks node) c.forks_of.result (behind_forks node name) rest-2 rest-3 c.forks_of.ensures c.in-Some-strip_prefix-2.ensures.cases.0 c.in-Some-strip_prefix-2.ensures.cases.1 in
    sym (one ∙ two ∙ three ∙ unlike (privilege_bytes node.privileges) (privilege_bytes node.privileges) name rest-3 refl c.in_default-behind_privileges.ensures)

pub returns : goal.returns
unfolding the_node
returns c =
    let node = c.args.node.now in
    let name = c.args.name.now in
    let bytes = c.args.bytes.now in
    let rest = c.in-Some.rest.now in
    let rest-2 = c.in-Some-strip_prefix.rest.now in
    let rest-3 = c.in-Some-strip_prefix-2.rest.now in
    let one = passed (front node) c.front_of.result (behind_front node name) bytes rest c.front_of.ensures c.in-Some.ensures.cases.0 c.in-Some.ensures.cases.1 in
    let two = passed node.finder node.finder (behind_finder node name) rest rest-2 refl c.in-Some-strip_prefix.ensures.cases.0 c.in-Some-strip_prefix.ensures.cases.1 in
    let three = passed (forks node) c.forks_of.result (behind_forks node name) rest-2 rest-3 c.forks_of.ensures c.in-Some-strip_prefix-2.ensures.cases.0 c.in-Some-strip_prefix-2.ensures.cases.1 in
    let four = alike (privilege_bytes node.privileges) name rest-3 c.in-Some-behind_privileges.rest.now c.in-Some-behind_privileges.ensures in
    c.eq.ensures ∙ sym (one ∙ two ∙ three ∙ four)

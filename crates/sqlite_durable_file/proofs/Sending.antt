-- A keeper over a file may cross threads.
use denote.RattleType.{RattleType}
use denote.Builtin.{unit, usize}
use denote.Param.Send.{IsSend, recorded_send, struct_send, enum_send, view_send, owning_send, sendable}
use denote.Struct.Declared.{shape}
use denote.Enum.Declared.{shape as variants_of}
use Rattle.std.proofs.Crossing.{crosses, Vec-send}
use Rattle.std.proofs.MapsCrossing as maps
use Rattle.std.proofs.MapsCrossingOver as sets
use Rattle.std.proofs.alloc.Global.TheSendSync as handle
use Rattle.sqlite_disk.specs.declared.Disk.{Ghosts}
use Rattle.sqlite_value.specs.contracts.value.Bytes as bytes
use Rattle.sqlite_items.specs.contracts.items.Items as items
use Rattle.sqlite_value.specs.contracts.keys.Order as order
use Rattle.sqlite_schema.specs.contracts.code.Op as op
use Rattle.sqlite_schema.specs.contracts.code.Terms as terms
use Rattle.sqlite_schema.specs.contracts.schema.Column as column
use Rattle.sqlite_schema.specs.contracts.schema.Reference as reference
use Rattle.sqlite_schema.specs.contracts.schema.Stamps as stamps
use Rattle.sqlite_schema.specs.contracts.schema.Table as table
use Rattle.sqlite_schema.specs.contracts.schema.Index as index
use Rattle.sqlite_schema.specs.contracts.schema.View as stored
use Rattle.sqlite_schema.specs.contracts.schema.Schema as schema
use Rattle.sqlite.specs.contracts.history.Mark as mark
use Rattle.sqlite.specs.contracts.history.History as history
use Rattle.sqlite_schema.specs.contracts.plan.Scan as scan
use Rattle.sqlite_sql.specs.contracts.query.Made as made
use Rattle.sqlite_sql.specs.contracts.query.SetOp as set_op
use Rattle.sqlite_sql.specs.contracts.query.Aggregate as aggregate
use Rattle.sqlite_sql.specs.contracts.query.SortKey as sort_key
use Rattle.sqlite_schema.specs.contracts.plan.Stage as stage
use Rattle.sqlite_schema.specs.contracts.plan.Groups as groups
use Rattle.sqlite_schema.specs.contracts.plan.Plan as plan
use Rattle.sqlite_schema.specs.contracts.plan.Plan.TheInside as plan_inside
use Rattle.sqlite_schema.specs.contracts.program.Table as let_table
use Rattle.sqlite_schema.specs.contracts.program.Program as program
use Rattle.sqlite_schema.specs.contracts.command.Source as source
use Rattle.sqlite_schema.specs.contracts.command.Upsert as upsert
use Rattle.sqlite_schema.specs.contracts.command.Returning as returning
use Rattle.sqlite_schema.specs.contracts.command.Command as command
use Rattle.sqlite_value.specs.contracts.value.Value as value
use Rattle.sqlite_resolve.specs.contracts.compiled.Compiled as compiled
use Rattle.sqlite.specs.contracts.cache.Entry as entry
use Rattle.sqlite_value.specs.contracts.row.Row as row
use Rattle.sqlite.specs.contracts.clock.WallClock as clock
use Rattle.sqlite_exec.specs.contracts.stream.Stream as stream
use Rattle.sqlite.specs.contracts.rows.Row as shown
use Rattle.sqlite.specs.contracts.run.reading.Reading as reading
use Rattle.sqlite_exec.specs.contracts.work.Workspace as work
use Rattle.sqlite.specs.contracts.connection.Connection as connection
use Rattle.sqlite.specs.contracts.connection.Connection.TheInside as inside
use Rattle.sqlite_durable.specs.contracts.keeper.DurableKeeper as durable
use Rattle.sqlite_durable.specs.contracts.keeper.DurableKeeper.TheInside as durable_inside
use Rattle.ghost_log.specs.contracts.log.log.Log as ghost_list
use Rattle.std.specs.contracts.result.Result as result
use Rattle.record_keeper.specs.contracts.keeper.KeeperFault as fault
use Rattle.sqlite_std_file.specs.contracts.host.Host as host
use Rattle.sqlite_std_file.specs.contracts.«record».Record as notes
use Rattle.std.specs.contracts.fs.File as file
use Rattle.sqlite_disk.specs.declared.Calls as calls
use Rattle.sqlite_disk.specs.declared.Start as start
use Rattle.sqlite_disk.specs.contracts.modelled.Modelled as modelled
use Rattle.sqlite_disk.specs.contracts.start.Unknown as unknown
use Rattle.sqlite_wal.specs.contracts.log.Log as wal
use Rattle.sqlite_pager.specs.contracts.pager.Pager as pager
use Rattle.sqlite_pool.specs.contracts.backing.Backing as backing
use Rattle.sqlite_pool.specs.contracts.pool.Pool as pool
use Rattle.sqlite_store.specs.contracts.store.FileStore as filestore
use Rattle.sqlite_store.specs.contracts.catalog.Wanted as wanted
use Rattle.sqlite_store.specs.contracts.saved.Saved as saved
use Rattle.sqlite_store.specs.contracts.cursor.Cursor as cursor
use Rattle.sqlite_trees.specs.declared.store.Store as trees
use Rattle.sqlite_btree.specs.contracts.scratch.Scratch as scratch
use Rattle.sqlite_durable_file.specs.contracts.keeper.FileKeeper as outer
use Rattle.sqlite_std_file.specs.contracts.host.HostCalls.TheImpl as host_ghosts
use Rattle.sqlite_disk.specs.contracts.start.UnknownStart.TheImpl as start_ghosts
use Rattle.sqlite_disk.specs.contracts.modelled.ModelledDisk.TheImpl as disk_impl
use Rattle.sqlite_store.specs.contracts.store.FileStoreStore.TheImpl as store_ghosts

bytes_send : IsSend bytes.the_row
bytes_send = search (sendable, crosses) depth 30 fits 2000

items_send : (T : RattleType) → IsSend T → IsSend (items.the_row T)
items_send T s = search (sendable, Vec-send) depth 30 fits 2000

order_send : IsSend order.the_row
order_send = search (sendable, crosses) depth 30 fits 2000

op_send : IsSend op.the_row
op_send = search (bytes_send, sendable) depth 30 fits 2000

terms_send : IsSend terms.the_row
terms_send = search (op_send, items_send, sendable) depth 30 fits 2000

column_send : IsSend column.the_row
column_send = search (bytes_send, sendable) depth 30 fits 2000

reference_send : IsSend reference.the_row
reference_send = search (bytes_send, items_send, sendable) depth 30 fits 2000

stamps_field : IsSend (stamps.the_field).row
stamps_field = struct_send (shape stamps.the_type) (search (items_send, sendable) depth 20, (terms_send, (items_send _ bytes_send, tt)))

stamps_send : IsSend stamps.the_row
stamps_send = recorded_send _ _ _ stamps.the_type.to_one stamps_field

table_field : IsSend (table.the_field).row
table_field = struct_send (shape table.the_type) (bytes_send, (search sendable, (items_send _ column_send, (search sendable, (search (items_send, sendable) depth 20, (search (items_send, sendable), (items_send _ order_send, (terms_send, (items_send _ reference_send, (search (items_send, sendable) depth 20, (stamps_field, (search sendable, tt))))))))))))

table_send : IsSend table.the_row
table_send = recorded_send _ _ _ table.the_type.to_one table_field

index_send : IsSend index.the_row
index_send = search (bytes_send, items_send, order_send, sendable) depth 30 fits 2000

stored_send : IsSend stored.the_row
stored_send = search (bytes_send, sendable) depth 30 fits 2000

schema_field : IsSend (schema.the_field).row
schema_field = struct_send (shape schema.the_type) (items_send _ table_send, (items_send _ index_send, (items_send _ stored_send, tt)))

schema_send : IsSend schema.the_row
schema_send = recorded_send _ _ _ schema.the_type.to_one schema_field

mark_send : IsSend mark.the_row
mark_send = search (schema_send, bytes_send, sendable) depth 30 fits 2000

history_field : IsSend (history.the_field).row
history_field = struct_send (shape history.the_type) (search (schema_send, sendable), (Vec-send _ mark_send, tt))

history_send : IsSend history.the_row
history_send = recorded_send _ _ _ history.the_type.to_one history_field

scan_field : IsSend (scan.the_field).row
scan_field = struct_send (shape scan.the_type) (search sendable, (search (items_send, sendable) depth 20, (search (items_send, sendable) depth 20, (search (items_send, sendable) depth 20, (search sendable, tt)))))

scan_send : IsSend scan.the_row
scan_send = recorded_send _ _ _ scan.the_type.to_one scan_field

made_field : IsSend (made.the_field).row
made_field = enum_send (variants_of made.the_type) ((search sendable, (search sendable, tt)), ((search sendable, tt), ((search sendable, tt), ((search sendable, tt), ((search sendable, (search sendable, (search sendable, tt))), ((search sendable, tt), ((search sendable, (search sendable, (search sendable, tt))), tt)))))))

made_send : IsSend made.the_row
made_send = recorded_send _ _ _ made.the_type.to_one made_field

set_op_field : IsSend (set_op.the_field).row
set_op_field = enum_send (variants_of set_op.the_type) (tt, (tt, (tt, (tt, tt))))

set_op_send : IsSend set_op.the_row
set_op_send = recorded_send _ _ _ set_op.the_type.to_one set_op_field

aggregate_send : IsSend aggregate.the_row
aggregate_send = search (sendable) depth 30 fits 2000

sort_key_send : IsSend sort_key.the_row
sort_key_send = search (sendable) depth 30 fits 2000

stage_field : IsSend (stage.the_field).row
stage_field = enum_send (variants_of stage.the_type) (tt, ((search sendable, (scan_field, (search sendable, tt))), ((search sendable, (search (items_send, sendable) depth 20, (scan_field, (search sendable, tt)))), ((search sendable, (search sendable, (search (items_send, sendable) depth 20, (search sendable, tt)))), ((made_field, (search sendable, tt)), ((search sendable, (search (items_send, sendable) depth 20, (items_send _ aggregate_send, (search sendable, tt)))), ((search sendable, (search (items_send, sendable) depth 20, (items_send _ sort_key_send, (search (items_send, sendable) depth 20, (search sendable, tt))))), tt)))))))

stage_send : IsSend stage.the_row
stage_send = recorded_send _ _ _ stage.the_type.to_one stage_field

groups_field : IsSend (groups.the_field).row
groups_field = struct_send (shape groups.the_type) (search (items_send, sendable) depth 20, (search (items_send, sendable) depth 20, (items_send _ aggregate_send, (search (items_send, sendable) depth 20, tt))))

groups_send : IsSend groups.the_row
groups_send = recorded_send _ _ _ groups.the_type.to_one groups_field

plan_send : IsSend plan.the_row
plan_send = view_send _ _ _ _ _ (recorded_send _ _ _ plan_inside.the_type.to_one (struct_send (shape plan_inside.the_type)
    (items_send _ op_send, (items_send _ stage_send, (search sendable, (search (items_send, sendable) depth 20, (search (groups_send, sendable), (search (items_send, sendable) depth 20, (search sendable, (search (items_send, sendable) depth 20, (items_send _ sort_key_send, (search sendable, (search sendable, tt)))))))))))))

let_table_field : IsSend (let_table.the_field).row
let_table_field = enum_send (variants_of let_table.the_type) ((plan_send, tt), ((set_op_field, (search sendable, (search sendable, (search sendable, (search (items_send, sendable) depth 20, tt))))), ((search sendable, (plan_send, (search sendable, (search sendable, (search (items_send, sendable) depth 20, (search sendable, tt)))))), tt)))

let_table_send : IsSend let_table.the_row
let_table_send = recorded_send _ _ _ let_table.the_type.to_one let_table_field

program_field : IsSend (program.the_field).row
program_field = struct_send (shape program.the_type) (items_send _ let_table_send, (plan_send, tt))

program_send : IsSend program.the_row
program_send = recorded_send _ _ _ program.the_type.to_one program_field

source_field : IsSend (source.the_field).row
source_field = enum_send (variants_of source.the_type) ((terms_send, (search sendable, tt)), ((program_field, tt), tt))

source_send : IsSend source.the_row
source_send = recorded_send _ _ _ source.the_type.to_one source_field

upsert_field : IsSend (upsert.the_field).row
upsert_field = struct_send (shape upsert.the_type) ((let i : IsSend (items.the_row usize) = search (items_send, sendable) in search sendable), (search (program_send, sendable), tt))

upsert_send : IsSend upsert.the_row
upsert_send = recorded_send _ _ _ upsert.the_type.to_one upsert_field

returning_field : IsSend (returning.the_field).row
returning_field = struct_send (shape returning.the_type) (items_send _ bytes_send, (source_field, tt))

returning_send : IsSend returning.the_row
returning_send = recorded_send _ _ _ returning.the_type.to_one returning_field

value_send : IsSend value.the_row
value_send = search (bytes_send, sendable) depth 30 fits 2000

command_field : IsSend (command.the_field).row
command_field = enum_send (variants_of command.the_type) ((program_field, (items_send _ bytes_send, tt)), ((search sendable, (source_field, tt)), ((search sendable, (search sendable, (source_field, (items_send _ upsert_send, tt)))), ((search sendable, (program_field, tt)), ((search sendable, (program_field, tt)), (tt, ((search sendable, tt), (tt, ((search sendable, tt), ((search sendable, tt), ((search sendable, tt), ((items_send _ value_send, (search sendable, (items_send _ bytes_send, tt))), (tt, (tt, (tt, ((bytes_send, tt), ((bytes_send, tt), ((bytes_send, tt), (tt, tt)))))))))))))))))))

command_send : IsSend command.the_row
command_send = recorded_send _ _ _ command.the_type.to_one command_field

compiled_field : IsSend (compiled.the_field).row
compiled_field = struct_send (shape compiled.the_type) (command_field, (search (returning_send, sendable), (items_send _ bytes_send, (items_send _ bytes_send, (search sendable, (search sendable, (search sendable, tt)))))))

compiled_send : IsSend compiled.the_row
compiled_send = recorded_send _ _ _ compiled.the_type.to_one compiled_field

entry_field : IsSend (entry.the_field).row
entry_field = struct_send (shape entry.the_type) (bytes_send, (compiled_field, (search sendable, tt)))

entry_send : IsSend entry.the_row
entry_send = recorded_send _ _ _ entry.the_type.to_one entry_field

row_send : IsSend row.the_row
row_send = search (sendable, crosses, maps.crosses, sets.crosses) depth 30 fits 2000

clock_send : IsSend clock.the_row
clock_send = search (sendable, crosses, maps.crosses, sets.crosses) depth 30 fits 2000

stream_field : IsSend (stream.the_field).row
stream_field = search (sendable, crosses, maps.crosses, sets.crosses) depth 90 fits 8000

stream_send : IsSend stream.the_row
stream_send = recorded_send _ _ _ stream.the_type.to_one stream_field

shown_send : IsSend shown.the_row
shown_send = search (row_send, handle.the_field_send, sendable) depth 30 fits 2000

reading_field : IsSend (reading.the_field).row
reading_field = struct_send (shape reading.the_type) (stream_field, (search sendable, (shown_send, (search sendable, (search (Vec-send, shown_send, sendable), (search sendable, tt))))))

reading_send : IsSend reading.the_row
reading_send = recorded_send _ _ _ reading.the_type.to_one reading_field

work_field : IsSend (work.the_field).row
work_field = search (sendable, crosses, maps.crosses, sets.crosses) depth 30 fits 2000

work_send : IsSend work.the_row
work_send = recorded_send _ _ _ work.the_type.to_one work_field

connection_send : (S : RattleType) (g : trees.Ghosts S.Denot) → IsSend S → IsSend (connection.the_row S g)
connection_send S g d = view_send _ _ _ _ _ (recorded_send _ _ _ (inside.the_type S g).to_one (struct_send (shape (inside.the_type S g))
    (d, (schema_field, (history_field, (search sendable, (search sendable, (search sendable, (Vec-send _ entry_send, (search sendable, (row_send, (search sendable, (search (clock_send, sendable), (reading_field, (work_field, (handle.the_field_send, tt))))))))))))))))

log_send : (A : RattleType) → IsSend A → IsSend (ghost_list.the_row A)
log_send A a = owning_send (ghost_list.the_type A) (search sendable, tt) (λ d. tt) (λ k x w. tt)

fault_send : IsSend fault.the_row
fault_send = recorded_send _ _ _ fault.the_type.to_one (enum_send (variants_of fault.the_type) (tt, (tt, tt)))

answer_send : IsSend (result.the_row unit fault.the_row)
answer_send = recorded_send _ _ _ (result.the_type unit fault.the_row).to_one (enum_send (variants_of (result.the_type unit fault.the_row)) ((search sendable, tt), ((fault_send, tt), tt)))

durable_send : (S : RattleType) (g : trees.Ghosts S.Denot) → IsSend S → IsSend (durable.the_row S g)
durable_send S g d = view_send _ _ _ _ _ (recorded_send _ _ _ (durable_inside.the_type S g).to_one (struct_send (shape (durable_inside.the_type S g)) (connection_send S g d, (search (shown_send, crosses, sendable) depth 30 fits 2000, (search sendable, (log_send _ answer_send, tt))))))

unknown_send : IsSend unknown.the_row
unknown_send = search sendable depth 12

file_send : IsSend file.the_row
file_send = search sendable depth 12

record_send : IsSend notes.the_row
record_send = owning_send notes.the_type (search sendable, tt) (λ d. tt) (λ k x w. tt)

host_send : IsSend host.the_row
host_send = search (sendable, file_send, record_send) depth 8

modelled_send : (C S : RattleType) (g : calls.Ghosts C.Denot) (h : start.Ghosts S.Denot) → IsSend C → IsSend S → IsSend (modelled.the_row C S g h)
modelled_send C S g h c s = search sendable depth 12

wal_send : (D : RattleType) (g : Ghosts D.Denot) → IsSend D → IsSend (wal.the_row D g)
wal_send D g d = search (sendable, crosses, maps.crosses, sets.crosses) depth 30 fits 2000

pager_send : (D : RattleType) (g : Ghosts D.Denot) → IsSend D → IsSend (pager.the_row D g)
pager_send D g d = search (sendable, crosses, maps.crosses, sets.crosses, wal_send) depth 30 fits 2000

backing_send : (D : RattleType) (g : Ghosts D.Denot) → IsSend D → IsSend (backing.the_row D g)
backing_send D g d = search (sendable, crosses, maps.crosses, sets.crosses, pager_send) depth 30 fits 2000

pool_send : (D : RattleType) (g : Ghosts D.Denot) → IsSend D → IsSend (pool.the_row D g)
pool_send D g d = search (sendable, crosses, maps.crosses, sets.crosses, backing_send) depth 30 fits 2000

wanted_send : IsSend wanted.the_row
wanted_send = search (sendable, crosses, maps.crosses, sets.crosses) depth 30 fits 2000

saved_send : IsSend saved.the_row
saved_send = search (sendable, crosses, maps.crosses, sets.crosses, wanted_send) depth 30 fits 2000

cursor_send : IsSend cursor.the_row
cursor_send = search (sendable, crosses, maps.crosses, sets.crosses) depth 30 fits 2000

scratch_send : IsSend scratch.the_row
scratch_send = search (sendable, crosses, maps.crosses, sets.crosses) depth 30 fits 2000

store_send : (D : RattleType) (g : Ghosts D.Denot) → IsSend D → IsSend (filestore.the_row D g)
store_send D g d = search (sendable, crosses, maps.crosses, sets.crosses, pool_send, wanted_send, saved_send, cursor_send, scratch_send) depth 90 fits 8000

abbrev disk : RattleType
disk = modelled.the_row host.the_row unknown.the_row host_ghosts.ghosts start_ghosts.ghosts

abbrev disk_ghosts : Ghosts disk.Denot
disk_ghosts = disk_impl.ghosts host.the_row unknown.the_row host_ghosts.ghosts disk_impl.no_dict start_ghosts.ghosts disk_impl.no_dict disk_impl.no_dict

keeper_field : IsSend (outer.the_field).row
keeper_field = struct_send (shape outer.the_type) (durable_send (filestore.the_row disk disk_ghosts) (store_ghosts.ghosts disk disk_ghosts store_ghosts.no_dict) (store_send disk disk_ghosts (modelled_send host.the_row unknown.the_row host_ghosts.ghosts start_ghosts.ghosts host_send unknown_send)), tt)

pub keeper_send : IsSend outer.the_row
keeper_send = recorded_send _ _ _ outer.the_type.to_one keeper_field

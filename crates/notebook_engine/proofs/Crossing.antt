-- A notebook may go to another thread: none of its parts is shared but by counts that threads may share.
use denote.Param.Send.{IsSend, IsSync, sendable}
use Rattle.std.proofs.Crossing.{Vec-send}
use Rattle.plain_data.proofs.items.Items.TheSendSync as items
use Rattle.plain_data.proofs.boxed.Boxed.TheSendSync as boxed
use Rattle.plain_data.proofs.shared.Shared.TheSendSync as shared
use Rattle.plain_data.proofs.shared_text.SharedText.TheSendSync as shared_text
use Rattle.plain_data.proofs.text.Text.TheSendSync as text
use Rattle.plain_data.proofs.text_map.TextMap.TheSendSync as text_map
use Rattle.py_tree.proofs.expressions.Literal.TheSendSync as literal
use Rattle.py_tree.proofs.expressions.Op.TheSendSync as op
use Rattle.py_tree.proofs.expressions.Expr.TheLaws.TheKnot as expressions
use Rattle.py_tree.proofs.statements.Stmt.TheLaws.TheKnot as statements
use Rattle.py_tree.specs.contracts.expressions.Expr as Expr
use Rattle.py_tree.specs.contracts.expressions.Target as Target
use Rattle.py_tree.specs.contracts.statements.Def as Def
use Rattle.py_tree.specs.contracts.statements.Stmt as Stmt
use Rattle.py_heap.specs.contracts.function.Function as Function
use Rattle.py_heap.specs.contracts.heap.Object as Object
use Rattle.py_heap.specs.contracts.heap.Heap as Heap
use Rattle.py_heap.specs.contracts.state.State as State
use Rattle.py_heap.proofs.dict.Dict.TheSendSync as dict
use Rattle.py_value.proofs.value.Value.TheSendSync as value
use Rattle.py_reader.specs.contracts.trees.Trees as Trees
use Rattle.py_kernel.specs.contracts.kernel.Kernel as Kernel
use Rattle.history_graph.proofs.active.ActiveGraph.TheSendSync as graph
use Rattle.history_graph.specs.contracts.history.History as History
use Rattle.linked_parts.proofs.parts.Parts.TheSendSync as parts
use Rattle.notebook_engine.specs.contracts.notebook.Notebook as Notebook
use Rattle.notebook_engine.specs.contracts.session.Session as Session

-- ---- trees

Expr-send : IsSend (Expr.the_field).row
Expr-send = expressions.send-Expr text.the_send literal.the_field_send items.the_send boxed.the_send (search sendable) (λ h s. search (boxed.the_send, sendable) depth 20) op.the_field_send

Expr-sync : IsSync (Expr.the_field).row
Expr-sync = expressions.sync-Expr text.the_sync literal.the_field_sync items.the_sync boxed.the_sync (search sendable) (λ h s. search (boxed.the_sync, sendable) depth 20) op.the_field_sync

Target-send : IsSend (Target.the_field).row
Target-send = search (text.the_send, Expr-send, sendable) depth 20

Target-sync : IsSync (Target.the_field).row
Target-sync = search (text.the_sync, Expr-sync, sendable) depth 20

Def-send : IsSend (Def.the_field).row
Def-send = statements.both_send-Def
    (search (Expr-send, sendable) depth 20) (search (Expr-sync, sendable) depth 20) (items.the_send _ text.the_send) (items.the_sync _ text.the_sync) Target-send Target-sync (search (items.the_send, Target-send, sendable) depth 20) (search (items.the_sync, Target-sync, sendable) depth 20)
    (search sendable) (search sendable) Expr-send Expr-sync op.the_field_send op.the_field_sync (λ h s y. items.the_send h s) (λ h s y. items.the_sync h y) shared.the_send shared.the_sync text.the_send text.the_sync

Def-sync : IsSync (Def.the_field).row
Def-sync = statements.both_sync-Def
    (search (Expr-send, sendable) depth 20) (search (Expr-sync, sendable) depth 20) (items.the_send _ text.the_send) (items.the_sync _ text.the_sync) Target-send Target-sync (search (items.the_send, Target-send, sendable) depth 20) (search (items.the_sync, Target-sync, sendable) depth 20)
    (search sendable) (search sendable) Expr-send Expr-sync op.the_field_send op.the_field_sync (λ h s y. items.the_send h s) (λ h s y. items.the_sync h y) shared.the_send shared.the_sync text.the_send text.the_sync

Stmt-send : IsSend (Stmt.the_field).row
Stmt-send = statements.both_send-Stmt
    (search (Expr-send, sendable) depth 20) (search (Expr-sync, sendable) depth 20) (items.the_send _ text.the_send) (items.the_sync _ text.the_sync) Target-send Target-sync (search (items.the_send, Target-send, sendable) depth 20) (search (items.the_sync, Target-sync, sendable) depth 20)
    (search sendable) (search sendable) Expr-send Expr-sync op.the_field_send op.the_field_sync (λ h s y. items.the_send h s) (λ h s y. items.the_sync h y) shared.the_send shared.the_sync text.the_send text.the_sync

-- ---- states

Function-send : IsSend Function.the_row
Function-send = search (Def-send, Def-sync, shared.the_send, text_map.the_send, text_map.the_sync, sendable) depth 30

Object-send : IsSend (Object.the_field).row
Object-send = search (Function-send, items.the_send, shared_text.the_send, dict.the_send, value.the_send, sendable) depth 30

Heap-send : IsSend Heap.the_row
Heap-send = search (Object-send, Vec-send, sendable) depth 30

State-send : IsSend (State.the_field).row
State-send = search (Heap-send, text_map.the_send, value.the_send, sendable) depth 30

-- ---- notebooks

Trees-send : IsSend (Trees.the_field).row
Trees-send = search (Stmt-send, items.the_send, text_map.the_send, sendable) depth 30

Kernel-send : IsSend Kernel.the_row
Kernel-send = search (State-send, sendable) depth 30

History-send : IsSend History.the_row
History-send = search (graph.the_send, parts.the_field_send, sendable) depth 30

Session-send : IsSend (Session.the_field).row
Session-send = search (Kernel-send, History-send, sendable) depth 30

pub Notebook-send : IsSend Notebook.the_row
Notebook-send = search (Session-send, Trees-send, sendable) depth 30

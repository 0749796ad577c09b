-- A cell from a valid state led to the state in which it ended, as its marks tell.
use Rattle.std.proofs.Common.{List, refl, inl, inr}
use Rattle.std.proofs.lemmas.List.Elements.{All-weaker}
use Rattle.py_names.specs.Names.{is_identifier, is_variable}
use Rattle.py_tree.specs.declared.statements.Stmt.{Stmt}
use Rattle.py_heap.specs.declared.heap.Object.{Object}
use Rattle.py_heap.specs.declared.heap.Object.TheVariants as object
use Rattle.py_heap.specs.declared.state.State.{State}
use Rattle.py_heap.specs.References.{IsClosed}
use Rattle.py_heap.specs.Valid.{IsValidObject}
use Rattle.py_laws.specs.Mentioned.{NamesPass, FunctionsPass}
use Rattle.py_laws.proofs.Knowing.{used}
use Rattle.reader_laws.specs.Texts.{IsItsText}
use Rattle.reader_laws.specs.Valid.{IsValidState}
use Rattle.reader_laws.proofs.Variables.{in_function}
use Rattle.run_graph.specs.Soundness.{statements}
use Rattle.run_graph.specs.RunLists.{ListedCell, raised, entry_done}
use Rattle.run_graph.proofs.Marking.{is_after}
use Rattle.history_graph.specs.Ends.{LedTo}
use Rattle.every_history.specs.Reading.{read}
use Rattle.every_history.proofs.Names.{named, first_holds}

object_named : (o : Object) → IsValidObject IsItsText o → NamesPass is_variable o
object_named (object.List items) h = tt
object_named (object.Tuple items) h = tt
object_named (object.Dict pairs) h = tt
object_named (object.Function def) h = in_function def.source def h
object_named (object.Handle name uses) h = tt

functions_named : (s : State) → IsValidState s → FunctionsPass is_variable s
functions_named s v = All-weaker (IsValidObject IsItsText) (NamesPass is_variable) object_named s.heap v.objects

pub led_on : (e : ListedCell) (s : State) → IsValidState s → LedTo s s.meter (entry_done read e s).1.marks (entry_done read e s).1.state
led_on e s v =
    let body : List Stmt = statements (read e.code) in
    let before : State = raised e s in
    let closed : IsClosed before = record { names = v.closed.names; objects = v.closed.objects } in
    let after = is_after body before e.draws closed in
    let names = used is_variable body e.draws before closed (named e.code) (functions_named s v) in
    record {
      meter = refl;
      values = after.values;
      objects = after.objects;
      bound = λ x b. names x (inr b);
      looked = λ x l. first_holds (is_identifier x) _ (names x (inl l));
    }

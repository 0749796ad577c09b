-- What is done to the object that was found at an address.
use Rattle.std.proofs.Common.{◌≡◌, ℕ, List, Some}
use Rattle.std.specs.Prelude.{slice_get}
use Rattle.nb_outside.specs.declared.feed.Drawn.{Drawn}
use Rattle.py_value.specs.declared.value.Value.{Value}
use Rattle.py_heap.specs.declared.heap.Object.TheVariants as object
use Rattle.py_heap.specs.Dicts.{Pairs}
use Rattle.py_machine.specs.declared.machine.Machine.{Machine}
use Rattle.py_machine.specs.Runs.{Outcome}
use Rattle.py_meaning.specs.Acts.{run}
use Rattle.py_meaning.specs.Numbers.{as_number}
use Rattle.py_meaning.specs.Methods.{items_in, pairs_in}
use Rattle.py_meaning.specs.Items.{object_stored, list_stored, dict_stored, object_deleted, list_deleted, dict_deleted}

pub stored_in_list : (a : ℕ) (at held : Value) (draws : List Drawn) (m : Machine) (items : List Value) (o : Outcome (Unit {0})) → slice_get m.state.heap a ≡ Some (object.List items)
    → run (list_stored a (items_in (slice_get m.state.heap a)) held (as_number at)) draws m ≡ o → run (object_stored a at held (slice_get m.state.heap a)) draws m ≡ o
stored_in_list a at held draws m items o e h = rw e (rw e at h)

pub stored_in_dict : (a : ℕ) (at held : Value) (draws : List Drawn) (m : Machine) (pairs : Pairs) (o : Outcome (Unit {0})) → slice_get m.state.heap a ≡ Some (object.Dict pairs)
    → run (dict_stored a (pairs_in (slice_get m.state.heap a)) at held) draws m ≡ o → run (object_stored a at held (slice_get m.state.heap a)) draws m ≡ o
stored_in_dict a at held draws m pairs o e h = rw e (rw e at h)

pub deleted_in_list : (a : ℕ) (at : Value) (draws : List Drawn) (m : Machine) (items : List Value) (o : Outcome (Unit {0})) → slice_get m.state.heap a ≡ Some (object.List items)
    → run (list_deleted a (items_in (slice_get m.state.heap a)) (as_number at)) draws m ≡ o → run (object_deleted a at (slice_get m.state.heap a)) draws m ≡ o
deleted_in_list a at draws m items o e h = rw e (rw e at h)

pub deleted_in_dict : (a : ℕ) (at : Value) (draws : List Drawn) (m : Machine) (pairs : Pairs) (o : Outcome (Unit {0})) → slice_get m.state.heap a ≡ Some (object.Dict pairs)
    → run (dict_deleted a (pairs_in (slice_get m.state.heap a)) at) draws m ≡ o → run (object_deleted a at (slice_get m.state.heap a)) draws m ≡ o
deleted_in_dict a at draws m pairs o e h = rw e (rw e at h)

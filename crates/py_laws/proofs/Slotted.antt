-- Objects that match, kind by kind.
use Rattle.std.proofs.Common.{◌≡◌, ℕ, List, Option, Some, None, refl}
use Rattle.std.specs.List.{AllZip}
use Rattle.py_tree.specs.declared.statements.Def.{Def}
use Rattle.py_value.specs.declared.value.Value.{Value}
use Rattle.py_heap.specs.declared.heap.Object.{Object}
use Rattle.py_heap.specs.declared.heap.Object.TheVariants as object
use Rattle.py_heap.specs.Dicts.{Pairs}
use Rattle.py_machine.specs.Changes.{object_kind}
use Rattle.py_laws.specs.Same.{ValuesMatch, PairsMatch}
use Rattle.py_laws.proofs.Respecting.{Setting, Paired}
use Rattle.py_laws.proofs.LeastActs.{Slots}

-- two objects of one kind that match, or none on either side
pub data Kinds (ps : ℕ → ℕ → Type 0) : Option Object → Option Object → Type 0 where
  lists : (vs ws : List Value) → AllZip (ValuesMatch ps) vs ws → Kinds ps (Some (object.List vs)) (Some (object.List ws))
  tuples : (vs ws : List Value) → AllZip (ValuesMatch ps) vs ws → Kinds ps (Some (object.Tuple vs)) (Some (object.Tuple ws))
  dicts : (vs ws : Pairs) → AllZip (PairsMatch ps) vs ws → Kinds ps (Some (object.Dict vs)) (Some (object.Dict ws))
  functions : (def other : Def) → def ≡ other → Kinds ps (Some (object.Function def)) (Some (object.Function other))
  handles : (name other : List ℕ) (uses others : ℕ) → name ≡ other → uses ≡ others → Kinds ps (Some (object.Handle name uses)) (Some (object.Handle other others))
  neither : Kinds ps None None

pub kinds : (c : Setting) (o u : Option Object) → Slots c o u → Kinds (Paired c) o u
kinds c (Some (object.List vs)) (Some (object.List ws)) h = lists vs ws h
kinds c (Some (object.Tuple vs)) (Some (object.Tuple ws)) h = tuples vs ws h
kinds c (Some (object.Dict vs)) (Some (object.Dict ws)) h = dicts vs ws h
kinds c (Some (object.Function def)) (Some (object.Function other)) h = functions def other h
kinds c (Some (object.Handle name uses)) (Some (object.Handle other others)) h = handles name other uses others h.0 h.1
kinds c (Some _) (Some _) h = absurd h
kinds c None None h = neither
kinds c None (Some u) h = absurd h
kinds c (Some o) None h = absurd h

pub same_kind : (ps : ℕ → ℕ → Type 0) (o u : Option Object) → Kinds ps o u → object_kind o ≡ object_kind u
same_kind ps _ _ (lists vs ws h) = refl
same_kind ps _ _ (tuples vs ws h) = refl
same_kind ps _ _ (dicts vs ws h) = refl
same_kind ps _ _ (functions def other e) = refl
same_kind ps _ _ (handles name other uses others e f) = refl
same_kind ps _ _ neither = refl

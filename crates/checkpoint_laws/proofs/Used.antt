-- The texts to which a checkpoint refers are texts.
use Rattle.std.proofs.Common.{◌≡◌, ℕ, ◌+◌, ◌<◌, ◌≤◌, Bool, true, false, cond, List, [], ◌∷◌, ◌++◌, length, Option, Some, None, refl, inl, inr, arith}
use Rattle.std.specs.List.{flat_map, AllByRecursion}
use Rattle.std.proofs.lemmas.Bool.{cases_Bool}
use Rattle.graph_model.specs.declared.graph.CellRecord.{CellRecord}
use Rattle.graph_model.specs.declared.graph.Version.{Version}
use Rattle.graph_model.specs.declared.graph.Graph.{Graph}
use Rattle.graph_model.specs.declared.plan.Plan.{Plan}
use Rattle.py_value.specs.declared.key.Key.{Key}
use Rattle.py_value.specs.declared.value.Value.{Value}
use Rattle.py_value.specs.declared.value.Value.TheVariants as the_value
use Rattle.py_value.specs.Keys.{value_of}
use Rattle.py_heap.specs.declared.heap.Object.{Object}
use Rattle.py_heap.specs.declared.heap.Object.TheVariants as the_object
use Rattle.py_heap.specs.declared.state.State.{State}
use Rattle.py_heap.specs.Dicts.{Pairs}
use Rattle.part_bytes.specs.declared.part.PartValue.{PartValue}
use Rattle.part_bytes.specs.Plain.{IsText}
use Rattle.part_bytes.specs.Parts.{part_of}
use Rattle.part_bytes.specs.Uses.{value_texts, held_texts, pair_texts, object_texts, texts_of}
use Rattle.checkpoint_bytes.specs.Texts.{lists, each_from, codes_of, copied_texts, uses}
use Rattle.checkpoint_laws.specs.SpelledParts.{IsValue, IsHeld, ArePairs, IsObject, AreObjects, HasPartText}
use Rattle.checkpoint_laws.specs.Spelled.{IsCode, IsCellRecord, HasText1}
use Rattle.checkpoint_laws.proofs.Copied.{AllCopied, each_copied}

abbrev pub AreTexts : List (List ℕ) → Type 0
AreTexts ts = AllByRecursion IsText ts

texts_join : (xs ys : List (List ℕ)) → AreTexts xs → AreTexts ys → AreTexts (xs ++ ys)
texts_join [] ys h k = k
texts_join (x ∷ xs) ys h k = (h.0, texts_join xs ys h.1 k)

-- ---- those of a part

value_so : (v : Value) → IsValue v → AreTexts (value_texts v)
value_so the_value.Nothing h = tt
value_so (the_value.Bool truth) h = tt
value_so (the_value.Number n) h = tt
value_so (the_value.Text text) h = (h, tt)
value_so (the_value.Ref at) h = tt
value_so (the_value.Builtin builtin) h = tt

held_so : (alone : Bool) (o : Option Value) → IsHeld alone o → AreTexts (held_texts o)
held_so alone (Some v) h = value_so v h
held_so alone None h = tt

items_so : (items : List Value) → AllByRecursion IsValue items → AreTexts (flat_map value_texts items)
items_so [] h = tt
items_so (v ∷ items) h = texts_join (value_texts v) (flat_map value_texts items) (value_so v h.0) (items_so items h.1)

pairs_so : (before pairs : Pairs) → ArePairs before pairs → AreTexts (flat_map pair_texts pairs)
pairs_so before [] h = tt
pairs_so before (p ∷ pairs) h =
    texts_join (pair_texts p) (flat_map pair_texts pairs) (texts_join (value_texts (value_of p.0)) (value_texts p.1) (value_so (value_of p.0) h.0) (value_so p.1 h.2)) (pairs_so (before ++ p ∷ []) pairs h.3)

object_so : (o : Object) → IsObject o → AreTexts (object_texts o)
object_so (the_object.List items) h = items_so items h.1
object_so (the_object.Tuple items) h = items_so items h.1
object_so (the_object.Dict pairs) h = pairs_so [] pairs h.1
object_so (the_object.Function def) h = (h.0, tt)
object_so (the_object.Handle name uses) h = absurd h

objects_so : (n met most : ℕ) (os : List Object) → AreObjects n met most os → AreTexts (flat_map object_texts os)
objects_so n met most [] h = tt
objects_so n met most (o ∷ os) h = texts_join (object_texts o) (flat_map object_texts os) (object_so o h.1) (objects_so (n + 1) h.2.0 most os h.2.3)

values_so : (alone : Bool) (vs : List (Option Value)) → AllByRecursion (IsHeld alone) vs → AreTexts (flat_map held_texts vs)
values_so alone [] h = tt
values_so alone (o ∷ vs) h = texts_join (held_texts o) (flat_map held_texts vs) (held_so alone o h.0) (values_so alone vs h.1)

pub part_so : (part : PartValue) → HasPartText part → AreTexts (texts_of part)
part_so part h = texts_join (flat_map held_texts part.values) (flat_map object_texts part.objects) (values_so _ part.values h.values) (objects_so 0 h.met (length part.objects) part.objects h.objects)

-- ---- those of a checkpoint

code_so : (t : List ℕ) → IsCode t → IsText t
code_so t h = let l = h.1 in (h.0, omega (arith, l))

pub codes_so : (xs : List CellRecord) → AllByRecursion IsCellRecord xs → AreTexts (codes_of xs)
codes_so [] h = tt
codes_so (x ∷ xs) h = (code_so x.code h.0.code, codes_so xs h.1)

copied_so : (s : State) (p : Plan) (xs : List Version) (n : ℕ) → AllCopied p (λ y. HasPartText (part_of s y.names)) n xs → AreTexts (each_from (copied_texts s p) n xs)
copied_so s p [] n h = tt
copied_so s p (x ∷ xs) n h = elim (cases_Bool (lists p.copied n)) [
  | inl e ↦ texts_join (copied_texts s p n x) (each_from (copied_texts s p) (n + 1) xs) (rw e (part_so (part_of s x.names) (h.0 e))) (copied_so s p xs (n + 1) h.1)
  | inr f ↦ texts_join (copied_texts s p n x) (each_from (copied_texts s p) (n + 1) xs) (rw f tt) (copied_so s p xs (n + 1) h.1)
]

pub uses_are_texts : (s : State) (g : Graph) (p : Plan) → HasText1 s g p → AreTexts (uses s g p)
uses_are_texts s g p h =
    texts_join (codes_of g.cells) (each_from (copied_texts s p) 1 g.versions) (codes_so g.cells h.cells) (copied_so s p g.versions 1 (each_copied g p (λ y. HasPartText (part_of s y.names)) h.parts))

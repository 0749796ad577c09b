-- The graphs of the least engine have no fault.
use Rattle.std.proofs.Common.{◌≡◌, ℕ, ◌-◌, ◌<◌, Bool, true, false, cond, ◌==◌, List, [], ◌∷◌, length, get_or, Some, refl, sym, ap, ◌∙◌, subst, inl, inr, arith, lit<}
use Rattle.std.specs.Prelude.{Contains, codes, slice_get}
use Rattle.std.proofs.lemmas.Option.{slice_get_within, get_or_from_slice_get}
use Rattle.std.proofs.lemmas.List.Elements.{Contains-push_cases}
use Rattle.py_names.specs.Names.{is_variable}
use Rattle.py_names.specs.Names as names
use Rattle.graph_model.specs.declared.graph.Version.{Version}
use Rattle.graph_model.specs.Graphs.{VersionAt}
use Rattle.graph_model.specs.Faults.{NamesAreBad, CellsAreBad, StandsOutOfOrder, HasBadWriter, IsTwoActive, RecordIsBad, HasBadRead, IsGraph}
use Rattle.session_show.specs.Counting.{drawing, held, no_graph, stuck_graph, graph_at}

pub none_in : {X : Type 0} (x : X) → Contains [] x → ⊥
none_in x h = omega (arith, h.1)

-- nothing is in a list without items
pub none_at : {X : Type 0} (i : ℕ) (x : X) → slice_get [] i ≡ Some x → ⊥
none_at i x h = cc

-- ---- without cells and versions

is_graph : IsGraph no_graph
is_graph = record {
  cells = lit< tt;
  versions = lit< tt;
  names = λ n h. none_at (n - 1) h.0 h.1.1;
  writers = λ n h. none_at (n - 1) h.0 h.1.1;
  replacements = λ n h. none_at (n - 1) h.0 h.1.1;
  reads = λ n h. none_at (n - 1) h.0 h.1.1;
}

-- ---- the only item of a list

only_at : {X : Type 0} (y x : X) (i : ℕ) → slice_get (y ∷ []) i ≡ Some x → (i ≡ 0) × (x ≡ y)
only_at y x i h =
    let l : i < 1 = slice_get_within (y ∷ []) i x h in
    let first : i ≡ 0 = omega (arith, l) in
    (first, sym (get_or_from_slice_get (y ∷ []) i x y h) ∙ ap (λ k. get_or (y ∷ []) k y) first)

only_in : {X : Type 0} (y x : X) → Contains (y ∷ []) x → x ≡ y
only_in y x h = elim (Contains-push_cases [] y x h) [ inl n ↦ absurd (none_in x n) | inr e ↦ sym e ]

-- ---- with a handle

only_version : (v : ℕ) (x : Version) → VersionAt stuck_graph v x → (v ≡ 1) × (x ≡ held)
only_version v x at = let p = at.0 in let o = only_at held x (v - 1) at.1 in let f = o.0 in ((omega (arith, p, f)), o.1)

named : is_variable (codes "h") ≡ true
unfolding names.keywords
named = refl

good_names : NamesAreBad held → ⊥
good_names (inl e) = let l : 1 ≡ 0 = ap length e in let none : ⊥ = omega (arith, l) in none
good_names (inr (inl h)) = h tt
good_names (inr (inr (inl h))) =
    let e : true ≡ false = sym (subst (λ (name : List ℕ). is_variable name ≡ true) (sym (only_in (codes "h") h.0 h.1)) named) ∙ h.2 in
    cc
good_names (inr (inr (inr h))) = let e : false ≡ true = h.0 in cc

good_cells : CellsAreBad 1 held → ⊥
good_cells (inl e) = omega (arith, e)
good_cells (inr (inl l)) = omega (arith, l)
good_cells (inr (inr h)) = h.0 refl

first_version : (v : ℕ) (x : Version) → v ≡ 1 → StandsOutOfOrder stuck_graph v x → ⊥
first_version v x one h = let p = h.1.0 in omega (arith, one, p)

good_writer : (v : ℕ) → HasBadWriter stuck_graph v → ⊥
good_writer v (x, at, bad) =
    let o = only_version v x at in
    elim bad [
      | inl cells ↦ good_cells (subst (CellsAreBad 1) o.1 cells)
      | inr order ↦ first_version v x o.0 order
    ]

good_replacement : (v : ℕ) → IsTwoActive stuck_graph v → ⊥
good_replacement v (x, at, inl (name, u, y, is, next, other, ne)) =
    let here = (only_version v x at).0 in
    let there = (only_version u y other).0 in
    let later = next.0.0 in
    omega (arith, here, there, later)
good_replacement v (x, at, inr (inl h)) = h.0 (ap (λ (y : Version). y.replaced) (only_version v x at).1)
good_replacement v (x, at, inr (inr (name, u, y, ne, is, other, writer, has))) = ne ((only_version u y other).0 ∙ sym (only_version v x at).0)

good_record : RecordIsBad stuck_graph 1 drawing → ⊥
good_record (inl (inl h)) = h tt
good_record (inl (inr h)) = none_in h.0 h.1
good_record (inr (inl h)) = h tt
good_record (inr (inr (inl h))) = none_in h.0 h.1
good_record (inr (inr (inr h))) = none_in h.0 h.1

good_read : (c : ℕ) → HasBadRead stuck_graph c → ⊥
good_read c (x, at, bad) =
    let o = only_at drawing x (c - 1) at.1 in
    let p = at.0 in
    let f = o.0 in
    let one : c ≡ 1 = omega (arith, p, f) in
    good_record (subst (λ (n : ℕ). RecordIsBad stuck_graph n drawing) one (subst (RecordIsBad stuck_graph c) o.1 bad))

is_stuck_graph : IsGraph stuck_graph
is_stuck_graph = record {
  cells = lit< tt;
  versions = lit< tt;
  names = λ v h. good_names (subst NamesAreBad (only_version v h.0 h.1).1 h.2);
  writers = good_writer;
  replacements = good_replacement;
  reads = good_read;
}

either_graph : (b : Bool) → IsGraph (cond b stuck_graph no_graph)
either_graph true = is_stuck_graph
either_graph false = is_graph

pub always_graph : (n : ℕ) → IsGraph (graph_at n)
always_graph n = either_graph (n == 2)

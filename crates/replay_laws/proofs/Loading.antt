-- To take the value of a name is a load of its absent version.
use Rattle.std.proofs.Common.{◌≡◌, List, [], ◌∷◌, refl, sym, subst}
use Rattle.std.specs.Prelude.{Contains}
use Rattle.py_heap.specs.declared.state.State.{State}
use Rattle.py_heap.specs.References.{IsClosed}
use Rattle.py_heap.specs.States.{without_name}
use Rattle.py_heap.proofs.Closed.{unbind_closed}
use Rattle.py_machine.specs.Runs.{Name}
use Rattle.py_laws.proofs.Members.{name_itself}
use Rattle.py_laws.proofs.Partners.{one_in, first_in}
use Rattle.py_laws.proofs.Bindings.{unbound, unbound_other}
use Rattle.linked_parts.specs.Parts.{HasNone}
use Rattle.linked_parts.proofs.Names.{none_reaches}
use Rattle.run_graph.proofs.Reached.{reach_from_one}
use Rattle.run_graph.proofs.Standing.{same_nothing}
use Rattle.replay_laws.specs.Walks.{IsLoaded}

gone_now : (t : State) (name : Name) → HasNone (without_name t name) name
gone_now t name = rw (unbound t.globals name name, name_itself name) refl

-- the names of an absent version: one
module _ (s t : State) (closed : IsClosed t) (names : List Name) (name : Name) (is : names ≡ name ∷ []) (none : HasNone s name) where
  the_one : (z : Name) → Contains names z → name ≡ z
  the_one z n = one_in name z (subst (λ ns. Contains ns z) is n)

  not_there : (z : Name) → Contains names z → HasNone (without_name t name) z
  not_there z n = subst (HasNone (without_name t name)) (the_one z n) (gone_now t name)

  pub unbinding_loads : IsLoaded names s t (without_name t name)
  unbinding_loads = record {
    closed = unbind_closed t name closed;
    same = same_nothing s (without_name t name) (Contains names) (λ z n. subst (HasNone s) (the_one z n) none) not_there;
    new = λ at q. let w = reach_from_one (without_name t name) names at q in absurd (none_reaches (without_name t name) w.0 (not_there w.0 w.1) at w.2);
    others = λ z out. unbound_other t.globals name z (λ e. out (subst (Contains names) (sym e) (subst (λ ns. Contains ns name) (sym is) (first_in name []))));
    objects = λ at l. refl;
    count = refl;
    meter = refl;
  }

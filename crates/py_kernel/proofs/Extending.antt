-- What is added to a reference, by whether a list is at its address.
use Rattle.std.proofs.Common.{◌≡◌, ℕ, true, false, List, Option, Some, None, refl, sym, ap, ◌∙◌}
use Rattle.std.specs.Prelude.{slice_get, is_some}
use Rattle.std.proofs.lemmas.Bool.{false≢true}
use Rattle.nb_outside.specs.declared.feed.Drawn.{Drawn}
use Rattle.py_value.specs.declared.value.Value.{Value}
use Rattle.py_value.specs.declared.value.Value.TheVariants as value
use Rattle.py_tree.specs.declared.expressions.Op.TheVariants as op
use Rattle.py_machine.specs.declared.machine.Machine.{Machine}
use Rattle.py_machine.specs.Changes.{list_in}
use Rattle.py_machine.specs.Runs as runs
use Rattle.py_meaning.specs.Acts.{run, list_at, ◌>>=◌}
use Rattle.py_meaning.specs.Operators.{operated}
use Rattle.py_meaning.specs.Meaning.{refs_added, extended}

-- the first reads the list at its address, and then what is added
refs_run : (a b : ℕ) (draws : List Drawn) (m : Machine)
    → run (refs_added a b) draws m ≡ run (list_at b >>= extended a b (list_in (slice_get m.state.heap a))) draws m
unfolding refs_added list_at runs.object_at
refs_run a b draws m = refl

no_list : (a b : ℕ) (o : Option (List Value)) (draws : List Drawn) (m : Machine) → is_some o ≡ false
    → run (list_at b >>= extended a b o) draws m ≡ run (operated op.Plus (value.Ref a) (value.Ref b)) draws m
unfolding list_at runs.object_at
no_list a b None draws m none = refl
no_list a b (Some items) draws m none = absurd (false≢true (sym none))

there : (o : Option (List Value)) → is_some o ≡ true → (items : List Value) × (o ≡ Some items)
there None some = absurd (false≢true some)
there (Some items) some = (items, refl)

pub to_list : (a b : ℕ) (draws : List Drawn) (m : Machine) → is_some (list_in (slice_get m.state.heap a)) ≡ true
    → (items : List Value) × (run (refs_added a b) draws m ≡ run (list_at b >>= extended a b (Some items)) draws m)
to_list a b draws m some =
    let found = there (list_in (slice_get m.state.heap a)) some in
    (found.0, refs_run a b draws m ∙ ap (λ (o : Option (List Value)). run (list_at b >>= extended a b o) draws m) found.1)

pub to_other : (a b : ℕ) (draws : List Drawn) (m : Machine) → is_some (list_in (slice_get m.state.heap a)) ≡ false
    → run (refs_added a b) draws m ≡ run (operated op.Plus (value.Ref a) (value.Ref b)) draws m
to_other a b draws m none = refs_run a b draws m ∙ no_list a b (list_in (slice_get m.state.heap a)) draws m none

-- Two walks end in states that are the same, whatever graph and plan they follow.
use Rattle.std.proofs.Common.{◌≡◌, ℕ, suc, ◌<◌, ◌≤◌, List, [], ◌∷◌, ◌++◌, length, None, refl, sym, ap, ◌∙◌, ◌⊎◌, inl, inr, subst, arith}
use Rattle.std.specs.Prelude.{Contains, slice_get}
use Rattle.std.specs.FinMap as finite
use Rattle.std.proofs.lemmas.List.Elements.{Contains-append_left, Contains-append_right, Contains-append_cases}
use Rattle.py_heap.specs.declared.state.State.{State}
use Rattle.py_heap.specs.References.{IsClosed}
use Rattle.py_heap.specs.States.{empty, without_name}
use Rattle.py_heap.proofs.Closed.{empty_closed, unbind_closed}
use Rattle.py_machine.specs.Runs.{Name}
use Rattle.py_meaning.specs.Cells.{Asks}
use Rattle.py_laws.specs.Same.{Pairs, HasPair, ValuesMatch, ObjectsMatch, BothOrNone, Both, Same, SameWithin, SameStates, Every}
use Rattle.py_laws.specs.Framed.{Renamed}
use Rattle.py_laws.proofs.Closing.{closed_after}
use Rattle.py_laws.proofs.Framing.{live_pair, renamed}
use Rattle.py_laws.proofs.Joining.{reached_only}
use Rattle.py_laws.proofs.Matching.{BothOrNone-more, Both-more, more_value, more_object}
use Rattle.py_laws.proofs.Members.{name_cases, name_itself}
use Rattle.py_laws.proofs.Partners.{one_in, first_in}
use Rattle.py_laws.proofs.Bindings.{unbound, unbound_other}
use Rattle.py_laws.proofs.Sameness.{same_through, same_turned, states_themselves}
use Rattle.graph_model.specs.declared.graph.CellRecord.{CellRecord}
use Rattle.graph_model.specs.declared.graph.Version.{Version}
use Rattle.graph_model.specs.declared.graph.Graph.{Graph}
use Rattle.graph_model.specs.declared.plan.Plan.{Plan}
use Rattle.graph_model.proofs.Lookups.{same_cell, same_version}
use Rattle.run_graph.specs.Soundness.{TreeReader, statements}
use Rattle.run_graph.proofs.Lists.{has_name}
use Rattle.replay_laws.specs.Walks.{with_meter, done_again, Passes, IsLoaded, GivesBack, GivesAllBack, Walked, begins, goes_on}

-- two states that are the same, and closed
pub record Twins (t u : State) : Type 0 where
  pub left : IsClosed t
  pub right : IsClosed u
  pub same : SameStates t u

-- ---- a load

module _ (names : List Name) (copy t u s w : State) (twins : Twins t u) (left : IsLoaded names copy t s) (right : IsLoaded names copy u w) where
  own : SameWithin names s w
  own = reached_only names s w left.closed right.closed (same_through (Contains names) s copy w (same_turned (Contains names) copy s left.same) right.same)

  list : Pairs
  list = own.by ++ twins.same.names.by

  abbrev New : ℕ → ℕ → Type 0
  New = HasPair own.by

  abbrev Old : ℕ → ℕ → Type 0
  Old = HasPair twins.same.names.by

  abbrev By : ℕ → ℕ → Type 0
  By = HasPair list

  first : (a b : ℕ) → New a b → By a b
  unfolding list
  first a b p = Contains-append_left own.by twins.same.names.by (a, b) p

  second : (a b : ℕ) → Old a b → By a b
  unfolding list
  second a b p = Contains-append_right own.by twins.same.names.by (a, b) p

  either : (a b : ℕ) → By a b → New a b ⊎ Old a b
  unfolding list
  either a b p = Contains-append_cases own.by twins.same.names.by (a, b) p

  new_left : (a b : ℕ) → New a b → length t.heap ≤ a
  new_left a b p = left.new a (own.left a b p)

  new_right : (a b : ℕ) → New a b → length u.heap ≤ b
  new_right a b p = right.new b (own.right a b p)

  old_pair : (a b : ℕ) → Old a b → (a < length t.heap) × (b < length u.heap)
  old_pair a b p = live_pair Old Every t u twins.same.names.same a b p

  one_left : (a b c : ℕ) → By a b → By a c → b ≡ c
  one_left a b c p q = elim (either a b p) [
    | inl i ↦ elim (either a c q) [
      | inl j ↦ own.same.pairs.left a b c i j
      | inr j ↦ let high = new_left a b i in let low = (old_pair a c j).0 in let none : ⊥ = omega (arith, high, low) in absurd none
    ]
    | inr i ↦ elim (either a c q) [
      | inl j ↦ let high = new_left a c j in let low = (old_pair a b i).0 in let none : ⊥ = omega (arith, high, low) in absurd none
      | inr j ↦ twins.same.names.same.pairs.left a b c i j
    ]
  ]

  one_right : (a b c : ℕ) → By a c → By b c → a ≡ b
  one_right a b c p q = elim (either a c p) [
    | inl i ↦ elim (either b c q) [
      | inl j ↦ own.same.pairs.right a b c i j
      | inr j ↦ let high = new_right a c i in let low = (old_pair b c j).1 in let none : ⊥ = omega (arith, high, low) in absurd none
    ]
    | inr i ↦ elim (either b c q) [
      | inl j ↦ let high = new_right b c j in let low = (old_pair a c i).1 in let none : ⊥ = omega (arith, high, low) in absurd none
      | inr j ↦ twins.same.names.same.pairs.right a b c i j
    ]
  ]

  other_value : (x : Name) → ¬ Contains names x → BothOrNone (ValuesMatch Old) (finite.get s.globals x) (finite.get w.globals x)
  other_value x out =
      subst (λ o. BothOrNone (ValuesMatch Old) o (finite.get w.globals x)) (sym (left.others x out))
      (subst (λ o. BothOrNone (ValuesMatch Old) (finite.get t.globals x) o) (sym (right.others x out)) (twins.same.names.same.names x tt))

  old_object : (a b : ℕ) → Old a b → Both (ObjectsMatch Old) (slice_get s.heap a) (slice_get w.heap b)
  old_object a b p =
      let l = old_pair a b p in
      subst (λ o. Both (ObjectsMatch Old) o (slice_get w.heap b)) (sym (left.objects a l.0))
      (subst (λ o. Both (ObjectsMatch Old) (slice_get t.heap a) o) (sym (right.objects b l.1)) (twins.same.names.same.objects a b p))

  both_same : Same Every s w
  both_same = record {
    by = list;
    same = record {
      pairs = record { left = one_left; right = one_right };
      names = λ x every. elim (has_name names x) [
        | inl n ↦ BothOrNone-more (ValuesMatch New) (ValuesMatch By) (more_value New By first) _ _ (own.same.names x n)
        | inr out ↦ BothOrNone-more (ValuesMatch Old) (ValuesMatch By) (more_value Old By second) _ _ (other_value x out)
      ];
      objects = λ a b p. elim (either a b p) [
        | inl i ↦ Both-more (ObjectsMatch New) (ObjectsMatch By) (more_object New By first) _ _ (own.same.objects a b i)
        | inr i ↦ Both-more (ObjectsMatch Old) (ObjectsMatch By) (more_object Old By second) _ _ (old_object a b i)
      ];
    };
  }

  pub loaded_twins : Twins s w
  loaded_twins = record {
    left = left.closed;
    right = right.closed;
    same = record { names = both_same; count = left.count ∙ (twins.same.count ∙ sym right.count); meter = left.meter ∙ (twins.same.meter ∙ sym right.meter) };
  }

-- ---- a name that loses its value

module _ (name : Name) (t u : State) (twins : Twins t u) where
  abbrev Ps : ℕ → ℕ → Type 0
  Ps = HasPair twins.same.names.by

  gone : (s : State) (x : Name) → x ≡ name → finite.get (without_name s name).globals x ≡ None
  gone s x e = subst (λ z. finite.get (without_name s name).globals z ≡ None) (sym e) (rw (unbound s.globals name name, name_itself name) refl)

  without_value : (x : Name) → BothOrNone (ValuesMatch Ps) (finite.get (without_name t name).globals x) (finite.get (without_name u name).globals x)
  without_value x = elim (name_cases x name) [
    | inl e ↦ rw (gone t x e, gone u x e) tt
    | inr other ↦ rw (unbound_other t.globals name x other, unbound_other u.globals name x other) (twins.same.names.same.names x tt)
  ]

  pub unbound_twins : Twins (without_name t name) (without_name u name)
  unbound_twins = record {
    left = unbind_closed t name twins.left;
    right = unbind_closed u name twins.right;
    same = record {
      names = record { by = twins.same.names.by; same = record { pairs = twins.same.names.same.pairs; names = λ x every. without_value x; objects = twins.same.names.same.objects } };
      count = twins.same.count;
      meter = twins.same.meter;
    };
  }

-- ---- the walk

only_name : (a b : Name) (names : List Name) → names ≡ a ∷ [] → names ≡ b ∷ [] → b ≡ a
only_name a b names e f = one_in b a (subst (λ ns. Contains ns a) (sym e ∙ f) (first_in a []))

module _ (read : TreeReader) (copy : ℕ → State) (g : Graph) (p : Plan) where
  given_twins : (v : ℕ) (x : Version) (t u s w : State) → Twins t u → GivesBack copy v x t s → GivesBack copy v x u w → Twins s w
  given_twins v x t u s w twins (inl a) (inl b) = loaded_twins x.names (copy v) t u s w twins a.1 b.1
  given_twins v x t u s w twins (inl a) (inr b) = let e = a.0 in let f = b.0 in absurd (let none : ⊥ = cc (e, f) in none)
  given_twins v x t u s w twins (inr a) (inl b) = let e = a.0 in let f = b.0 in absurd (let none : ⊥ = cc (e, f) in none)
  given_twins v x t u s w twins (inr (gone, name, is, e)) (inr (gone_too, other, is_too, f)) =
      let one : other ≡ name = only_name name other x.names is is_too in
      subst (λ (k : State). Twins k w) (sym e)
      (subst (λ (k : State). Twins (without_name t name) k) (sym f)
      (subst (λ n. Twins (without_name t name) (without_name u n)) (sym one) (unbound_twins name t u twins)))

  all_twins : (c : ℕ) (vs : List ℕ) (t u s w : State) → Twins t u → GivesAllBack copy g c vs t s → GivesAllBack copy g c vs u w → Twins s w
  all_twins c [] t u s w twins e f = subst (λ (k : State). Twins k w) (sym e) (subst (λ (k : State). Twins t k) (sym f) twins)
  all_twins c (v ∷ vs) t u s w twins (x, m, at, how, more) (y, n, bt, how_too, more_too) =
      let e : y ≡ x = same_version g v y x bt at in
      let both : Twins m n = elim how [
        | inl a ↦ elim how_too [
          | inl b ↦ given_twins v x t u m n twins a.1 (subst (λ (z : Version). GivesBack copy v z u n) e b.1)
          | inr b ↦ absurd (b.0 (ap (λ (z : Version). z.writer) e ∙ a.0))
        ]
        | inr a ↦ elim how_too [
          | inl b ↦ absurd (a.0 (sym (ap (λ (z : Version). z.writer) e) ∙ b.0))
          | inr b ↦ subst (λ (k : State). Twins k n) (sym a.1) (subst (λ (k : State). Twins t k) (sym b.1) twins)
        ]
      ] in
      all_twins c vs m n s w both more more_too

  metered : (t u : State) (n : ℕ) → SameStates t u → SameStates (with_meter t n) (with_meter u n)
  metered t u n h = record {
    names = record { by = h.names.by; same = record { pairs = h.names.same.pairs; names = h.names.same.names; objects = h.names.same.objects } };
    count = h.count;
    meter = refl;
  }

  again_alike : (x : CellRecord) (t u : State) → Twins t u → Renamed (done_again read x t) (done_again read x u)
  again_alike x t u twins = renamed (statements (read x.code)) [] (with_meter t x.meter) (with_meter u x.meter) (metered t u x.meter twins.same)

  meter_closed : (t : State) (n : ℕ) → IsClosed t → IsClosed (with_meter t n)
  meter_closed t n c = record { names = c.names; objects = c.objects }

  passed_twins : (c : ℕ) (t u s w : State) → Twins t u → Passes read g p c t s → Passes read g p c u w → Twins s w
  passed_twins c t u s w twins (inl (rerun, x, at, ends, e)) (inl (rerun_too, y, bt, ends_too, f)) =
      let one : y ≡ x = same_cell g c y x bt at in
      let there : w ≡ (done_again read x u).1.state = f ∙ ap (λ (z : CellRecord). (done_again read z u).1.state) one in
      subst (λ (k : State). Twins k w) (sym e)
      (subst (λ (k : State). Twins (done_again read x t).1.state k) (sym there) (record {
        left = closed_after (statements (read x.code)) [] (with_meter t x.meter) (meter_closed t x.meter twins.left);
        right = closed_after (statements (read x.code)) [] (with_meter u x.meter) (meter_closed u x.meter twins.right);
        same = (again_alike x t u twins).states;
      }))
  passed_twins c t u s w twins (inl a) (inr b) = absurd (b.0 a.0)
  passed_twins c t u s w twins (inr a) (inl b) = absurd (a.0 b.0)
  passed_twins c t u s w twins (inr a) (inr b) = subst (λ (k : State). Twins k w) (sym a.1) (subst (λ (k : State). Twins t k) (sym b.1) twins)

  pub walked_twins : (c : ℕ) (t u : State) → Walked read copy g p c t → Walked read copy g p c u → Twins t u
  walked_twins _ _ _ begins begins = record { left = empty_closed; right = empty_closed; same = states_themselves empty empty_closed }
  walked_twins _ s w (goes_on c t m _ before passes gives) (goes_on _ u n _ before_too passes_too gives_too) =
      all_twins (suc c) p.copied m n s w (passed_twins (suc c) t u m n (walked_twins c t u before before_too) passes passes_too) gives gives_too

  pub asks_too : (c : ℕ) (t u : State) (x : CellRecord) → Walked read copy g p c t → Walked read copy g p c u → Asks (done_again read x t) → Asks (done_again read x u)
  asks_too c t u x left right asks = sym (again_alike x t u (walked_twins c t u left right)).result ∙ asks

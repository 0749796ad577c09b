-- Acts that respect alikeness keep a machine sound: two runs from it, with each object paired with itself.
use Rattle.std.proofs.Common.{◌≡◌, ℕ, ◌-◌, ◌<◌, ◌≤◌, Bool, IsTrue, List, [], ◌∷◌, ◌++◌, length, get_or, Option, Some, None, Ok, Err, refl, sym, inl, inr, subst, arith}
use Rattle.std.specs.Prelude.{Contains, slice_get}
use Rattle.std.specs.FinMap as finite
use Rattle.std.specs.List.{AllZip, flat_map}
use Rattle.std.proofs.lemmas.Bool.{cases_lt}
use Rattle.std.proofs.lemmas.Option.{slice_get_within, slice_get_past, slice_get-get_or, get_or_from_slice_get}
use Rattle.std.proofs.lemmas.List.Elements.{All-contains, Contains-append_left, Contains-append_right}
use Rattle.nb_outside.specs.declared.feed.Drawn.{Drawn}
use Rattle.py_tree.specs.declared.expressions.Expr.{Expr}
use Rattle.py_tree.specs.declared.expressions.Op.{Op}
use Rattle.py_tree.specs.declared.statements.Def.{Def}
use Rattle.py_tree.specs.declared.statements.Stmt.{Stmt}
use Rattle.py_value.specs.declared.key.Key.{Key}
use Rattle.py_value.specs.declared.value.Value.{Value}
use Rattle.py_heap.specs.declared.heap.Object.{Object}
use Rattle.py_heap.specs.declared.heap.Object.TheVariants as object
use Rattle.py_heap.specs.declared.heap.SequenceKind.{SequenceKind}
use Rattle.py_heap.specs.Dicts.{Pairs}
use Rattle.py_heap.specs.Reaching.{held_refs}
use Rattle.py_heap.specs.References.{value_refs, pair_refs, AreLive}
use Rattle.py_heap.specs.declared.state.State.{State}
use Rattle.py_heap.specs.Valid.{IsValidObject, IsValidBy}
use Rattle.py_machine.specs.declared.frame.Frame.{Frame}
use Rattle.py_machine.specs.declared.frame.FrameSlot.{FrameSlot}
use Rattle.py_machine.specs.declared.frame.FrameSlot.TheVariants.{Empty, Held}
use Rattle.py_machine.specs.declared.machine.Machine.{Machine}
use Rattle.py_machine.specs.declared.method.BoundMethod.{BoundMethod}
use Rattle.py_machine.specs.declared.method.BoundMethod.TheVariants as bound
use Rattle.py_machine.specs.Runs.{Outcome, start}
use Rattle.py_meaning.specs.Acts.{Act, run}
use Rattle.py_meaning.specs.Operators.{operated, joined, made_text}
use Rattle.py_meaning.specs.Items.{indexed, sliced, item_stored, item_deleted}
use Rattle.py_meaning.specs.Methods.{extend, method_called}
use Rattle.py_meaning.specs.Compared.{compared}
use Rattle.py_meaning.specs.Meaning.{augmented, put, filled, handle_called, tell_called, level, result, cell}
use Rattle.py_meaning.proofs.Growing.{Rises, rises}
use Rattle.py_laws.specs.Same.{ValuesMatch, ObjectsMatch, BothOrNone, SameBy, Every}
use Rattle.py_laws.specs.Allowed.{IsAllowed, AreAllowedBy}
use Rattle.py_laws.specs.Sound.{IsLiveSlot, IsLiveFrame, IsSound, KeepsSound, IsLiveOutcome, GivesSound, method_refs, BodiesPass}
use Rattle.py_laws.proofs.Members.{no_number}
use Rattle.py_laws.proofs.Matching.{BothOrNone-more, more_value, more_object, value_itself, object_itself, held_itself}
use Rattle.py_laws.proofs.Pairing.{to_themselves}
use Rattle.py_laws.proofs.Sameness.{Itself, same_by_itself}
use Rattle.py_laws.proofs.Respecting.{Setting, Paired, SlotsMatch, empty, held, FramesMatch, Alike, ResultsMatch, Ends, Respects, Any, Equal, FlowsMatch, BoundMethodsMatch, list_methods, dict_methods, text_methods}
use Rattle.py_laws.proofs.LeastActs.{Values}
use Rattle.py_laws.proofs.Framing.{live_pair, to_slots}
use Rattle.py_laws.proofs.Closing.{live_value, live_object}
use Rattle.py_laws.proofs.Validity.{each, rules}
use Rattle.py_laws.proofs.Operating.{operated_respects, joined_respects, made_text_respects}
use Rattle.py_laws.proofs.Itemizing.{Entries, indexed_respects, sliced_respects, item_stored_respects, item_deleted_respects}
use Rattle.py_laws.proofs.Comparing.{compared_respects}
use Rattle.py_laws.proofs.Methodical.{extend_respects, method_called_respects}
use Rattle.py_laws.proofs.Simple.{augmented_respects, put_respects, filled_respects, handle_called_respects, tell_called_respects, result_respects}
use Rattle.py_laws.proofs.Constructs.{level_respects, cell_respects}
use Rattle.py_laws.proofs.Zipped.{zips}

-- each of these addresses is paired with itself
abbrev AreTheirOwn : List ℕ → Setting → Type 0
AreTheirOwn ns c = (a : ℕ) → Contains ns a → Paired c a a

module _ (test : Def → Bool) (bodies : BodiesPass test) where
  abbrev Kind : Def → Type 0
  Kind def = IsTrue (test def)

  module _ (m n : Machine) (h : IsSound test m) (grows : length m.state.heap ≤ length n.state.heap) where
    abbrev Own : ℕ → ℕ → Type 0
    Own = Itself m.state h.state.closed

    base : SameBy Own Every m.state m.state
    base = same_by_itself m.state h.state.closed Every

    abbrev ruled : Setting
    ruled = record { named = Every; base = Own; lefts = length m.state.heap; rights = length m.state.heap; most = length n.state.heap - length m.state.heap; one = base.pairs; old = live_pair Own Every m.state m.state base; rules = rules Kind bodies }

    abbrev All : ℕ → ℕ → Type 0
    All = Paired ruled

    -- ---- the start

    own : (a : ℕ) → a < length m.state.heap → All a a
    own a l = inl (to_themselves (length m.state.heap) a l)

    live_own : (ns : List ℕ) → AreLive m.state.heap ns → (a : ℕ) → Contains ns a → All a a
    live_own ns l a c = own a (All-contains (λ a. a < length m.state.heap) ns a l c)

    value_own : (v : Value) → AreLive m.state.heap (value_refs v) → ValuesMatch All v v
    value_own v l = value_itself All v (live_own (value_refs v) l)

    slot_own : (o : Option FrameSlot) → IsLiveSlot m.state.heap o → BothOrNone (SlotsMatch All) o o
    slot_own (Some (Held v)) l = held v v (value_own v l)
    slot_own (Some Empty) l = empty
    slot_own None l = tt

    frame_own : (f : Option Frame) → IsLiveFrame m.state.heap f → BothOrNone (FramesMatch All) f f
    frame_own (Some f) l = record { slots = λ x. slot_own (finite.get f.slots x) (l x) }
    frame_own None l = tt

    heap_fit : (a : ℕ) (o : Object) (e : slice_get m.state.heap a ≡ Some o) → IsValidObject Kind o
    heap_fit a o e = subst (IsValidObject Kind) (get_or_from_slice_get m.state.heap a o o e) (h.state.objects a o (slice_get_within m.state.heap a o e))

    begins : Alike ruled m m
    begins = record {
      counts = record { steps = refl; printed = refl; meter = refl; drawn = refl };
      marks = record { looked = refl; bound = refl; changed = λ a i. (a, own a (h.changed a i), i); changed_back = λ b i. (b, own b (h.changed b i), i); drew = refl };
      frame = frame_own m.frame h.frame;
      names = λ x w. BothOrNone-more (ValuesMatch Own) (ValuesMatch All) (more_value Own All (λ a b p. inl p)) _ _ (base.names x tt);
      heaps = record {
        objects = λ a b w. elim w [
          | inl p ↦ to_slots (ObjectsMatch Own) (ObjectsMatch All) (more_object Own All (λ a b p. inl p)) _ _ (base.objects a b p)
          | inr p ↦ rw (slice_get_past m.state.heap a (omega (arith, p.2)), slice_get_past m.state.heap b (omega (arith, p.3))) tt
        ];
        added = 0;
        left_size = omega arith;
        right_size = omega arith;
      };
      may = h.state.names;
      known = λ x w. tt;
      fit = heap_fit;
    }

    -- ---- the end

    live : (a b : ℕ) → All a b → a < length n.state.heap
    live a b (inl p) = omega (arith, (live_pair Own Every m.state m.state base a b p).0, grows)
    live a b (inr p) = omega (arith, p.1, p.2, grows)

    own_after : (a : ℕ) → a < length n.state.heap → All a a
    own_after a l = elim (cases_lt a (length m.state.heap)) [
      | inl old ↦ own a old
      | inr new ↦ inr (a - length m.state.heap, omega (arith, l, new), omega (arith, new), omega (arith, new))
    ]

    live_after : (v w : Value) → ValuesMatch All v w → AreLive n.state.heap (value_refs v)
    live_after v w k = live_value All (length n.state.heap) live v w k

    slot_after : (s t : FrameSlot) → SlotsMatch All s t → IsLiveSlot n.state.heap (Some s)
    slot_after _ _ empty = tt
    slot_after _ _ (held v w k) = live_after v w k

    slots_after : (o : Option FrameSlot) → BothOrNone (SlotsMatch All) o o → IsLiveSlot n.state.heap o
    slots_after (Some s) k = slot_after s s k
    slots_after None k = tt

    frame_after : (f : Option Frame) → BothOrNone (FramesMatch All) f f → IsLiveFrame n.state.heap f
    frame_after (Some f) k = λ name. slots_after (finite.get f.slots name) (k.slots name)
    frame_after None k = tt

    sound_after : Alike ruled n n → Rises m n → IsSound test n
    sound_after e r = record {
      state = record {
        closed = record {
          names = λ name v got. live_after v v (subst (λ o. BothOrNone (ValuesMatch All) o o) got (e.names name (inl tt)));
          objects = λ k d l.
              let o : Object = get_or n.state.heap k d in
              live_object All (length n.state.heap) live o o (subst (λ x. BothOrNone (ObjectsMatch All) x x) (slice_get-get_or n.state.heap k d l) (e.heaps.objects k k (own_after k l)));
        };
        names = e.may;
        objects = λ k d l. e.fit k (get_or n.state.heap k d) (slice_get-get_or n.state.heap k d l);
        meter = r.small_meter h.state.meter;
      };
      frame = frame_after n.frame e.frame;
      changed = λ at i. let w = e.marks.changed at i in live at w.0 w.1;
    }

  -- ---- acts that respect alikeness

  module _ {A : Type 0} (p : Act A) (draws : List Drawn) (m : Machine) (h : IsSound test m) where
    abbrev End : Machine
    End = (run p draws m).1

    raised : Rises m End
    raised = rises p draws m

    abbrev at_end : Setting
    at_end = ruled m End h raised.objects

    ended : (V : A → A → Type 0) → Respects at_end V p p → Ends at_end V (run p draws m) (run p draws m)
    ended V k = k.ends draws m m (begins m End h raised.objects) (record { looks = λ name l. tt; size = omega (arith, raised.objects) })

    sound_end : (V : A → A → Type 0) → Respects at_end V p p → IsSound test End
    sound_end V k = sound_after m End h raised.objects (ended V k).alike raised

    -- each address of an argument is paired with itself
    argument : (ns : List ℕ) → AreLive m.state.heap ns → (a : ℕ) → Contains ns a → Paired at_end a a
    argument = live_own m End h raised.objects

  live_result : (p : Act Value) (draws : List Drawn) (m : Machine) (h : IsSound test m) (o : Outcome Value) → o.1 ≡ (run p draws m).1 → ResultsMatch (Values (at_end p draws m h)) o.0 o.0 → IsLiveOutcome o
  live_result p draws m h (Ok v, n) e k = subst (λ (x : Machine). AreLive x.state.heap (value_refs v)) (sym e) (live_after m (run p draws m).1 h (raised p draws m h).objects v v k)
  live_result p draws m h (Err stop, n) e k = tt

  live_end : (p : Act Value) (draws : List Drawn) (m : Machine) (h : IsSound test m) → Respects (at_end p draws m h) (Values (at_end p draws m h)) p p → IsLiveOutcome (run p draws m)
  live_end p draws m h k = live_result p draws m h (run p draws m) refl (ended p draws m h (Values (at_end p draws m h)) k).result

  -- ---- acts of which each address is paired with itself

  pub kept_by : {A : Type 0} (V : Setting → A → A → Type 0) (ns : List ℕ) (p : Act A) → ((c : Setting) → AreTheirOwn ns c → Respects c (V c) p p) → KeepsSound test ns p
  kept_by V ns p k draws m l h = sound_end p draws m h (V (at_end p draws m h)) (k (at_end p draws m h) (argument p draws m h ns l))

  pub given_by : (ns : List ℕ) (p : Act Value) → ((c : Setting) → AreTheirOwn ns c → Respects c (Values c) p p) → GivesSound test ns p
  given_by ns p k = record { keeps = kept_by Values ns p k; live = λ draws m l h. live_end p draws m h (k (at_end p draws m h) (argument p draws m h ns l)) }

-- ---- what values, lists of values and methods are then

module _ (c : Setting) where
  value_alike : (v : Value) → AreTheirOwn (value_refs v) c → Values c v v
  value_alike v k = value_itself (Paired c) v k

  values_alike : (vs : List Value) → AreTheirOwn (flat_map value_refs vs) c → AllZip (Values c) vs vs
  values_alike vs k = object_itself (Paired c) (object.List vs) k

  held_alike : (o : Option Value) → AreTheirOwn (held_refs value_refs o) c → BothOrNone (Values c) o o
  held_alike o k = held_itself (Paired c) o k

  entries_alike : (pairs : Pairs) → AreTheirOwn (flat_map pair_refs pairs) c → Entries c pairs pairs
  entries_alike pairs k = object_itself (Paired c) (object.Dict pairs) k

  method_alike : (m : BoundMethod) → AreTheirOwn (method_refs m) c → BoundMethodsMatch (Paired c) m m
  method_alike (bound.List m at) k = list_methods m at at (k at (0, omega arith, refl))
  method_alike (bound.Dict m at) k = dict_methods m at at (k at (0, omega arith, refl))
  method_alike (bound.Text m text) k = text_methods m text

  first : (ns ms : List ℕ) → AreTheirOwn (ns ++ ms) c → AreTheirOwn ns c
  first ns ms k a i = k a (Contains-append_left ns ms a i)

  rest : (ns ms : List ℕ) → AreTheirOwn (ns ++ ms) c → AreTheirOwn ms c
  rest ns ms k a i = k a (Contains-append_right ns ms a i)

  address : (at : ℕ) (ns : List ℕ) → AreTheirOwn ((at ∷ []) ++ ns) c → Paired c at at
  address at ns k = first (at ∷ []) ns k at (0, omega arith, refl)

-- ---- the start of a cell

pub starts : (test : Def → Bool) (s : State) → IsValidBy test s → IsSound test (start s)
starts test s v = record { state = v; frame = tt; changed = λ at i. absurd (no_number at i) }

-- ---- the calls

module _ (test : Def → Bool) (bodies : BodiesPass test) where
  pub operators : (o : Op) (v w : Value) → GivesSound test (value_refs v ++ value_refs w) (operated o v w)
  operators o v w = given_by test bodies _ (operated o v w) (λ c k. operated_respects c o v v w w (value_alike c v (first c _ _ k)) (value_alike c w (rest c (value_refs v) _ k)))

  pub augmentations : (o : Op) (v w : Value) → GivesSound test (value_refs v ++ value_refs w) (augmented o v w)
  augmentations o v w = given_by test bodies _ (augmented o v w) (λ c k. augmented_respects c o v v w w (value_alike c v (first c _ _ k)) (value_alike c w (rest c (value_refs v) _ k)))

  pub comparisons : (levels : ℕ) (o : Op) (v w : Value) → KeepsSound test (value_refs v ++ value_refs w) (compared levels o v w)
  comparisons levels o v w = kept_by test bodies (λ c. Equal) _ (compared levels o v w) (λ c k. compared_respects c levels o v v w w (value_alike c v (first c _ _ k)) (value_alike c w (rest c (value_refs v) _ k)))

  pub indexes : (v at : Value) → GivesSound test (value_refs v ++ value_refs at) (indexed v at)
  indexes v at = given_by test bodies _ (indexed v at) (λ c k. indexed_respects c v v at at (value_alike c v (first c _ _ k)) (value_alike c at (rest c (value_refs v) _ k)))

  pub slices : (v : Value) (from to : Option Value) → GivesSound test (value_refs v ++ (held_refs value_refs from ++ held_refs value_refs to)) (sliced v from to)
  slices v from to = given_by test bodies _ (sliced v from to) (λ c k.
      let l = rest c (value_refs v) (held_refs value_refs from ++ held_refs value_refs to) k in
      sliced_respects c v v from from to to (value_alike c v (first c _ _ k)) (held_alike c from (first c _ _ l)) (held_alike c to (rest c (held_refs value_refs from) _ l)))

  pub stores : (v at w : Value) → KeepsSound test (value_refs v ++ (value_refs at ++ value_refs w)) (item_stored v at w)
  stores v at w = kept_by test bodies (λ c. Any) _ (item_stored v at w) (λ c k.
      let l = rest c (value_refs v) (value_refs at ++ value_refs w) k in
      item_stored_respects c v v at at w w (value_alike c v (first c _ _ k)) (value_alike c at (first c _ _ l)) (value_alike c w (rest c (value_refs at) _ l)))

  pub deletions : (v at : Value) → KeepsSound test (value_refs v ++ value_refs at) (item_deleted v at)
  deletions v at = kept_by test bodies (λ c. Any) _ (item_deleted v at) (λ c k. item_deleted_respects c v v at at (value_alike c v (first c _ _ k)) (value_alike c at (rest c (value_refs v) _ k)))

  pub sequences : (kind : SequenceKind) (items : List Value) → GivesSound test (flat_map value_refs items) (joined kind items)
  sequences kind items = given_by test bodies _ (joined kind items) (λ c k. joined_respects c kind items items (values_alike c items k))

  pub texts : (text : List ℕ) → GivesSound test [] (made_text text)
  texts text = given_by test bodies [] (made_text text) (λ c k. made_text_respects c text text refl)

  pub puts : (at : ℕ) (key : Key) (v : Value) → KeepsSound test ((at ∷ []) ++ value_refs v) (put at key v)
  puts at key v = kept_by test bodies (λ c. Any) ((at ∷ []) ++ value_refs v) (put at key v) (λ c k. put_respects c at at key v v (address c at (value_refs v) k) (value_alike c v (rest c (at ∷ []) (value_refs v) k)))

  pub fills : (at : ℕ) (pairs : Pairs) → GivesSound test ((at ∷ []) ++ flat_map pair_refs pairs) (filled at pairs)
  fills at pairs = given_by test bodies _ (filled at pairs) (λ c k. filled_respects c at at pairs pairs (address c at _ k) (entries_alike c pairs (rest c (at ∷ []) _ k)))

  pub extensions : (at : ℕ) (more : List Value) → KeepsSound test ((at ∷ []) ++ flat_map value_refs more) (extend at more)
  extensions at more = kept_by test bodies (λ c. Any) ((at ∷ []) ++ flat_map value_refs more) (extend at more) (λ c k. extend_respects c at at more more (address c at (flat_map value_refs more) k) (values_alike c more (rest c (at ∷ []) _ k)))

  pub methods : (m : BoundMethod) (args : List Value) → GivesSound test (method_refs m ++ flat_map value_refs args) (method_called m args)
  methods m args = given_by test bodies _ (method_called m args) (λ c k. method_called_respects c m m args args (method_alike c m (first c _ _ k)) (values_alike c args (rest c (method_refs m) _ k)))

  pub handles : (args : List Value) → GivesSound test (flat_map value_refs args) (handle_called args)
  handles args = given_by test bodies _ (handle_called args) (λ c k. handle_called_respects c args args (zips (Values c) args args (values_alike c args k)))

  pub tells : (args : List Value) → GivesSound test (flat_map value_refs args) (tell_called args)
  tells args = given_by test bodies _ (tell_called args) (λ c k. tell_called_respects c args args (zips (Values c) args args (values_alike c args k)))

  pub results : (v : Value) → KeepsSound test (value_refs v) (result v)
  results v = kept_by test bodies (λ c. Equal) _ (result v) (λ c k. result_respects c v v (value_alike c v k))

  -- ---- what expressions, statements and calls of functions do, with any levels left, and cells

  pub calls : (levels : ℕ) (callee : Value) (args : List Value) → GivesSound test (value_refs callee ++ flat_map value_refs args) ((level levels).calls callee args)
  calls levels callee args = given_by test bodies _ ((level levels).calls callee args) (λ c k.
      let below = level_respects c levels in
      below.calls callee callee args args (value_alike c callee (first c _ _ k)) (values_alike c args (rest c (value_refs callee) _ k)))

  evals_alike : (levels : ℕ) (e : Expr) (draws : List Drawn) (m : Machine) (h : IsSound test m)
      → Respects (at_end test bodies ((level levels).eval e) draws m h) (Values (at_end test bodies ((level levels).eval e) draws m h)) ((level levels).eval e) ((level levels).eval e)
  evals_alike levels e draws m h = let below = level_respects (at_end test bodies ((level levels).eval e) draws m h) levels in below.evals e tt

  pub expressions : (levels : ℕ) (e : Expr) → GivesSound test [] ((level levels).eval e)
  expressions levels e = record {
    keeps = λ draws m l h. sound_end test bodies ((level levels).eval e) draws m h (Values (at_end test bodies ((level levels).eval e) draws m h)) (evals_alike levels e draws m h);
    live = λ draws m l h. live_end test bodies ((level levels).eval e) draws m h (evals_alike levels e draws m h);
  }

  pub statements : (levels : ℕ) (s : Stmt) → IsAllowed (λ def. IsTrue (test def)) s → KeepsSound test [] ((level levels).exec s)
  statements levels s allowed draws m l h =
      let below = level_respects (at_end test bodies ((level levels).exec s) draws m h) levels in
      sound_end test bodies ((level levels).exec s) draws m h (FlowsMatch (Paired (at_end test bodies ((level levels).exec s) draws m h))) (below.execs s allowed)

  pub cells : (body : List Stmt) → AreAllowedBy test body → KeepsSound test [] (cell body)
  cells body allowed draws m l h =
      sound_end test bodies (cell body) draws m h Equal (cell_respects (at_end test bodies (cell body) draws m h) body (each (IsAllowed (λ def. IsTrue (test def))) body allowed))

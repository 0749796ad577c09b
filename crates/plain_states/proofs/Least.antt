-- The least acts keep all plain.
use Rattle.std.proofs.Common.{◌≡◌, ℕ, zero, suc, ◌+◌, ◌<◌, ◌≤◌, ◌^◌, Bool, true, false, cond, nat_lt, nat_le, List, [], ◌∷◌, ◌++◌, length, Option, Some, None, Result, Ok, Err, refl, sym, ◌∙◌, subst, set, length-append, arith}
use Rattle.std.proofs.Math.ListN.{length-set}
use Rattle.std.proofs.lemmas.Bool.{leb-true}
use Rattle.std.proofs.lemmas.Option.{same_Some, none-some}
use Rattle.std.specs.Prelude.{slice_get, insert, remove}
use Rattle.std.specs.FinMap as finite
use Rattle.std.specs.Cmp.Lexicographic.{nat_list_cmp_total}
use Rattle.std.specs.List.{AllByRecursion}
use Rattle.nb_outside.specs.declared.feed.Drawn.{Drawn}
use Rattle.nb_outside.specs.declared.feed.Drawn.TheVariants as answer
use Rattle.py_value.specs.declared.value.Builtin.{Builtin}
use Rattle.py_value.specs.declared.value.Value.{Value}
use Rattle.py_value.specs.declared.value.Value.TheVariants as value
use Rattle.py_value.specs.declared.key.Key.{Key}
use Rattle.py_value.specs.Keys.{value_of, same_key}
use Rattle.py_heap.specs.declared.heap.Object.{Object}
use Rattle.py_heap.specs.declared.heap.Object.TheVariants as object
use Rattle.py_heap.specs.Dicts.{Pairs, with_pair, without_key}
use Rattle.py_machine.specs.declared.frame.Change.{Change}
use Rattle.py_machine.specs.declared.frame.Change.TheVariants as changes
use Rattle.py_machine.specs.declared.frame.Frame.{Frame}
use Rattle.py_machine.specs.declared.frame.FrameSlot.{FrameSlot}
use Rattle.py_machine.specs.declared.frame.FrameSlot.TheVariants.{Empty, Held}
use Rattle.py_machine.specs.declared.machine.Machine.{Machine}
use Rattle.py_machine.specs.Builtins.{builtin_named}
use Rattle.py_machine.specs.Changes.{changed, changed_in, changed_items, changed_pairs, changed_handle, list_in, object_kind}
use Rattle.py_machine.specs.Marked.{has_member, with_member}
use Rattle.py_machine.specs.Marked as event
use Rattle.py_machine.specs.Runs.{Name, Outcome, Stop, marked, slot, with_slot, built_in, found, looked, met, sought, replaced, taken}
use Rattle.py_machine.specs.Runs as runs
use Rattle.py_machine.specs.Errors.{step_limit_error, memory_error}
use Rattle.py_heap.specs.States as states
use Rattle.py_meaning.specs.Acts.{step, charge, look, seek, bind, unbind, is_local, enter, leave, add, object_at, change, list_at, kind_of, write, draw}
use Rattle.py_laws.proofs.Bindings.{bound, unbound}
use Rattle.py_laws.proofs.Members.{same_name}
use Rattle.part_bytes.specs.Plain.{IsPlain, IsPlainPair, IsText}
use Rattle.plain_states.specs.Plain.{IsWord, AreWords, HoldsPlain, items_in}
use Rattle.plain_states.proofs.Judging.{Credit, none, paid, one_look, IsPlainSlot, IsPlainFrame, IfFrame, IsPlainMachine, EndsWith, Gives, Any, Plainly, without_credit, next, give}

-- ---- steps, units and output

abbrev stepped : Bool → Machine → Outcome (Unit {0})
stepped b m = cond b (runs.give tt (record m { steps = m.steps + 1 })) (runs.raise step_limit_error m)

step_ends : (b : Bool) (k j : Credit) (m : Machine) → IsPlainMachine k m → k.units ≡ j.units → j.looks ≤ k.looks + 1 → EndsWith j Any (stepped b m).0 (stepped b m).1
step_ends true k j m h same most = (
  record {
    names = h.names;
    frame = h.frame;
    objects = λ at held e. let w = h.objects at held e in (w.0, let l = w.1 in omega (arith, l, same));
    few = let f = h.few in omega (arith, f, same);
    meter = h.meter;
    looked = let l = h.looked in omega (arith, l, most);
  },
  tt,
)
step_ends false k j m h same most = without_credit k m h

-- a step, with the credit as it is
pub takes_step : {k : Credit} → Gives k k Any step
unfolding runs.step
takes_step {k = k} = record { ends = λ draws m words h. step_ends (nat_lt m.steps 1000000) k k m h refl (omega arith) }

-- a step for a look to come
pub takes_step_for_look : Gives none one_look Any step
unfolding runs.step
takes_step_for_look = record { ends = λ draws m words h. step_ends (nat_lt m.steps 1000000) none one_look m h refl (omega arith) }

-- a charge that is met is no more than the most units
abbrev pub IsMet : ℕ → Unit {0} → Type 0
IsMet n done = n ≤ 16777216

abbrev charged : Bool → ℕ → Machine → Outcome (Unit {0})
charged b n m = cond b (runs.give tt (record m { state = record m.state { meter = m.state.meter + n } })) (runs.raise memory_error m)

charge_ends : (b : Bool) (n : ℕ) (m : Machine) → nat_le (m.state.meter + n) 16777216 ≡ b → IsPlainMachine none m → EndsWith (paid n) (IsMet n) (charged b n m).0 (charged b n m).1
charge_ends true n m e h =
    let l : m.state.meter + n ≤ 16777216 = leb-true (m.state.meter + n) 16777216 e in (
      record {
        names = h.names;
        frame = h.frame;
        objects = λ at held got. let w = h.objects at held got in (w.0, let c = w.1 in omega (arith, c));
        few = let f = h.few in omega (arith, f);
        meter = l;
        looked = h.looked;
      },
      omega (arith, l),
    )
charge_ends false n m e h = h

-- so many units are paid
pub pays : (n : ℕ) → Gives none (paid n) (IsMet n) (charge n)
unfolding runs.charge
pays n = record { ends = λ draws m words h. charge_ends (nat_le (m.state.meter + n) 16777216) n m refl h }

spent : (n : ℕ) (r : Result (Unit {0}) Stop) (m : Machine) → EndsWith (paid n) (IsMet n) r m → EndsWith none (IsMet n) r m
spent n (Ok a) m h = (without_credit (paid n) m h.0, h.1)
spent n (Err e) m h = h

-- units that pay for nothing that is kept
pub charges : (n : ℕ) → Plainly (IsMet n) (charge n)
charges n = record { ends = λ draws m words h. spent n _ _ ((pays n).ends draws m words h) }

pub writes : (bytes : List ℕ) → Plainly Any (write bytes)
unfolding runs.write
writes bytes = record { ends = λ draws m words h. (record { names = h.names; frame = h.frame; objects = h.objects; few = h.few; meter = h.meter; looked = h.looked }, tt) }

-- ---- names

module _ (m : Machine) (h : IsPlainMachine one_look m) (x : Name) where
  more_names : (b : Bool) → finite.len (cond b m.marks.looked (with_member m.marks.looked x)) ≤ m.steps
  more_names true = let l = h.looked in omega (arith, l)
  more_names false =
      let l = h.looked in
      let e = finite.len-insert nat_list_cmp_total m.marks.looked x tt in
      by_cases (finite.contains_key m.marks.looked x) e l
    where
      by_cases : (b : Bool) → finite.len (with_member m.marks.looked x) ≡ cond b (finite.len m.marks.looked) (finite.len m.marks.looked + 1) → finite.len m.marks.looked + 1 ≤ m.steps → finite.len (with_member m.marks.looked x) ≤ m.steps
      by_cases true e l = omega (arith, e, l)
      by_cases false e l = omega (arith, e, l)

  looked_plain : IsPlainMachine none (marked (event.Look x) m)
  looked_plain = record {
    names = h.names;
    frame = h.frame;
    objects = h.objects;
    few = h.few;
    meter = h.meter;
    looked = let l = more_names (has_member m.marks.bound x) in omega (arith, l);
  }

built_in_ends : (name : Name) (b : Option Builtin) (m : Machine) → IsPlainMachine none m → EndsWith none IsPlain (built_in name b m).0 (built_in name b m).1
built_in_ends name (Some builtin) m h = (h, tt)
built_in_ends name None m h = h

found_ends : (name : Name) (o : Option Value) (m : Machine) → IsPlainMachine none m → ((held : Value) → o ≡ Some held → IsPlain held) → EndsWith none IsPlain (found name o m).0 (found name o m).1
found_ends name (Some held) m h k = (h, k held refl)
found_ends name None m h k = built_in_ends name (builtin_named name) m h

met_ends : (name : Name) (o : Option Value) (m : Machine) → IsPlainMachine none m → EndsWith none Any (met name o m).0 (met name o m).1
met_ends name (Some held) m h = (h, tt)
met_ends name None m h = h

slot_plain : (f : Option Frame) (x : Name) → IfFrame f → IsPlainSlot (slot f x)
slot_plain None x h = tt
slot_plain (Some f) x h = h.slots x

looked_ends : (x : Name) (o : Option FrameSlot) (m : Machine) → IsPlainMachine one_look m → IsPlainSlot o → EndsWith none IsPlain (looked x o m).0 (looked x o m).1
looked_ends x (Some (Held held)) m h k = (without_credit one_look m h, k)
looked_ends x (Some Empty) m h k = without_credit one_look m h
looked_ends x None m h k = found_ends x (finite.get m.state.globals x) _ (looked_plain m h x) (h.names x)

-- a look takes the step that is there for it
pub looks : (x : Name) → Gives one_look none IsPlain (look x)
unfolding runs.look
looks x = record { ends = λ draws m words h. looked_ends x (slot m.frame x) m h (slot_plain m.frame x h.frame) }

sought_ends : (x : Name) (o : Option FrameSlot) (m : Machine) → IsPlainMachine one_look m → EndsWith none Any (sought x o m).0 (sought x o m).1
sought_ends x (Some (Held held)) m h = (without_credit one_look m h, tt)
sought_ends x (Some Empty) m h = without_credit one_look m h
sought_ends x None m h = met_ends x (finite.get m.state.globals x) _ (looked_plain m h x)

pub seeks : (x : Name) → Gives one_look none Any (seek x)
unfolding runs.seek
seeks x = record { ends = λ draws m words h. sought_ends x (slot m.frame x) m h }

-- ---- names bound and unbound

cond_slot : (b : Bool) (o u : Option FrameSlot) → IsPlainSlot o → IsPlainSlot u → IsPlainSlot (cond b o u)
cond_slot true o u h k = h
cond_slot false o u h k = k

pub inserted_plain : (f : Frame) (x : Name) (p : FrameSlot) → IsPlainSlot (Some p) → IsPlainFrame f → IsPlainFrame (record { slots = finite.insert f.slots x p })
inserted_plain f x p k h = record { slots = λ y. rw (bound f.slots x y p) (cond_slot (same_name y x) (Some p) (finite.get f.slots y) k (h.slots y)) }

with_slot_plain : (x : Name) (p : FrameSlot) (f : Option Frame) → IsPlainSlot (Some p) → IfFrame f → IfFrame (with_slot x p f)
with_slot_plain x p None k h = tt
with_slot_plain x p (Some f) k h = inserted_plain f x p k h

framed_plain : (m : Machine) (f : Option Frame) → IsPlainMachine none m → IfFrame f → IsPlainMachine none (record m { frame = f })
framed_plain m f h k = record { names = h.names; frame = k; objects = h.objects; few = h.few; meter = h.meter; looked = h.looked }

cond_some : (b : Bool) (v w : Value) (o : Option Value) → cond b (Some v) o ≡ Some w → IsPlain v → (o ≡ Some w → IsPlain w) → IsPlain w
cond_some true v w o e h k = subst IsPlain (same_Some v w e) h
cond_some false v w o e h k = k e

cond_none : (b : Bool) (w : Value) (o : Option Value) → cond b None o ≡ Some w → (o ≡ Some w → IsPlain w) → IsPlain w
cond_none true w o e k = absurd (none-some w e)
cond_none false w o e k = k e

bound_plain : (x : Name) (v : Value) (o : Option FrameSlot) (m : Machine) → IsPlain v → IsPlainMachine none m → IsPlainMachine none (runs.bound x v o m)
bound_plain x v (Some old) m k h = framed_plain m _ h (with_slot_plain x (Held v) m.frame k h.frame)
bound_plain x v None m k h = record {
  names = λ y w e. cond_some (same_name y x) v w (finite.get m.state.globals y) (sym (bound m.state.globals x y v) ∙ e) k (h.names y w);
  frame = h.frame;
  objects = h.objects;
  few = h.few;
  meter = h.meter;
  looked = h.looked;
}

pub binds : (x : Name) (v : Value) → IsPlain v → Plainly Any (bind x v)
unfolding runs.bind
binds x v k = record { ends = λ draws m words h. (bound_plain x v (slot m.frame x) m k h, tt) }

unbound_plain : (x : Name) (o : Option FrameSlot) (m : Machine) → IsPlainMachine none m → IsPlainMachine none (runs.unbound x o m)
unbound_plain x (Some old) m h = framed_plain m _ h (with_slot_plain x Empty m.frame tt h.frame)
unbound_plain x None m h = record {
  names = λ y w e. cond_none (same_name y x) w (finite.get m.state.globals y) (sym (unbound m.state.globals x y) ∙ e) (h.names y w);
  frame = h.frame;
  objects = h.objects;
  few = h.few;
  meter = h.meter;
  looked = h.looked;
}

pub unbinds : (x : Name) → Plainly Any (unbind x)
unfolding runs.unbind
unbinds x = record { ends = λ draws m words h. (unbound_plain x (slot m.frame x) m h, tt) }

pub tells_local : (x : Name) → Plainly Any (is_local x)
unfolding runs.is_local
tells_local x = record { ends = λ draws m words h. (h, tt) }

-- ---- frames

pub enters : (f : Frame) → IsPlainFrame f → Plainly IfFrame (enter f)
unfolding runs.enter
enters f k = record { ends = λ draws m words h. (framed_plain m (Some f) h k, h.frame) }

pub leaves : (f : Option Frame) → IfFrame f → Plainly Any (leave f)
unfolding runs.leave
leaves f k = record { ends = λ draws m words h. (framed_plain m f h k, tt) }

-- ---- a new object

module _ (o : Object) (m : Machine) (n : ℕ) (k : HoldsPlain o) (some : 1 ≤ n) (most : items_in o ≤ n) (h : IsPlainMachine (paid n) m) where
  added_object : (heap : List Object) → ((at : ℕ) (held : Object) → slice_get heap at ≡ Some held → HoldsPlain held × (items_in held ≤ m.state.meter)) → items_in o ≤ m.state.meter
      → (at : ℕ) (held : Object) → slice_get (heap ++ o ∷ []) at ≡ Some held → HoldsPlain held × (items_in held ≤ m.state.meter)
  added_object [] each l zero held e = subst (λ (x : Object). HoldsPlain x × (items_in x ≤ m.state.meter)) (same_Some o held e) (k, l)
  added_object [] each l (suc at) held e = absurd (none-some held e)
  added_object (x ∷ heap) each l zero held e = each zero held e
  added_object (x ∷ heap) each l (suc at) held e = added_object heap (λ b z f. each (suc b) z f) l at held e

  added_plain : IsPlainMachine none (record m { state = states.with_object m.state o })
  added_plain =
      let f = h.few in
      let long : length (m.state.heap ++ o ∷ []) ≡ length m.state.heap + 1 = length-append m.state.heap (o ∷ []) in
      record {
        names = h.names;
        frame = h.frame;
        objects = λ at held e.
            let w = added_object m.state.heap (λ b z g. let v = h.objects b z g in (v.0, let l = v.1 in omega (arith, l))) (omega (arith, f, most)) at held e in
            (w.0, let l = w.1 in omega (arith, l));
        few = omega (arith, f, long, some);
        meter = h.meter;
        looked = h.looked;
      }

-- an object is paid for with a unit, and one for each of its items
pub adds : (n : ℕ) (o : Object) → HoldsPlain o → 1 ≤ n → items_in o ≤ n → Gives (paid n) none Any (add o)
unfolding runs.add
adds n o k some most = record { ends = λ draws m words h. (added_plain o m n k some most h, tt) }

-- ---- what an object holds, and kinds

abbrev pub IsFound : Option Object → Type 0
IsFound None = Unit {0}
IsFound (Some o) = HoldsPlain o × (items_in o ≤ 16777216)

found_there : (o : Option Object) → ((x : Object) → o ≡ Some x → HoldsPlain x × (items_in x ≤ 16777216)) → IsFound o
found_there None h = tt
found_there (Some x) h = h x refl

pub finds : {k : Credit} (a : ℕ) → Gives k k IsFound (object_at a)
unfolding runs.object_at
finds a = record {
  ends = λ draws m words h.
      (h, found_there (slice_get m.state.heap a) (λ x e. let w = h.objects a x e in (w.0, let l = w.1 in let most = h.meter in omega (arith, l, most))));
}

abbrev pub AreListed : Option (List Value) → Type 0
AreListed None = Unit {0}
AreListed (Some vs) = AllByRecursion IsPlain vs

pub listed : (o : Option Object) → IsFound o → AreListed (list_in o)
listed None h = tt
listed (Some (object.List vs)) h = h.0
listed (Some (object.Tuple vs)) h = tt
listed (Some (object.Dict pairs)) h = tt
listed (Some (object.Function def)) h = tt
listed (Some (object.Handle name uses)) h = tt

pub lists : (a : ℕ) → Plainly AreListed (list_at a)
unfolding list_at
lists a = next (finds a) λ o h. give AreListed (list_in o) (listed o h)

pub tells_kind : (v : Value) → Plainly Any (kind_of v)
unfolding kind_of
tells_kind (value.Ref at) = next (finds at) λ o h. give Any (object_kind o) tt
tells_kind value.Nothing = give Any _ tt
tells_kind (value.Bool truth) = give Any _ tt
tells_kind (value.Number number) = give Any _ tt
tells_kind (value.Text text) = give Any _ tt
tells_kind (value.Builtin builtin) = give Any _ tt

-- ---- a changed object

abbrev pub IsPlainChange : Change → Type 0
IsPlainChange (changes.Push v) = IsPlain v
IsPlainChange (changes.Extend vs) = AllByRecursion IsPlain vs
IsPlainChange (changes.Insert at v) = IsPlain v
IsPlainChange (changes.Set at v) = IsPlain v
IsPlainChange (changes.Put key v) = IsPlain (value_of key) × IsPlain v
IsPlainChange _ = Unit {0}

-- how many items more an object has after it at most
abbrev pub growth : Change → ℕ
growth (changes.Push v) = 1
growth (changes.Extend vs) = length vs
growth (changes.Insert at v) = 1
growth (changes.Put key v) = 1
growth _ = 0

module _ {A : Type 0} (P : A → Type 0) where
  pub appended : (xs ys : List A) → AllByRecursion P xs → AllByRecursion P ys → AllByRecursion P (xs ++ ys)
  appended [] ys h k = k
  appended (x ∷ xs) ys h k = (h.0, appended xs ys h.1 k)

  pub inserted_all : (i : ℕ) (xs : List A) (x : A) → AllByRecursion P xs → P x → AllByRecursion P (insert xs i x)
  inserted_all zero xs x h k = (k, h)
  inserted_all (suc i) [] x h k = (k, tt)
  inserted_all (suc i) (y ∷ xs) x h k = (h.0, inserted_all i xs x h.1 k)

  pub set_all : (xs : List A) (i : ℕ) (x : A) → AllByRecursion P xs → P x → AllByRecursion P (set xs i x)
  set_all [] i x h k = h
  set_all (y ∷ xs) zero x h k = (k, h.1)
  set_all (y ∷ xs) (suc i) x h k = (h.0, set_all xs i x h.1 k)

  pub removed_all : (xs : List A) (i : ℕ) → AllByRecursion P xs → AllByRecursion P (remove xs i)
  removed_all [] zero h = tt
  removed_all [] (suc i) h = tt
  removed_all (y ∷ xs) zero h = h.1
  removed_all (y ∷ xs) (suc i) h = (h.0, removed_all xs i h.1)

inserted_length : {A : Type 0} (i : ℕ) (xs : List A) (x : A) → length (insert xs i x) ≤ length xs + 1
inserted_length zero xs x = omega arith
inserted_length (suc i) [] x = omega arith
inserted_length (suc i) (y ∷ xs) x = let l = inserted_length i xs x in omega (arith, l)

removed_length : {A : Type 0} (xs : List A) (i : ℕ) → length (remove xs i) ≤ length xs
removed_length [] zero = omega arith
removed_length [] (suc i) = omega arith
removed_length (y ∷ xs) zero = omega arith
removed_length (y ∷ xs) (suc i) = let l = removed_length xs i in omega (arith, l)

abbrev IsAfterChange : ℕ → Option Object → Type 0
IsAfterChange most None = Unit {0}
IsAfterChange most (Some o) = HoldsPlain o × (items_in o ≤ most)

list_there : (b : Bool) (most : ℕ) (vs : List Value) → AllByRecursion IsPlain vs → length vs ≤ most → IsAfterChange most (cond b (Some (object.List vs)) None)
list_there true most vs h l = (h, l)
list_there false most vs h l = tt

items_changed : (c : Change) (vs : List Value) → IsPlainChange c → AllByRecursion IsPlain vs → IsAfterChange (length vs + growth c) (changed_items c vs)
items_changed (changes.Push v) vs k h = (appended IsPlain vs (v ∷ []) h (k, tt), let l : length (vs ++ v ∷ []) ≡ length vs + 1 = length-append vs (v ∷ []) in omega (arith, l))
items_changed (changes.Extend ws) vs k h = (appended IsPlain vs ws h k, let l : length (vs ++ ws) ≡ length vs + length ws = length-append vs ws in omega (arith, l))
items_changed (changes.Insert at v) vs k h = list_there _ _ _ (inserted_all IsPlain at vs v h k) (inserted_length at vs v)
items_changed (changes.Set at v) vs k h = list_there _ _ _ (set_all IsPlain vs at v h k) (let l = length-set vs at v in omega (arith, l))
items_changed (changes.Remove at) vs k h = list_there _ _ _ (removed_all IsPlain vs at h) (let l = removed_length vs at in omega (arith, l))
items_changed changes.Clear vs k h = (tt, omega arith)
items_changed (changes.Put key v) vs k h = tt
items_changed (changes.Drop key) vs k h = tt
items_changed changes.Use vs k h = tt

put_all : (b : Bool) (x : Key × Value) (v : Value) (pairs more : Pairs) → IsPlainPair x → IsPlain v → AllByRecursion IsPlainPair pairs → AllByRecursion IsPlainPair more
    → AllByRecursion IsPlainPair (cond b ((x.0, v) ∷ pairs) (x ∷ more))
put_all true x v pairs more h k l m = ((h.0, k), l)
put_all false x v pairs more h k l m = (h, m)

with_pair_plain : (pairs : Pairs) (key : Key) (v : Value) → IsPlain (value_of key) → IsPlain v → AllByRecursion IsPlainPair pairs → AllByRecursion IsPlainPair (with_pair pairs key v)
with_pair_plain [] key v k l h = ((k, l), tt)
with_pair_plain (x ∷ pairs) key v k l h = put_all (same_key key x.0) x v pairs (with_pair pairs key v) h.0 l h.1 (with_pair_plain pairs key v k l h.1)

put_length : (b : Bool) (x : Key × Value) (v : Value) (pairs more : Pairs) → length more ≤ length pairs + 1 → length (cond b ((x.0, v) ∷ pairs) (x ∷ more)) ≤ suc (length pairs) + 1
put_length true x v pairs more l = omega arith
put_length false x v pairs more l = omega (arith, l)

with_pair_length : (pairs : Pairs) (key : Key) (v : Value) → length (with_pair pairs key v) ≤ length pairs + 1
with_pair_length [] key v = omega arith
with_pair_length (x ∷ pairs) key v = put_length (same_key key x.0) x v pairs (with_pair pairs key v) (with_pair_length pairs key v)

cond_pairs : (b : Bool) (xs ys : Pairs) → AllByRecursion IsPlainPair xs → AllByRecursion IsPlainPair ys → AllByRecursion IsPlainPair (cond b xs ys)
cond_pairs true xs ys h k = h
cond_pairs false xs ys h k = k

without_key_plain : (pairs : Pairs) (key : Key) → AllByRecursion IsPlainPair pairs → AllByRecursion IsPlainPair (without_key pairs key)
without_key_plain [] key h = tt
without_key_plain (x ∷ pairs) key h = cond_pairs (same_key key x.0) pairs (x ∷ without_key pairs key) h.1 (h.0, without_key_plain pairs key h.1)

drop_length : (b : Bool) (x : Key × Value) (pairs more : Pairs) → length more ≤ length pairs → length (cond b pairs (x ∷ more)) ≤ suc (length pairs)
drop_length true x pairs more l = omega arith
drop_length false x pairs more l = omega (arith, l)

without_key_length : (pairs : Pairs) (key : Key) → length (without_key pairs key) ≤ length pairs
without_key_length [] key = omega arith
without_key_length (x ∷ pairs) key = drop_length (same_key key x.0) x pairs (without_key pairs key) (without_key_length pairs key)

pairs_changed : (c : Change) (pairs : Pairs) → IsPlainChange c → AllByRecursion IsPlainPair pairs → IsAfterChange (length pairs + growth c) (changed_pairs c pairs)
pairs_changed (changes.Put key v) pairs k h = (with_pair_plain pairs key v k.0 k.1 h, with_pair_length pairs key v)
pairs_changed (changes.Drop key) pairs k h = (without_key_plain pairs key h, let l = without_key_length pairs key in omega (arith, l))
pairs_changed changes.Clear pairs k h = (tt, omega arith)
pairs_changed (changes.Push v) pairs k h = tt
pairs_changed (changes.Extend vs) pairs k h = tt
pairs_changed (changes.Insert at v) pairs k h = tt
pairs_changed (changes.Set at v) pairs k h = tt
pairs_changed (changes.Remove at) pairs k h = tt
pairs_changed changes.Use pairs k h = tt

handle_changed : (c : Change) (name : List ℕ) (uses most : ℕ) → IsText name → IsAfterChange most (changed_handle c name uses)
handle_changed changes.Use name uses most h = (h, omega arith)
handle_changed _ name uses most h = tt

object_changed : (c : Change) (o : Object) → IsPlainChange c → HoldsPlain o → IsAfterChange (items_in o + growth c) (changed c o)
object_changed c (object.List vs) k h = items_changed c vs k h
object_changed c (object.Tuple vs) k h = tt
object_changed c (object.Dict pairs) k h = pairs_changed c pairs k h
object_changed c (object.Function def) k h = tt
object_changed c (object.Handle name uses) k h = handle_changed c name uses (0 + growth c) h

set_object : (heap : List Object) (a most : ℕ) (o : Object) → HoldsPlain o → items_in o ≤ most → ((at : ℕ) (held : Object) → slice_get heap at ≡ Some held → HoldsPlain held × (items_in held ≤ most))
    → (at : ℕ) (held : Object) → slice_get (set heap a o) at ≡ Some held → HoldsPlain held × (items_in held ≤ most)
set_object [] a most o k l each at held e = each at held e
set_object (x ∷ heap) zero most o k l each zero held e = subst (λ (y : Object). HoldsPlain y × (items_in y ≤ most)) (same_Some o held e) (k, l)
set_object (x ∷ heap) zero most o k l each (suc at) held e = each (suc at) held e
set_object (x ∷ heap) (suc a) most o k l each zero held e = each zero held e
set_object (x ∷ heap) (suc a) most o k l each (suc at) held e = set_object heap a most o k l (λ b z f. each (suc b) z f) at held e

replaced_plain : (a n : ℕ) (new : Option Object) (m : Machine) → IsPlainMachine (paid n) m → IsAfterChange m.state.meter new → IsPlainMachine none (replaced a new m)
replaced_plain a n None m h k = without_credit (paid n) m h
replaced_plain a n (Some o) m h k = record {
  names = h.names;
  frame = h.frame;
  objects = λ at held e.
      let w = set_object m.state.heap a m.state.meter o k.0 k.1 (λ b z g. let v = h.objects b z g in (v.0, let l = v.1 in omega (arith, l))) at held e in
      (w.0, let l = w.1 in omega (arith, l));
  few = let f = h.few in let e = length-set m.state.heap a o in omega (arith, f, e);
  meter = h.meter;
  looked = h.looked;
}

weaker : (few most : ℕ) (new : Option Object) → few ≤ most → IsAfterChange few new → IsAfterChange most new
weaker few most None l h = tt
weaker few most (Some o) l h = (h.0, let k = h.1 in omega (arith, k, l))

changed_there : (a : ℕ) (c : Change) (o : Option Object) (m : Machine) → IsPlainChange c → IsPlainMachine (paid (growth c)) m → slice_get m.state.heap a ≡ o → IsPlainMachine none (replaced a (changed_in c o) m)
changed_there a c None m k h e = without_credit (paid (growth c)) m h
changed_there a c (Some o) m k h e =
    let w = h.objects a o e in
    let l = w.1 in
    replaced_plain a (growth c) (changed c o) m h (weaker (items_in o + growth c) m.state.meter (changed c o) (omega (arith, l)) (object_changed c o k w.0))

-- items that come are paid for
pub alters : (a : ℕ) (c : Change) → IsPlainChange c → Gives (paid (growth c)) none Any (change a c)
unfolding runs.change
alters a c k = record { ends = λ draws m words h. (changed_there a c (slice_get m.state.heap a) m k h refl, tt) }

-- the same with more than enough
pub alters_within : (n a : ℕ) (c : Change) → growth c ≤ n → IsPlainChange c → Gives (paid n) none Any (change a c)
alters_within n a c l k = record {
  ends = λ draws m words h. (alters a c k).ends draws m words (record {
    names = h.names;
    frame = h.frame;
    objects = λ at held e. let w = h.objects at held e in (w.0, let q = w.1 in omega (arith, q, l));
    few = let f = h.few in omega (arith, f, l);
    meter = h.meter;
    looked = h.looked;
  });
}

-- ---- draws

drawn_plain : (d : Drawn) (m : Machine) → IsPlainMachine none m → IsPlainMachine none (runs.drawn d m)
drawn_plain d m h = record { names = h.names; frame = h.frame; objects = h.objects; few = h.few; meter = h.meter; looked = h.looked }

abbrev pub IsSmall : ℕ → Type 0
IsSmall word = word < 2 ^ 64

taken_ends : (o : Option Drawn) (m : Machine) → ((d : Drawn) → o ≡ Some d → IsWord d) → IsPlainMachine none m → EndsWith none IsSmall (taken o m).0 (taken o m).1
taken_ends None m k h = h
taken_ends (Some (answer.Word word)) m k h = (drawn_plain (answer.Word word) m h, k (answer.Word word) refl)
taken_ends (Some answer.Failed) m k h = drawn_plain answer.Failed m h

word_at : (draws : List Drawn) (i : ℕ) (d : Drawn) → AreWords draws → slice_get draws i ≡ Some d → IsWord d
word_at [] i d h e = absurd (none-some d e)
word_at (x ∷ draws) zero d h e = subst IsWord (same_Some x d e) h.0
word_at (x ∷ draws) (suc i) d h e = word_at draws i d h.1 e

pub draws_word : Plainly IsSmall draw
unfolding runs.draw
draws_word = record { ends = λ draws m words h. taken_ends (slice_get draws (length m.drawn)) m (λ d e. word_at draws (length m.drawn) d words e) h }

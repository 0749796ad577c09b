-- Acts on machines that are alike end in machines that are alike, if the first run looks up only given names and those bound
-- before.
-- The pairs are known from the start: those of the states, and the new objects of both runs in their order. Both runs take the
-- same draws.
use Rattle.std.proofs.Common.{◌≡◌, ℕ, ℤ, ◌+◌, ◌<◌, ◌≤◌, Bool, true, false, cond, List, length, Option, Some, Result, Ok, Err, ap, ◌⊎◌, arith}
use Rattle.std.specs.Prelude.{slice_get}
use Rattle.std.specs.FinMap as finite
use Rattle.std.specs.List.{AllZip}
use Rattle.nb_outside.specs.declared.feed.Drawn.{Drawn}
use Rattle.py_value.specs.declared.key.Key.{Key}
use Rattle.py_value.specs.declared.value.Value.{Value}
use Rattle.py_heap.specs.declared.heap.Object.{Object}
use Rattle.py_heap.specs.declared.state.State.{State}
use Rattle.py_machine.specs.declared.error.PyError.{PyError}
use Rattle.py_machine.specs.declared.frame.Change.{Change}
use Rattle.py_machine.specs.declared.frame.Change.TheVariants as change
use Rattle.py_machine.specs.declared.frame.Flow.{Flow}
use Rattle.py_machine.specs.declared.frame.Flow.TheVariants as flow
use Rattle.py_machine.specs.declared.frame.Frame.{Frame}
use Rattle.py_machine.specs.declared.frame.FrameSlot.{FrameSlot}
use Rattle.py_machine.specs.declared.frame.FrameSlot.TheVariants.{Empty, Held}
use Rattle.py_machine.specs.declared.iteration.Iteration.{Iteration}
use Rattle.py_machine.specs.declared.iteration.Iteration.TheVariants as iteration
use Rattle.py_machine.specs.declared.machine.Machine.{Machine}
use Rattle.py_machine.specs.declared.marks.Marks.{Marks}
use Rattle.py_machine.specs.declared.method.BoundMethod.{BoundMethod}
use Rattle.py_machine.specs.declared.method.BoundMethod.TheVariants as method
use Rattle.py_machine.specs.declared.method.ListMethod.{ListMethod}
use Rattle.py_machine.specs.declared.method.DictMethod.{DictMethod}
use Rattle.py_machine.specs.declared.method.TextMethod.{TextMethod}
use Rattle.py_machine.specs.Marked.{IsIn}
use Rattle.py_machine.specs.Runs.{Name, Outcome, Stop, raised, after}
use Rattle.py_meaning.specs.Acts.{Act, run, pure, fail, chain, choose}
use Rattle.py_laws.specs.Same.{IsOneToOne, ValuesMatch, ObjectsMatch, BothOrNone}
use Rattle.py_laws.proofs.Bindings.{Named}
use Rattle.py_laws.proofs.Sparing.{Spared, spared}
use Rattle.py_laws.proofs.Rules.{Rules}

-- the names and pairs of the two states, how many objects each state has, the most objects that the runs may add, and what the
-- first run may look up, bind, add, evaluate and execute
pub record Setting : Type 1 where
  pub named : Name → Type 0
  pub base : ℕ → ℕ → Type 0
  pub lefts : ℕ
  pub rights : ℕ
  pub most : ℕ
  pub one : IsOneToOne base
  pub old : (a b : ℕ) → base a b → (a < lefts) × (b < rights)
  pub rules : Rules

-- a pair of the start, or the objects that both runs add at one turn
abbrev pub Paired : Setting → ℕ → ℕ → Type 0
Paired c a b = c.base a b ⊎ ((i : ℕ) × (i < c.most) × (a ≡ c.lefts + i) × (b ≡ c.rights + i))

-- ---- what matches by pairs

-- locals match if both are empty or hold matching values
pub data SlotsMatch (ps : ℕ → ℕ → Type 0) : FrameSlot → FrameSlot → Type 0 where
  empty : SlotsMatch ps Empty Empty
  held : (v w : Value) → ValuesMatch ps v w → SlotsMatch ps (Held v) (Held w)

pub record FramesMatch (ps : ℕ → ℕ → Type 0) (f g : Frame) : Type 0 where
  pub slots : (x : Name) → BothOrNone (SlotsMatch ps) (finite.get f.slots x) (finite.get g.slots x)

-- a value that is returned matches by pairs
pub data FlowsMatch (ps : ℕ → ℕ → Type 0) : Flow → Flow → Type 0 where
  to_next : FlowsMatch ps flow.Next flow.Next
  breaks : FlowsMatch ps flow.Break flow.Break
  continues : FlowsMatch ps flow.Continue flow.Continue
  returns : (v w : Value) → ValuesMatch ps v w → FlowsMatch ps (flow.Return v) (flow.Return w)

pub data ChangesMatch (ps : ℕ → ℕ → Type 0) : Change → Change → Type 0 where
  push : (v w : Value) → ValuesMatch ps v w → ChangesMatch ps (change.Push v) (change.Push w)
  extends : (vs ws : List Value) → AllZip (ValuesMatch ps) vs ws → ChangesMatch ps (change.Extend vs) (change.Extend ws)
  insert : (at : ℕ) (v w : Value) → ValuesMatch ps v w → ChangesMatch ps (change.Insert at v) (change.Insert at w)
  setting : (at : ℕ) (v w : Value) → ValuesMatch ps v w → ChangesMatch ps (change.Set at v) (change.Set at w)
  remove : (at : ℕ) → ChangesMatch ps (change.Remove at) (change.Remove at)
  put : (key : Key) (v w : Value) → ValuesMatch ps v w → ChangesMatch ps (change.Put key v) (change.Put key w)
  drop : (key : Key) → ChangesMatch ps (change.Drop key) (change.Drop key)
  clear : ChangesMatch ps change.Clear change.Clear
  use_ : ChangesMatch ps change.Use change.Use

-- what a `for` goes over matches by pairs
pub data IterationsMatch (ps : ℕ → ℕ → Type 0) : Iteration → Iteration → Type 0 where
  over_items : (a b next : ℕ) → ps a b → IterationsMatch ps (iteration.Items a next) (iteration.Items b next)
  over_keys : (a b next size : ℕ) → ps a b → IterationsMatch ps (iteration.Keys a next size) (iteration.Keys b next size)
  over_characters : (text : List ℕ) → IterationsMatch ps (iteration.Characters text) (iteration.Characters text)
  over_range : (next : Option ℤ) (stop by : ℤ) → IterationsMatch ps (iteration.Range next stop by) (iteration.Range next stop by)

-- a method of a list or a dict matches by pairs
pub data BoundMethodsMatch (ps : ℕ → ℕ → Type 0) : BoundMethod → BoundMethod → Type 0 where
  list_methods : (m : ListMethod) (a b : ℕ) → ps a b → BoundMethodsMatch ps (method.List m a) (method.List m b)
  dict_methods : (m : DictMethod) (a b : ℕ) → ps a b → BoundMethodsMatch ps (method.Dict m a) (method.Dict m b)
  text_methods : (m : TextMethod) (text : List ℕ) → BoundMethodsMatch ps (method.Text m text) (method.Text m text)

-- ---- machines that are alike

pub record SameCounts (m n : Machine) : Type 0 where
  pub steps : m.steps ≡ n.steps
  pub printed : m.printed ≡ n.printed
  pub meter : m.state.meter ≡ n.state.meter
  pub drawn : m.drawn ≡ n.drawn

pub record MarksMatch (ps : ℕ → ℕ → Type 0) (k l : Marks) : Type 0 where
  pub looked : k.looked ≡ l.looked
  pub bound : k.bound ≡ l.bound
  pub changed : (a : ℕ) → IsIn k.changed a → (b : ℕ) × ps a b × IsIn l.changed b
  pub changed_back : (b : ℕ) → IsIn l.changed b → (a : ℕ) × ps a b × IsIn k.changed a
  pub drew : k.drew ≡ l.drew

pub record HeapsMatch (c : Setting) (h k : List Object) : Type 0 where
  pub objects : (a b : ℕ) → Paired c a b → BothOrNone (ObjectsMatch (Paired c)) (slice_get h a) (slice_get k b)
  pub added : ℕ
  pub left_size : length h ≡ c.lefts + added
  pub right_size : length k ≡ c.rights + added

-- the names, and those bound, have matching values
abbrev pub NamesMatch : Setting → Marks → State → State → Type 0
NamesMatch c k s t = (x : Name) → c.named x ⊎ IsIn k.bound x → BothOrNone (ValuesMatch (Paired c)) (finite.get s.globals x) (finite.get t.globals x)

-- by the rules: each name that has a value may be bound, and each object is fit
abbrev pub MayHold : Setting → Named Value → Type 0
MayHold c names = (x : Name) (v : Value) → finite.get names x ≡ Some v → c.rules.may x

abbrev pub AreFit : Setting → List Object → Type 0
AreFit c heap = (a : ℕ) (o : Object) → slice_get heap a ≡ Some o → c.rules.fit o

-- and each name that was looked up, bound or deleted may be
abbrev pub AreKnown : Setting → Marks → Type 0
AreKnown c k = (x : Name) → IsIn k.looked x ⊎ IsIn k.bound x → c.rules.known x

pub record Alike (c : Setting) (m n : Machine) : Type 0 where
  pub counts : SameCounts m n
  pub marks : MarksMatch (Paired c) m.marks n.marks
  pub frame : BothOrNone (FramesMatch (Paired c)) m.frame n.frame
  pub names : NamesMatch c m.marks m.state n.state
  pub heaps : HeapsMatch c m.state.heap n.state.heap
  pub may : MayHold c m.state.globals
  pub known : AreKnown c m.marks
  pub fit : AreFit c m.state.heap

-- equal ends, or results that match
abbrev pub ResultsMatch : {A B : Type 0} → (A → B → Type 0) → Result A Stop → Result B Stop → Type 0
ResultsMatch V (Ok a) (Ok b) = V a b
ResultsMatch V (Err e) (Err f) = e ≡ f
ResultsMatch V _ _ = ⊥

pub record Ends (c : Setting) {A B : Type 0} (V : A → B → Type 0) (o : Outcome A) (u : Outcome B) : Type 0 where
  pub alike : Alike c o.1 u.1
  pub result : ResultsMatch V o.0 u.0

-- the names looked up are among the names, and no more objects are added than are paired
pub record Stays (c : Setting) (m : Machine) : Type 0 where
  pub looks : (x : Name) → IsIn m.marks.looked x → c.named x
  pub size : length m.state.heap ≤ c.lefts + c.most

pub record Respects (c : Setting) {A B : Type 0} (V : A → B → Type 0) (p : Act A) (q : Act B) : Type 0 where
  pub ends : (draws : List Drawn) (m n : Machine) → Alike c m n → Stays c (run p draws m).1 → Ends c V (run p draws m) (run q draws n)

abbrev pub Any : Unit {0} → Unit {0} → Type 0
Any a b = Unit {0}

abbrev pub Equal : {A : Type 0} → A → A → Type 0
Equal a b = a ≡ b

module _ (c : Setting) where
  -- ---- acts after one another

  stays_before : {A B : Type 0} (draws : List Drawn) (r : Result A Stop) (m : Machine) (f : A → Act B) → Stays c (after r m (λ a. run (f a) draws)).1 → Stays c m
  stays_before draws (Ok a) m f h =
      let s : Spared m (run (f a) draws m).1 = spared (f a) draws m in
      record { looks = λ x l. h.looks x (s.marks.looked x l); size = omega (arith, s.long, h.size) }
  stays_before draws (Err e) m f h = h

  after_ends : {A B C D : Type 0} (V : A → B → Type 0) (W : C → D → Type 0) (draws : List Drawn) (r : Result A Stop) (s : Result B Stop) (m n : Machine)
      (f : A → Act C) (g : B → Act D) → Alike c m n → ResultsMatch V r s
      → ((a : A) (b : B) → V a b → Respects c W (f a) (g b)) → Stays c (after r m (λ a. run (f a) draws)).1
      → Ends c W (after r m (λ a. run (f a) draws)) (after s n (λ b. run (g b) draws))
  after_ends V W draws (Ok a) (Ok b) m n f g h v k stay = (k a b v).ends draws m n h stay
  after_ends V W draws (Err a) (Err b) m n f g h v k stay = record { alike = h; result = v }
  after_ends V W draws (Ok a) (Err b) m n f g h v k stay = absurd v
  after_ends V W draws (Err a) (Ok b) m n f g h v k stay = absurd v

  chain_respects : {A B C D : Type 0} (V : A → B → Type 0) (W : C → D → Type 0) (p : Act A) (q : Act B) (f : A → Act C) (g : B → Act D)
      → Respects c V p q → ((a : A) (b : B) → V a b → Respects c W (f a) (g b)) → Respects c W (chain p f) (chain q g)
  chain_respects V W p q f g h k = record {
    ends = λ draws m n alike stay.
        let e = h.ends draws m n alike (stays_before draws (run p draws m).0 (run p draws m).1 f stay) in
        after_ends V W draws (run p draws m).0 (run q draws n).0 (run p draws m).1 (run q draws n).1 f g e.alike e.result k stay;
  }

  pub next : {A B C D : Type 0} {V : A → B → Type 0} {W : C → D → Type 0} {p : Act A} {q : Act B} {f : A → Act C} {g : B → Act D}
      → Respects c V p q → ((a : A) (b : B) → V a b → Respects c W (f a) (g b)) → Respects c W (chain p f) (chain q g)
  next {V = V} {W = W} {p = p} {q = q} {f = f} {g = g} h k = chain_respects V W p q f g h k

  pub pure_respects : {A B : Type 0} (V : A → B → Type 0) (a : A) (b : B) → V a b → Respects c V (pure a) (pure b)
  pure_respects V a b v = record { ends = λ draws m n h stay. record { alike = h; result = v } }

  pub fail_respects : {A B : Type 0} (V : A → B → Type 0) (e f : PyError) → e ≡ f → Respects c V (fail e) (fail f)
  fail_respects V e f same = record { ends = λ draws m n h stay. record { alike = h; result = ap raised same } }

  pub choose_respects : {A B : Type 0} (V : A → B → Type 0) (b d : Bool) (p p' : Act A) (q q' : Act B) → b ≡ d → Respects c V p q → Respects c V p' q'
      → Respects c V (choose b p p') (choose d q q')
  choose_respects V true true p p' q q' e h k = h
  choose_respects V false false p p' q q' e h k = k
  choose_respects V true false p p' q q' e h k = let no : ⊥ = cc in absurd no
  choose_respects V false true p p' q q' e h k = let no : ⊥ = cc in absurd no

  pub cond_ends : {A B : Type 0} (V : A → B → Type 0) (b d : Bool) (o o' : Outcome A) (u u' : Outcome B) → b ≡ d → Ends c V o u → Ends c V o' u'
      → Ends c V (cond b o o') (cond d u u')
  cond_ends V true true o o' u u' e p q = p
  cond_ends V false false o o' u u' e p q = q
  cond_ends V true false o o' u u' e p q = let no : ⊥ = cc in absurd no
  cond_ends V false true o o' u u' e p q = let no : ⊥ = cc in absurd no

-- What reading the tokens of a code tells of how it is judged, as a cell or as a function alone.
use Rattle.std.proofs.Common.{◌≡◌, ℕ, zero, suc, ◌+◌, ◌<◌, ◌≤◌, Bool, true, false, nat_lt, if◌then◌else◌, List, [], ◌∷◌, length, take, slice_get, Option, Some, None, Result, Ok, Err, refl, ap, ◌∙◌, sym, subst, arith}
use Rattle.std.proofs.lemmas.Bool.{ltb-true, ltb-false, lt-ltb, le-ltb}
use Rattle.py_token.specs.declared.kinds.Kind.{Kind}
use Rattle.py_token.specs.declared.kinds.Token.{Token}
use Rattle.py_token.specs.declared.faults.TokenFault.{TokenFault}
use Rattle.py_token.specs.Cuts.{kinds}
use Rattle.py_token.specs.Lines.{tokens_of}
use Rattle.py_grammar.specs.States as m
use Rattle.py_blocks.specs.Follows.{forms_step, forms_run}
use Rattle.py_reader.specs.declared.fault.SyntaxFault.{SyntaxFault}
use Rattle.py_reader.specs.declared.fault.SyntaxFault.TheVariants.{TooLong, Token as BadToken}
use Rattle.py_reader.specs.Verdict.{with_tokens, tokens_within, End, all_read, stopped, run_from, stop_fault, of_end, of_tokens}
use Rattle.py_reader.proofs.Scanned.{then_forms, forms-step, forms-none}

-- ---- where the machine ends

abbrev then_from : Bool → ℕ → m.State → Kind → List Kind → Option m.State → End
then_from alone n s t ts o = elim o [ None ↦ stopped n s t | Some u ↦ run_from alone (suc n) u ts ]

same-state : {a b : m.State} → Some a ≡ Some b → a ≡ b
same-state {a} {b} e = cc

all_on : (alone : Bool) (n : ℕ) (s : m.State) (t : Kind) (ts : List Kind) (u : m.State) (o : Option m.State) → ((v : m.State) → forms_run alone v ts ≡ Some u → run_from alone (suc n) v ts ≡ all_read u) → then_forms alone ts o ≡ Some u → then_from alone n s t ts o ≡ all_read u
all_on alone n s t ts u None f e = cc
all_on alone n s t ts u (Some v) f e = f v e

pub reads_all : (alone : Bool) (ts : List Kind) (n : ℕ) (s u : m.State) → forms_run alone s ts ≡ Some u → run_from alone n s ts ≡ all_read u
reads_all alone [] n s u e = ap all_read (same-state (sym (forms-none alone s) ∙ e))
reads_all alone (t ∷ ts) n s u e = all_on alone n s t ts u (forms_step alone s t) (λ v. reads_all alone ts (suc n) v u) (sym (forms-step alone s t ts) ∙ e)

stops_on : (alone : Bool) (n k : ℕ) (s : m.State) (t : Kind) (ts : List Kind) (u : m.State) (x : Kind) (o : Option m.State) → ((v : m.State) → forms_run alone v (take k ts) ≡ Some u → run_from alone (suc n) v ts ≡ stopped (suc n + k) u x)
    → then_forms alone (take k ts) o ≡ Some u → then_from alone n s t ts o ≡ stopped (suc n + k) u x
stops_on alone n k s t ts u x None f e = cc
stops_on alone n k s t ts u x (Some v) f e = f v e

stopped_here : (alone : Bool) (n : ℕ) (s u : m.State) (t x : Kind) (ts : List Kind) → s ≡ u → t ≡ x → forms_step alone u x ≡ None → run_from alone n s (t ∷ ts) ≡ stopped (n + 0) u x
stopped_here alone n s u t x ts e g h =
    ap (λ a. run_from alone n a (t ∷ ts)) e ∙ ap (λ k. run_from alone n u (k ∷ ts)) g ∙ ap (then_from alone n u x ts) h ∙ ap (λ i. stopped i u x) (omega arith)

pub stops_at : (alone : Bool) (ts : List Kind) (n place : ℕ) (s u : m.State) (x : Kind) → forms_run alone s (take place ts) ≡ Some u → slice_get ts place ≡ Some x → forms_step alone u x ≡ None → run_from alone n s ts ≡ stopped (n + place) u x
stops_at alone [] n place s u x e g h = cc
stops_at alone (t ∷ ts) n zero s u x e g h = let here : t ≡ x = cc in stopped_here alone n s u t x ts (same-state (sym (forms-none alone s) ∙ e)) here h
stops_at alone (t ∷ ts) n (suc k) s u x e g h =
    stops_on alone n k s t ts u x (forms_step alone s t) (λ v r. stops_at alone ts (suc n) k v u x r g h) (sym (forms-step alone s t (take k ts)) ∙ e) ∙ ap (λ a. stopped a u x) (omega arith)

-- what there is to be said of each place where it may end
pub data Ran (alone : Bool) (s : m.State) (ts : List Kind) (n : ℕ) : End → Type 0 where
  to_end : (u : m.State) → forms_run alone s ts ≡ Some u → Ran alone s ts n (all_read u)
  to_stop : (k place : ℕ) (u : m.State) (t : Kind) → k ≡ n + place → forms_run alone s (take place ts) ≡ Some u → slice_get ts place ≡ Some t → forms_step alone u t ≡ None → Ran alone s ts n (stopped k u t)

ran_further : (alone : Bool) (s v : m.State) (t : Kind) (ts : List Kind) (n : ℕ) (e : End) → forms_step alone s t ≡ Some v → Ran alone v ts (suc n) e → Ran alone s (t ∷ ts) n e
ran_further alone s v t ts n _ h (to_end u e) = to_end u (forms-step alone s t ts ∙ ap (then_forms alone ts) h ∙ e)
ran_further alone s v t ts n _ h (to_stop k place u x i e g b) = to_stop k (suc place) u x (omega (arith, i)) (forms-step alone s t (take place ts) ∙ ap (then_forms alone (take place ts)) h ∙ e) g b

pub ran : (alone : Bool) (ts : List Kind) (n : ℕ) (s : m.State) → Ran alone s ts n (run_from alone n s ts)
ran alone [] n s = to_end s (forms-none alone s)
ran alone (t ∷ ts) n s = on (forms_step alone s t) refl (λ v. ran alone ts (suc n) v)
  where
    on : (o : Option m.State) → forms_step alone s t ≡ o → ((v : m.State) → Ran alone v ts (suc n) (run_from alone (suc n) v ts)) → Ran alone s (t ∷ ts) n (then_from alone n s t ts o)
    on None h f = to_stop n 0 s t (omega arith) (forms-none alone s) refl h
    on (Some v) h f = ran_further alone s v t ts n _ h (f v)

-- ---- its length and its tokens

length_judged : (code : List ℕ) (b : Bool) → nat_lt 262144 (length code) ≡ b → tokens_within code ≡ (if b then Err TooLong else with_tokens (tokens_of code))
unfolding tokens_within
length_judged code b e = ap (λ x. if x then Err TooLong else with_tokens (tokens_of code)) e

pub within_long : (code : List ℕ) → 262144 < length code → tokens_within code ≡ Err TooLong
within_long code l = length_judged code true (lt-ltb 262144 (length code) l)

pub within_short : (code : List ℕ) → length code ≤ 262144 → tokens_within code ≡ with_tokens (tokens_of code)
within_short code l = length_judged code false (le-ltb 262144 (length code) l)

-- which of them it is
pub data Early (code : List ℕ) : Result (List Token) SyntaxFault → Type 0 where
  long : 262144 < length code → Early code (Err TooLong)
  bad : (fault : TokenFault) → length code ≤ 262144 → tokens_of code ≡ Err fault → Early code (Err (BadToken fault))
  good : (tokens : List Token) → length code ≤ 262144 → tokens_of code ≡ Ok tokens → Early code (Ok tokens)

pub early : (code : List ℕ) → Early code (tokens_within code)
early code = on (nat_lt 262144 (length code)) refl
  where
    of_tokens_so : (l : length code ≤ 262144) (o : Result (List Token) TokenFault) → tokens_of code ≡ o → Early code (with_tokens o)
    of_tokens_so l (Ok tokens) e = good tokens l e
    of_tokens_so l (Err fault) e = bad fault l e

    on : (b : Bool) → nat_lt 262144 (length code) ≡ b → Early code (tokens_within code)
    on true q = let l = ltb-true 262144 (length code) q in subst (Early code) (sym (within_long code l)) (long l)
    on false q = let l = ltb-false 262144 (length code) q in subst (Early code) (sym (within_short code l)) (of_tokens_so l (tokens_of code) refl)

-- ---- what is said of each end is said of the verdict

pub means-with : {A : Type 0} (alone : Bool) (whole : List Token → m.State → Result A SyntaxFault) (code : List ℕ) (P : Result A SyntaxFault → Type 0) → (262144 < length code → P (Err TooLong))
    → ((fault : TokenFault) → length code ≤ 262144 → tokens_of code ≡ Err fault → P (Err (BadToken fault)))
    → ((tokens : List Token) (s : m.State) → length code ≤ 262144 → tokens_of code ≡ Ok tokens → forms_run alone m.start (kinds tokens) ≡ Some s → P (whole tokens s))
    → ((tokens : List Token) (place : ℕ) (s : m.State) (t : Kind) → length code ≤ 262144 → tokens_of code ≡ Ok tokens → forms_run alone m.start (take place (kinds tokens)) ≡ Some s → slice_get (kinds tokens) place ≡ Some t
    → forms_step alone s t ≡ None → P (Err (stop_fault tokens place s t))) → P (of_tokens alone whole (tokens_within code))
means-with {A} alone whole code P too_long bad_token all one = by (tokens_within code) (early code)
  where
    ends : (tokens : List Token) → length code ≤ 262144 → tokens_of code ≡ Ok tokens → (e : End) → Ran alone m.start (kinds tokens) 0 e → P (of_end whole tokens e)
    ends tokens l g _ (to_end u e) = all tokens u l g e
    ends tokens l g _ (to_stop k place u t i e h b) = let same : place ≡ k = omega (arith, i) in subst (λ n. P (Err (stop_fault tokens n u t))) same (one tokens place u t l g e h b)

    by : (r : Result (List Token) SyntaxFault) → Early code r → P (of_tokens alone whole r)
    by _ (long l) = too_long l
    by _ (bad fault l g) = bad_token fault l g
    by _ (good tokens l g) = ends tokens l g (run_from alone 0 m.start (kinds tokens)) (ran alone (kinds tokens) 0 m.start)

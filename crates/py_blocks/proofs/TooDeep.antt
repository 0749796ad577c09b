-- What is forced of the tokens that have been read tells where they are too deep.
use Rattle.std.proofs.Common.{◌≡◌, ℕ, zero, suc, ◌+◌, ◌-◌, ◌<◌, ◌≤◌, ◌⊎◌, inl, inr, max, Bool, true, false, List, [], ◌∷◌, ◌++◌, length, Option, Some, None, refl, ap, ◌∙◌, sym, subst, append-nil, arith}
use Rattle.std.specs.List.{All, Contains}
use Rattle.std.proofs.lemmas.List.Elements.{All-nil, All-cons, All-contains, Contains-append_right}
use Rattle.py_token.specs.declared.kinds.Kind.{Kind}
use Rattle.py_token.specs.declared.kinds.Kind.TheVariants as t
use Rattle.py_grammar.specs.Statements.{Cell, IsCell, spelling}
use Rattle.py_grammar.specs.States as m
use Rattle.py_grammar.specs.States.{state_stands}
use Rattle.py_grammar.specs.Depth.{in_cell, IsTooDeep, AreTooDeep}
use Rattle.py_grammar.proofs.AloneRead.{alone-append, alone-read, read_is_one, one_is_read}
use Rattle.py_grammar.proofs.Whole.{read_is, is_read, run-append}
use Rattle.py_grammar.proofs.Failing.{read_iff_stands}
use Rattle.py_frames.specs.Under.{either, first, nth, placed}
use Rattle.py_frames.specs.Forced.{reach, Sooner, AddsAt}
use Rattle.py_blocks.specs.declared.state.Reader.{Reader}
use Rattle.py_blocks.specs.declared.state.State.TheVariants as h
use Rattle.py_blocks.specs.Blocks.{Texts}
use Rattle.py_blocks.specs.Held.{held_done, held_state}
use Rattle.py_blocks.specs.Steps.{Names, start, step}
use Rattle.py_blocks.specs.Follows.{Hears, reader_at, forms_run, Follows, run, from_start}
use Rattle.py_blocks.specs.Forced.{forced_now}
use Rattle.py_blocks.specs.Telling.{deepest, IsOf, TellsDepth, TellsCells}
use Rattle.py_blocks.proofs.Cells.{fair, cell-places}
use Rattle.py_blocks.proofs.Completing.{Closes, state-closes, function-closes, closes-run, closes-add}
use Rattle.py_blocks.proofs.Following.{run-follows}
use Rattle.py_blocks.proofs.Sooner.{RunGrows, run-grows}

-- ---- the first place that deep or deeper

pub record Reaches (p : List ℕ) (d : ℕ) : Type 0 where
  pub depth : ℕ
  pub deep : d ≤ depth
  pub is : nth depth p ≡ Some (reach p d)

larger : (x y : ℕ) → (max x y ≡ x) ⊎ (max x y ≡ y)
larger zero y = inr (omega arith)
larger (suc x) zero = inl (omega arith)
larger (suc x) (suc y) = elim (larger x y) [ inl e ↦ inl (omega (arith, e)) | inr e ↦ inr (omega (arith, e)) ]

reaches : (p : List ℕ) (d : ℕ) → 0 < reach p d → Reaches p d
reaches [] d h = absurd (omega (arith, h))
reaches (x ∷ p) (suc d) h = let k = reaches p d h in record { depth = suc k.depth; deep = omega (arith, k.deep); is = k.is }
reaches (x ∷ p) zero h = reaches-in x p h (reaches p zero) (larger x (reach p zero))
  where
    reaches-in : (x : ℕ) (p : List ℕ) → 0 < max x (reach p zero) → (0 < reach p zero → Reaches p zero) → (max x (reach p zero) ≡ x) ⊎ (max x (reach p zero) ≡ reach p zero) → Reaches (x ∷ p) zero
    reaches-in x p h f (inl e) = record { depth = zero; deep = omega arith; is = ap Some (sym e) }
    reaches-in x p h f (inr e) = let k = f (subst (λ n. 0 < n) e h) in record { depth = suc k.depth; deep = omega arith; is = k.is ∙ ap Some (sym e) }

some-same : {a b : ℕ} → ◌≡◌ {A = Option ℕ} (Some a) (Some b) → a ≡ b
some-same {a} {b} e = cc

none-some : {A : Type 0} {a : ℕ} → ◌≡◌ {A = Option ℕ} None (Some a) → A
none-some {A} {a} e = cc

nth-reach : (p : List ℕ) (d e x : ℕ) → d ≤ e → nth e p ≡ Some x → x ≤ reach p d
nth-reach [] d e x h k = none-some k
nth-reach (y ∷ p) zero zero x h k = let s = some-same k in omega (arith, s)
nth-reach (y ∷ p) zero (suc e) x h k = let s = nth-reach p zero e x (omega arith) k in omega (arith, s)
nth-reach (y ∷ p) (suc d) zero x h k = absurd (omega (arith, h))
nth-reach (y ∷ p) (suc d) (suc e) x h k = nth-reach p d e x (omega (arith, h)) k

-- ---- the first of a list

pub record IsFirst (xs : List ℕ) (l : ℕ) : Type 0 where
  pub is_in : Contains xs l
  pub greatest : All (λ o. o ≤ l) xs

pub first-none : (xs : List ℕ) → first xs ≡ None → xs ≡ []
first-none [] e = refl
first-none (x ∷ xs) e = on (first xs) e
  where
    on : (o : Option ℕ) → either (Some x) o ≡ None → x ∷ xs ≡ []
    on None e = none-some (sym e)
    on (Some y) e = none-some (sym e)

in-front : (x : ℕ) (xs : List ℕ) → Contains (x ∷ xs) x
in-front x xs = (0, omega arith, refl)

all-less : (xs : List ℕ) (m l : ℕ) → m ≤ l → All (λ o. o ≤ m) xs → All (λ o. o ≤ l) xs
all-less xs m l h a k d b = let x = a k d b in omega (arith, h, x)

is-first : (xs : List ℕ) (l : ℕ) → first xs ≡ Some l → IsFirst xs l
is-first [] l e = none-some e
is-first (x ∷ xs) l e = on (first xs) (is-first xs) refl e
  where
    one : {y : ℕ} → (max x y ≡ x) ⊎ (max x y ≡ y) → Contains xs y → Contains (x ∷ xs) (max x y)
    one {y} (inl e) c = subst (Contains (x ∷ xs)) (sym e) (in-front x xs)
    one {y} (inr e) c = subst (Contains (x ∷ xs)) (sym e) (Contains-append_right (x ∷ []) xs y c)

    on : (o : Option ℕ) → ((m : ℕ) → first xs ≡ Some m → IsFirst xs m) → first xs ≡ o → either (Some x) o ≡ Some l → IsFirst (x ∷ xs) l
    on None g f e =
        let s = some-same e in
        subst (IsFirst (x ∷ xs)) s (record { is_in = in-front x xs; greatest = All-cons (λ o. o ≤ x) x xs (omega arith) (subst (All (λ o. o ≤ x)) (sym (first-none xs f)) (All-nil (λ o. o ≤ x))) })
    on (Some y) g f e =
        let s = some-same e in
        let k = g y f in
        subst (IsFirst (x ∷ xs)) s (record { is_in = one (larger x y) k.is_in; greatest = All-cons (λ o. o ≤ max x y) x xs (omega arith) (all-less xs y (max x y) (omega arith) k.greatest) })

-- ---- a cell, by the places of its parts

abbrev Rows : ℕ → Cell → List ℕ → Type 0
Rows most c p = (depth : ℕ) → placed (from_start most (length (spelling c))) (first (in_cell c depth)) ≡ nth depth p

record Placed (f : ℕ → ℕ) (o : Option ℕ) (x : ℕ) : Type 0 where
  pub left : ℕ
  pub is : o ≡ Some left
  pub at : f left ≡ x

is-placed : (f : ℕ → ℕ) (o : Option ℕ) (x : ℕ) → placed f o ≡ Some x → Placed f o x
is-placed f None x e = none-some e
is-placed f (Some l) x e = record { left = l; is = refl; at = some-same e }

greater : (most all a b x : ℕ) → from_start most all a ≤ x → from_start most all b ≡ x → 0 < x → a ≤ b
greater most all a b x h e k = omega (arith, h, e, k)

at-place : (most all left x : ℕ) → from_start most all left ≡ x → 0 < x → most - x ≡ all - left
at-place most all left x e h = omega (arith, e, h)

pub too-deep : (most : ℕ) (c : Cell) (p : List ℕ) → Rows most c p → 0 < reach p 64 → IsTooDeep c (most - reach p 64)
too-deep most c p rows h =
    let k = reaches p 64 h in
    let l = is-placed (from_start most (length (spelling c))) (first (in_cell c k.depth)) (reach p 64) (rows k.depth ∙ k.is) in
    record {
      depth = k.depth;
      deep = k.deep;
      left = l.left;
      begins = (is-first (in_cell c k.depth) l.left l.is).is_in;
      first = λ other deep. others l.left l.at other deep (first (in_cell c other)) refl;
      is_place = at-place most (length (spelling c)) l.left (reach p 64) l.at h;
    }
  where
    others : (left : ℕ) → from_start most (length (spelling c)) left ≡ reach p 64 → (other : ℕ) → 64 ≤ other → (o : Option ℕ) → first (in_cell c other) ≡ o → All (λ x. x ≤ left) (in_cell c other)
    others left at other deep None e = subst (All (λ x. x ≤ left)) (sym (first-none (in_cell c other) e)) (All-nil (λ x. x ≤ left))
    others left at other deep (Some l) e =
        let n = nth-reach p 64 other (from_start most (length (spelling c)) l) deep (sym (rows other) ∙ ap (placed (from_start most (length (spelling c)))) e) in
        all-less (in_cell c other) l left (greater most (length (spelling c)) l left (reach p 64) n at h) (is-first (in_cell c other) l e).greatest

-- and no part that is deeper than 64 begins earlier
pub no-deeper : (most : ℕ) (c : Cell) (p : List ℕ) (place : ℕ) → Rows most c p → IsTooDeep c place → most ≤ place + reach p 64
no-deeper most c p place rows x = on (first (in_cell c x.depth)) refl
  where
    on : (o : Option ℕ) → first (in_cell c x.depth) ≡ o → most ≤ place + reach p 64
    on None e = empty (subst (λ xs. Contains xs x.left) (first-none (in_cell c x.depth) e) x.begins)
      where
        empty : Contains [] x.left → most ≤ place + reach p 64
        empty k = let b = k.1 in absurd (omega (arith, b))
    on (Some l) e =
        let n = nth-reach p 64 x.depth (from_start most (length (spelling c)) l) x.deep (sym (rows x.depth) ∙ ap (placed (from_start most (length (spelling c)))) e) in
        let b = All-contains (λ o. o ≤ l) (in_cell c x.depth) x.left (is-first (in_cell c x.depth) l e).greatest x.begins in
        let i = x.is_place in
        omega (arith, n, b, i)

-- ---- tokens that have been read

length-joined : (xs ys : List Kind) → length (xs ++ ys) ≡ length xs + length ys
length-joined [] ys = omega arith
length-joined (x ∷ xs) ys = let e = length-joined xs ys in omega arith

abbrev pub then_run : Bool → Texts → ℕ → List Kind → Option Reader → Option Reader
then_run alone texts at ts o = elim o [ None ↦ None | Some r ↦ run alone texts at r ts ]

pub run-joined : (alone : Bool) (texts : Texts) (at : ℕ) (r : Reader) (xs ys : List Kind) → run alone texts at r (xs ++ ys) ≡ then_run alone texts (at - length xs) ys (run alone texts at r xs)
run-joined alone texts at r [] ys = ap (λ n. run alone texts n r ys) (omega arith)
run-joined alone texts at r (x ∷ xs) ys = on (step alone texts at (at - 1) r x) (λ q. run-joined alone texts (at - 1) q xs ys)
  where
    on : (o : Option Reader) → ((q : Reader) → run alone texts (at - 1) q (xs ++ ys) ≡ then_run alone texts (at - 1 - length xs) ys (run alone texts (at - 1) q xs)) → (elim o [ None ↦ None | Some q ↦ run alone texts (at - 1) q (xs ++ ys) ]) ≡ then_run alone texts (at - suc (length xs)) ys (elim o [ None ↦ None | Some q ↦ run alone texts (at - 1) q xs ])
    on None f = refl
    on (Some q) f = f q ∙ ap (λ n. then_run alone texts n ys (run alone texts (at - 1) q xs)) (omega arith)

-- ---- a cell, or a function alone

plainly : (alone : Bool) (ts : List Kind) (s : m.State) → forms_run alone m.start ts ≡ Some s → m.run m.start ts ≡ Some s
plainly false ts s e = e
plainly true ts s e = alone-read ts m.start s e

pub forms-joined : (alone : Bool) (xs ys : List Kind) (s u : m.State) → forms_run alone s xs ≡ Some u → forms_run alone s (xs ++ ys) ≡ forms_run alone u ys
forms-joined false xs ys s u e = run-append xs ys s u e
forms-joined true xs ys s u e = alone-append xs ys s u e

is-of : (alone : Bool) (ts : List Kind) (c : Cell) → forms_run alone m.start ts ≡ Some (m.done c) → IsOf alone ts c
is-of false ts c e = read_is ts c e
is-of true ts c e = read_is_one ts c e

of-is : (alone : Bool) (ts : List Kind) (c : Cell) → IsOf alone ts c → forms_run alone m.start ts ≡ Some (m.done c)
of-is false ts c is = is_read ts c is
of-is true ts c is = one_is_read ts c is

spelled : (alone : Bool) (ts : List Kind) (c : Cell) → IsOf alone ts c → ts ≡ spelling c
spelled false ts c is = is.spelled
spelled true ts c is = is.4.spelled

-- tokens by which what is open ends
record Ends (alone : Bool) (s : m.State) : Type 0 where
  pub more : List Kind
  pub cell : Cell
  pub closes : Closes s more cell
  pub runs : forms_run alone s more ≡ Some (m.done cell)

ends : (alone : Bool) (tokens : List Kind) (s : m.State) → 0 < length tokens → forms_run alone m.start tokens ≡ Some s → state_stands s → Ends alone s
ends false tokens s n e h = let c = state-closes s h in record { more = c.more; cell = c.cell; closes = c.closes; runs = closes-run c.closes }
ends true tokens s n e h = let c = function-closes tokens n e (state-closes s h).closes in record { more = c.more; cell = c.cell; closes = c.closes; runs = c.alone }

-- the forms that have been read, whatever comes
record Read (alone : Bool) (texts : Texts) (most : ℕ) (tokens : List Kind) (reader : Reader) : Type 0 where
  pub forms : m.State
  pub runs : forms_run alone m.start tokens ≡ Some forms
  pub stands : state_stands forms
  pub held : (more : List Kind) → (names : Names) × (reader ≡ reader_at (from_start most (length (tokens ++ more))) texts forms more names) × Hears forms names

reader-same : {a b : Reader} → Some a ≡ Some b → a ≡ b
reader-same {a} {b} e = cc

none-reader : {A : Type 0} {a : Reader} → ◌≡◌ {A = Option Reader} None (Some a) → A
none-reader {A} {a} e = cc

is-read : (alone : Bool) (texts : Texts) (most : ℕ) (tokens : List Kind) (reader : Reader) → run alone texts most start tokens ≡ Some reader → Read alone texts most tokens reader
is-read alone texts most tokens reader e = on (forms_run alone m.start tokens) refl
  where
    follows : (more : List Kind) (o : Option m.State) → forms_run alone m.start tokens ≡ o → Follows (from_start most (length (tokens ++ more))) texts more (run alone texts most start tokens) o
    follows more o f = subst (Follows (from_start most (length (tokens ++ more))) texts more (run alone texts most start tokens)) f (run-follows alone texts most tokens more)

    on : (o : Option m.State) → forms_run alone m.start tokens ≡ o → Read alone texts most tokens reader
    on None f = none-reader (sym (follows [] None f) ∙ e)
    on (Some s) f = record { forms = s; runs = f; stands = ((read_iff_stands tokens s).0 (plainly alone tokens s f)).0; held = λ more. let g = follows more (Some s) f in (g.0, reader-same (sym e ∙ g.1), g.2) }

-- the places of a cell that has been read
abbrev places_of : ℕ → Texts → Cell → List ℕ
places_of most texts c = (held_done (from_start most (length (spelling c))) texts c (t.End ∷ [])).under

grows-to : (p : List ℕ) (o : Option Reader) (q : Reader) → o ≡ Some q → RunGrows p o → Sooner p (forced_now q.state)
grows-to p o q e g = subst (RunGrows p) e g

-- each cell that begins with them gets as deep no later
cell-grows : (alone : Bool) (texts : Texts) (most : ℕ) (tokens more : List Kind) (reader : Reader) (c : Cell) → run alone texts most start tokens ≡ Some reader → IsOf alone (tokens ++ more) c
    → Sooner (forced_now reader.state) (places_of most texts c)
cell-grows alone texts most tokens more reader c e is =
    let all : length ((tokens ++ more) ++ []) ≡ length (spelling c) = ap length (append-nil (tokens ++ more)) ∙ ap length (spelled alone (tokens ++ more) c is) in
    let f = subst (λ n. Follows (from_start most n) texts [] (run alone texts most start (tokens ++ more)) (forms_run alone m.start (tokens ++ more))) all (run-follows alone texts most (tokens ++ more) []) in
    let g = subst (Follows (from_start most (length (spelling c))) texts [] (run alone texts most start (tokens ++ more))) (of-is alone (tokens ++ more) c is) f in
    let j : run alone texts (most - length tokens) reader more ≡ Some (reader_at (from_start most (length (spelling c))) texts (m.done c) [] g.0) = ap (then_run alone texts (most - length tokens) more) (sym e) ∙ sym (run-joined alone texts most start tokens more) ∙ g.1 in
    grows-to (forced_now reader.state) (run alone texts (most - length tokens) reader more) _ j (run-grows alone texts (most - length tokens) reader more)

-- a cell that begins with them and gets so deep no earlier, but for what comes after them
record Least (alone : Bool) (texts : Texts) (most : ℕ) (tokens : List Kind) (reader : Reader) : Type 0 where
  pub more : List Kind
  pub cell : Cell
  pub is : IsOf alone (tokens ++ more) cell
  pub adds : AddsAt (most - length tokens) (forced_now reader.state) (places_of most texts cell)

after-place : (most n k : ℕ) → from_start most (n + k) k ≡ most - n
after-place most n k = omega arith

least : (alone : Bool) (texts : Texts) (most : ℕ) (tokens : List Kind) (reader : Reader) → 0 < length tokens → Read alone texts most tokens reader → Least alone texts most tokens reader
least alone texts most tokens reader n x =
    let c = ends alone tokens x.forms n x.runs x.stands in
    let is = is-of alone (tokens ++ c.more) c.cell (forms-joined alone tokens c.more m.start x.forms x.runs ∙ c.runs) in
    let k = x.held c.more in
    let all : length (tokens ++ c.more) ≡ length (spelling c.cell) = ap length (spelled alone (tokens ++ c.more) c.cell is) in
    let a = closes-add (from_start most (length (tokens ++ c.more))) (fair most (length (tokens ++ c.more))) texts c.closes k.0 x.stands k.2 in
    let b = subst (λ r. AddsAt (from_start most (length (tokens ++ c.more)) (length c.more)) (forced_now r.state) (held_done (from_start most (length (tokens ++ c.more))) texts c.cell (t.End ∷ [])).under) (sym k.1) a in
    let d = subst (λ n. AddsAt (from_start most (length (tokens ++ c.more)) (length c.more)) (forced_now reader.state) (held_done (from_start most n) texts c.cell (t.End ∷ [])).under) all b in
    let at : from_start most (length (tokens ++ c.more)) (length c.more) ≡ most - length tokens = ap (λ n. from_start most n (length c.more)) (length-joined tokens c.more) ∙ after-place most (length tokens) (length c.more) in
    record { more = c.more; cell = c.cell; is = is; adds = subst (λ n. AddsAt n (forced_now reader.state) (places_of most texts c.cell)) at d }

same-place : {c : Cell} {a b : ℕ} → a ≡ b → IsTooDeep c a → IsTooDeep c b
same-place {c} {a} {b} e x = subst (IsTooDeep c) e x

-- nothing is forced before the first token
at-start : (most : ℕ) (reader : Reader) → Some start ≡ Some reader → most < deepest reader → ⊥
at-start most reader e h = let same = reader-same e in let k = subst (λ r. most < deepest r) (sym same) h in absurd (omega (arith, k))

pub tells-depth : TellsDepth
tells-depth alone texts most [] reader within e = ((λ h. absurd (at-start most reader e (omega (arith, h)))), (λ h place x. let i = x.within in omega (arith, i)))
tells-depth alone texts most (k ∷ ks) reader within e =
    let tokens : List Kind = k ∷ ks in
    let l = least alone texts most tokens reader (omega arith) (is-read alone texts most tokens reader e) in
    let g = (cell-grows alone texts most tokens l.more reader l.cell e l.is).each 64 in
    let a = l.adds.each 64 in
    let rows = cell-places most texts l.cell in (
      (λ h. record {
        within = omega (arith, h, within);
        each = λ more c is. deep-in more c is (omega (arith, h));
        some = (l.more, l.cell, l.is, same-place (ap (λ n. most - n) (omega (arith, g, a, h))) (too-deep most l.cell (places_of most texts l.cell) rows (omega (arith, g, h))));
      }),
      (λ h place x. let y = x.each l.more l.cell l.is in let i = x.within in let j = y.1 in let n = no-deeper most l.cell (places_of most texts l.cell) y.0 rows y.2 in omega (arith, h, i, j, n, a, within)),
    )
  where
    deep-in : (more : List Kind) (c : Cell) → IsOf alone ((k ∷ ks) ++ more) c → 0 < deepest reader → (at : ℕ) × (at ≤ most - deepest reader) × IsTooDeep c at
    deep-in more c is h =
        let g = (cell-grows alone texts most (k ∷ ks) more reader c e is).each 64 in
        (most - reach (places_of most texts c) 64, omega (arith, g), too-deep most c (places_of most texts c) (cell-places most texts c) (omega (arith, g, h)))

pub tells-cells : TellsCells
tells-cells texts most tokens c reader within is e =
    let all : length (tokens ++ []) ≡ length (spelling c) = ap length (append-nil tokens) ∙ ap length is.spelled in
    let f = subst (λ n. Follows (from_start most n) texts [] (run false texts most start tokens) (m.run m.start tokens)) all (run-follows false texts most tokens []) in
    let g = subst (Follows (from_start most (length (spelling c))) texts [] (run false texts most start tokens)) (is_read tokens c is) f in
    let same : forced_now reader.state ≡ places_of most texts c = ap (λ r. forced_now r.state) (reader-same (sym e ∙ g.1)) in
    let rows = cell-places most texts c in (
      (λ h. same-place (ap (λ p. most - reach p 64) (sym same)) (too-deep most c (places_of most texts c) rows (subst (λ p. 0 < reach p 64) same h))),
      (λ h place x. let n = no-deeper most c (places_of most texts c) place rows x in let r = subst (λ p. reach p 64 ≡ 0) same h in let i = x.is_place in let t = ap length is.spelled in omega (arith, n, r, i, t, within)),
    )

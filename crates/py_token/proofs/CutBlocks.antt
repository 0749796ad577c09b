-- The blocks that are open, and what the first token of a line begins and ends of them.
use Rattle.std.proofs.Common.{◌≡◌, ℕ, suc, pred, ◌+◌, ◌-◌, ◌<◌, Bool, true, false, cond, eqb, ltb, List, [], ◌∷◌, ◌++◌, Some, None, Result, Ok, Err, refl, sym, ap, ◌∙◌, subst, arith}
use Rattle.std.specs.Prelude.{is_some}
use Rattle.std.specs.List.{AllByRecursion}
use Rattle.std.proofs.lemmas.Bool.Decides.{nat_tests}
use Rattle.py_token.specs.declared.faults.TokenFault.{TokenFault}
use Rattle.py_token.specs.declared.kinds.Kind.{Kind}
use Rattle.py_token.specs.declared.kinds.Kind.TheVariants.{Newline, Indent, Dedent}
use Rattle.py_token.specs.declared.kinds.Token.{Token}
use Rattle.py_token.specs.declared.lines.Depths.{Depths}
use Rattle.py_token.specs.declared.lines.Spot.{Spot}
use Rattle.py_token.specs.declared.lines.Spot.TheVariants.{Start, Inside}
use Rattle.py_token.specs.Lines.{token, ends_block, shallower, is_deeper, indented, begun, closing}
use Rattle.py_token.specs.Cuts.{kinds, is_word, level, begins_line, dedents}

-- ---- open blocks

abbrev pub opened : List ℕ → ℕ
opened [] = 0
opened (d ∷ ds) = cond (eqb d 0) (opened ds) (suc (opened ds))

-- depths of blocks, and below them 0
abbrev pub IsStack : List ℕ → Type 0
IsStack [] = ⊥
IsStack (d ∷ []) = d ≡ 0
IsStack (d ∷ e ∷ ds) = (0 < d) × IsStack (e ∷ ds)

pub positive : (d : ℕ) → 0 < d → eqb d 0 ≡ false
positive d h = grind (arith, nat_tests)

opened_more : (d : ℕ) (ds : List ℕ) → 0 < d → opened (d ∷ ds) ≡ suc (opened ds)
opened_more d ds h = ap (λ b. cond b (opened ds) (suc (opened ds))) (positive d h)

-- no block is open at the depth 0 alone
pub none_open : (ds : List ℕ) → IsStack ds → opened ds ≡ 0 → ds ≡ 0 ∷ []
none_open [] h e = absurd h
none_open (d ∷ []) h e = ap (λ x. x ∷ []) h
none_open (d ∷ c ∷ ds) h e = let more = opened_more d (c ∷ ds) h.0 in let no : ⊥ = omega (arith, more, e) in absurd no

-- ---- what a token begins and ends

-- the tokens begin and end just the blocks that the depths tell, and no token among them is a word or a line's end
pub record Steps (ds : List ℕ) (d : Depths) : Type 0 where
  pub stack : IsStack d.depths
  pub level : level (opened ds) (kinds d.given) ≡ opened d.depths
  pub line : (b : Bool) → begins_line b (kinds d.given) ≡ b
  pub layout : AllByRecursion (λ t. is_word t.kind ≡ false) d.given

abbrev IfSteps : List ℕ → Result Depths TokenFault → Type 0
IfSteps ds (Ok d) = Steps ds d
IfSteps ds (Err f) = Unit {0}

if_steps : (ds : List ℕ) (b : Bool) (r s : Result Depths TokenFault) → (b ≡ true → IfSteps ds r) → IfSteps ds s → IfSteps ds (cond b r s)
if_steps ds true r s h k = h refl
if_steps ds false r s h k = k

one_less : (at d : ℕ) (ds : List ℕ) (r : Result Depths TokenFault) → 0 < d → IfSteps ds r → IfSteps (d ∷ ds) (ends_block at r)
one_less at d ds (Err f) h k = tt
one_less at d ds (Ok e) h k = record { stack = k.stack; level = ap (λ n. level (pred n) (kinds e.given)) (opened_more d ds h) ∙ k.level; line = k.line; layout = (refl, k.layout) }

shallower_steps : (at depth : ℕ) (ds : List ℕ) → IsStack ds → IfSteps ds (shallower at depth ds)
unfolding shallower
shallower_steps at depth [] h = tt
shallower_steps at depth (d ∷ []) h =
    if_steps (d ∷ []) (ltb depth d) _ _ (λ e. let no : ⊥ = grind (arith, nat_tests) in absurd no)
    (if_steps (d ∷ []) (eqb d depth) _ _ (λ e. record { stack = h; level = refl; line = λ b. refl; layout = tt }) tt)
shallower_steps at depth (d ∷ c ∷ ds) h =
    if_steps (d ∷ c ∷ ds) (ltb depth d) _ _ (λ e. one_less at d (c ∷ ds) _ h.0 (shallower_steps at depth (c ∷ ds) h.1))
    (if_steps (d ∷ c ∷ ds) (eqb d depth) _ _ (λ e. record { stack = h; level = refl; line = λ b. refl; layout = tt }) tt)

deeper_steps : (at depth : ℕ) (ds : List ℕ) → IsStack ds → is_deeper depth ds ≡ true → Steps ds (record { given = token Indent at 0 ∷ []; depths = depth ∷ ds })
deeper_steps at depth [] h e = absurd h
deeper_steps at depth (d ∷ ds) h e =
    let more : 0 < depth = grind (arith, nat_tests) in
    record { stack = (more, h); level = sym (opened_more depth (d ∷ ds) more); line = λ b. refl; layout = (refl, tt) }

indented_steps : (at depth : ℕ) (ds : List ℕ) → IsStack ds → IfSteps ds (indented at depth ds)
unfolding indented
indented_steps at depth ds h = if_steps ds (is_deeper depth ds) _ _ (λ e. steps_ok (deeper_steps at depth ds h e)) (shallower_steps at depth ds h)
  where
    steps_ok : {d : Depths} → Steps ds d → IfSteps ds (Ok d)
    steps_ok s = s

begun_steps : (at : ℕ) (spot : Spot) (ds : List ℕ) → IsStack ds → IfSteps ds (begun at spot ds)
unfolding begun
begun_steps at Inside ds h = record { stack = h; level = refl; line = λ b. refl; layout = tt }
begun_steps at (Start from None) ds h = indented_steps at (at - from) ds h
begun_steps at (Start from (Some tab)) ds h = tt

pub steps_of : (at : ℕ) (spot : Spot) (ds : List ℕ) (d : Depths) → IsStack ds → begun at spot ds ≡ Ok d → Steps ds d
steps_of at spot ds d h e = subst (IfSteps ds) e (begun_steps at spot ds h)

pub closing_kinds : (at : ℕ) (ds : List ℕ) (more : List Token) → kinds (closing at ds ++ more) ≡ dedents (opened ds) (kinds more)
closing_kinds at [] more = refl
closing_kinds at (d ∷ ds) more = on (eqb d 0) (closing_kinds at ds more)
  where
    on : (b : Bool) → kinds (closing at ds ++ more) ≡ dedents (opened ds) (kinds more)
        → kinds (cond b (closing at ds) (token Dedent at 0 ∷ closing at ds) ++ more) ≡ dedents (cond b (opened ds) (suc (opened ds))) (kinds more)
    on true h = h
    on false h = ap (λ ks. Dedent ∷ ks) h

-- ---- the same at another place

-- a line that begins at as many bytes before the one place as before the other
abbrev pub IsSame : ℕ → ℕ → Spot → Spot → Type 0
IsSame p q Inside Inside = Unit {0}
IsSame p q (Start f t) (Start g u) = (n : ℕ) × (p ≡ f + n) × (q ≡ g + n) × (is_some t ≡ is_some u)
IsSame p q _ _ = ⊥

abbrev Agree : Result Depths TokenFault → Result Depths TokenFault → Type 0
Agree (Ok d) (Ok e) = (kinds e.given ≡ kinds d.given) × (e.depths ≡ d.depths)
Agree (Err f) (Err g) = Unit {0}
Agree _ _ = ⊥

agree_if : (b : Bool) (r s r' s' : Result Depths TokenFault) → Agree r r' → Agree s s' → Agree (cond b r s) (cond b r' s')
agree_if true r s r' s' h k = h
agree_if false r s r' s' h k = k

agree_ends : (at to : ℕ) (r r' : Result Depths TokenFault) → Agree r r' → Agree (ends_block at r) (ends_block to r')
agree_ends at to (Ok d) (Ok e) h = (ap (λ ks. Dedent ∷ ks) h.0, h.1)
agree_ends at to (Err f) (Err g) h = tt
agree_ends at to (Ok d) (Err g) h = absurd h
agree_ends at to (Err f) (Ok e) h = absurd h

shallower_agree : (at to depth : ℕ) (ds : List ℕ) → Agree (shallower at depth ds) (shallower to depth ds)
unfolding shallower
shallower_agree at to depth [] = tt
shallower_agree at to depth (d ∷ ds) =
    agree_if (ltb depth d) _ _ _ _ (agree_ends at to _ _ (shallower_agree at to depth ds)) (agree_if (eqb d depth) _ _ _ _ (refl, refl) tt)

indented_agree : (at to depth : ℕ) (ds : List ℕ) → Agree (indented at depth ds) (indented to depth ds)
unfolding indented
indented_agree at to depth ds = agree_if (is_deeper depth ds) _ _ _ _ (refl, refl) (shallower_agree at to depth ds)

begun_agree : (p q : ℕ) (s s' : Spot) (ds : List ℕ) → IsSame p q s s' → Agree (begun p s ds) (begun q s' ds)
unfolding begun
begun_agree p q Inside Inside ds h = (refl, refl)
begun_agree p q (Start f None) (Start g None) ds h =
    let one : p - f ≡ h.0 = omega (arith, h.1) in
    let other : q - g ≡ h.0 = omega (arith, h.2) in
    subst (λ n. Agree (indented p n ds) (indented q (q - g) ds)) (sym one) (subst (λ n. Agree (indented p h.0 ds) (indented q n ds)) (sym other) (indented_agree p q h.0 ds))
begun_agree p q (Start f (Some t)) (Start g (Some u)) ds h = tt
begun_agree p q (Start f None) (Start g (Some u)) ds h = let no : ⊥ = cc (h.3) in absurd no
begun_agree p q (Start f (Some t)) (Start g None) ds h = let no : ⊥ = cc (h.3) in absurd no
begun_agree p q (Start f t) Inside ds h = absurd h
begun_agree p q Inside (Start g u) ds h = absurd h

agree_ok : (r r' : Result Depths TokenFault) (d : Depths) → Agree r r' → r ≡ Ok d → (e : Depths) × (r' ≡ Ok e) × (kinds e.given ≡ kinds d.given) × (e.depths ≡ d.depths)
agree_ok (Ok x) (Ok e) d h is = let same : x ≡ d = cc in (e, refl, h.0 ∙ ap (λ (y : Depths). kinds y.given) same, h.1 ∙ ap (λ (y : Depths). y.depths) same)
agree_ok (Ok x) (Err g) d h is = absurd h
agree_ok (Err f) r' d h is = cc

pub same_begun : (p q : ℕ) (s s' : Spot) (ds : List ℕ) (d : Depths) → IsSame p q s s' → begun p s ds ≡ Ok d
    → (e : Depths) × (begun q s' ds ≡ Ok e) × (kinds e.given ≡ kinds d.given) × (e.depths ≡ d.depths)
same_begun p q s s' ds d h is = agree_ok _ _ d (begun_agree p q s s' ds h) is

-- ---- what follows other tokens

pub level-append : (n : ℕ) (ks ls : List Kind) → level n (ks ++ ls) ≡ level (level n ks) ls
level-append n [] ls = refl
level-append n (Indent ∷ ks) ls = level-append (suc n) ks ls
level-append n (Dedent ∷ ks) ls = level-append (pred n) ks ls
level-append n (k ∷ ks) ls = level-append n ks ls

pub begins-append : (b : Bool) (ks ls : List Kind) → begins_line b (ks ++ ls) ≡ begins_line (begins_line b ks) ls
begins-append b [] ls = refl
begins-append b (Newline ∷ ks) ls = begins-append true ks ls
begins-append b (Indent ∷ ks) ls = begins-append b ks ls
begins-append b (Dedent ∷ ks) ls = begins-append b ks ls
begins-append b (k ∷ ks) ls = begins-append false ks ls

pub kinds-append : (xs ys : List Token) → kinds (xs ++ ys) ≡ kinds xs ++ kinds ys
kinds-append [] ys = refl
kinds-append (x ∷ xs) ys = ap (λ ks. x.kind ∷ ks) (kinds-append xs ys)

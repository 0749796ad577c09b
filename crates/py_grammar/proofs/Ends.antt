-- Whatever has been read of an expression goes on to a whole one.
use Rattle.std.proofs.Common.{◌≡◌, List, [], ◌∷◌, false, IsTrue, Some, None, refl, ap, ◌∙◌, sym, subst}
use Rattle.py_token.specs.declared.kinds.Kind.{Kind}
use Rattle.py_token.specs.declared.kinds.Kind.TheVariants as t
use Rattle.std.proofs.lemmas.Bool.{false≢true}
use Rattle.std.specs.Prelude.{pos}
use Rattle.py_grammar.specs.Words.{else_word, in_word, none_word, open_parenthesis, close_parenthesis, open_bracket, close_bracket, open_brace, close_brace, colon}
use Rattle.py_grammar.specs.Expressions.{Expression, plain, conditional, ors_one, ands_one, compared, Compares, compares_one, compares_more, compares_none, compares_not_none, not_within, sums_one, products_one, unsigned, Primary, number, group, display, dict, call, index, slice, single, tuple, Elements, method, bounded, no_args, args, entries, spell_expression, spell_compares, spell_primary, spell_exprs, spell_callee}
use Rattle.py_grammar.specs.Readings.{Upper, upper, Lower, Bracket, in_group, in_display, in_dict, in_pair, in_call, in_index, in_slice, Opened, opened, listed, Reading, wants, has, has_none, has_not_none, after_is, after_is_not, after_not, after_dot, after_method, add_nots, add_and, add_or, add_picked, add_element, add_pair, compares_of, bare, bare_below, narrow, open_in, one_below, undivided, lists_stand, reading_stands}
use Rattle.py_grammar.specs.Open.{spell_upper, spell_lower, spell_bracket, spell_opened, spell_reading}
use Rattle.py_grammar.proofs.Spelled.{add_element-spelled, add_pair-spelled, compares_of-spelled, picked-spelled, chosen-spelled}
use Rattle.py_grammar.proofs.Bare.{bare_is}

-- with more tokens it spells one of these
pub record Ends {A : Type 0} (spell : A → List Kind → List Kind) (f : List Kind → List Kind) : Type 0 where
  pub more : List Kind → List Kind
  pub made : A
  pub spelled : (rest : List Kind) → f (more rest) ≡ spell made rest

abbrev pub nought : Expression
nought = plain (ors_one (ands_one (compared (compares_one (sums_one (products_one (unsigned (number (pos 0)))))))))

-- an `if` gets its `else`
pub upper-ends : (u : Upper) (c : Compares) → Ends spell_expression (λ rest. spell_upper u (spell_compares c rest))
upper-ends (upper ps None o a n) c = record { more = λ rest. rest; made = add_picked ps (plain (add_or o (add_and a (add_nots n (compared c))))); spelled = λ rest. sym (picked-spelled ps o a n c rest) }
upper-ends (upper ps (Some b) o a n) c =
    record { more = λ rest. else_word ∷ t.Number (pos 0) ∷ rest; made = add_picked ps (conditional b (add_or o (add_and a (add_nots n (compared c)))) nought); spelled = λ rest. sym (chosen-spelled ps b o a n c nought rest) }

-- what is in a bracket ends, and the bracket with it
pub record Closes (b : Bracket) (e : Expression) : Type 0 where
  pub more : List Kind → List Kind
  pub made : Primary
  pub spelled : (rest : List Kind) → spell_bracket b (spell_expression e (more rest)) ≡ spell_primary made rest

pub bracket-closes : (b : Bracket) (e : Expression) → Closes b e
bracket-closes in_group e = record { more = λ rest. close_parenthesis ∷ rest; made = group (single e); spelled = λ rest. refl }
bracket-closes (in_display es) e = record { more = λ rest. close_bracket ∷ rest; made = display (args (add_element es e)); spelled = λ rest. ap (◌∷◌ open_bracket) (sym (add_element-spelled es e (close_bracket ∷ rest))) }
bracket-closes (in_dict ps) e = record { more = λ rest. colon ∷ t.Number (pos 0) ∷ close_brace ∷ rest; made = dict (entries (add_pair ps e nought)); spelled = λ rest. ap (◌∷◌ open_brace) (sym (add_pair-spelled ps e nought (close_brace ∷ rest))) }
bracket-closes (in_pair ps a) e = record { more = λ rest. close_brace ∷ rest; made = dict (entries (add_pair ps a e)); spelled = λ rest. ap (◌∷◌ open_brace) (sym (add_pair-spelled ps a e (close_brace ∷ rest))) }
bracket-closes (in_call f es) e = record { more = λ rest. close_parenthesis ∷ rest; made = call f (args (add_element es e)); spelled = λ rest. ap (λ x. spell_callee f (open_parenthesis ∷ x)) (sym (add_element-spelled es e (close_parenthesis ∷ rest))) }
bracket-closes (in_index p) e = record { more = λ rest. close_bracket ∷ rest; made = index p e; spelled = λ rest. refl }
bracket-closes (in_slice p a) e = record { more = λ rest. close_bracket ∷ rest; made = slice p a (bounded e); spelled = λ rest. refl }

-- an operand, and what is around it
primary-ends : {A : Type 0} {spell : A → List Kind → List Kind} (os : List Opened) (u : Upper) (w : Lower) (p : Primary) → ((e : Expression) → Ends spell (λ rest. spell_opened os (spell_expression e rest)))
    → Ends spell (λ rest. spell_opened os (spell_upper u (spell_lower w (spell_primary p rest))))
primary-ends {A} {spell} os u w p around =
    let m = upper-ends u (compares_of w p) in
    let r = around m.made in
    record {
      more = λ rest. m.more (r.more rest);
      made = r.made;
      spelled = λ rest. ap (λ x. spell_opened os (spell_upper u x)) (sym (compares_of-spelled w p (m.more (r.more rest))))
          ∙ ap (spell_opened os) (m.spelled (r.more rest))
          ∙ r.spelled rest;
    }

-- an expression in a bracket, and what is around it
bracket-ends : {A : Type 0} {spell : A → List Kind → List Kind} (b : Bracket) (e : Expression) (os : List Opened) (u : Upper) (w : Lower) → ((p : Primary) → Ends spell (λ rest. spell_opened os (spell_upper u (spell_lower w (spell_primary p rest)))))
    → Ends spell (λ rest. spell_opened (opened u w b ∷ os) (spell_expression e rest))
bracket-ends {A} {spell} b e os u w around =
    let k = bracket-closes b e in
    let r = around k.made in
    record { more = λ rest. k.more (r.more rest); made = r.made; spelled = λ rest. ap (λ x. spell_opened os (spell_upper u (spell_lower w x))) (k.spelled (r.more rest)) ∙ r.spelled rest }

-- the last of a tuple in parentheses, and what is around it
tuple-ends : {A : Type 0} {spell : A → List Kind → List Kind} (es : Elements) (e : Expression) (os : List Opened) (u : Upper) (w : Lower) → ((p : Primary) → Ends spell (λ rest. spell_opened os (spell_upper u (spell_lower w (spell_primary p rest)))))
    → Ends spell (λ rest. spell_opened (listed es ∷ opened u w in_group ∷ os) (spell_expression e rest))
tuple-ends {A} {spell} es e os u w around =
    let r = around (group (tuple es e)) in
    record { more = λ rest. close_parenthesis ∷ r.more rest; made = r.made; spelled = r.spelled }

before : {A : Type 0} {spell : A → List Kind → List Kind} (f g : List Kind → List Kind) → Ends spell (λ rest. f (g rest)) → Ends spell f
before {A} {spell} f g e = record { more = λ rest. g (e.more rest); made = e.made; spelled = e.spelled }

-- what is open ends, each as its purpose wants it

opened-ends : (os : List Opened) → lists_stand os → (e : Expression) → Ends spell_exprs (λ rest. spell_opened os (spell_expression e rest))
opened-ends [] k e = record { more = λ rest. rest; made = single e; spelled = λ rest. refl }
opened-ends (listed es ∷ []) k e = record { more = λ rest. rest; made = tuple es e; spelled = λ rest. refl }
opened-ends (opened u w b ∷ os) k e = bracket-ends b e os u w (λ p. primary-ends os u w p (opened-ends os k))
opened-ends (listed es ∷ opened u w in_group ∷ os) k e = tuple-ends es e os u w (λ p. primary-ends os u w p (opened-ends os k.1))
opened-ends (listed es ∷ _) k e = absurd (false≢true k.0)

opened-ends-one : (os : List Opened) → lists_stand os → IsTrue (one_below os) → (e : Expression) → Ends spell_expression (λ rest. spell_opened os (spell_expression e rest))
opened-ends-one [] k h e = record { more = λ rest. rest; made = e; spelled = λ rest. refl }
opened-ends-one (listed es ∷ []) k h e = absurd (false≢true h)
opened-ends-one (opened u w b ∷ os) k h e = bracket-ends b e os u w (λ p. primary-ends os u w p (opened-ends-one os k h))
opened-ends-one (listed es ∷ opened u w in_group ∷ os) k h e = tuple-ends es e os u w (λ p. primary-ends os u w p (opened-ends-one os k.1 h))
opened-ends-one (listed es ∷ _) k h e = absurd (false≢true k.0)

-- a primary alone
primary-narrow : (os : List Opened) (u : Upper) (w : Lower) → lists_stand os → IsTrue (bare_below os (bare u w)) → (p : Primary) → Ends spell_primary (λ rest. spell_opened os (spell_upper u (spell_lower w (spell_primary p rest))))
primary-narrow [] u w k h p =
    let b = bare_is u w h in
    record { more = λ rest. rest; made = p; spelled = λ rest. ap (λ x. spell_upper x (spell_lower w (spell_primary p rest))) b.0 ∙ ap (λ x. spell_lower x (spell_primary p rest)) b.1 }
primary-narrow (listed es ∷ []) u w k h p = absurd (false≢true h)
primary-narrow (opened v x b ∷ os) u w k h p = primary-ends (opened v x b ∷ os) u w p (λ e. bracket-ends b e os v x (primary-narrow os v x k h))
primary-narrow (listed es ∷ opened v x in_group ∷ os) u w k h p = primary-ends (listed es ∷ opened v x in_group ∷ os) u w p (λ e. tuple-ends es e os v x (primary-narrow os v x k.1 h))
primary-narrow (listed es ∷ _) u w k h p = absurd (false≢true k.0)

opened-narrow : (os : List Opened) → lists_stand os → IsTrue (bare_below os false) → (e : Expression) → Ends spell_primary (λ rest. spell_opened os (spell_expression e rest))
opened-narrow [] k h e = absurd (false≢true h)
opened-narrow (listed es ∷ []) k h e = absurd (false≢true h)
opened-narrow (opened v x b ∷ os) k h e = bracket-ends b e os v x (primary-narrow os v x k h)
opened-narrow (listed es ∷ opened v x in_group ∷ os) k h e = tuple-ends es e os v x (primary-narrow os v x k.1 h)
opened-narrow (listed es ∷ _) k h e = absurd (false≢true k.0)

-- ---- readings

compares-ends : {A : Type 0} {spell : A → List Kind → List Kind} (os : List Opened) (u : Upper) (c : Compares) → ((e : Expression) → Ends spell (λ rest. spell_opened os (spell_expression e rest))) → Ends spell (λ rest. spell_opened os (spell_upper u (spell_compares c rest)))
compares-ends {A} {spell} os u c around =
    let m = upper-ends u c in
    let r = around m.made in
    record { more = λ rest. m.more (r.more rest); made = r.made; spelled = λ rest. ap (spell_opened os) (m.spelled (r.more rest)) ∙ r.spelled rest }

-- by what is around a comparison, and around an operand
reading-ends-in : {A : Type 0} {spell : A → List Kind → List Kind} (r : Reading) → ((os : List Opened) → open_in r ≡ os → narrow r ≡ bare_below os false → (e : Expression) → Ends spell (λ rest. spell_opened os (spell_expression e rest)))
    → ((os : List Opened) (u : Upper) (w : Lower) → open_in r ≡ os → narrow r ≡ bare_below os (bare u w) → (p : Primary) → Ends spell (λ rest. spell_opened os (spell_upper u (spell_lower w (spell_primary p rest))))) → Ends spell (spell_reading r)
reading-ends-in {A} {spell} (wants os u w) cs ps = before (spell_reading (wants os u w)) (λ rest. t.Number (pos 0) ∷ rest) (ps os u w refl refl (number (pos 0)))
reading-ends-in {A} {spell} (has os u w p) cs ps = ps os u w refl refl p
reading-ends-in {A} {spell} (has_none os u c) cs ps = compares-ends os u (compares_none c) (cs os refl refl)
reading-ends-in {A} {spell} (has_not_none os u c) cs ps = compares-ends os u (compares_not_none c) (cs os refl refl)
reading-ends-in {A} {spell} (after_is os u c) cs ps = before (spell_reading (after_is os u c)) (λ rest. none_word ∷ rest) (compares-ends os u (compares_none c) (cs os refl refl))
reading-ends-in {A} {spell} (after_is_not os u c) cs ps = before (spell_reading (after_is_not os u c)) (λ rest. none_word ∷ rest) (compares-ends os u (compares_not_none c) (cs os refl refl))
reading-ends-in {A} {spell} (after_not os u c) cs ps = before (spell_reading (after_not os u c)) (λ rest. in_word ∷ t.Number (pos 0) ∷ rest) (compares-ends os u (compares_more c not_within (sums_one (products_one (unsigned (number (pos 0)))))) (cs os refl refl))
reading-ends-in {A} {spell} (after_dot os u w p) cs ps = before (spell_reading (after_dot os u w p)) (λ rest. t.Name (95 ∷ []) ∷ open_parenthesis ∷ close_parenthesis ∷ rest) (ps os u w refl refl (call (method p (95 ∷ [])) no_args))
reading-ends-in {A} {spell} (after_method os u w p n) cs ps = before (spell_reading (after_method os u w p n)) (λ rest. open_parenthesis ∷ close_parenthesis ∷ rest) (ps os u w refl refl (call (method p n) no_args))

-- each reading goes on to what its purpose wants
pub reading-ends : (r : Reading) → reading_stands r → Ends spell_exprs (spell_reading r)
reading-ends r k = reading-ends-in r (λ os o n. opened-ends os (subst lists_stand o k)) (λ os u w o n p. primary-ends os u w p (opened-ends os (subst lists_stand o k)))

pub undivided-ends : (r : Reading) → reading_stands r → IsTrue (undivided r) → Ends spell_expression (spell_reading r)
undivided-ends r k h = reading-ends-in r (λ os o n. opened-ends-one os (subst lists_stand o k) (ap one_below (sym o) ∙ h)) (λ os u w o n p. primary-ends os u w p (opened-ends-one os (subst lists_stand o k) (ap one_below (sym o) ∙ h)))

pub narrow-ends : (r : Reading) → reading_stands r → IsTrue (narrow r) → Ends spell_primary (spell_reading r)
narrow-ends r k h = reading-ends-in r (λ os o n. opened-narrow os (subst lists_stand o k) (sym n ∙ h)) (λ os u w o n. primary-narrow os u w (subst lists_stand o k) (sym n ∙ h))

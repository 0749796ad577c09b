-- What is held of targets, and of a simple statement that ends.
use Rattle.std.proofs.Common.{◌≡◌, ℕ, Bool, true, false, ◌&&◌, if◌then◌else◌, List, [], ◌∷◌, ◌++◌, map, drop, length, Option, Some, None, refl, ap, ◌∙◌, sym, subst}
use Rattle.std.proofs.lemmas.List.{map-append}
use Rattle.py_token.specs.declared.kinds.Kind.{Kind}
use Rattle.py_token.specs.declared.kinds.Kind.TheVariants as t
use Rattle.py_tree.specs.declared.expressions.Target as tree_of
use Rattle.py_tree.specs.declared.expressions.Expr.{Expr}
use Rattle.py_tree.specs.declared.statements.Stmt.{Stmt}
use Rattle.py_tree.specs.declared.statements.Stmt.TheVariants as tree
use Rattle.py_grammar.specs.Words.{assign_sign, comma, return_word}
use Rattle.py_grammar.specs.Expressions.{Expression, plain, ors_one, ands_one, compared, compares_one, sums_one, products_one, unsigned, name, index, Elements, elements_one, elements_more, Exprs, single, tuple, tuple_comma, spell_expression, spell_exprs}
use Rattle.py_grammar.specs.Readings as r
use Rattle.py_grammar.specs.Readings.{whole}
use Rattle.py_grammar.specs.Open.{spell_reading}
use Rattle.py_grammar.specs.Statements as g
use Rattle.py_grammar.specs.Statements.{Places, places_one, places_more, Targets, targets, targets_comma, Simple, return_, give, delete, assign, augment, show, augmentation_sign, spell_target}
use Rattle.py_grammar.specs.States as m
use Rattle.py_grammar.specs.States.{showing, giving, deleting, assigning, augmenting, primary_alone, first_place, more_places, places_of, undivided_targets, divided_targets, targets_in, target_in, place_of, targets_of, if_made, if_deleted}
use Rattle.py_grammar.specs.Trees.{targets_divided}
use Rattle.py_grammar.proofs.Spelled.{SpellsAll, whole-spelled}
use Rattle.py_grammar.proofs.Stepped.{SpellsPlace, expression-target}
use Rattle.py_frames.specs.declared.frames.Value.{Value}
use Rattle.py_frames.specs.declared.seeing.Sight.{Sight}
use Rattle.py_frames.specs.Values.{beside, places}
use Rattle.py_frames.specs.Under.{all, under_expression, under_exprs, inner_elements}
use Rattle.py_frames.specs.Kept.{kept_expression, kept_elements, kept_exprs}
use Rattle.py_frames.specs.Held.{held, target_expression, target_elements, value_exprs, value_if, seen, seen_if}
use Rattle.py_frames.specs.Targets.{target_of, sight_if, sight}
use Rattle.py_frames.specs.Ends as ex
use Rattle.py_frames.specs.Ends.{is_begun}
use Rattle.py_frames.proofs.Targets.{reading-seen}
use Rattle.py_frames.proofs.Wholes.{reading-ended}
use Rattle.py_frames.proofs.Outermost.{reading-begun}
use Rattle.py_blocks.specs.Kept.{under_target, under_places, under_targets, under_simple, augmentation_op, kept_target, kept_places, kept_targets, kept_simple}
use Rattle.py_blocks.specs.Held.{held_purpose}
use Rattle.py_blocks.specs.Steps.{shown, given, deleted, one_of, placed, assigned, augmented, finished}

module _ (place : ℕ → ℕ) where
  -- ---- targets

  abbrev pub held_one : Option g.Target → List Kind → Option (tree_of.Target × List ℕ)
  held_one None rest = None
  held_one (Some to) rest = Some (kept_target place to rest, under_target place to rest)

  element-held : (a : Expression) (rest : List Kind) → (if target_expression a then Some (target_of (kept_expression place a rest), under_expression place a rest) else None) ≡ held_one (m.target_of (primary_alone a)) rest
  element-held (plain (ors_one (ands_one (compared (compares_one (sums_one (products_one (unsigned (name n))))))))) rest = refl
  element-held (plain (ors_one (ands_one (compared (compares_one (sums_one (products_one (unsigned (index p a))))))))) rest = refl
  element-held _ rest = refl

  abbrev held_many : Option Places → List Kind → Option (List tree_of.Target × List ℕ)
  held_many None rest = None
  held_many (Some ps) rest = Some (kept_places place ps rest, under_places place ps rest)

  first-held : (b : Bool) (x : tree_of.Target) (u : List ℕ) (o : Option g.Target) (rest : List Kind) → (if b then Some (x, u) else None) ≡ held_one o rest → (if b then Some (x ∷ [], u) else None) ≡ held_many (first_place o) rest
  first-held false x u None rest e = refl
  first-held false x u (Some to) rest e = cc
  first-held true x u None rest e = cc
  first-held true x u (Some to) rest e = let p : ◌≡◌ {A = tree_of.Target × List ℕ} (x, u) (kept_target place to rest, under_target place to rest) = cc in ap (λ p. Some (p.0 ∷ [], p.1)) p

  spelled-target : (o : Option g.Target) (to : g.Target) (f : List Kind → List Kind) (rest : List Kind) → SpellsPlace o f → o ≡ Some to → spell_target to rest ≡ f rest
  spelled-target None to f rest h e = cc
  spelled-target (Some x) to f rest h e = let same : x ≡ to = cc in ap (λ y. spell_target y rest) (sym same) ∙ h rest

  more-held : (b c : Bool) (xs : List tree_of.Target) (us : List ℕ) (x : tree_of.Target) (u : List ℕ) (ps : Option Places) (o : Option g.Target) (rest tokens : List Kind)
      → (if b then Some (xs, us) else None) ≡ held_many ps (comma ∷ tokens) → (if c then Some (x, u) else None) ≡ held_one o rest → ((to : g.Target) → o ≡ Some to → spell_target to rest ≡ tokens)
      → (if b && c then Some (xs ++ x ∷ [], beside us u) else None) ≡ held_many (more_places ps o) rest
  more-held false c xs us x u None o rest tokens e f s = refl
  more-held false c xs us x u (Some ps) o rest tokens e f s = cc
  more-held true c xs us x u None o rest tokens e f s = cc
  more-held true false xs us x u (Some ps) None rest tokens e f s = refl
  more-held true false xs us x u (Some ps) (Some to) rest tokens e f s = cc
  more-held true true xs us x u (Some ps) None rest tokens e f s = cc
  more-held true true xs us x u (Some ps) (Some to) rest tokens e f s =
      let p : ◌≡◌ {A = List tree_of.Target × List ℕ} (xs, us) (kept_places place ps (comma ∷ tokens), under_places place ps (comma ∷ tokens)) = cc in
      let q : ◌≡◌ {A = tree_of.Target × List ℕ} (x, u) (kept_target place to rest, under_target place to rest) = cc in
      ap (λ p. Some (p.0 ++ x ∷ [], beside p.1 u)) p ∙ ap (λ q. Some (kept_places place ps (comma ∷ tokens) ++ q.0 ∷ [], beside (under_places place ps (comma ∷ tokens)) q.1)) q
      ∙ ap (λ ts. Some (kept_places place ps (comma ∷ ts) ++ kept_target place to rest ∷ [], beside (under_places place ps (comma ∷ ts)) (under_target place to rest))) (sym (s to refl))

  drop-beside : (p : List ℕ) (x : ℕ) (q : List ℕ) → drop 1 (beside p (x ∷ q)) ≡ beside (drop 1 p) q
  drop-beside [] x q = refl
  drop-beside (y ∷ p) x q = refl

  same-test : {A : Type 0} (b : Bool) (x y : A) → x ≡ y → (if b then Some x else None) ≡ (if b then Some y else None)
  same-test b x y e = ap (λ z. if b then Some z else None) e

  elements-held : (es : Elements) (rest : List Kind) → (if target_elements es then Some (map target_of (kept_elements place es rest), drop 1 (inner_elements place [] es rest)) else None) ≡ held_many (places_of es) rest
  elements-held (elements_one a) rest = first-held (target_expression a) _ _ (m.target_of (primary_alone a)) rest (element-held a rest)
  elements-held (elements_more es a) rest =
      same-test (target_elements es && target_expression a) _ _ (pair-same (map-append target_of (kept_elements place es (comma ∷ spell_expression a rest)) (kept_expression place a rest ∷ [])) (drop-beside (inner_elements place [] es (comma ∷ spell_expression a rest)) (place (length (spell_expression a rest))) (under_expression place a rest)))
      ∙ more-held (target_elements es) (target_expression a) _ _ _ _ (places_of es) (m.target_of (primary_alone a)) rest (spell_expression a rest) (elements-held es (comma ∷ spell_expression a rest)) (element-held a rest) (λ to e. spelled-target _ to (spell_expression a) rest (expression-target a) e)
    where
      pair-same : {A B : Type 0} {a b : A} {c d : B} → a ≡ b → c ≡ d → ◌≡◌ {A = A × B} (a, c) (b, d)
      pair-same e f = cc

  abbrev pub sight_of : Targets → List Kind → Sight
  sight_of ts rest = record { targets = kept_targets place ts rest; divided = targets_divided ts; under = under_targets place ts rest }

  abbrev pub held_sight : Option Targets → List Kind → Option Sight
  held_sight None rest = None
  held_sight (Some ts) rest = Some (sight_of ts rest)

  abbrev sight_made : Bool → Option (List tree_of.Target × List ℕ) → Option Sight
  sight_made divided None = None
  sight_made divided (Some p) = Some (record { targets = p.0; divided = divided; under = p.1 })

  sight-made : (divided may : Bool) (xs : List Expr) (under : List ℕ) → sight_if divided may xs under ≡ sight_made divided (if may then Some (map target_of xs, under) else None)
  sight-made divided true xs under = refl
  sight-made divided false xs under = refl

  first-sight : (o : Option g.Target) (rest : List Kind) → sight_made false (held_many (first_place o) rest) ≡ held_sight (undivided_targets (first_place o)) rest
  first-sight None rest = refl
  first-sight (Some to) rest = refl

  more-sight : (ps : Option Places) (o : Option g.Target) (rest : List Kind) → sight_made true (held_many (more_places ps o) rest) ≡ held_sight (undivided_targets (more_places ps o)) rest
  more-sight None o rest = refl
  more-sight (Some ps) None rest = refl
  more-sight (Some ps) (Some to) rest = refl

  comma-sight : (ps : Option Places) (rest : List Kind) → sight_made true (held_many ps (comma ∷ rest)) ≡ held_sight (divided_targets ps) rest
  comma-sight None rest = refl
  comma-sight (Some ps) rest = refl

  exprs-seen : (a : Exprs) (rest : List Kind) → seen place a rest ≡ held_sight (targets_in a) rest
  exprs-seen (single a) rest = sight-made false (target_expression a) (kept_expression place a rest ∷ []) (under_expression place a rest) ∙ ap (sight_made false) (elements-held (elements_one a) rest) ∙ first-sight (m.target_of (primary_alone a)) rest
  exprs-seen (tuple es a) rest = sight-made true (target_elements es && target_expression a) _ _ ∙ ap (sight_made true) (elements-held (elements_more es a) rest) ∙ more-sight (places_of es) (m.target_of (primary_alone a)) rest
  exprs-seen (tuple_comma es) rest = sight-made true (target_elements es) (kept_elements place es (comma ∷ rest)) _ ∙ ap (sight_made true) (elements-held es (comma ∷ rest)) ∙ comma-sight (places_of es) rest

  whole-seen : (o : Option Exprs) (rest : List Kind) → seen_if place o rest ≡ held_sight (targets_of o) rest
  whole-seen None rest = refl
  whole-seen (Some a) rest = exprs-seen a rest

  -- what has been read is seen as the targets of the forms
  pub sight-held : (x : r.Reading) (rest : List Kind) → sight (held place x rest) ≡ held_sight (targets_of (whole x)) rest
  sight-held x rest = reading-seen place x rest ∙ whole-seen (whole x) rest

  divided-placed : (o : Option Targets) (rest : List Kind) → ((ts : Targets) → o ≡ Some ts → targets_divided ts ≡ true) → placed (held_sight o rest) ≡ None
  divided-placed None rest e = refl
  divided-placed (Some ts) rest e = ap (λ b. one_of b (kept_targets place ts rest) (under_targets place ts rest)) (e ts refl)

  more-divided : (ps : Option Places) (o : Option g.Target) (ts : Targets) → undivided_targets (more_places ps o) ≡ Some ts → targets_divided ts ≡ true
  more-divided None o ts e = cc
  more-divided (Some ps) None ts e = cc
  more-divided (Some ps) (Some to) ts e = let same : targets (places_more ps to) ≡ ts = cc in ap targets_divided (sym same)

  comma-divided : (ps : Option Places) (ts : Targets) → divided_targets ps ≡ Some ts → targets_divided ts ≡ true
  comma-divided None ts e = cc
  comma-divided (Some ps) ts e = let same : targets_comma ps ≡ ts = cc in ap targets_divided (sym same)

  first-placed : (o : Option g.Target) (rest : List Kind) → placed (held_sight (undivided_targets (first_place o)) rest) ≡ held_one o rest
  first-placed None rest = refl
  first-placed (Some to) rest = refl

  exprs-placed : (o : Option Exprs) (rest : List Kind) → placed (held_sight (targets_of o) rest) ≡ held_one (place_of o) rest
  exprs-placed None rest = refl
  exprs-placed (Some (single a)) rest = first-placed (m.target_of (primary_alone a)) rest
  exprs-placed (Some (tuple es a)) rest = divided-placed (undivided_targets (more_places (places_of es) (m.target_of (primary_alone a)))) rest (more-divided (places_of es) (m.target_of (primary_alone a)))
  exprs-placed (Some (tuple_comma es)) rest = divided-placed (divided_targets (places_of es)) rest (comma-divided (places_of es))

  -- and as the one target, if it is one
  pub placed-held : (x : r.Reading) (rest : List Kind) → placed (sight (held place x rest)) ≡ held_one (place_of (whole x)) rest
  placed-held x rest = ap placed (sight-held x rest) ∙ exprs-placed (whole x) rest

  -- ---- a simple statement that ends

  abbrev pub held_made : Option Simple → List Kind → Option (Stmt × List ℕ)
  held_made None rest = None
  held_made (Some x) rest = Some (kept_simple place x rest, under_simple place x rest)

  shown-made : (a : Option Exprs) (rest : List Kind) → shown (value_if place a rest) ≡ held_made (if_made show a) rest
  shown-made None rest = refl
  shown-made (Some a) rest = refl

  given-made : (a : Option Exprs) (rest : List Kind) → given (value_if place a rest) ≡ held_made (if_made give a) rest
  given-made None rest = refl
  given-made (Some a) rest = refl

  deleted-made : (o : Option g.Target) (rest : List Kind) → deleted (held_one o rest) ≡ held_made (if_deleted o) rest
  deleted-made None rest = refl
  deleted-made (Some to) rest = refl

  assigned-made : (ts : Targets) (a : Option Exprs) (f : List Kind → List Kind) (rest : List Kind) → SpellsAll a f → assigned (sight_of ts (assign_sign ∷ f rest)) (value_if place a rest) ≡ held_made (if_made (assign ts) a) rest
  assigned-made ts None f rest s = refl
  assigned-made ts (Some a) f rest s = ap (λ x. assigned (sight_of ts (assign_sign ∷ x)) (Some (value_exprs place a rest))) (sym (s rest))

  augmented-made : (to : g.Target) (by : g.Augmentation) (a : Option Exprs) (f : List Kind → List Kind) (rest : List Kind) → SpellsAll a f
      → augmented (kept_target place to (augmentation_sign by ∷ f rest)) (augmentation_op place by) (under_target place to (augmentation_sign by ∷ f rest)) (value_if place a rest) ≡ held_made (if_made (augment to by) a) rest
  augmented-made to by None f rest s = refl
  augmented-made to by (Some a) f rest s = ap (λ x. augmented (kept_target place to (augmentation_sign by ∷ x)) (augmentation_op place by) (under_target place to (augmentation_sign by ∷ x)) (Some (value_exprs place a rest))) (sym (s rest))

  left-made : (b : Bool) (a : Option Exprs) (rest : List Kind) → (if b then Some (tree.Return None, []) else given (value_if place a rest)) ≡ held_made (if b then Some return_ else if_made give a) rest
  left-made true a rest = refl
  left-made false a rest = given-made a rest

  pub finished-held : (u : m.Purpose) (x : r.Reading) (rest : List Kind) → finished (held_purpose place u (spell_reading x rest)) (held place x rest) ≡ held_made (m.finished u x) rest
  finished-held showing x rest = ap shown (reading-ended place x rest) ∙ shown-made (whole x) rest
  finished-held giving x rest = ap (λ b. if b then Some (tree.Return None, []) else given (ex.ended (held place x rest))) (reading-begun place x rest) ∙ ap (λ v. if m.is_begun x then Some (tree.Return None, []) else given v) (reading-ended place x rest) ∙ left-made (m.is_begun x) (whole x) rest
  finished-held deleting x rest = ap deleted (placed-held x rest) ∙ deleted-made (place_of (whole x)) rest
  finished-held (assigning ts) x rest = ap (assigned (sight_of ts (assign_sign ∷ spell_reading x rest))) (reading-ended place x rest) ∙ assigned-made ts (whole x) (spell_reading x) rest (whole-spelled x)
  finished-held (augmenting to by) x rest = ap (augmented (kept_target place to (augmentation_sign by ∷ spell_reading x rest)) (augmentation_op place by) (under_target place to (augmentation_sign by ∷ spell_reading x rest))) (reading-ended place x rest) ∙ augmented-made to by (whole x) (spell_reading x) rest (whole-spelled x)

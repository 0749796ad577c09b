-- The machine on what the program holds does what the machine on forms does.
use Rattle.std.proofs.Common.{◌≡◌, ◌+◌, ◌-◌, ℕ, suc, Bool, true, false, List, [], ◌∷◌, ◌++◌, length, Option, Some, None, refl, ap, ◌∙◌, sym, subst, arith}
use Rattle.std.specs.FinMap as finite
use Rattle.py_token.specs.declared.kinds.Kind.{Kind}
use Rattle.py_grammar.specs.States as m
use Rattle.py_grammar.specs.States.{state_stands}
use Rattle.py_grammar.specs.AloneMachine.{step_alone}
use Rattle.py_grammar.proofs.AloneKept.{step-read}
use Rattle.py_grammar.proofs.Keeps.{Keeps, step-keeps}
use Rattle.py_blocks.specs.declared.state.Reader.{Reader}
use Rattle.py_blocks.specs.declared.state.State.{State}
use Rattle.py_blocks.specs.Blocks.{Texts}
use Rattle.py_blocks.specs.Held.{held_state}
use Rattle.py_blocks.specs.Steps.{Names, renamed, with_names, step}
use Rattle.py_blocks.specs.Follows.{forms_step, forms_run, Hears, reader_at, Follows, StepFollows, run, from_start, RunFollows}
use Rattle.py_blocks.proofs.Moves.{shown, moves-held}
use Rattle.py_blocks.proofs.Heard.{HearsTo, step-hears, hears-new}

module _ (place : ℕ → ℕ) where
  follows : (texts : Texts) (rest : List Kind) (names : Names) (o : Option m.State) (p : Option State) → p ≡ shown place texts rest o → HearsTo place names o → Follows place texts rest (with_names names p) o
  follows texts rest names None p same h = ap (with_names names) same
  follows texts rest names (Some u) p same h = (names, ap (with_names names) same, h)

  -- what is read alone is read, and its names are heard
  hears-on : (s : m.State) (t : Kind) (names : Names) (o : Option m.State) → step_alone s t ≡ o → HearsTo place names (m.step s t) → HearsTo place names o
  hears-on s t names None e h = tt
  hears-on s t names (Some u) e h = subst (HearsTo place names) (step-read s t u e) h

  hears-either : (alone : Bool) (s : m.State) (t : Kind) (names : Names) → HearsTo place names (m.step s t) → HearsTo place names (forms_step alone s t)
  hears-either false s t names h = h
  hears-either true s t names h = hears-on s t names (step_alone s t) refl h

  pub step-follows : StepFollows place
  step-follows alone texts s t rest names stands h =
      follows texts rest (renamed (held_state place texts s (t ∷ rest)) t names) (forms_step alone s t) _ (moves-held place alone texts names s t rest stands (hears-new place names s stands h)) (hears-either alone s t _ (step-hears place texts s t rest names stands h))

-- ---- all tokens

abbrev then_run : Bool → List Kind → Option m.State → Option m.State
then_run alone ts o = elim o [ None ↦ None | Some u ↦ forms_run alone u ts ]

forms_run-step : (alone : Bool) (s : m.State) (t : Kind) (ts : List Kind) → forms_run alone s (t ∷ ts) ≡ then_run alone ts (forms_step alone s t)
forms_run-step false s t ts = refl
forms_run-step true s t ts = refl

forms_run-none : (alone : Bool) (s : m.State) → forms_run alone s [] ≡ Some s
forms_run-none false s = refl
forms_run-none true s = refl

abbrev then_held : Bool → Texts → ℕ → List Kind → Option Reader → Option Reader
then_held alone texts at ts p = elim p [ None ↦ None | Some q ↦ run alone texts at q ts ]

-- what is read is where it may be
keeps-on : (s : m.State) (t : Kind) (o : Option m.State) → step_alone s t ≡ o → Keeps (m.step s t) → Keeps o
keeps-on s t None e k = tt
keeps-on s t (Some u) e k = subst Keeps (step-read s t u e) k

pub keeps-either : (alone : Bool) (s : m.State) (t : Kind) → state_stands s → Keeps (forms_step alone s t)
keeps-either false s t stands = step-keeps s t stands
keeps-either true s t stands = keeps-on s t (step_alone s t) refl (step-keeps s t stands)

pub next-place : (most all n : ℕ) → from_start most all (suc n) - 1 ≡ from_start most all n
next-place most all n = omega arith

module _ (most all : ℕ) where
  on-follows : (alone : Bool) (texts : Texts) (at : ℕ) (ts rest : List Kind) (o : Option m.State) (p : Option Reader) → Follows (from_start most all) texts (ts ++ rest) p o → Keeps o
      → ((u : m.State) (names : Names) → state_stands u → Hears u names → Follows (from_start most all) texts rest (run alone texts at (reader_at (from_start most all) texts u (ts ++ rest) names) ts) (forms_run alone u ts))
      → Follows (from_start most all) texts rest (then_held alone texts at ts p) (then_run alone ts o)
  on-follows alone texts at ts rest None p f k g = ap (then_held alone texts at ts) f
  on-follows alone texts at ts rest (Some u) p f k g = subst (λ x. Follows (from_start most all) texts rest (then_held alone texts at ts x) (forms_run alone u ts)) (sym f.1) (g u f.0 k f.2)

  runs-follow : (alone : Bool) (texts : Texts) (ts rest : List Kind) (at : ℕ) (s : m.State) (names : Names) → from_start most all (length (ts ++ rest)) ≡ at → state_stands s → Hears s names
      → Follows (from_start most all) texts rest (run alone texts at (reader_at (from_start most all) texts s (ts ++ rest) names) ts) (forms_run alone s ts)
  runs-follow alone texts [] rest at s names is stands h = subst (Follows (from_start most all) texts rest (Some (reader_at (from_start most all) texts s rest names))) (sym (forms_run-none alone s)) (names, refl, h)
  runs-follow alone texts (t ∷ ts) rest at s names is stands h =
      let left = next-place most all (length (ts ++ rest)) in
      let next : from_start most all (length (ts ++ rest)) ≡ at - 1 = sym left ∙ ap (λ n. n - 1) is in
      subst (Follows (from_start most all) texts rest (run alone texts at (reader_at (from_start most all) texts s (t ∷ ts ++ rest) names) (t ∷ ts))) (sym (forms_run-step alone s t ts))
      (on-follows alone texts (at - 1) ts rest (forms_step alone s t) _
      (subst (λ n. Follows (from_start most all) texts (ts ++ rest) (step alone texts n (at - 1) (reader_at (from_start most all) texts s (t ∷ ts ++ rest) names) t) (forms_step alone s t)) is
      (subst (λ n. Follows (from_start most all) texts (ts ++ rest) (step alone texts (from_start most all (length (t ∷ ts ++ rest))) n (reader_at (from_start most all) texts s (t ∷ ts ++ rest) names) t) (forms_step alone s t)) next
      (step-follows (from_start most all) alone texts s t (ts ++ rest) names stands h)))
      (keeps-either alone s t stands) (λ u names. runs-follow alone texts ts rest (at - 1) u names next))

at-start : (most all : ℕ) → from_start most all all ≡ most
at-start most all = omega arith

pub run-follows : RunFollows
run-follows alone texts most ts rest = runs-follow most (length (ts ++ rest)) alone texts ts rest most m.start finite.empty (at-start most (length (ts ++ rest))) (tt, tt) tt

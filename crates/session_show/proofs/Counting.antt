-- The least engine keeps the laws.
use Rattle.std.proofs.Common.{◌≡◌, ℕ, ◌+◌, ◌<◌, ◌≤◌, List, [], ◌∷◌, refl, sym, ap, ◌∙◌, subst, arith, ◌-◌}
use Rattle.std.specs.Prelude.{None, false}
use Rattle.nb_outside.specs.declared.feed.Drawn.{Drawn}
use Rattle.graph_model.specs.declared.plan.Weights.{Weights}
use Rattle.graph_model.specs.declared.plan.Certified.{Certified}
use Rattle.graph_model.specs.Networks.{IsCertified}
use Rattle.session_core.specs.declared.request.Ask.{Ask}
use Rattle.session_core.specs.declared.request.Ask.TheVariants as asks
use Rattle.session_core.specs.declared.reply.Reply.{Reply}
use Rattle.session_core.specs.declared.reply.Reply.TheVariants.{Executed}
use Rattle.graph_model.specs.declared.plan.Tally.TheVariants.{Count}
use Rattle.session_core.specs.Meanings.{Served, more}
use Rattle.session_show.specs.Counting.{added, added_all, total, no_graph}
use Rattle.session_show.specs.Graphs.{none_in, none_at}

added_more : (n : ℕ) (served : List Served) (ask : Ask) (draws : List Drawn) → added_all n (more served ask draws) ≡ added (added_all n served) ask
added_more n [] ask draws = refl
added_more n (s ∷ served) ask draws = added_more (added n s.ask) served ask draws

pub total_more : (served : List Served) (ask : Ask) (draws : List Drawn) → total (more served ask draws) ≡ added (total served) ask
total_more served ask draws = added_more 0 served ask draws

-- the plan that does nothing is certified
pub certified : (w : Weights) (c : Certified) → c ≡ record { plan = record { copied = []; rerun = [] }; cost = 0; arcs = [] } → IsCertified no_graph w c
certified w c is = subst (IsCertified no_graph w) (sym is) (record {
  names = record { copied_ascends = tt; rerun_ascends = tt; copied = λ v h. absurd (none_in v h); rerun = λ v h. absurd (none_in v h) };
  feasible = record {
    covered = λ v x h. absurd (none_at (v - 1) x h.0.1);
    closed = λ c w h. absurd (none_in c h);
    no_handle = λ v x h. absurd (none_in v h);
    no_draw = λ c x h. absurd (none_in c h);
  };
  is_cost = refl;
  flow = [];
  legal = record { within = tt; balanced = λ node more less. absurd (omega (arith, more, less)) };
  shown = refl;
  is_value = refl;
})

pub added_at_most : (n : ℕ) (ask : Ask) → added n ask ≤ n + 1
added_at_most n (asks.Execute code silent store) = omega arith
added_at_most n asks.Info = omega arith
added_at_most n (asks.Complete code) = omega arith
added_at_most n (asks.Shutdown restart) = omega arith
added_at_most n (asks.Migrate to weights) = omega arith

-- what is added to what an engine holds is the total then
total_is : (held next : ℕ) (served : List Served) (ask : Ask) (draws : List Drawn) → held ≡ total served → next ≡ added held ask → next ≡ total (more served ask draws)
total_is held next served ask draws is added_is = added_is ∙ ap (λ n. added n ask) is ∙ sym (total_more served ask draws)

pub passes_count : (held next : ℕ) (served : List Served) (ask : Ask) (draws : List Drawn) → held ≡ total served → next ≡ added held ask → 4 ≤ next
    → (Count ≡ Count) × (4 ≤ total (more served ask draws))
passes_count held next served ask draws is added_is four = (refl, subst (λ n. 4 ≤ n) (total_is held next served ask draws is added_is) four)

pub runs_on : (held next : ℕ) (served : List Served) (ask : Ask) (draws : List Drawn) (reply : Reply) → held ≡ total served → next ≡ added held ask → next < 4
    → reply ≡ Executed next false [] None None → (reply ≡ Executed (total (more served ask draws)) false [] None None) × (total (more served ask draws) < 4)
runs_on held next served ask draws reply is added_is less answers =
    let same = total_is held next served ask draws is added_is in
    (answers ∙ ap (λ n. Executed n false [] None None) same, subst (λ n. n < 4) same less)

pub stands_then : (held next : ℕ) (served : List Served) (ask : Ask) (draws : List Drawn) → held ≡ total served → next ≡ added held ask → next < 4
    → (next ≡ total (more served ask draws)) × (total (more served ask draws) < 4)
stands_then held next served ask draws is added_is less =
    let same = total_is held next served ask draws is added_is in
    (same, subst (λ n. n < 4) same less)

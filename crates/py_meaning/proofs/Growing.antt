-- Steps and the meter never fall, and stay within their limits; no object goes.
use Rattle.std.proofs.Common.{◌≡◌, ℕ, ◌≤◌, [], ◌∷◌, length, length-append, arith, refl}
use Rattle.std.proofs.Math.ListN.{length-set}
use Rattle.py_machine.specs.declared.machine.Machine.{Machine}
use Rattle.py_machine.specs.Runs.{step, charge}
use Rattle.py_meaning.specs.Acts.{Act, run}
use Rattle.py_meaning.specs.Kept.{Keeps, Leaves}
use Rattle.py_meaning.proofs.Keeping.{IsKept, run_keeps}

-- the counts rise, and stay within their limits if they were
pub record Rises (m n : Machine) : Type 0 where
  pub steps : m.steps ≤ n.steps
  pub meter : m.state.meter ≤ n.state.meter
  pub objects : length m.state.heap ≤ length n.state.heap
  pub few_steps : m.steps ≤ 1000000 → n.steps ≤ 1000000
  pub small_meter : m.state.meter ≤ 16777216 → n.state.meter ≤ 16777216

idle : (m n : Machine) → m.steps ≡ n.steps → m.state.meter ≡ n.state.meter → length m.state.heap ≤ length n.state.heap → Rises m n
idle m n s t o = record { steps = omega (arith, s); meter = omega (arith, t); objects = o; few_steps = λ h. omega (arith, s, h); small_meter = λ h. omega (arith, t, h) }

step_rises : Leaves Rises step
unfolding step
step_rises m = grind arith

charge_rises : (n : ℕ) → Leaves Rises (charge n)
unfolding charge
charge_rises n m = grind arith

pub rises_kept : IsKept Rises
rises_kept = record {
  same = λ m. idle m m refl refl (omega arith);
  trans = λ a b c p q. record {
    steps = omega (arith, p.steps, q.steps);
    meter = omega (arith, p.meter, q.meter);
    objects = omega (arith, p.objects, q.objects);
    few_steps = λ h. q.few_steps (p.few_steps h);
    small_meter = λ h. q.small_meter (p.small_meter h);
  };
  steps = step_rises;
  charges = charge_rises;
  looks = λ name m. idle m _ refl refl (omega arith);
  binds = λ name held m. idle m _ refl refl (omega arith);
  unbinds = λ name m. idle m _ refl refl (omega arith);
  frames = λ frame m. idle m _ refl refl (omega arith);
  adds = λ new m. idle m _ refl refl (omega (arith, length-append m.state.heap (new ∷ [])));
  changes = λ at c new m e. idle m _ refl refl (omega (arith, length-set m.state.heap at new));
  writes = λ bytes m. idle m _ refl refl (omega arith);
  draws = λ d m. idle m _ refl refl (omega arith);
}

pub rises : {A : Type 0} (p : Act A) → Keeps Rises (run p)
rises = run_keeps Rises rises_kept

use Rattle.std.proofs.Common.{◌≡◌, IfOk, sym, subst, rules}
use Rattle.py_heap.specs.Numbering.{Numbers, AreNumbersOf}
use Rattle.py_heap.proofs.Numbering.{is_numbering}
use Rattle.py_tree.specs.Locals.{locals_of}
use Rattle.py_machine.specs.declared.frame.Frame.{Frame}
use Rattle.py_builtins.proofs.Calls.{params_slots, made}
use Rattle.py_builtins.proofs.frames.frame_of.Goals as goal

pub new-requires : goal.new-requires
new-requires c =
    let numbers : AreNumbersOf (locals_of c.args.function.now) c.in_ok-numbers.numbers =
    subst (λ (m : Numbers). AreNumbersOf (locals_of c.args.function.now) m) (sym c.in_ok-numbers.ensures) c.numbers.ensures in
    search (rules, is_numbering (locals_of c.args.function.now) c.in_ok-numbers.numbers numbers)

pub with_held-requires : goal.with_held-requires
with_held-requires c =
    let numbers : AreNumbersOf (locals_of c.args.function.now) c.in_ok-numbers.numbers =
    subst (λ (m : Numbers). AreNumbersOf (locals_of c.args.function.now) m) (sym c.in_ok-numbers.ensures) c.numbers.ensures in
    search (rules, params_slots c.args.function.now c.in_ok-numbers.numbers numbers)

pub returns : goal.returns
returns c =
    let numbers : AreNumbersOf (locals_of c.args.function.now) c.in_ok-numbers.numbers =
    subst (λ (m : Numbers). AreNumbersOf (locals_of c.args.function.now) m) (sym c.in_ok-numbers.ensures) c.numbers.ensures in
    let same = made c.args.function.now c.args.args.now c.in_ok-numbers.numbers c.in_ok-new.field-0 c.as_slice.result.now numbers (search rules) (search rules) in
    subst (λ (g : Frame). IfOk c.with_held.result (λ f. f ≡ g)) same c.with_held.ensures

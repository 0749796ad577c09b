use Rattle.std.proofs.Common.{◌≡◌, Err, refl, ap, ◌∙◌, arith}
use Rattle.std.proofs.lemmas.Result.{err_from_is_err_and}
use Rattle.py_machine.specs.Errors.{recursion_error}
use Rattle.py_show.specs.OnState.{shown}
use Rattle.py_show.proofs.Deeper.{deeper, next_pair}
use Rattle.py_show.proofs.Ending.{pair_err}
use Rattle.py_show.proofs.shown.+show.Goals as goal

pub show-returns-clause-shows : goal.show-returns-clause-shows
unfolding shown
show-returns-clause-shows t c = λ told.
    rw (deeper (λ n. shown c.args.state.now n c.args.path.now c.args.value.now c.args.out.now c.args.steps.now) c.args.left (omega arith)) (c.show_one.ensures.shows told)

pub show-returns-then-left-eq0-clause-shows : goal.show-returns-then-left-eq0-clause-shows
unfolding shown
show-returns-then-left-eq0-clause-shows t c = λ told.
    let none : c.args.left ≡ 0 = omega arith in
    let error : c.in_ok-recursion_error.field-0 ≡ recursion_error = c.in_ok-recursion_error.ensures in
    rw error (ap (λ n. shown c.args.state.now n c.args.path.now c.args.value.now c.args.out.now c.args.steps.now) none)

pub show_more_pairs-returns-in_err-show_pair-clause-shows : goal.show_more_pairs-returns-in_err-show_pair-clause-shows
show_more_pairs-returns-in_err-show_pair-clause-shows t c = λ told.
    let p = err_from_is_err_and c.from_residual-in_err-show_pair.result c.from_residual-in_err-show_pair.ensures.1 in
    let pushed = c.in_ok-push_str.ensures in
    c.loop-index.invariant.shows
    ∙ pair_err c.args.state.now (shown c.args.state.now c.args.left) c.loop-index.path c.args.dict.now c.loop-index.index (c.pair_at.result.0.now, c.pair_at.result.1.now) c.loop-index.out c.loop-index.steps
    c.in_err-show_pair.field-0.0 c.from_residual-in_err-show_pair.result c.show_pair.new.out c.show_pair.new.steps c.pair_at.ensures (p.1 ∙ ap (λ z. Err z) p.2) told
    (λ t. rw pushed at (c.in_err-show_pair.ensures.shows t))

pub show_more_pairs-loop-index-preserved : goal.show_more_pairs-loop-index-preserved
show_more_pairs-loop-index-preserved t c =
    let pushed = c.in_ok-push_str.ensures in
    let put = rw pushed at (c.in_ok-show_pair.ensures.shows refl) in
    record {
      shows = c.loop-index.invariant.shows
          ∙ next_pair c.args.state.now (shown c.args.state.now c.args.left) c.loop-index.path c.args.dict.now c.loop-index.index (c.pair_at.result.0.now, c.pair_at.result.1.now) c.loop-index.out c.loop-index.steps c.pair_at.ensures
          ∙ rw (put, c.in_ok-show_pair.ensures.path) refl;
      path = c.in_ok-show_pair.ensures.path ∙ c.loop-index.invariant.path;
    }

use Rattle.std.proofs.Common.{ℕ, ◌≡◌, refl, subst}
use Rattle.py_token.specs.declared.kinds.Keyword.{Keyword}
use Rattle.py_token.specs.declared.kinds.Keyword.TheVariants as k
use Rattle.py_token.specs.declared.kinds.Kind.TheVariants as t
use Rattle.py_frames.specs.Gives.{Gives}
use Rattle.py_frames.specs.Steps as e
use Rattle.py_blocks.specs.declared.state.Purpose.TheVariants.{Showing}
use Rattle.py_blocks.specs.declared.state.Simple.{Simple}
use Rattle.py_blocks.specs.Steps.{begun, goes_on, begins_word}
use Rattle.py_blocks.proofs.simple.begin_word.Goals as goal

other_word : (at : ℕ) (x : Simple) (word : Keyword) → (word ≡ k.Pass → ⊥) → (word ≡ k.Break → ⊥) → (word ≡ k.Continue → ⊥) → (word ≡ k.Return → ⊥) → (word ≡ k.Global → ⊥) → (word ≡ k.Del → ⊥)
    → goes_on x Showing (e.step begun (t.Keyword word) at) ≡ begins_word at x word
unfolding begins_word
other_word at x k.Pass pass break_ continue_ return_ global del = absurd (pass refl)
other_word at x k.Break pass break_ continue_ return_ global del = absurd (break_ refl)
other_word at x k.Continue pass break_ continue_ return_ global del = absurd (continue_ refl)
other_word at x k.Return pass break_ continue_ return_ global del = absurd (return_ refl)
other_word at x k.Global pass break_ continue_ return_ global del = absurd (global refl)
other_word at x k.Del pass break_ continue_ return_ global del = absurd (del refl)
other_word at x word pass break_ continue_ return_ global del = refl

pub returns-in_default : goal.returns-in_default
returns-in_default c =
    subst (Gives c.show.result)
    (other_word c.args.at c.args.simple c.args.word c.in_default.not-Pass c.in_default.not-Break c.in_default.not-Continue c.in_default.not-Return c.in_default.not-Global c.in_default.not-Del)
    c.show.ensures

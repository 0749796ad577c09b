-- Texts put together.
use Rattle.std.proofs.Common.{◌≡◌, ℕ, List, [], ◌∷◌, ◌++◌, Option, Some, None, refl, sym, ap, append_assoc, length-append}
use Rattle.std.specs.Option.{option_map}
use Rattle.py_value.specs.declared.value.Value.TheVariants as value
use Rattle.py_meaning.specs.Methods.{with_text}

pub one_text_more : (texts : List (List ℕ)) (text : List ℕ) (o : Option (List (List ℕ))) → option_map (λ more. texts ++ more) (with_text (value.Text text) o) ≡ option_map (λ more. (texts ++ text ∷ []) ++ more) o
one_text_more texts text (Some more) = ap Some (sym (append_assoc texts (text ∷ []) more))
one_text_more texts text None = refl

pub ruleset lengths = (length-append)

pub ruleset grouped = (append_assoc)

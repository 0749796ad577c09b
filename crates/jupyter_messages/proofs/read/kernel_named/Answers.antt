use Rattle.std.proofs.Common.{◌≡◌, ℕ, List, Option, Some, None, Result, Ok, Err, refl, ap, true, false}
use Rattle.std.specs.Int.{w128, from_be_bytes}
use Rattle.jupyter_messages.specs.declared.fault.MessageFault.{MessageFault}
use Rattle.jupyter_messages.specs.declared.fault.MessageFault.TheVariants.{BadUuid}
use Rattle.jupyter_messages.specs.Reading as spec
use Rattle.jupyter_messages.proofs.read.kernel_named.Goals as goal

-- what is never a value is none
none_of : {X : Type 0} (found : Option X) → ((x : X) → found ≡ Some x → ⊥) → found ≡ None
none_of None no_value = refl
none_of (Some x) no_value = absurd (no_value x refl)

number_in : Option (List ℕ) → Result ℕ MessageFault
number_in found = elim found [ None ↦ Err BadUuid | Some bytes ↦ Ok (from_be_bytes w128 bytes) ]

pub returns-in-Err : goal.returns-in-Err
unfolding spec.kernel_named number_in
returns-in-Err c = λ _. ap number_in (none_of _ (λ bytes is. let never : false ≡ true = c.in-Err.ensures.ok.1 (bytes, is) in cc))
